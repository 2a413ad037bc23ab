-- Inside handler steps: what holds is entered at the record of a window exception, kept by each handler step and by the other core's
-- accesses, and left at RFWO and RFWU.
use Rattle.std.proofs.Common.{append_assoc, ◌≡◌, ◌⊎◌, ⊎_elim, inl, inr, ℕ, ◌+◌, ◌-◌, ◌*◌, ◌%◌, ◌^◌, ◌<◌, ◌≤◌, Bool, true, false, ◌||◌, cond, leb, ltb, refl, sym, ◌∙◌, ap, arith, List, [], ◌∷◌, ◌++◌, length, get_or, subst, Some, None, Option}
use Rattle.std.proofs.lemmas.Bool.{cases_Bool, cases_lt, or_parts, or_from, or_left, or_right, and_parts, cond-true, cond-false, false≢true, false_from_ne_true, leb-true, ltb-true}
use Rattle.xt_isa.specs.declared.Insn.{Insn}
use Rattle.xt_isa.specs.declared.Insn.TheVariants as insn
use Rattle.xt_isa.specs.declared.system.System.TheVariants as system
use Rattle.xt_isa.specs.declared.system.ExceptionReturnName.TheVariants as return
use Rattle.xt_isa.specs.Ranges.{in_range}
use Rattle.xt_isa.specs.Spelling.{spelled_insn, fields_at, length_of}
use Rattle.xt_isa.proofs.Ranged.{spelled_at_in_range}
use Rattle.xt_map.specs.declared.contents.MemoryContents.{MemoryContents}
use Rattle.xt_map.specs.Memory.{HasSizes, byte_at}
use Rattle.xt_special.specs.declared.ps.Ps.{Ps}
use Rattle.xt_special.specs.Numbers as number
use Rattle.xt_special.specs.Control.{special_of}
use Rattle.xt_special.specs.Timers.{after_tick}
use Rattle.xt_special.specs.Interrupts.{pending_of}
use Rattle.xt_window.specs.Ring.{place, visible, with_bit, without_bit}
use Rattle.xt_trace.specs.declared.record.StepKind.TheVariants as kind
use Rattle.xt_map.specs.Fetching.{Fetches, fetch_at, can_fetch, read_as}
use Rattle.xt_exec.specs.State.{State}
use Rattle.xt_exec.specs.TurnLaws.{IsShaped}
use Rattle.xt_exec.specs.Turn.{planned_turn, demand, turn, window_exception}
use Rattle.xt_frames.specs.Frames.{Frame, FrameState, windows_moved}
use Rattle.xt_frames.specs.FrameStep.{with_inputs}
use Rattle.xt_frames.specs.SaveAreas.{sp_of, touches, is_live}
use Rattle.xt_frames.specs.Breaches.{Bounds, window_breach}
use Rattle.xt_frames.specs.Nesting.{is_nesting}
use Rattle.xt_frames.specs.HandlerSteps.{is_window, closes, fetched_ends, ends_stretch}
use Rattle.xt_simulation.specs.Relation as relation
use Rattle.xt_simulation.specs.Relation.{inputs, lost_at, without_epc1}
use Rattle.xt_simulation.specs.InHandlers.{Changes, Holds, start_of, Untouched, Stretch, MovesFrame, StoresAlone, above}
use Rattle.xt_simulation.specs.Cores.{word, Related}
use Rattle.xt_simulation.specs.Stretches as stretches
use Rattle.xt_simulation.proofs.Chains.{related_spared}
use Rattle.xt_map.proofs.Alike.{touched_at}
use Rattle.xt_simulation.proofs.Closed.{in_ring_end, related_lost, epc1_lost}
use Rattle.xt_simulation.proofs.Windowed.{enters_window, visible_value}
use Rattle.xt_simulation.proofs.Stretched.{overflows_keep_related, underflows_keep_related, stretches_begin, stretches_go_on, stretches_end, oldest, newest_of}
use Rattle.xt_handlers.specs.Symbols.{Effect, effect_after_step, opening}
use Rattle.xt_handlers.specs.Needs.{callee_sp, link, save_word, has_effect}
use Rattle.xt_handlers.specs.declared.stretch.Side.{Side}
use Rattle.xt_handlers.specs.declared.stretch.Side.TheVariants.{Overflow, Underflow}
use Rattle.xt_handlers.specs.declared.stretch.HandlerInsn.{HandlerInsn}
use Rattle.xt_handlers.specs.declared.stretch.HandlerInsn.TheVariants.{Rfwo, Rfwu, Foreign}
use Rattle.xt_handlers.specs.declared.stretch.HandlerVerdict.TheVariants.{Yes}
use Rattle.xt_handlers.specs.Spelled.{step_of_insn, step_of_spelled, step_of}
use Rattle.xt_handlers.proofs.Lines.{handling_is}
use Rattle.xt_handlers.specs.Machines as small
use Rattle.xt_handlers.specs.Running as stepping
use Rattle.xt_handlers.specs.Machines.{Machine, word_at, symbol_value, address_of, IsElsewhere}
use Rattle.xt_handlers.specs.Frames.{HasFrames, IsOwnByte}
use Rattle.xt_handlers.specs.HandlerInvariants.{Does, Stands, Spares, Touches, Turns, Moves, Closes, Done, step_at, ending_of, opening_flags}
use Rattle.xt_handlers.proofs.Places.{room_from, spares_from}
use Rattle.xt_handlers.proofs.Runs.{stands_first}
use Rattle.xt_handlers.proofs.Turning.{turns, done, spared}
use Rattle.xt_handlers.proofs.Changed.{others_stay_above}
use Rattle.xt_handlers.proofs.Joins.{save_low, save_high}
use Rattle.xt_handlers.specs.Vectors.{vector_number, vector_at, vector_bytes, verdict_of, Handlers}
use Rattle.xt_simulation.specs.Steps.{state_now, memory_now}
use Rattle.xt_simulation.specs.Handling.{machine, InDram, Somewhere, Begins, Handling, Settles, IsGood, HandlerStep, steps_on, closes_stretch}
use Rattle.xt_simulation.specs.HandlerLaws.{StretchesAreEntered, HandlerStepsAreKept, HandlersAreSpared}
use Rattle.xt_map.specs.Code.{AreBytes}
use Rattle.xt_simulation.proofs.Fetched.{byte_is as fetched_byte, bytes_length, byte_small, fetched_is, step_is, vector_fetches, vector_handles, fetch_small, length_is}
use Rattle.xt_simulation.proofs.Plans.{plan_asks}
use Rattle.xt_simulation.proofs.Turns.{Shown, quiet_level, shown, turned, Turned, load, store, wide_nop, narrow_nop, ends_overflow, ends_underflow, other, Ended, ends_with_rfwo, ends_with_rfwu}
use Rattle.xt_simulation.proofs.SaveWords.{save_covers, in_areas, stood_before, spilled_before, newest_before, oldest_before}
use Rattle.xt_simulation.proofs.Begun.{Found, found, own_live, same_visible}

-- ---- the handler's state, where another memory has the same bytes
same_bytes : (side : Side) (n : ℕ) (start : Machine) (old new : ℕ → ℕ) → ((a : ℕ) → new a ≡ old a) → Spares side n start old new
same_bytes side n start old new same = record {
  named = λ w h. same_word_at (address_of start w);
  saves = λ o k l. same_word_at (address_of start (save_word Overflow n k));
}
  where
    same_word_at : (a : ℕ) → word_at new a ≡ word_at old a
    same_word_at a = let e0 = same a in let e1 = same (a + 1) in let e2 = same (a + 2) in let e3 = same (a + 3) in rw (e0, e1, e2, e3) refl

-- ---- an address that no save of the frame touches
elsewhere_from : (n : ℕ) (start : Machine) (a : ℕ) → HasFrames Overflow n start → (IsOwnByte Overflow n start a → ⊥) → IsElsewhere n start a
elsewhere_from n start a f not_own = λ k l. ⊎_elim
    (λ below. inl below)
    (λ above. ⊎_elim
    (λ inside. absurd (not_own (save_covers Overflow n start f k a l above inside)))
    (λ beyond. inr beyond)
    (cases_lt a (address_of start (save_word Overflow n k) + 4)))
    (cases_lt a (address_of start (save_word Overflow n k)))

-- what a handler's instruction changes
step_keeps : (side : Side) (n : ℕ) (start : Machine) (old new : ℕ → ℕ) (a : ℕ) → Touches side n start old new → Untouched side n start a → new a ≡ old a
step_keeps Overflow n start old new a t h = t.elsewhere a h
step_keeps Underflow n start old new a t h = t.never refl a

untouched_from : (side : Side) (n : ℕ) (start : Machine) (a : ℕ) → HasFrames side n start → (IsOwnByte side n start a → ⊥) → Untouched side n start a
untouched_from Overflow n start a f not_own = elsewhere_from n start a f not_own
untouched_from Underflow n start a f not_own = tt

two_sides : (side : Side) → side ≡ Overflow → side ≡ Underflow → ⊥
two_sides side o u = let q : Overflow ≡ Underflow = sym o ∙ u in absurd cc

-- ---- endings
is_rfwo : {i : Insn} {step : HandlerInsn} → Shown i step → step ≡ Rfwo → i ≡ insn.System (system.ExceptionReturn return.Rfwo)
is_rfwo load e = absurd cc
is_rfwo store e = absurd cc
is_rfwo wide_nop e = absurd cc
is_rfwo narrow_nop e = absurd cc
is_rfwo ends_overflow e = refl
is_rfwo ends_underflow e = absurd cc
is_rfwo other e = absurd cc

is_rfwu : {i : Insn} {step : HandlerInsn} → Shown i step → step ≡ Rfwu → i ≡ insn.System (system.ExceptionReturn return.Rfwu)
is_rfwu load e = absurd cc
is_rfwu store e = absurd cc
is_rfwu wide_nop e = absurd cc
is_rfwu narrow_nop e = absurd cc
is_rfwu ends_overflow e = absurd cc
is_rfwu ends_underflow e = refl
is_rfwu other e = absurd cc

not_ending : {i : Insn} {step : HandlerInsn} (side : Side) (n : ℕ) (start : Machine) (flags after : List Bool) (now : Machine) → Shown i step → Does side n start flags after now step → ends_stretch i ≡ false
unfolding ends_stretch
not_ending side n start flags after now load d = refl
not_ending side n start flags after now store d = refl
not_ending side n start flags after now wide_nop d = refl
not_ending side n start flags after now narrow_nop d = refl
not_ending side n start flags after now ends_overflow d = absurd d
not_ending side n start flags after now ends_underflow d = absurd d
not_ending side n start flags after now other d = absurd d

not_foreign : (side : Side) (n : ℕ) (start : Machine) (flags after : List Bool) (now : Machine) (step : HandlerInsn) → step ≡ Foreign → Does side n start flags after now step → ⊥
not_foreign side n start flags after now step e d = let f : Does side n start flags after now Foreign = subst (λ x. Does side n start flags after now x) e d in f

-- ---- the same handler's state in another machine
moved_machine : (side : Side) (n : ℕ) (start : Machine) (e : Effect) (flags : List Bool) (next : Machine) (base : ℕ) (bytes : ℕ → ℕ) → Stands side n start e flags next → base ≡ start.base → ((a : ℕ) → bytes a ≡ next.bytes a)
    → Stands side n start e flags (record { ring = next.ring; base = base; bytes = bytes })
moved_machine side n start e flags next base bytes st same_base same =
    let z = spared side n start e flags next bytes st (same_bytes side n start next.bytes bytes same) in
    let b : next.base ≡ base = st.base ∙ sym same_base in
    subst (λ x. Stands side n start e flags (record { ring = next.ring; base = x; bytes = bytes })) b z

-- ---- bits of windows by their number
without_same : (start w : ℕ) → without_bit start (w % 16) ≡ without_bit start w
unfolding without_bit
without_same start w = let e : w % 16 % 16 ≡ w % 16 = omega arith in rw e refl

with_same : (start w : ℕ) → with_bit start (w % 16) ≡ with_bit start w
unfolding with_bit
with_same start w = let e : w % 16 % 16 ≡ w % 16 = omega arith in rw e refl

-- ---- the bytes that an overflow's handler stores
saves : ℕ → ℕ → ℕ → ℕ → Bool
saves callee top n a = touches (callee - 16) 16 a || touches (top - 16 * n) (16 * (n - 1)) a

save_free : (n : ℕ) (start : Machine) (f : HasFrames Overflow n start) (callee top a : ℕ) → symbol_value start (callee_sp n) ≡ callee → symbol_value start (link Overflow n) ≡ top → saves callee top n a ≡ false → IsElsewhere n start a
unfolding saves
save_free n start f callee top a e t h = λ k l. by_place k l (cases_lt k 4)
  where
    parts : (touches (callee - 16) 16 a ≡ false) × (touches (top - 16 * n) (16 * (n - 1)) a ≡ false)
    parts = or_parts _ _ h

    by_place : (k : ℕ) → k < 4 * n → (k < 4) ⊎ (4 ≤ k) → (a < address_of start (save_word Overflow n k)) ⊎ (address_of start (save_word Overflow n k) + 4 ≤ a)
    by_place k l (inl low) =
        let at = save_low Overflow n k start f low in
        let c : small.visible start (4 * n + 1) ≡ callee = e in
        let big = f.callee_low in
        ⊎_elim (λ below. inl below) (λ above. ⊎_elim
        (λ inside. absurd (false≢true (sym parts.0 ∙ touched_at (callee - 16) 16 a (omega (arith, at, c, big, e)) (omega (arith, at, c, big, e)))))
        (λ beyond. inr beyond)
        (cases_lt a (address_of start (save_word Overflow n k) + 4)))
        (cases_lt a (address_of start (save_word Overflow n k)))
    by_place k l (inr high) =
        let at = save_high Overflow n k start f high l in
        let two : 1 < n = omega arith in
        let big = f.caller_low two in
        ⊎_elim (λ below. inl below) (λ above. ⊎_elim
        (λ inside. absurd (false≢true (sym parts.1 ∙ touched_at (top - 16 * n) (16 * (n - 1)) a (omega (arith, at, t, big)) (omega (arith, at, t, big)))))
        (λ beyond. inr beyond)
        (cases_lt a (address_of start (save_word Overflow n k) + 4)))
        (cases_lt a (address_of start (save_word Overflow n k)))

mixed : (ℕ → Bool) → (ℕ → ℕ) → (ℕ → ℕ) → ℕ → ℕ
mixed own now opened a = cond (own a) (now a) (opened a)

mixed_own : (own : ℕ → Bool) (now opened : ℕ → ℕ) (a : ℕ) → own a ≡ true → mixed own now opened a ≡ now a
unfolding mixed
mixed_own own now opened a h = cond-true (own a) (now a) (opened a) h

mixed_other : (own : ℕ → Bool) (now opened : ℕ → ℕ) (a : ℕ) → own a ≡ false → mixed own now opened a ≡ opened a
unfolding mixed
mixed_other own now opened a h = cond-false (own a) (now a) (opened a) h

four_same : (old new : ℕ → ℕ) (a : ℕ) → new a ≡ old a → new (a + 1) ≡ old (a + 1) → new (a + 2) ≡ old (a + 2) → new (a + 3) ≡ old (a + 3) → word new a ≡ word old a
four_same old new a e0 e1 e2 e3 = rw (e0, e1, e2, e3) refl

-- ---- the end of an overflow's handler
not_touched : (addr size x : ℕ) → (x < addr) ⊎ (addr + size ≤ x) → touches addr size x ≡ false
not_touched addr size x h = false_from_ne_true (touches addr size x) (λ t.
    let p = and_parts (leb addr x) (ltb x (addr + size)) t in
    let lo = leb-true addr x p.0 in
    let up = ltb-true x (addr + size) p.1 in
    ⊎_elim (λ a. omega arith) (λ a. omega arith) h)

module _ (b : Bounds) (lost : ℕ → Bool) (before t : State) (f : FrameState) (front : List Frame) (g : Frame) (rest : List Frame) (opened now : ℕ → ℕ)
    (r : Found Overflow opened b before f front g rest) (l : Related opened b lost before f (front ++ g ∷ []) rest)
    (saved : (k : ℕ) → k < 4 * g.by → word_at now (address_of (start_of before opened rest) (save_word Overflow g.by k)) ≡ small.visible (start_of before opened rest) k)
    (kept : (a : ℕ) → is_live b.range f a ≡ true → IsElsewhere g.by (start_of before opened rest) a → now a ≡ opened a) where
  over_callee : ℕ
  over_callee = visible before.regs (windows_moved rest) (4 * g.by + 1)

  over_top : ℕ
  over_top = word opened (visible before.regs (windows_moved rest) 1 - 12)

  callee_is : symbol_value (start_of before opened rest) (callee_sp g.by) ≡ over_callee
  unfolding over_callee
  callee_is = same_visible before.regs (windows_moved rest) (4 * g.by + 1)

  top_is : symbol_value (start_of before opened rest) (link Overflow g.by) ≡ over_top
  unfolding over_top
  top_is = r.top ∙ sym (oldest b f front g rest opened l).top

  new_bytes : ℕ → ℕ
  new_bytes = mixed (saves over_callee over_top g.by) now opened

  -- a word whose bytes the handler stores, and one that it does not
  word_own : (a : ℕ) → ((x : ℕ) → a ≤ x → x < a + 4 → saves over_callee over_top g.by x ≡ true) → word new_bytes a ≡ word now a
  unfolding new_bytes
  word_own a own = four_same now new_bytes a
      (mixed_own (saves over_callee over_top g.by) now opened a (own a (omega arith) (omega arith)))
      (mixed_own (saves over_callee over_top g.by) now opened (a + 1) (own (a + 1) (omega arith) (omega arith)))
      (mixed_own (saves over_callee over_top g.by) now opened (a + 2) (own (a + 2) (omega arith) (omega arith)))
      (mixed_own (saves over_callee over_top g.by) now opened (a + 3) (own (a + 3) (omega arith) (omega arith)))

  word_other : (a : ℕ) → ((x : ℕ) → a ≤ x → x < a + 4 → saves over_callee over_top g.by x ≡ false) → word new_bytes a ≡ word opened a
  unfolding new_bytes
  word_other a own = four_same opened new_bytes a
      (mixed_other (saves over_callee over_top g.by) now opened a (own a (omega arith) (omega arith)))
      (mixed_other (saves over_callee over_top g.by) now opened (a + 1) (own (a + 1) (omega arith) (omega arith)))
      (mixed_other (saves over_callee over_top g.by) now opened (a + 2) (own (a + 2) (omega arith) (omega arith)))
      (mixed_other (saves over_callee over_top g.by) now opened (a + 3) (own (a + 3) (omega arith) (omega arith)))

  stored : stretches.Stores opened new_bytes before (windows_moved rest) g.by
  unfolding over_callee over_top saves
  stored = record {
    low = λ i small_i.
        let big = r.frames.callee_low in
        let c = callee_is in
        let k : i < 4 * g.by = (let p = r.frames.some in omega arith) in
        let at : address_of (start_of before opened rest) (save_word Overflow g.by i) ≡ over_callee - 16 + 4 * i = save_low Overflow g.by i (start_of before opened rest) r.frames small_i ∙ ap (λ x. x - 16 + 4 * i) c in
        word_own (over_callee - 16 + 4 * i) (λ x lo up. or_left _ _ (touched_at (over_callee - 16) 16 x (omega arith) (omega arith)))
        ∙ (ap (word now) (sym at) ∙ (saved i k ∙ same_visible before.regs (windows_moved rest) i));
    high = λ i big_i k.
        let two : 1 < g.by = omega arith in
        let big = r.frames.caller_low two in
        let t = top_is in
        let at : address_of (start_of before opened rest) (save_word Overflow g.by i) ≡ over_top - 16 * g.by + 4 * (i - 4) = save_high Overflow g.by i (start_of before opened rest) r.frames big_i k ∙ ap (λ x. x - 16 * g.by + 4 * (i - 4)) t in
        word_own (over_top - 16 * g.by + 4 * (i - 4)) (λ x lo up. or_right _ _ (touched_at (over_top - 16 * g.by) (16 * (g.by - 1)) x (omega arith) (omega arith)))
        ∙ (ap (word now) (sym at) ∙ (saved i k ∙ same_visible before.regs (windows_moved rest) i));
    others = λ a away.
        let big = r.frames.callee_low in
        let c = callee_is in
        let t = top_is in
        let top_big : 16 * g.by ≤ over_top = top_large in
        word_other a (λ x lo up. or_from _ _
        (not_touched (over_callee - 16) 16 x (⊎_elim (λ u. inl (omega arith)) (λ u. inr (omega arith)) away.0))
        (not_touched (over_top - 16 * g.by) (16 * (g.by - 1)) x (⊎_elim (λ u. inl (omega arith)) (λ u. inr (omega arith)) away.1)));
  }
    where
      top_large : 16 * g.by ≤ over_top
      top_large = let t = (oldest b f front g rest opened l).top in let large = r.chain.0.large in omega arith

  pub over_end : Changes before t (windows_moved rest) g.by → t.start ≡ without_bit before.start (windows_moved rest) → Related now b (without_epc1 lost) t f front (g ∷ rest)
  unfolding new_bytes
  over_end changes bits =
      let middle = overflows_keep_related b lost before t f front g rest opened new_bytes l changes bits stored in
      related_spared new_bytes now b f (λ a live. ⊎_elim
      (λ own. sym (mixed_own (saves over_callee over_top g.by) now opened a own))
      (λ free. kept a live (save_free g.by (start_of before opened rest) r.frames over_callee over_top a callee_is top_is free) ∙ sym (mixed_other (saves over_callee over_top g.by) now opened a free))
      (cases_Bool (saves over_callee over_top g.by a))) middle

-- ---- the end of an underflow's handler
module _ (b : Bounds) (lost : ℕ → Bool) (before t : State) (f : FrameState) (front : List Frame) (g : Frame) (rest : List Frame) (opened now : ℕ → ℕ)
    (r : Found Underflow opened b before f front g rest) (l : Related opened b lost before f [] (g ∷ rest))
    (loaded : (k : ℕ) → k < 4 * g.by → visible t.regs (windows_moved rest % 16) k ≡ word_at opened (address_of (start_of before opened rest) (save_word Underflow g.by k)))
    (kept : (a : ℕ) → is_live b.range f a ≡ true → now a ≡ opened a) where
  under_loads : stretches.Loads opened before t (windows_moved rest) g.by
  under_loads =
      let o = newest_of b f g rest opened l in
      let callee = same_visible before.regs (windows_moved rest) (4 * g.by + 1) in
      let w1 : word opened (visible before.regs (windows_moved rest) (4 * g.by + 1) - 12) ≡ sp_of g = ap (λ x. word opened (x - 12)) o.callee ∙ o.own in
      let top : symbol_value (start_of before opened rest) (link Underflow g.by) ≡ word opened (word opened (visible before.regs (windows_moved rest) (4 * g.by + 1) - 12) - 12) = r.top ∙ sym (ap (λ x. word opened (x - 12)) w1 ∙ o.top) in
      record {
        low = λ i small_i.
            let k : i < 4 * g.by = (let p = r.frames.some in omega arith) in
            sym (same_visible t.regs (windows_moved rest) i) ∙ (loaded i k ∙ ap (word opened) (save_low Underflow g.by i (start_of before opened rest) r.frames small_i ∙ ap (λ x. x - 16 + 4 * i) callee));
        high = λ i big_i k.
            sym (same_visible t.regs (windows_moved rest) i) ∙ (loaded i k ∙ ap (word opened) (save_high Underflow g.by i (start_of before opened rest) r.frames big_i k ∙ ap (λ x. x - 16 * g.by + 4 * (i - 4)) top));
      }

  pub under_end : Changes before t (windows_moved rest) g.by → t.start ≡ with_bit before.start (windows_moved rest) → Related now b (without_epc1 lost) t f (g ∷ []) rest
  under_end changes bits = related_spared opened now b f kept (underflows_keep_related b lost before t f g rest opened l changes bits under_loads)

-- ---- what a whole stretch has done
pub somewhere_of : (side : Side) (m : ℕ → ℕ) (b : Bounds) (t : State) (f : FrameState) (front : List Frame) (g : Frame) (rest : List Frame) → Settles side m b t f front g rest → Somewhere m b (lost_at false f) t f
somewhere_of Overflow m b t f front g rest l = record { ring = front; spilled = g ∷ rest; related = l }
somewhere_of Underflow m b t f front g rest l = record { ring = g ∷ []; spilled = rest; related = l }

frames_at : (side : Side) (m : ℕ → ℕ) (b : Bounds) (lost : ℕ → Bool) (s : State) (f : FrameState) (front : List Frame) (g : Frame) (rest : List Frame) → Begins side m b lost s f front g rest → f.frames ≡ above side front ++ g ∷ rest
frames_at Overflow m b lost s f front g rest l = l.plain.frames ∙ append_assoc front (g ∷ []) rest
frames_at Underflow m b lost s f front g rest l = l.plain.frames

seen_before : (side : Side) (m : ℕ → ℕ) (b : Bounds) (lost : ℕ → Bool) (s : State) (f : FrameState) (front : List Frame) (g : Frame) (rest : List Frame) → Begins side m b lost s f front g rest → (i v : ℕ) → get_or f.seen i None ≡ Some v → visible s.regs s.base i ≡ v
seen_before Overflow m b lost s f front g rest l i v e = visible_value l.plain.windows i v e
seen_before Underflow m b lost s f front g rest l i v e = visible_value l.plain.windows i v e

seen_after : (side : Side) (m : ℕ → ℕ) (b : Bounds) (t : State) (f : FrameState) (front : List Frame) (g : Frame) (rest : List Frame) → Settles side m b t f front g rest → (i v : ℕ) → get_or f.seen i None ≡ Some v → visible t.regs t.base i ≡ v
seen_after Overflow m b t f front g rest l i v e = visible_value l.plain.windows i v e
seen_after Underflow m b t f front g rest l i v e = visible_value l.plain.windows i v e

stored_frame : (side : Side) (m : ℕ → ℕ) (b : Bounds) (lost : ℕ → Bool) (s : State) (f : FrameState) (front : List Frame) (g : Frame) (rest : List Frame) → Begins side m b lost s f front g rest → side ≡ Overflow → Holds s.regs g.kept (windows_moved rest)
stored_frame Overflow m b lost s f front g rest l e = (in_ring_end s.regs front g (windows_moved rest) l.plain.windows.kept).1
stored_frame Underflow m b lost s f front g rest l e = absurd cc

returned_frame : (side : Side) (m : ℕ → ℕ) (b : Bounds) (t : State) (f : FrameState) (front : List Frame) (g : Frame) (rest : List Frame) → Settles side m b t f front g rest → side ≡ Underflow → Holds t.regs g.kept (windows_moved rest)
returned_frame Underflow m b t f front g rest l e = (let z : 0 + windows_moved rest ≡ windows_moved rest = omega arith in rw z at l.plain.windows.kept.0)
returned_frame Overflow m b t f front g rest l e = absurd cc

over_free : (side : Side) (n : ℕ) (start : Machine) (a : ℕ) → side ≡ Overflow → IsElsewhere n start a → Untouched side n start a
over_free Overflow n start a e away = away
over_free Underflow n start a e away = absurd cc

under_free : (side : Side) (n : ℕ) (start : Machine) (a : ℕ) → side ≡ Underflow → Untouched side n start a
under_free Underflow n start a e = tt
under_free Overflow n start a e = absurd cc

moves_frame : (side : Side) (b : Bounds) (m : MemoryContents) (before after : State) (opened : ℕ → ℕ) (f : FrameState) (front : List Frame) (g : Frame) (rest : List Frame) (lost : ℕ → Bool) → Begins side opened b lost before f front g rest
    → Found side opened b before f front g rest → Settles side (byte_at m) b after f front g rest → Stretch side g.by before after opened (byte_at m) rest
    → ((a : ℕ) → is_live b.range f a ≡ true → Untouched side g.by (start_of before opened rest) a → byte_at m a ≡ opened a)
    → MovesFrame b f before after opened (byte_at m)
moves_frame side b m before after opened f front g rest lost begins r settles stretch kept = record {
  side = side;
  front = front;
  g = g;
  rest = rest;
  frames = frames_at side opened b lost before f front g rest begins;
  areas = in_areas r;
  stood = stood_before side opened b lost before f front g rest begins;
  newest = newest_before side opened b lost before f front g rest begins;
  oldest = oldest_before side opened b lost before f front g rest begins;
  spilled = spilled_before side opened b lost before f front g rest begins;
  stretch = stretch;
  seen = λ i v e. (seen_before side opened b lost before f front g rest begins i v e, seen_after side (byte_at m) b after f front g rest settles i v e);
  stored = stored_frame side opened b lost before f front g rest begins;
  returned = returned_frame side (byte_at m) b after f front g rest settles;
  elsewhere = kept;
}

module _ (code : ℕ → ℕ) (constant : (a : ℕ) → code a < 2 ^ 8) (b : Bounds) (dram : InDram b) (aligned : b.vecbase % 2 ^ 10 ≡ 0) (handlers : Handlers code b.vecbase) where
  -- ---- the record of a window exception
  entered : (side : Side) (m : MemoryContents) (fresh : Bool) (s : State) (f : FrameState) (front : List Frame) (g : Frame) (rest : List Frame) → Begins side (byte_at m) b (lost_at fresh f) s f front g rest → special_of s.control number.vecbase ≡ b.vecbase
      → 0 < g.by → g.by ≤ 3 → s.control.ps.excm ≡ false → s.control.waits ≡ false → IsShaped s → planned_turn code s ≡ window_exception (vector_number side g.by) (windows_moved rest % 16) s
      → (demand code s ≡ None) × Handling code b m (state_now code m s) f s (byte_at m)
  unfolding turn
  entered side m fresh s f front g rest begins vectors moves within low running shaped is =
      let start = start_of s (byte_at m) rest in
      let d : demand code s ≡ None = plan_asks code s _ is in
      let t : state_now code m s ≡ (window_exception (vector_number side g.by) (windows_moved rest % 16) s).after = (rw is refl) in
      let r : Found side (byte_at m) b s f front g rest = found side b (lost_at fresh f) s f front g rest (byte_at m) dram shaped moves within begins in
      let long : number.epc 1 < length s.control.special = (let c = shaped.control.count in omega arith) in
      let answered = handlers side g.by moves (omega arith) in
      let P : State → Type 0 = λ t. Handling code b m t f s (byte_at m) in (
        d,
        subst P (sym t) (record {
          side = side;
          fresh = fresh;
          front = front;
          g = g;
          rest = rest;
          begins = begins;
          moves = moves;
          within = within;
          low = low;
          running = running;
          shaped = shaped;
          offset = 0;
          effect = opening;
          flags = opening_flags side g.by;
          pc = (let z : b.vecbase + 0x40 * vector_number side g.by ≡ b.vecbase + 0x40 * vector_number side g.by + 0 = omega arith in ap (λ x. x + 0x40 * vector_number side g.by) vectors ∙ z);
          handles = handling_is side g.by (vector_bytes code (vector_at b.vecbase side g.by)) ∙ vector_handles code b.vecbase side g.by answered;
          control = stretches_begin s.control s.base (vector_number side g.by) long;
          bits = refl;
          stands = stands_first side g.by start (room_from side g.by start r.frames);
          kept = λ a live free. refl;
        }),
      )

  pub begins_at : (m : MemoryContents) (fresh : Bool) (s : State) (f : FrameState) (ring spilled : List Frame) (reply : ℕ) → Related (byte_at m) b (lost_at fresh f) s f ring spilled → IsShaped s → is_window (planned_turn code s).kind ≡ true
      → window_breach code (planned_turn code s).kind (with_inputs (inputs reply s) f) ≡ None → (demand code s ≡ None) × Handling code b m (state_now code m s) f s (byte_at m)
  begins_at m fresh s f ring spilled reply l shaped window none =
      ⊎_elim
      (λ (o : relation.Overflows code s ring spilled).
      entered Overflow m fresh s f o.front o.g spilled (subst (λ r. Related (byte_at m) b (lost_at fresh f) s f r spilled) o.last l) l.plain.vectors o.moves o.within o.low o.running shaped o.is)
      (λ (u : relation.Underflows code s ring spilled).
      entered Underflow m fresh s f [] u.g u.rest (subst (λ r. Related (byte_at m) b (lost_at fresh f) s f [] r) u.older (subst (λ r. Related (byte_at m) b (lost_at fresh f) s f r spilled) u.empty l)) l.plain.vectors u.moves u.within u.low u.running shaped u.is)
      (enters_window b.vecbase code (lost_at fresh f) s f ring spilled reply l.plain shaped window none)

  module _ {m : MemoryContents} {s : State} {f : FrameState} {before : State} {opened : ℕ → ℕ} (h : Handling code b m s f before opened) where
    pub at_start : Found h.side opened b before f h.front h.g h.rest
    at_start = found h.side b (lost_at h.fresh f) before f h.front h.g h.rest opened dram h.shaped h.moves h.within h.begins

    abbrev n : ℕ
    n = h.g.by

    abbrev start : Machine
    start = start_of before opened h.rest

    abbrev vector : ℕ
    vector = vector_at b.vecbase h.side h.g.by

    answered : verdict_of code b.vecbase h.side n ≡ Yes
    answered = handlers h.side n h.moves (let w = h.within in omega arith)

    pub low_now : s.control.ps.excm ≡ true
    low_now = let e = h.control.ps in rw e refl

    -- the judge takes an interrupt of level 5 as a nested one; the others are masked
    pub untaken_now : is_nesting (planned_turn code s).kind ≡ false → ltb 0 (pending_of s.control) ≡ false
    untaken_now calm = quiet_level code s low_now calm

    pub running_now : s.control.waits ≡ false
    running_now = h.control.waits ∙ h.running

    turn_here : Turns h.side n start (vector_bytes code vector) h.offset h.effect h.flags (machine m s)
    turn_here = turns h.side n start (vector_bytes code vector) h.offset h.effect h.flags (machine m s) (room_from h.side n start at_start.frames) (bytes_length code vector 64) (λ i. byte_small code vector 64 i constant) h.stands h.handles

    first_byte : get_or (vector_bytes code vector) h.offset 0 ≡ code (vector + h.offset)
    first_byte = byte_here (length_is (get_or (vector_bytes code vector) h.offset 0))
      where
        byte_here : (length_of (get_or (vector_bytes code vector) h.offset 0) ≡ 2) ⊎ (length_of (get_or (vector_bytes code vector) h.offset 0) ≡ 3) → get_or (vector_bytes code vector) h.offset 0 ≡ code (vector + h.offset)
        byte_here (inl e) = fetched_byte code vector 64 h.offset (let i = turn_here.inside in omega arith)
        byte_here (inr e) = fetched_byte code vector 64 h.offset (let i = turn_here.inside in omega arith)

    len : ℕ
    len = length_of (code (vector + h.offset))

    inside : h.offset + length_of (code (vector + h.offset)) ≤ 64
    inside = rw (← first_byte) turn_here.inside

    -- the fetch at PC
    fetch : fetch_at code s.control.pc ≡ read_as (spelled_insn (fields_at (code (vector + h.offset)) (code (vector + h.offset + 1)) (code (vector + h.offset + 2)))) (length_of (code (vector + h.offset)))
    fetch =
        ap (fetch_at code) h.pc
        ∙ fetched_is code (vector + h.offset)
        (λ k l. let e : vector + h.offset + k ≡ vector + (h.offset + k) = omega arith in rw e (vector_fetches code b.vecbase h.side n (h.offset + k) aligned answered (let i = inside in omega arith)))
        (⊎_elim (λ e. omega arith) (λ e. omega arith) (length_is (code (vector + h.offset))))

    step_here : step_at (vector_bytes code vector) h.offset ≡ step_of (code (vector + h.offset)) (code (vector + h.offset + 1)) (code (vector + h.offset + 2))
    step_here = step_is code vector h.offset inside

    -- ---- the instruction at PC
    data AtPc : Type 0 where
      some_insn : (i : Insn) → fetch_at code s.control.pc ≡ Fetches i len → in_range i ≡ true → step_at (vector_bytes code vector) h.offset ≡ step_of_insn i → AtPc
      no_insn : step_at (vector_bytes code vector) h.offset ≡ Foreign → AtPc

    at_pc : (o : Option Insn) → spelled_insn (fields_at (code (vector + h.offset)) (code (vector + h.offset + 1)) (code (vector + h.offset + 2))) ≡ o → AtPc
    unfolding len step_of
    at_pc None e = no_insn (step_here ∙ ap step_of_spelled e)
    at_pc (Some i) e = some_insn i (fetch ∙ ap (λ o. read_as o (length_of (code (vector + h.offset)))) e)
        (spelled_at_in_range (code (vector + h.offset)) (code (vector + h.offset + 1)) (code (vector + h.offset + 2)) i (constant _) (constant _) (constant _) (sym e))
        (step_here ∙ ap step_of_spelled e)

    insn_here : AtPc
    insn_here = at_pc (spelled_insn (fields_at (code (vector + h.offset)) (code (vector + h.offset + 1)) (code (vector + h.offset + 2)))) refl

    -- ---- one handler step
    -- the handler goes on, or it ends
    pub data Next : Type 0 where
      goes_on : closes code (planned_turn code s).kind s.control.pc ≡ false → Handling code b (memory_now code m s) (state_now code m s) f before opened
          → ((a : ℕ) → is_live b.range f a ≡ false → byte_at (memory_now code m s) a ≡ byte_at m a)
          → ((a : ℕ) → Untouched h.side n start a → byte_at (memory_now code m s) a ≡ byte_at m a) → Next
      ends : closes code (planned_turn code s).kind s.control.pc ≡ true → Settles h.side (byte_at m) b (state_now code m s) f h.front h.g h.rest → memory_now code m s ≡ m
          → Stretch h.side n before (state_now code m s) opened (byte_at m) h.rest → Next

    not_own : (a : ℕ) → is_live b.range f a ≡ false → IsOwnByte h.side n start a → ⊥
    not_own a dead own = false≢true (sym dead ∙ own_live at_start a own)

    pc_on : (s.control.pc + len) % 2 ^ 32 ≡ vector + (h.offset + len)
    unfolding len
    pc_on =
        let z : vector + 0 ≡ vector = omega arith in
        let first : can_fetch vector ≡ true = rw z at (vector_fetches code b.vecbase h.side n 0 aligned answered (omega arith)) in
        let small = fetch_small vector first in
        let p = h.pc in
        let i = inside in
        omega arith

    went_on : (mv : Moves h.side n start (vector_bytes code vector) h.offset h.effect h.flags (machine m s)) → Turned code m s len mv.next → Handling code b (memory_now code m s) (state_now code m s) f before opened
    unfolding len
    went_on mv t =
        let base : s.base ≡ start.base = h.stands.base in
        let P : State → Type 0 = λ x. Handling code b (memory_now code m s) x f before opened in
        subst P (sym t.after) (record {
          side = h.side;
          fresh = h.fresh;
          front = h.front;
          g = h.g;
          rest = h.rest;
          begins = h.begins;
          moves = h.moves;
          within = h.within;
          low = h.low;
          running = h.running;
          shaped = h.shaped;
          offset = h.offset + length_of (get_or (vector_bytes code vector) h.offset 0);
          effect = effect_after_step h.effect (step_at (vector_bytes code vector) h.offset);
          flags = mv.after;
          pc = pc_on ∙ ap (λ x. vector + (h.offset + length_of x)) (sym first_byte);
          handles = mv.handles;
          control = stretches_go_on before.control s.control before.base ((s.control.pc + length_of (code (vector + h.offset))) % 2 ^ 32) h.control;
          bits = h.bits;
          stands = moved_machine h.side n start (effect_after_step h.effect (step_at (vector_bytes code vector) h.offset)) mv.after mv.next s.base (byte_at (memory_now code m s)) mv.stands base t.bytes;
          kept = λ a live free. t.bytes a ∙ (step_keeps h.side n start (byte_at m) mv.next.bytes a mv.touches free ∙ h.kept a live free);
        })

    -- ---- where no interrupt is taken
    module _ (untaken : ltb 0 (pending_of s.control) ≡ false) where
      step_goes : (mv : Moves h.side n start (vector_bytes code vector) h.offset h.effect h.flags (machine m s)) → IsShaped s → HasSizes m → AtPc → Next
      step_goes mv shaped sizes (no_insn e) = absurd (not_foreign h.side n start h.flags mv.after (machine m s) (step_at (vector_bytes code vector) h.offset) e mv.does)
      step_goes mv shaped sizes (some_insn i at range e) =
          let is : stepping.machine_after_step (step_of_insn i) (machine m s) ≡ Some mv.next = subst (λ x. stepping.machine_after_step x (machine m s) ≡ Some mv.next) e mv.is in
          let may : stepping.MayAccess (step_of_insn i) (machine m s) = subst (λ x. stepping.MayAccess x (machine m s)) e mv.access in
          let does : Does h.side n start h.flags mv.after (machine m s) (step_of_insn i) = subst (λ x. Does h.side n start h.flags mv.after (machine m s) x) e mv.does in
          let t = turned code m s low_now untaken running_now len i (step_of_insn i) mv.next (shown i) at range may (λ k. shaped.words (place s.base k)) sizes is in
          let no : closes code (planned_turn code s).kind s.control.pc ≡ false = ap (λ k. closes code k s.control.pc) t.kind ∙ (ap fetched_ends at ∙ not_ending h.side n start h.flags mv.after (machine m s) (shown i) does) in
          goes_on no (went_on mv t) (λ a dead. t.bytes a ∙ step_keeps h.side n start (byte_at m) mv.next.bytes a mv.touches (untouched_from h.side n start a at_start.frames (not_own a dead)))
          (λ a free. t.bytes a ∙ step_keeps h.side n start (byte_at m) mv.next.bytes a mv.touches free)

      -- ---- the ending
      changes_from : (start_bits : ℕ) → Done h.side n start (machine m s) → Changes before (record { regs = s.regs; base = s.control.ps.owb; start = start_bits; control = after_tick (record s.control { pc = special_of s.control (number.epc 1); ps = record s.control.ps { excm = false } }) }) (windows_moved h.rest) n
      changes_from start_bits d = record {
        base = ap (λ (p : Ps). p.owb) h.control.ps;
        size = h.stands.size ∙ sym at_start.frames.registers;
        others = λ p lo hi. others_stay_above n (windows_moved h.rest) start (machine m s) p d.registers refl lo hi;
        control = stretches_end before.control s.control before.base h.low h.control;
      }

      base_is : s.base ≡ windows_moved h.rest % 16
      base_is = h.stands.base

      stretch_from : (start_bits : ℕ) → Done h.side n start (machine m s) → (h.side ≡ Overflow → start_bits ≡ without_bit before.start (windows_moved h.rest)) → (h.side ≡ Underflow → start_bits ≡ with_bit before.start (windows_moved h.rest))
          → Stretch h.side n before (record { regs = s.regs; base = s.control.ps.owb; start = start_bits; control = after_tick (record s.control { pc = special_of s.control (number.epc 1); ps = record s.control.ps { excm = false } }) }) opened (byte_at m) h.rest
      stretch_from start_bits d over under = record { changes = changes_from start_bits d; overflow_bit = over; underflow_bit = under; saved = d.saved; loaded = λ e k l. ap (λ x. visible s.regs x k) (sym base_is) ∙ d.loaded e k l }

      over_ends : h.side ≡ Overflow → has_effect h.side n h.effect ≡ true → Ended code m s low_now untaken running_now len (without_bit s.start s.base) → Settles h.side (byte_at m) b (state_now code m s) f h.front h.g h.rest
      over_ends e has x =
          let d = done h.side n start h.effect h.flags (machine m s) (let w = h.within in omega arith) h.stands has in
          let l : Begins Overflow opened b (lost_at h.fresh f) before f h.front h.g h.rest = subst (λ z. Begins z opened b (lost_at h.fresh f) before f h.front h.g h.rest) e h.begins in
          let r : Found Overflow opened b before f h.front h.g h.rest = subst (λ z. Found z opened b before f h.front h.g h.rest) e at_start in
          let kept : (a : ℕ) → is_live b.range f a ≡ true → IsElsewhere n start a → byte_at m a ≡ opened a = λ a live away. h.kept a live (subst (λ z. Untouched z n start a) (sym e) away) in
          let bits : without_bit s.start s.base ≡ without_bit before.start (windows_moved h.rest) = (let p = h.bits in let q = base_is in rw (p, q) (without_same before.start (windows_moved h.rest))) in
          let P : State → Type 0 = λ t. Settles Overflow (byte_at m) b t f h.front h.g h.rest in
          let Q : Side → Type 0 = λ z. Settles z (byte_at m) b (state_now code m s) f h.front h.g h.rest in
          subst Q (sym e) (subst P (sym x.after) (related_lost (epc1_lost h.fresh f) (over_end b (lost_at h.fresh f) before _ f h.front h.g h.rest opened (byte_at m) r l (d.saved e) kept (changes_from (without_bit s.start s.base) d) bits)))

      under_ends : h.side ≡ Underflow → has_effect h.side n h.effect ≡ true → Ended code m s low_now untaken running_now len (with_bit s.start s.base) → Settles h.side (byte_at m) b (state_now code m s) f h.front h.g h.rest
      under_ends e has x =
          let d = done h.side n start h.effect h.flags (machine m s) (let w = h.within in omega arith) h.stands has in
          let l : Begins Underflow opened b (lost_at h.fresh f) before f h.front h.g h.rest = subst (λ z. Begins z opened b (lost_at h.fresh f) before f h.front h.g h.rest) e h.begins in
          let r : Found Underflow opened b before f h.front h.g h.rest = subst (λ z. Found z opened b before f h.front h.g h.rest) e at_start in
          let kept : (a : ℕ) → is_live b.range f a ≡ true → byte_at m a ≡ opened a = λ a live. h.kept a live (subst (λ z. Untouched z n start a) (sym e) tt) in
          let bits : with_bit s.start s.base ≡ with_bit before.start (windows_moved h.rest) = (let p = h.bits in let q = base_is in rw (p, q) (with_same before.start (windows_moved h.rest))) in
          let loaded : (k : ℕ) → k < 4 * n → visible s.regs (windows_moved h.rest % 16) k ≡ word_at opened (address_of start (save_word Underflow n k)) = λ k l. ap (λ x. visible s.regs x k) (sym base_is) ∙ d.loaded e k l in
          let P : State → Type 0 = λ t. Settles Underflow (byte_at m) b t f h.front h.g h.rest in
          let Q : Side → Type 0 = λ z. Settles z (byte_at m) b (state_now code m s) f h.front h.g h.rest in
          subst Q (sym e) (subst P (sym x.after) (related_lost (epc1_lost h.fresh f) (under_end b (lost_at h.fresh f) before _ f h.front h.g h.rest opened (byte_at m) r l loaded kept (changes_from (with_bit s.start s.base) d) bits)))

      over_stretch : h.side ≡ Overflow → has_effect h.side n h.effect ≡ true → Ended code m s low_now untaken running_now len (without_bit s.start s.base) → Stretch h.side n before (state_now code m s) opened (byte_at m) h.rest
      over_stretch e has x =
          let d = done h.side n start h.effect h.flags (machine m s) (let w = h.within in omega arith) h.stands has in
          let bits : without_bit s.start s.base ≡ without_bit before.start (windows_moved h.rest) = (let p = h.bits in let q = base_is in rw (p, q) (without_same before.start (windows_moved h.rest))) in
          let P : State → Type 0 = λ t. Stretch h.side n before t opened (byte_at m) h.rest in
          subst P (sym x.after) (stretch_from (without_bit s.start s.base) d (λ o. bits) (λ u. absurd (two_sides h.side e u)))

      under_stretch : h.side ≡ Underflow → has_effect h.side n h.effect ≡ true → Ended code m s low_now untaken running_now len (with_bit s.start s.base) → Stretch h.side n before (state_now code m s) opened (byte_at m) h.rest
      under_stretch e has x =
          let d = done h.side n start h.effect h.flags (machine m s) (let w = h.within in omega arith) h.stands has in
          let bits : with_bit s.start s.base ≡ with_bit before.start (windows_moved h.rest) = (let p = h.bits in let q = base_is in rw (p, q) (with_same before.start (windows_moved h.rest))) in
          let P : State → Type 0 = λ t. Stretch h.side n before t opened (byte_at m) h.rest in
          subst P (sym x.after) (stretch_from (with_bit s.start s.base) d (λ o. absurd (two_sides h.side o e)) (λ u. bits))

      closes_at : (i : Insn) → fetch_at code s.control.pc ≡ Fetches i len → (planned_turn code s).kind ≡ kind.Insn → ends_stretch i ≡ true → closes code (planned_turn code s).kind s.control.pc ≡ true
      closes_at i at k e = ap (λ k. closes code k s.control.pc) k ∙ (ap fetched_ends at ∙ e)

      rfwo_closes : (i : Insn) → i ≡ insn.System (system.ExceptionReturn return.Rfwo) → ends_stretch i ≡ true
      unfolding ends_stretch
      rfwo_closes i e = rw e refl

      rfwu_closes : (i : Insn) → i ≡ insn.System (system.ExceptionReturn return.Rfwu) → ends_stretch i ≡ true
      unfolding ends_stretch
      rfwu_closes i e = rw e refl

      ends_by : (side : Side) → h.side ≡ side → (i : Insn) → fetch_at code s.control.pc ≡ Fetches i len → step_of_insn i ≡ ending_of side → has_effect h.side n h.effect ≡ true → Next
      ends_by Overflow e i at is has =
          let same = is_rfwo (shown i) is in
          let x = ends_with_rfwo code m s low_now untaken running_now len (at ∙ ap (λ i. Fetches i len) same) in
          ends (closes_at i at x.kind (rfwo_closes i same)) (over_ends e has x) x.memory (over_stretch e has x)
      ends_by Underflow e i at is has =
          let same = is_rfwu (shown i) is in
          let x = ends_with_rfwu code m s low_now untaken running_now len (at ∙ ap (λ i. Fetches i len) same) in
          ends (closes_at i at x.kind (rfwu_closes i same)) (under_ends e has x) x.memory (under_stretch e has x)

      foreign_ending : (side : Side) → Foreign ≡ ending_of side → ⊥
      foreign_ending Overflow e = cc
      foreign_ending Underflow e = cc

      step_ends : Closes h.side n (vector_bytes code vector) h.offset h.effect → AtPc → Next
      step_ends c (no_insn e) = absurd (foreign_ending h.side (sym e ∙ c.is))
      step_ends c (some_insn i at range e) = ends_by h.side refl i at (sym e ∙ c.is) c.has

      pub handling_steps : IsShaped s → HasSizes m → Next
      handling_steps shaped sizes = ⊎_elim
          (λ (c : Closes h.side n (vector_bytes code vector) h.offset h.effect). step_ends c insn_here)
          (λ (mv : Moves h.side n start (vector_bytes code vector) h.offset h.effect h.flags (machine m s)). step_goes mv shaped sizes insn_here)
          turn_here.goes

    -- ---- what a handler step changes
    pub stores_alone : (new : ℕ → ℕ) → ((a : ℕ) → Untouched h.side n start a → new a ≡ byte_at m a) → StoresAlone b f before s opened (byte_at m) new
    stores_alone new free = record {
      side = h.side;
      front = h.front;
      g = h.g;
      rest = h.rest;
      frames = frames_at h.side opened b (lost_at h.fresh f) before f h.front h.g h.rest h.begins;
      areas = in_areas at_start;
      vector_low = (let p = h.pc in omega arith);
      vector_high = (let p = h.pc in let i = inside in let l = length_is (code (vector + h.offset)) in ⊎_elim (λ q. omega arith) (λ q. omega arith) l);
      window = h.stands.base;
      elsewhere = λ e a away. free a (over_free h.side n start a e away);
      nowhere = λ e a. free a (under_free h.side n start a e);
    }

    -- ---- an access of the other core
    pub handling_spared : (new : MemoryContents) → ((a : ℕ) → is_live b.range f a ≡ true → byte_at new a ≡ byte_at m a) → Handling code b new s f before opened
    handling_spared new same = record {
      side = h.side;
      fresh = h.fresh;
      front = h.front;
      g = h.g;
      rest = h.rest;
      begins = h.begins;
      moves = h.moves;
      within = h.within;
      low = h.low;
      running = h.running;
      shaped = h.shaped;
      offset = h.offset;
      effect = h.effect;
      flags = h.flags;
      pc = h.pc;
      handles = h.handles;
      control = h.control;
      bits = h.bits;
      stands = spared h.side n start h.effect h.flags (machine m s) (byte_at new) h.stands (spares_from h.side n start (byte_at m) (byte_at new) at_start.frames (λ a own. same a (own_live at_start a own)));
      kept = λ a live free. same a live ∙ h.kept a live free;
    }

-- ---- as laws
pub stretches_are_entered : StretchesAreEntered
stretches_are_entered code bytes b good m fresh s f ring spilled reply l shaped window none = begins_at code bytes b good.dram good.aligned good.handlers m fresh s f ring spilled reply l shaped window none

handler_step : (code : ℕ → ℕ) (bytes : AreBytes code) (b : Bounds) (good : IsGood code b) (m : MemoryContents) (s : State) (f : FrameState) (before : State) (opened : ℕ → ℕ) (h : Handling code b m s f before opened) → Next code bytes b good.dram good.aligned good.handlers h → HandlerStep code b m s f before opened
handler_step code bytes b good m s f before opened h (goes_on open_ inside only free) =
    steps_on open_ inside only (stores_alone code bytes b good.dram good.aligned good.handlers h (byte_at (memory_now code m s)) free)
handler_step code bytes b good m s f before opened h (ends closed_ settles same stretch) =
    closes_stretch closed_ (moves_frame h.side b m before (state_now code m s) opened f h.front h.g h.rest (lost_at h.fresh f) h.begins (at_start code bytes b good.dram good.aligned good.handlers h) settles stretch h.kept) (somewhere_of h.side (byte_at m) b (state_now code m s) f h.front h.g h.rest settles) same
    (stores_alone code bytes b good.dram good.aligned good.handlers h (byte_at (memory_now code m s)) (λ a free. ap (λ x. byte_at x a) same))

pub handler_steps_are_kept : HandlerStepsAreKept
handler_steps_are_kept code bytes b good m s f before opened h shaped sizes calm = handler_step code bytes b good m s f before opened h (handling_steps code bytes b good.dram good.aligned good.handlers h (untaken_now code bytes b good.dram good.aligned good.handlers h calm) shaped sizes)

pub handlers_are_spared : HandlersAreSpared
handlers_are_spared code bytes b good old new s f before opened h same = handling_spared code bytes b good.dram good.aligned good.handlers h new same
