-- The step that begins a nested interrupt.
use Rattle.std.proofs.Common.{◌≡◌, ℕ, ◌≢◌, ◌<◌, zero, suc, Bool, true, false, ◌||◌, cond, eqb, ltb, List, length, get_or, replicate, Option, Some, None, sym, ap, ◌∙◌, refl, arith, ⊎_elim, subst, ◌+◌, ◌*◌}
use Rattle.std.specs.Prelude.{unwrap_or}
use Rattle.std.proofs.Math.ListN.{set}
use Rattle.std.proofs.lemmas.Bool.{cases_Bool, cases_eq, eqb-true, false≢true, lt-ltb, or_parts}
use Rattle.std.proofs.lemmas.List.{get_or-set_same, get_or-set_other, length-set}
use Rattle.xt_isa.specs.declared.Insn.{Insn}
use Rattle.xt_map.specs.declared.contents.MemoryContents.{MemoryContents}
use Rattle.xt_special.specs.declared.ps.Ps.{Ps}
use Rattle.xt_special.specs.Numbers as number
use Rattle.xt_special.specs.Control.{special_of, ps_word}
use Rattle.xt_special.specs.Timers.{after_tick}
use Rattle.xt_special.specs.Interrupts.{pending_of, after_interrupt}
use Rattle.xt_special.proofs.Kept.{ticked_other}
use Rattle.xt_window.specs.Ring.{visible, bit}
use Rattle.xt_window.specs.Moves.{base_after_return, behind}
use Rattle.xt_rows.specs.declared.outcome.Outcome.{Outcome}
use Rattle.xt_rows.specs.declared.outcome.Outcome.TheVariants.{Does, Raises, Asks, Stops, Windowed}
use Rattle.xt_rows.specs.declared.outcome.WindowStep.TheVariants.{Enters, Returns, EndsOverflow, EndsUnderflow, Rotates, MovesStack, Reads, Sets, Exchanges}
use Rattle.xt_map.specs.Fetching.{Fetched, Fetches, Fails, SpellsNothing, fetch_at}
use Rattle.xt_rows.specs.Effects.{write_to, no_caller_window, illegal_instruction}
use Rattle.xt_rows.specs.Outcomes.{outcome_at}
use Rattle.xt_rows.specs.Settling.{settled_interrupt}
use Rattle.xt_exec.specs.State.{State}
use Rattle.xt_exec.specs.TurnLaws.{IsShaped}
use Rattle.xt_exec.specs.Turn.{Planned, planned_turn, demand, turn, in_window, raises, overflow, underflow, window_step, entry_turn, return_turn, moved_stack, return_size, fall_through, is_illegal, window_check, outcome_turn, turn_or_overflow, fetched_turn, with_write, write_with_reply}
use Rattle.xt_exec.specs.Turn as turns
use Rattle.xt_exec.proofs.Finished.{turn_taken, turn_waits, turn_fetches}
use Rattle.xt_frames.specs.declared.holes.Nested.{Nested}
use Rattle.xt_frames.specs.Frames.{Frame, FrameState}
use Rattle.xt_frames.specs.FrameStep.{FrameTurn, with_inputs}
use Rattle.xt_frames.specs.Marks.{own_marks}
use Rattle.xt_frames.specs.Nesting.{nested_entry, nested_view, is_nesting}
use Rattle.xt_frames.specs.Breaches.{Bounds, lost_of}
use Rattle.xt_frames.specs.Judging.{step_on}
use Rattle.xt_frames.proofs.Inside.{step_begins}
use Rattle.xt_handlers.specs.declared.stretch.Side.{Side}
use Rattle.xt_handlers.specs.declared.stretch.Side.TheVariants.{Overflow, Underflow}
use Rattle.xt_simulation.specs.Relation.{Same, Even, inputs, lost_at, can_be_lost}
use Rattle.xt_simulation.specs.Cores.{Related}
use Rattle.xt_simulation.specs.InHandlers.{as_left}
use Rattle.xt_simulation.specs.Steps.{reply_now, record_now, state_now}
use Rattle.xt_simulation.specs.Handling.{Begins, Handling}
use Rattle.xt_simulation.specs.Nested.{IsInside, Suspends, NestedBegin, resumed_state}
use Rattle.xt_simulation.proofs.Carried.{Carries, carried}
use Rattle.xt_simulation.proofs.Closed.{epc1_lost, same_lost, same_overlaid}
use Rattle.xt_simulation.proofs.Evenly.{not_lost, same_ticked}
use Rattle.xt_simulation.proofs.Judges.{same_laid, shaped_silent}
use Rattle.xt_simulation.proofs.Kept.{none_in}
use Rattle.xt_simulation.proofs.Plans.{plan_asks, plan_state}
use Rattle.xt_simulation.proofs.Laid.{laid_after, laid_other, relaid}

-- ---- no instruction is an interrupt
if_quiet : (b : Bool) (p q : Planned) → is_nesting p.kind ≡ false → is_nesting q.kind ≡ false → is_nesting (cond b p q).kind ≡ false
if_quiet true p q x y = x
if_quiet false p q x y = y

overflow_quiet : (k : ℕ) (s : State) → is_nesting (overflow k s).kind ≡ false
unfolding overflow
overflow_quiet k s = refl

done_quiet : (o : Outcome) (len : ℕ) (s : State) → is_nesting (outcome_turn o len s).kind ≡ false
unfolding entry_turn return_turn turns.resuming_turn moved_stack underflow
done_quiet (Windowed (Enters number value)) len s = refl
done_quiet (Windowed (Returns a0)) len s = if_quiet (bit s.start (base_after_return s.base (return_size a0))) _ _ refl refl
done_quiet (Windowed (EndsOverflow epc1)) len s = refl
done_quiet (Windowed (EndsUnderflow epc1)) len s = refl
done_quiet (Windowed (Rotates n)) len s = refl
done_quiet (Windowed (MovesStack number value)) len s = if_quiet (eqb (behind s.start s.base) 0) (raises no_caller_window s) (window_step (write_to number value) (fall_through len s)) refl refl
done_quiet (Windowed (Reads register number)) len s = refl
done_quiet (Windowed (Sets register value)) len s = refl
done_quiet (Windowed (Exchanges register number value)) len s = refl
done_quiet (Does e) len s = refl
done_quiet (Raises cause address) len s = refl
done_quiet (Asks access awaited e) len s = refl
done_quiet Stops len s = refl

checked_quiet : (k : ℕ) (code : ℕ → ℕ) (i : Insn) (len : ℕ) (s : State) → is_nesting (turn_or_overflow k code i len s).kind ≡ false
checked_quiet zero code i len s = done_quiet (outcome_at code i (visible s.regs s.base) s.control) len s
checked_quiet (suc k) code i len s = overflow_quiet (suc k) s

fetched_quiet : (at : Fetched) (code : ℕ → ℕ) (s : State) → is_nesting (fetched_turn at code s).kind ≡ false
fetched_quiet (Fails address) code s = refl
fetched_quiet SpellsNothing code s = refl
fetched_quiet (Fetches i len) code s = if_quiet (is_illegal i s) (raises illegal_instruction s) (turn_or_overflow (window_check i s) code i len s) refl (checked_quiet (window_check i s) code i len s)

pub level_taken : (code : ℕ → ℕ) (s : State) → is_nesting (planned_turn code s).kind ≡ true → pending_of s.control ≡ 5
level_taken code s h = ⊎_elim
    (λ yes_. eqb-true (pending_of s.control) 5 (sym (ap (λ (p : Planned). is_nesting p.kind) (turn_taken code s yes_)) ∙ h))
    (λ quiet. ⊎_elim
    (λ waits. absurd (false≢true (sym (ap (λ (p : Planned). is_nesting p.kind) (turn_waits code s quiet waits)) ∙ h)))
    (λ runs. absurd (false≢true (sym (fetched_quiet (fetch_at code s.control.pc) code s) ∙ (sym (ap (λ (p : Planned). is_nesting p.kind) (turn_fetches code s quiet runs)) ∙ h))))
    (cases_Bool s.control.waits))
    (cases_Bool (ltb 0 (pending_of s.control)))

pub nesting_taken : (code : ℕ → ℕ) (s : State) → is_nesting (planned_turn code s).kind ≡ true → planned_turn code s ≡ in_window (settled_interrupt 5 s.control) s
nesting_taken code s h =
    let five = level_taken code s h in
    turn_taken code s (lt-ltb 0 (pending_of s.control) (omega (arith, five))) ∙ ap (λ n. in_window (settled_interrupt n s.control) s) five

-- ---- EPC5 and EPS5
-- they have no number then
abbrev unset_five : List Bool → List Bool
unset_five unset = set (set unset 181 true) 197 true

unset_other : (unset : List Bool) (k : ℕ) → k ≢ 181 → k ≢ 197 → get_or (unset_five unset) k false ≡ get_or unset k false
unset_other unset k not_epc not_eps = get_or-set_other (set unset 181 true) 197 k true false not_eps ∙ get_or-set_other unset 181 k true false not_epc

unset_only : (lost : ℕ → Bool) (unset : List Bool) → ((k : ℕ) → (lost k || get_or unset k false) ≡ true → can_be_lost k ≡ true)
    → (k : ℕ) → (lost k || get_or (unset_five unset) k false) ≡ true → can_be_lost k ≡ true
unset_only lost unset only k h = ⊎_elim
    (λ eps. rw eps refl)
    (λ not_eps. ⊎_elim
    (λ epc. rw epc refl)
    (λ not_epc. only k (ap (λ x. lost k || x) (sym (unset_other unset k not_epc not_eps)) ∙ h))
    (cases_eq k 181))
    (cases_eq k 197)

unset_known : (lost : ℕ → Bool) (unset : List Bool) → 197 < length unset → (k : ℕ) → (lost k || get_or (unset_five unset) k false) ≡ false
    → (k ≢ 181) × (k ≢ 197) × ((lost k || get_or unset k false) ≡ false)
unset_known lost unset long k h =
    let parts = or_parts (lost k) (get_or (unset_five unset) k false) h in
    let wide = length-set unset 181 true in
    let not_eps : k ≢ 197 = λ e. false≢true (sym parts.1 ∙ (ap (λ j. get_or (unset_five unset) j false) e ∙ get_or-set_same (set unset 181 true) 197 true false (omega arith))) in
    let not_epc : k ≢ 181 = λ e. false≢true (sym parts.1 ∙ (ap (λ j. get_or (unset_five unset) j false) e ∙ (get_or-set_other (set unset 181 true) 197 181 true false (λ z. omega arith) ∙ get_or-set_same unset 181 true false (omega arith)))) in (
      not_epc,
      not_eps,
      ap (λ x. lost k || x) (sym (unset_other unset k not_epc not_eps)) ∙ h,
    )

-- the interrupt saves PC and PS there
abbrev saved_five : List ℕ → ℕ → ℕ → List ℕ
saved_five xs pc ps = set (set xs 181 pc) 197 ps

five_other : (xs : List ℕ) (pc ps k : ℕ) → k ≢ 181 → k ≢ 197 → get_or (saved_five xs pc ps) k 0 ≡ get_or xs k 0
five_other xs pc ps k not_epc not_eps = get_or-set_other (set xs 181 pc) 197 k ps 0 not_eps ∙ get_or-set_other xs 181 k pc 0 not_epc

five_length : (xs : List ℕ) (pc ps : ℕ) → length (saved_five xs pc ps) ≡ length xs
five_length xs pc ps = length-set (set xs 181 pc) 197 ps ∙ length-set xs 181 pc

same_five : (lost : ℕ → Bool) (unset : List Bool) (xs ys : List ℕ) (pc ps other_pc other_ps : ℕ) → 197 < length unset → Same (λ k. lost k || get_or unset k false) xs ys
    → Same (λ k. lost k || get_or (unset_five unset) k false) (saved_five xs pc ps) (saved_five ys other_pc other_ps)
same_five lost unset xs ys pc ps other_pc other_ps long s = record {
  size = five_length xs pc ps ∙ (s.size ∙ sym (five_length ys other_pc other_ps));
  only = unset_only lost unset s.only;
  at = λ k h.
      let p = unset_known lost unset long k h in
      five_other xs pc ps k p.0 p.1 ∙ (s.at k p.2 ∙ sym (five_other ys other_pc other_ps k p.0 p.1));
}

-- ---- a handler step beside the frame state
record Opens (b : Bounds) (lost : ℕ → Bool) (before : State) (f : FrameState) : Type 0 where
  even : Even lost before.control (with_inputs (inputs 0 before) f).control
  woe : before.control.ps.woe ≡ true
  vectors : special_of before.control number.vecbase ≡ b.vecbase

opens_related : {m : ℕ → ℕ} {b : Bounds} {lost : ℕ → Bool} {before : State} {f : FrameState} {ring spilled : List Frame} → Related m b lost before f ring spilled → Opens b lost before f
opens_related r = record { even = r.plain.even; woe = r.plain.woe; vectors = r.plain.vectors }

opens : (side : Side) (m : ℕ → ℕ) (b : Bounds) (lost : ℕ → Bool) (before : State) (f : FrameState) (front : List Frame) (g : Frame) (rest : List Frame) → Begins side m b lost before f front g rest → Opens b lost before f
opens Overflow m b lost before f front g rest r = opens_related r
opens Underflow m b lost before f front g rest r = opens_related r

pub record Beside (b : Bounds) (s : State) (f : FrameState) : Type 0 where
  pub special : Same (lost_at false f) s.control.special (relaid s.control.special f.control.special)
  pub ps : s.control.ps ≡ record f.control.ps { owb = s.control.ps.owb; excm = true }
  pub threadptr : s.control.threadptr ≡ f.control.threadptr
  pub woe : s.control.ps.woe ≡ true
  pub vectors : special_of f.control number.vecbase ≡ b.vecbase

ps_beside : (p q r : Ps) (base : ℕ) → p ≡ record q { owb = base; excm = true } → q ≡ record r { owb = q.owb } → p ≡ record r { owb = p.owb; excm = true }
ps_beside p q r base e d =
    e ∙ (ap (λ (q : Ps). (let z : Ps = record q { owb = base; excm = true } in z)) d
    ∙ ap (λ o. (let z : Ps = record r { owb = o; excm = true } in z)) (sym (ap (λ (p : Ps). p.owb) e)))

pub beside : {code : ℕ → ℕ} {b : Bounds} {m : MemoryContents} {s : State} {f : FrameState} {before : State} {opened : ℕ → ℕ} → Handling code b m s f before opened → Beside b s f
beside {b = b} {s = s} {f = f} {before = before} {opened = opened} h =
    let o = opens h.side opened b (lost_at h.fresh f) before f h.front h.g h.rest h.begins in
    let count = special_of before.control 234 in
    let bits = special_of before.control 226 in
    record {
      special = same_lost (epc1_lost h.fresh f) (same_overlaid before.control.special f.control.special s.control.special count bits o.even.special h.control.size h.control.special);
      ps = ps_beside s.control.ps before.control.ps f.control.ps before.base h.control.ps o.even.ps;
      threadptr = h.control.threadptr ∙ o.even.threadptr;
      woe = ap (λ (p : Ps). p.woe) h.control.ps ∙ o.woe;
      vectors =
          sym (o.even.special.at 231 (not_lost o.even.special 231 refl) ∙ laid_other f.control.special count bits 231 (λ e. omega arith) (λ e. omega arith))
          ∙ o.vectors;
    }

-- ---- registers that hold neither number nor mark
own_place : (i k : ℕ) → get_or own_marks i None ≡ Some k → i ≡ k
own_place zero k e = ap (λ (o : Option ℕ). unwrap_or o 0) e
own_place (suc zero) k e = ap (λ (o : Option ℕ). unwrap_or o 0) e
own_place (suc (suc zero)) k e = ap (λ (o : Option ℕ). unwrap_or o 0) e
own_place (suc (suc (suc zero))) k e = ap (λ (o : Option ℕ). unwrap_or o 0) e
own_place (suc (suc (suc (suc i)))) k e = let n : None ≡ Some k = sym (none_in 12 i) ∙ e in absurd cc

-- ---- the step that begins one
module _ {b : Bounds} {s : State} {f : FrameState} (l : Beside b s f) (shaped : IsShaped s) (count : length f.unset ≡ 256) where
  abbrev taken : State
  taken = record s { control = after_tick (after_interrupt 5 s.control) }

  abbrev g : FrameState
  g = with_inputs (inputs 0 s) f

  abbrev framed : FrameState
  framed = (nested_entry g).after

  abbrev fresh_nested : Nested
  fresh_nested = record {
    pc = (after_interrupt 5 g.control).pc;
    seen = replicate 16 None;
    ps = (after_interrupt 5 g.control).ps;
    marks = own_marks;
    saved = replicate 256 None;
  }

  begun_nested : framed.nested ≡ Some fresh_nested
  begun_nested = refl

  begun_special : Same (lost_at false framed) taken.control.special (relaid taken.control.special framed.control.special)
  unfolding after_interrupt
  begun_special =
      laid_after (same_ticked _ _ (same_five (lost_of false) f.unset s.control.special g.control.special s.control.pc (ps_word s.control.ps) g.control.pc (ps_word g.control.ps) (omega arith) l.special))

  taken_other : (k : ℕ) → k ≢ 181 → k ≢ 197 → k ≢ 226 → k ≢ 234 → special_of taken.control k ≡ special_of s.control k
  unfolding after_interrupt
  taken_other k not_epc not_eps not_bits not_count =
      ticked_other (saved_five s.control.special s.control.pc (ps_word s.control.ps)) k not_bits not_count
      ∙ five_other s.control.special s.control.pc (ps_word s.control.ps) k not_epc not_eps

  taken_epc : special_of taken.control 181 ≡ s.control.pc
  unfolding after_interrupt
  taken_epc =
      let all = shaped.control.count in
      ticked_other (saved_five s.control.special s.control.pc (ps_word s.control.ps)) 181 (λ e. omega arith) (λ e. omega arith)
      ∙ (get_or-set_other (set s.control.special 181 s.control.pc) 197 181 (ps_word s.control.ps) 0 (λ e. omega arith)
      ∙ get_or-set_same s.control.special 181 s.control.pc 0 (omega arith))

  taken_eps : special_of taken.control 197 ≡ ps_word s.control.ps
  unfolding after_interrupt
  taken_eps =
      let all = shaped.control.count in
      let wide = length-set s.control.special 181 s.control.pc in
      ticked_other (saved_five s.control.special s.control.pc (ps_word s.control.ps)) 197 (λ e. omega arith) (λ e. omega arith)
      ∙ get_or-set_same (set s.control.special 181 s.control.pc) 197 (ps_word s.control.ps) 0 (omega arith)

  taken_even : Even (lost_at false framed) taken.control (with_inputs (inputs 0 taken) (nested_view fresh_nested framed)).control
  unfolding after_interrupt
  taken_even = record {
    pc = ap (λ v. v + 0x100 + 0x40 * 5) (l.special.at 231 (not_lost l.special 231 refl));
    ps = ap (λ (p : Ps). (let z : Ps = record p { intlevel = 5; excm = true } in z)) l.ps;
    threadptr = l.threadptr;
    waits = refl;
    special = begun_special;
  }

  pub begun_inside : IsInside s taken framed fresh_nested
  unfolding after_interrupt
  begun_inside = record {
    even = taken_even;
    level = refl;
    mode = refl;
    running = refl;
    woe = l.woe;
    epc = taken_epc;
    eps = taken_eps;
    base = refl;
    start = refl;
    size = refl;
    wide = refl;
    others = λ p spare. refl;
    numbers = λ i v e. (let n : None ≡ Some v = sym (none_in 16 i) ∙ e in absurd cc);
    marks = λ i k e. (ap (visible s.regs s.base) (own_place i k e), none_in 16 i);
    saved = λ n k e. (let z : None ≡ Some k = sym (none_in 256 n) ∙ e in absurd cc);
  }

  framed_vectors : special_of framed.control number.vecbase ≡ b.vecbase
  unfolding after_interrupt
  framed_vectors =
      ticked_other (saved_five g.control.special g.control.pc (ps_word g.control.ps)) 231 (λ e. omega arith) (λ e. omega arith)
      ∙ (five_other g.control.special g.control.pc (ps_word g.control.ps) 231 (λ e. omega arith) (λ e. omega arith)
      ∙ (laid_other f.control.special (special_of s.control 234) (special_of s.control 226) 231 (λ e. omega arith) (λ e. omega arith)
      ∙ l.vectors))

  pub begun_carries : IsShaped taken → Carries b s (resumed_state s taken) f framed
  unfolding after_interrupt
  begun_carries t = record {
    regs = refl;
    base = refl;
    start = refl;
    pc = refl;
    ps = refl;
    epc1 = taken_other 177 (λ e. omega arith) (λ e. omega arith) (λ e. omega arith) (λ e. omega arith);
    running = refl;
    special = begun_special;
    threadptr = l.threadptr;
    awake = refl;
    count = t.control.count;
    words = t.control.words;
    shape = t.control.shape;
    pointer = t.control.threadptr;
    vectors = framed_vectors;
    seen = refl;
    frames = refl;
    framed_pc = refl;
    framed_ps = λ owb. refl;
  }

-- ---- as a step of both machines
pub state_taken : (code : ℕ → ℕ) (s : State) (reply : ℕ) → planned_turn code s ≡ in_window (settled_interrupt 5 s.control) s → (turn code s reply).1 ≡ record s { control = after_tick (after_interrupt 5 s.control) }
state_taken code s reply is = plan_state code s (in_window (settled_interrupt 5 s.control) s) is reply

pub nesting_now : (code : ℕ → ℕ) (m : MemoryContents) (s : State) → is_nesting (planned_turn code s).kind ≡ true → is_nesting (record_now code m s).kind ≡ true
unfolding turn
nesting_now code m s nesting = nesting

pub asks_nothing : (code : ℕ → ℕ) (s : State) → planned_turn code s ≡ in_window (settled_interrupt 5 s.control) s → demand code s ≡ None
asks_nothing code s is = plan_asks code s (in_window (settled_interrupt 5 s.control) s) is

pub taken_begin : NestedBegin
taken_begin code bytes b good m s f before opened h none shaped count nesting =
    let is = nesting_taken code s nesting in
    let state = state_taken code s (reply_now code m s) is in
    let step = step_begins code (record_now code m s) f (nesting_now code m s nesting) none ∙ ap nested_entry (same_laid code s (reply_now code m s) f shaped.control.ps.owb_fits) in
    let l = beside h in
    let next : IsShaped (state_now code m s) = shaped_silent code m s bytes shaped (asks_nothing code s is) in
    let P : State → Type 0 = λ t. IsShaped t in
    let Q : State → Type 0 = λ t. Suspends code b m t (step_on code true (record_now code m s) f).after (as_left before s t) opened s in
    let R : FrameTurn → Type 0 = λ u. Suspends code b m (record s { control = after_tick (after_interrupt 5 s.control) }) u.after (as_left before s (record s { control = after_tick (after_interrupt 5 s.control) })) opened s in
    subst Q (sym state) (subst R (sym step) (record {
      x = fresh_nested l shaped count;
      nested = begun_nested l shaped count;
      inside = begun_inside l shaped count;
      handling = carried (begun_carries l shaped count (subst P state next)) h;
    }))
