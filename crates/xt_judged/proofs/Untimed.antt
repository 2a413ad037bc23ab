-- A step of the machine with unbounded frames from states that are equal but for time.
use Rattle.std.proofs.Common.{◌≡◌, ℕ, ◌*◌, Bool, true, false, cond, nat_lt, Option, Some, None, List, [], ◌∷◌, bit_and, slice_set, take, refl, sym, ap, subst, ⊎_elim}
use Rattle.xt_isa.specs.declared.Insn.{Insn}
use Rattle.xt_special.specs.Control.{Control, special_of}
use Rattle.xt_special.specs.Access.{SpecialWrites, with_sets}
use Rattle.xt_special.specs.Timers.{after_tick}
use Rattle.xt_special.specs.Interrupts.{after_interrupt, pending_level, pending_of}
use Rattle.xt_special.specs.Exceptions.{after_exception}
use Rattle.xt_trace.specs.declared.record.RegWrite.{RegWrite}
use Rattle.xt_trace.specs.declared.record.StepKind.{StepKind}
use Rattle.xt_map.specs.Fetching.{Fetched, Fetches, Fails, SpellsNothing, fetch_at}
use Rattle.xt_rows.specs.declared.outcome.Effect.{Effect}
use Rattle.xt_rows.specs.declared.outcome.Flow.TheVariants.{Falls}
use Rattle.xt_rows.specs.declared.outcome.WindowStep.{WindowStep}
use Rattle.xt_rows.specs.declared.outcome.WindowStep.TheVariants.{Enters, Returns}
use Rattle.xt_rows.specs.declared.outcome.Outcome.{Outcome}
use Rattle.xt_rows.specs.declared.outcome.Outcome.TheVariants.{Does, Raises, Asks, Stops, Windowed}
use Rattle.xt_rows.specs.Effects.{fetch_error, illegal_instruction}
use Rattle.xt_rows.specs.Outcomes.{outcome_at}
use Rattle.xt_rows.specs.Settling.{Executed, Kind, Raised, Settled, Stopped, Taken, Waited, after_effect, after_flow, return_pc, after_outcome, settled_exception, settled_interrupt, settled_wait, without_access, write_with_reply}
use Rattle.xt_frames.specs.Frames.{Frame, FrameState, value_or_zero, seen_after_call, seen_after_return, seen_after_write}
use Rattle.xt_frames.specs.FrameStep.{FrameTurn, done_in_frame, fetched_step, in_frame, step_with_inputs, return_in_frame, return_to_frame, entry_in_frame, exception_in_frame, windowed_in_frame}
use Rattle.xt_timeless.specs.Time.{timer_bits}
use Rattle.xt_judged.specs.Forgotten.{IsKeptFrame}
use Rattle.xt_timeless.specs.Alike.{AreAlike, Clocks, Compare, Difference, IsRanged, Timers, fetches_difference}
use Rattle.xt_timeless.proofs.Keeping.{IsKept, kept, kept_effect, kept_exception, kept_flow, kept_interrupt, kept_pending, kept_tick, sets_alike, with_special}
use Rattle.xt_timeless.proofs.Same.{AreAlikeOutcomes, outcomes_alike}

-- ---- what a step needs

-- INTENABLE has the bit of no timer, if these may differ
abbrev pub IsQuiet : Difference → ℕ → Type 0
IsQuiet Timers enabled = bit_and enabled timer_bits ≡ 0
IsQuiet Clocks enabled = bit_and enabled timer_bits ≡ 0
IsQuiet Compare enabled = Unit {0}

-- the operands of what is fetched are in range, if time may differ
abbrev pub AreRanged : Difference → (ℕ → ℕ) → Type 0
AreRanged gap code = (pc : ℕ) (i : Insn) (len : ℕ) → fetch_at code pc ≡ Fetches i len → IsRanged gap i

pub kept_level : (gap : Difference) (c : Control) (ys : List ℕ) → AreAlike gap c.special ys → IsQuiet gap (special_of c 228) → pending_of c ≡ pending_of (with_special c ys)
kept_level Timers c ys a none = kept_pending c ys a none
kept_level Clocks c ys a none = kept_pending c ys a none
kept_level Compare c ys a none = λ i. pending_level (a.same 226 refl i) (a.same 228 refl i) c.ps

-- ---- what is the same but for time

pub kept_control : {gap : Difference} → (f : FrameState) (c d : Control) → IsKept gap c d → IsKeptFrame gap (record f { control = c }) (record f { control = d })
kept_control f c d k = record { list = k.list; alike = k.alike; is = ap (λ (x : Control). let t : FrameState = record f { control = x } in t) k.is }

pub record AreKeptTurns (gap : Difference) (u v : FrameTurn) : Type 0 where
  pub kind : u.kind ≡ v.kind
  pub write : u.write ≡ v.write
  pub access : u.access ≡ v.access
  pub after : IsKeptFrame gap u.after v.after

pub record AreKeptSettled (gap : Difference) (t s : Settled) : Type 0 where
  pub kind : t.kind ≡ s.kind
  pub write : t.write ≡ s.write
  pub access : t.access ≡ s.access
  pub awaited : t.awaited ≡ s.awaited
  pub control : IsKept gap t.control s.control

pub bare_kept : {gap : Difference} → (what : Kind) (write : Option RegWrite) (c d : Control) → IsKept gap c d → AreKeptSettled gap (without_access what write c) (without_access what write d)
bare_kept what write c d k = record { kind = refl; write = refl; access = refl; awaited = refl; control = kept_tick c d k }

pub in_frame_kept : {gap : Difference} → (t s : Settled) (reply : ℕ) (f : FrameState) (d : Control) → AreKeptSettled gap t s → AreKeptTurns gap (in_frame t reply f) (in_frame s reply (record f { control = d }))
in_frame_kept t s reply f d k =
    let wrote : write_with_reply t.write t.awaited reply ≡ write_with_reply s.write s.awaited reply = λ i. write_with_reply (k.write i) (k.awaited i) reply in
    let make : Option RegWrite → Control → FrameState = λ w c. record f { seen = seen_after_write w f.seen; control = c } in
    let back : write_with_reply s.write s.awaited reply ≡ write_with_reply t.write t.awaited reply = sym wrote in
    record {
      kind = ap kind_of_kind k.kind;
      write = wrote;
      access = k.access;
      after = record { list = k.control.list; alike = k.control.alike; is = λ i. make (back i) (k.control.is i) };
    }
  where
    kind_of_kind : Kind → StepKind
    kind_of_kind what = (in_frame (record t { kind = what }) reply f).kind

chosen_kept : {gap : Difference} → (b : Bool) (p q r s : FrameTurn) → AreKeptTurns gap p q → AreKeptTurns gap r s → AreKeptTurns gap (cond b p r) (cond b q s)
chosen_kept true p q r s h k = h
chosen_kept false p q r s h k = k

module _ {gap : Difference} (f : FrameState) (ys : List ℕ) (a : AreAlike gap f.control.special ys) where
  abbrev g : FrameState
  g = record f { control = with_special f.control ys }

  raised_kept : (cause : ℕ) (address : Option ℕ) (reply : ℕ) → AreKeptTurns gap (in_frame (settled_exception cause address f.control) reply f) (in_frame (settled_exception cause address g.control) reply g)
  raised_kept cause address reply =
      in_frame_kept (settled_exception cause address f.control) (settled_exception cause address g.control) reply f g.control
      (bare_kept (Raised cause) None (after_exception cause address f.control) (after_exception cause address g.control) (kept_exception f.control ys a cause address))

  -- ---- steps of windows

  pushed_kept : (number value len : ℕ) → AreKeptTurns gap (entry_in_frame number value len f) (entry_in_frame number value len g)
  unfolding entry_in_frame
  pushed_kept number value len =
      let n = f.control.ps.callinc in
      record {
        kind = refl;
        write = refl;
        access = refl;
        after = kept_control (record f { seen = slice_set (seen_after_call f.seen n) number (Some value); frames = record { by = n; kept = take (4 * n) f.seen } ∷ f.frames })
            (after_tick (after_flow Falls len f.control)) (after_tick (after_flow Falls len g.control)) (kept_tick (after_flow Falls len f.control) (after_flow Falls len g.control) (kept_flow f.control ys a Falls len));
      }

  popped_from_kept : (fs : List Frame) (a0 : ℕ) → AreKeptTurns gap (return_to_frame fs a0 f) (return_to_frame fs a0 g)
  popped_from_kept [] a0 = raised_kept illegal_instruction None 0
  popped_from_kept (h ∷ rest) a0 =
      let c : Control = record f.control { pc = return_pc f.control.pc a0 } in
      record {
        kind = refl;
        write = refl;
        access = refl;
        after = kept_control (record f { seen = seen_after_return h.kept f.seen h.by; frames = rest }) (after_tick c) (after_tick (with_special c ys)) (kept_tick c (with_special c ys) (kept c ys a));
      }

  popped_kept : (a0 : ℕ) → AreKeptTurns gap (return_in_frame a0 f) (return_in_frame a0 g)
  unfolding return_in_frame
  popped_kept a0 = popped_from_kept f.frames a0

  windowed_kept : (step : WindowStep) (len reply : ℕ) → AreKeptTurns gap (windowed_in_frame step len reply f) (windowed_in_frame step len reply g)
  windowed_kept (Enters number value) len reply =
      chosen_kept f.control.ps.excm (exception_in_frame illegal_instruction None f) (exception_in_frame illegal_instruction None g) (entry_in_frame number value len f) (entry_in_frame number value len g)
      (raised_kept illegal_instruction None 0) (pushed_kept number value len)
  windowed_kept (Returns a0) len reply =
      chosen_kept f.control.ps.excm (exception_in_frame illegal_instruction None f) (exception_in_frame illegal_instruction None g) (return_in_frame a0 f) (return_in_frame a0 g) (raised_kept illegal_instruction None 0) (popped_kept a0)
  windowed_kept step len reply =
      in_frame_kept (after_outcome (Windowed step) len f.control) (after_outcome (Windowed step) len g.control) reply f g.control (bare_kept Executed None f.control g.control (kept f.control ys a))

  -- ---- outcomes

  does_kept : (e : Effect) (sets : SpecialWrites) (len reply : ℕ) → AreAlike gap (with_sets e.sets f.control.special) (with_sets sets ys)
      → AreKeptTurns gap (done_in_frame (Does e) len reply f) (done_in_frame (Does (record e { sets = sets })) len reply g)
  does_kept e sets len reply al =
      in_frame_kept (after_outcome (Does e) len f.control) (after_outcome (Does (record e { sets = sets })) len g.control) reply f g.control
      (bare_kept Executed e.write (after_effect e len f.control) (after_effect (record e { sets = sets }) len g.control) (kept_effect e sets len f.control ys al))

  outcome_kept : (o : Outcome) (len reply : ℕ) → AreKeptTurns gap (done_in_frame o len reply f) (done_in_frame o len reply g)
  outcome_kept (Does e) len reply = does_kept e e.sets len reply (sets_alike e.sets f.control.special ys a)
  outcome_kept (Raises cause address) len reply = raised_kept cause address reply
  outcome_kept (Asks access awaited e) len reply =
      in_frame_kept (after_outcome (Asks access awaited e) len f.control) (after_outcome (Asks access awaited e) len g.control) reply f g.control
      (record {
        kind = refl;
        write = refl;
        access = refl;
        awaited = refl;
        control = kept_tick (after_effect e len f.control) (after_effect e len g.control) (kept_effect e e.sets len f.control ys (sets_alike e.sets f.control.special ys a));
      })
  outcome_kept Stops len reply =
      in_frame_kept (after_outcome Stops len f.control) (after_outcome Stops len g.control) reply f g.control (bare_kept Stopped None f.control g.control (kept f.control ys a))
  outcome_kept (Windowed step) len reply = windowed_kept step len reply

  done_kept : (o p : Outcome) (len reply : ℕ) → AreAlikeOutcomes gap f.control.special ys o p → AreKeptTurns gap (done_in_frame o len reply f) (done_in_frame p len reply g)
  done_kept o p len reply h =
      ⊎_elim
      (λ (e : o ≡ p). subst (λ (q : Outcome). AreKeptTurns gap (done_in_frame o len reply f) (done_in_frame q len reply g)) e (outcome_kept o len reply))
      (λ (d : (e : Effect) × (sets : SpecialWrites) × (o ≡ Does e) × (p ≡ Does (record e { sets = sets })) × AreAlike gap (with_sets e.sets f.control.special) (with_sets sets ys)).
      subst (λ (q : Outcome). AreKeptTurns gap (done_in_frame q len reply f) (done_in_frame p len reply g)) (sym d.2)
      (subst (λ (q : Outcome). AreKeptTurns gap (done_in_frame (Does d.0) len reply f) (done_in_frame q len reply g)) (sym d.3) (does_kept d.0 d.1 len reply d.4)))
      h

  -- ---- the stages of a step

  fetched_kept : (at : Fetched) (code : ℕ → ℕ) (reply : ℕ) → ((i : Insn) (len : ℕ) → at ≡ Fetches i len → IsRanged gap i) → fetches_difference gap at ≡ false
      → AreKeptTurns gap (fetched_step at code reply f) (fetched_step at code reply g)
  fetched_kept (Fails address) code reply ok free = raised_kept fetch_error (Some address) 0
  fetched_kept SpellsNothing code reply ok free = raised_kept illegal_instruction None 0
  fetched_kept (Fetches i len) code reply ok free =
      done_kept (outcome_at code i (value_or_zero f.seen) f.control) (outcome_at code i (value_or_zero f.seen) (with_special f.control ys)) len reply
      (outcomes_alike code (value_or_zero f.seen) f.control ys a i (ok i len refl) free)

  pub laid_step_kept : (code : ℕ → ℕ) (reply : ℕ) → AreRanged gap code → IsQuiet gap (special_of f.control 228) → fetches_difference gap (fetch_at code f.control.pc) ≡ false
      → AreKeptTurns gap (step_with_inputs code reply f) (step_with_inputs code reply g)
  unfolding step_with_inputs
  laid_step_kept code reply ranged none free =
      subst (λ (l : ℕ). AreKeptTurns gap (body (pending_of f.control) f) (body l g)) (kept_level gap f.control ys a none) (by_tests (nat_lt 0 (pending_of f.control)) f.control.waits)
    where
      choice : Bool → Bool → ℕ → FrameState → FrameTurn
      choice b w l u = cond b (in_frame (settled_interrupt l u.control) reply u) (cond w (in_frame (settled_wait u.control) reply u) (fetched_step (fetch_at code f.control.pc) code reply u))

      body : ℕ → FrameState → FrameTurn
      body l u = choice (nat_lt 0 l) f.control.waits l u

      by_tests : (b w : Bool) → AreKeptTurns gap (choice b w (pending_of f.control) f) (choice b w (pending_of f.control) g)
      by_tests true w =
          in_frame_kept (settled_interrupt (pending_of f.control) f.control) (settled_interrupt (pending_of f.control) g.control) reply f g.control
          (bare_kept (Taken (pending_of f.control)) None (after_interrupt (pending_of f.control) f.control) (after_interrupt (pending_of f.control) g.control) (kept_interrupt f.control ys a (pending_of f.control)))
      by_tests false true = in_frame_kept (settled_wait f.control) (settled_wait g.control) reply f g.control (bare_kept Waited None f.control g.control (kept f.control ys a))
      by_tests false false = fetched_kept (fetch_at code f.control.pc) code reply (λ i len e. ranged f.control.pc i len e) free
