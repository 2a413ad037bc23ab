-- A step of the frame machine that writes SCOMPARE1, from states that are equal but for it.
use Rattle.std.proofs.Common.{◌≡◌, ℕ, Bool, true, false, cond, eqb, nat_lt, Option, Some, None, List, slice_index, slice_set, refl, sym, ap, ◌∙◌, subst}
use Rattle.std.proofs.lemmas.Bool.{eqb-true, true≢false}
use Rattle.std.proofs.lemmas.List.{set-set}
use Rattle.xt_isa.specs.declared.Insn.TheVariants as insn
use Rattle.xt_isa.specs.declared.system.System.TheVariants as system
use Rattle.xt_isa.specs.declared.system.SpecialName.TheVariants as SpecialName
use Rattle.xt_special.specs.Access.{value_kept}
use Rattle.xt_special.specs.Control.{Control}
use Rattle.xt_special.specs.Interrupts.{pending_of}
use Rattle.xt_map.specs.Fetching.{Fetched, Fetches, Fails, SpellsNothing, fetch_at}
use Rattle.xt_rows.specs.Operands.{reads, special_reads}
use Rattle.xt_rows.specs.Outcomes.{outcome, outcome_at, system_outcome, value_of}
use Rattle.xt_rows.specs.declared.outcome.Flow.TheVariants.{Falls}
use Rattle.xt_rows.specs.Settling.{Executed, after_effect, after_flow, settled_interrupt, settled_wait, without_access}
use Rattle.xt_frames.specs.Frames.{FrameState, value_or_zero}
use Rattle.xt_frames.specs.FrameStep.{FrameTurn, done_in_frame, fetched_step, in_frame, step_with_inputs}
use Rattle.xt_timeless.specs.Time.{fetches_write}
use Rattle.xt_timeless.specs.Alike.{AreAlike, Compare}
use Rattle.xt_timeless.proofs.Comparing.{only_compare}
use Rattle.xt_timeless.proofs.Keeping.{with_special}
use Rattle.std.proofs.lemmas.Option.{none-some}
use Rattle.xt_trace.specs.declared.record.StepRecord.{StepRecord}
use Rattle.xt_frames.specs.declared.holes.Nested.{Nested}
use Rattle.xt_frames.specs.FrameStep.{with_inputs}
use Rattle.xt_frames.specs.Nesting.{plain_turn, turn_in, unset_after}
use Rattle.xt_frames.specs.Breaches.{inputs_of}
use Rattle.xt_frames.specs.Judging.{step_on, value_in}
use Rattle.xt_judged.proofs.Untimed.{kept_level}
use Rattle.xt_judged.proofs.Stepping.{found_kept}

module _ (code : ℕ → ℕ) (reply : ℕ) (f : FrameState) where
  abbrev other : List ℕ → FrameState
  other ys = record f { control = with_special f.control ys }

  -- SCOMPARE1 with any value before
  module _ (v : ℕ) where
    abbrev g : FrameState
    g = record f { control = with_special f.control (slice_set f.control.special 12 v) }

    outcome_written : (r n len : ℕ) → eqb n 12 ≡ true
        → done_in_frame (outcome_at code (insn.System (system.Special SpecialName.Wsr r n)) (value_or_zero f.seen) g.control) len reply g
        ≡ done_in_frame (outcome_at code (insn.System (system.Special SpecialName.Wsr r n)) (value_or_zero f.seen) f.control) len reply f
    unfolding outcome special_reads system_outcome after_effect
    outcome_written r n len is =
        subst
        (λ (k : ℕ). done_in_frame (outcome_at code (insn.System (system.Special SpecialName.Wsr r k)) (value_or_zero f.seen) g.control) len reply g
        ≡ done_in_frame (outcome_at code (insn.System (system.Special SpecialName.Wsr r k)) (value_or_zero f.seen) f.control) len reply f)
        (sym (eqb-true n 12 is)) here
      where
        here : done_in_frame (outcome_at code (insn.System (system.Special SpecialName.Wsr r 12)) (value_or_zero f.seen) g.control) len reply g
            ≡ done_in_frame (outcome_at code (insn.System (system.Special SpecialName.Wsr r 12)) (value_or_zero f.seen) f.control) len reply f
        here =
            let w = value_kept 12 (value_of (value_or_zero f.seen) (reads (insn.System (system.Special SpecialName.Wsr r 12))).0) 0 in
            let after : List ℕ → FrameTurn = λ xs.
            in_frame
            (without_access Executed None
            (after_flow Falls len (let c : Control = record { pc = f.control.pc; special = xs; ps = f.control.ps; threadptr = f.control.threadptr; waits = false } in c)))
            reply f
            in
            ap after (set-set f.control.special 12 v w)

    fetched_written : (at : Fetched) → fetches_write at ≡ true → fetched_step at code reply g ≡ fetched_step at code reply f
    fetched_written (Fails address) h = absurd (true≢false (sym h))
    fetched_written SpellsNothing h = absurd (true≢false (sym h))
    fetched_written (Fetches (insn.System (system.Special SpecialName.Wsr r n)) len) h = outcome_written r n len h
    fetched_written (Fetches _ len) h = absurd (true≢false (sym h))

    step_written : pending_of f.control ≡ pending_of g.control → pending_of f.control ≡ 0 → f.control.waits ≡ false → fetches_write (fetch_at code f.control.pc) ≡ true
        → step_with_inputs code reply g ≡ step_with_inputs code reply f
    unfolding step_with_inputs
    step_written level none awake h =
        (λ i. choice (nat_lt 0 (here i)) (awake i) (here i) g) ∙ fetched_written (fetch_at code f.control.pc) h ∙ sym (λ i. choice (nat_lt 0 (none i)) (awake i) (none i) f)
      where
        here : pending_of g.control ≡ 0
        here = sym level ∙ none

        choice : Bool → Bool → ℕ → FrameState → FrameTurn
        choice b w l u = cond b (in_frame (settled_interrupt l u.control) reply u) (cond w (in_frame (settled_wait u.control) reply u) (fetched_step (fetch_at code f.control.pc) code reply u))

  -- an instruction that writes SCOMPARE1 leaves the same
  pub frame_written : (ys : List ℕ) → AreAlike Compare f.control.special ys → pending_of f.control ≡ 0 → f.control.waits ≡ false → fetches_write (fetch_at code f.control.pc) ≡ true
      → step_with_inputs code reply (record f { control = with_special f.control ys }) ≡ step_with_inputs code reply f
  frame_written ys a none awake h =
      let v = slice_index ys 12 in
      let is = only_compare f.control.special ys a in
      ap (λ (zs : List ℕ). step_with_inputs code reply (other zs)) is
      ∙ step_written v (subst (λ (zs : List ℕ). pending_of f.control ≡ pending_of (with_special f.control zs)) is (kept_level Compare f.control ys a tt)) none awake h

-- ---- a step on a record

-- it executes an instruction that writes SCOMPARE1
pub record IsWriting (code : ℕ → ℕ) (rec : StepRecord) (f : FrameState) : Type 0 where
  pub level : pending_of (with_inputs (inputs_of rec) f).control ≡ 0
  pub awake : f.control.waits ≡ false
  pub writes : fetches_write (fetch_at code f.control.pc) ≡ true

module _ (code : ℕ → ℕ) (rec : StepRecord) (f : FrameState) (ys : List ℕ) (a : AreAlike Compare f.control.special ys) where
  abbrev laid : FrameState
  laid = with_inputs (inputs_of rec) f

  plain_written : IsWriting code rec f → plain_turn code (inputs_of rec) (record f { control = with_special f.control ys }) ≡ plain_turn code (inputs_of rec) f
  plain_written w =
      let k = found_kept f ys a rec rec.ccount rec.interrupt (record { bits = refl; levels = λ x. refl; count = λ x. refl }) None in
      let with_numbers : FrameTurn → FrameTurn = λ u. record u { after = record u.after { unset = unset_after u.kind (fetch_at code f.control.pc) f.unset } } in
      ap (λ (q : FrameState). with_numbers (step_with_inputs code rec.reply q)) k.is
      ∙ ap with_numbers (frame_written code rec.reply laid k.list k.alike w.level w.awake w.writes)

  turn_written : (n : Option Nested) → n ≡ None → IsWriting code rec f
      → turn_in n code (value_in rec.write) (inputs_of rec) (record f { control = with_special f.control ys }) ≡ turn_in n code (value_in rec.write) (inputs_of rec) f
  turn_written None plain w = plain_written w
  turn_written (Some x) plain w = absurd (none-some x (sym plain))

  -- outside nested interrupts
  pub on_written : f.nested ≡ None → IsWriting code rec f
      → step_on code false rec (record f { control = with_special f.control ys }) ≡ step_on code false rec f
  on_written plain w = turn_written f.nested plain w
