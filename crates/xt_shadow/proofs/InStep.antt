-- A turn that is made in step is a step of the frames that shows no breach.
use Rattle.std.proofs.Common.{◌≡◌, ℕ, ◌+◌, ◌%◌, ◌<◌, eqb, Bool, true, false, not, List, Option, Some, None, sym, ap, ◌∙◌, refl, arith, subst, get_or}
use Rattle.std.specs.Prelude.{is_some, unwrap_or}
use Rattle.std.proofs.Math.ListN.{set}
use Rattle.std.proofs.lemmas.Bool.{and_left, ne_eqb, or_from}
use Rattle.std.proofs.lemmas.List.{set-get_or}
use Rattle.xt_special.specs.Control.{Control, special_of}
use Rattle.xt_window.specs.Ring.{visible}
use Rattle.xt_trace.specs.declared.record.RegWrite.{RegWrite}
use Rattle.xt_trace.specs.declared.record.StepKind.TheVariants as kind
use Rattle.xt_trace.specs.declared.record.StepRecord.{StepRecord}
use Rattle.xt_rows.specs.declared.outcome.Effect.{Effect}
use Rattle.xt_rows.specs.declared.outcome.Outcome.{Outcome}
use Rattle.xt_rows.specs.Operands.{reads, special_reads}
use Rattle.xt_rows.specs.Outcomes.{outcome_at, value_of}
use Rattle.xt_rows.specs.RowLaws.{IsAny, IsProperWrite}
use Rattle.xt_rows.specs.Settling.{after_outcome, write_with_reply}
use Rattle.xt_exec.specs.State.{State}
use Rattle.xt_exec.specs.Turn.{turn}
use Rattle.xt_frames.specs.declared.breach.Limits.{Limits}
use Rattle.xt_frames.specs.declared.holes.UndefinedParts.{UndefinedParts}
use Rattle.xt_frames.specs.Frames.{Frame, FrameState, all_set, value_or_zero, seen_after_write}
use Rattle.xt_frames.specs.FrameStep.{done_in_frame, with_inputs}
use Rattle.xt_frames.specs.Breaches.{inputs_of, is_sp, is_unset, lacks, loads_stale, reads_lost, touches_save_area}
use Rattle.xt_frames.specs.KeptFrameState.{Upper, state_at}
use Rattle.xt_frames.specs.Quick.{IsRow, IsTurn, turn_at}
use Rattle.xt_frames.specs.Walked.{Walked, bounds_of, found_in, fresh_before, walked_past}
use Rattle.xt_frames.proofs.Mild.{IsStill, quick_or}
use Rattle.xt_frames.proofs.Quickly.{IsOver, quick_judged}
use Rattle.xt_frames.specs.Levels.{with_epc1}
use Rattle.xt_shadow.specs.InStep.{AgreesAt, IsNoEpc1, IsReady}
use Rattle.xt_shadow.proofs.Bystander.{effect_past, other_is, pending_is}
use Rattle.xt_shadow.proofs.Counts.{has_number}
use Rattle.xt_shadow.proofs.Executed.{Headed, Makes, Ran, does, asks, headed, ran_of, spares, writes_proper}

-- ---- what the instruction reads
value_agrees : (seen : List (Option ℕ)) (s : State) (o : Option ℕ) → AgreesAt seen s o → value_of (visible s.regs s.base) o ≡ value_of (value_or_zero seen) o
value_agrees seen s None a = refl
value_agrees seen s (Some k) a = sym (ap (λ (o : Option ℕ). unwrap_or o 0) a)

none_lacks : (seen : List (Option ℕ)) (s : State) (o : Option ℕ) → AgreesAt seen s o → lacks seen o ≡ false
none_lacks seen s None a = refl
none_lacks seen s (Some k) a = ap (λ (o : Option ℕ). not (is_some o)) a

special_agrees : (x : ℕ) (c : Control) (o : Option ℕ) → IsNoEpc1 o → value_of (special_of c) o ≡ value_of (special_of (with_epc1 x c)) o
special_agrees x c None other = refl
special_agrees x c (Some k) other = sym (other_is x c k other)

all_numbers : (o : Option ℕ) → is_unset all_set o ≡ false
all_numbers None = refl
all_numbers (Some k) = has_number k

none_lost : (fresh : Bool) (o : Option ℕ) → IsNoEpc1 o → reads_lost fresh o ≡ false
none_lost fresh None other = refl
none_lost fresh (Some k) other = and_left (eqb k 177) (not fresh) (ne_eqb k 177 other)

-- ---- the step
module _ (code : ℕ → ℕ) (f : FrameState) (seen : List (Option ℕ)) (vecbase : ℕ) (s t : State) (rec : StepRecord) (r : IsReady code vecbase seen s)
    (made : ◌≡◌ {A = StepRecord × State} (rec, t) (turn code s rec.reply)) (insn : rec.kind ≡ kind.Insn)
    (plain : f.nested ≡ None) (numbers : f.unset ≡ all_set) (owb : s.control.ps.owb < 16)
  where
    abbrev x : ℕ
    x = special_of f.control 177

    abbrev h : UndefinedParts
    h = record { unset = f.unset; nested = f.nested }

    -- the frames before and after it
    abbrev v : Upper
    v = record { seen = seen; control = with_epc1 x s.control }

    abbrev w : Upper
    w = record { seen = seen_after_write rec.write seen; control = with_epc1 x t.control }

    abbrev o : Outcome
    o = outcome_at code r.i (visible s.regs s.base) s.control

    ran : Ran o r.len s t rec
    ran = (ran_of code r.i r.len s t rec r.common r.quiet r.goes r.at made insn).ran

    abbrev e : Effect
    e = (ran_of code r.i r.len s t rec r.common r.quiet r.goes r.at made insn).e

    makes : Makes o e
    makes = (ran_of code r.i r.len s t rec r.common r.quiet r.goes r.at made insn).makes

    same_outcome : o ≡ outcome_at code r.i (value_or_zero seen) (with_epc1 x s.control)
    same_outcome =
        let a = value_agrees seen s (reads r.i).0 r.first in
        let b = value_agrees seen s (reads r.i).1 r.second in
        let c = special_agrees x s.control (special_reads r.i).0 r.special in
        let d = special_agrees x s.control (special_reads r.i).1 r.other in
        cc

    -- the inputs of the record are what the frames have
    laid : (frames : List Frame) → state_at frames h v ≡ with_inputs (inputs_of rec) (state_at frames h v)
    laid frames =
        let k : Headed s rec = headed code s t rec made in
        let sp = (with_epc1 x s.control).special in
        let a : rec.ccount ≡ get_or sp 234 0 = k.ccount ∙ sym (other_is x s.control 234 (λ e. omega arith)) in
        let b : rec.interrupt ≡ get_or sp 226 0 = k.interrupt ∙ sym (other_is x s.control 226 (λ e. omega arith)) in
        let d : rec.owb % 16 ≡ s.control.ps.owb = (let q = k.owb in omega (arith, q, owb)) in
        let first : set sp 234 rec.ccount ≡ sp = ap (λ (n : ℕ). set sp 234 n) a ∙ set-get_or sp 234 0 in
        let second : set (set sp 234 rec.ccount) 226 rec.interrupt ≡ sp = ap (λ (l : List ℕ). set l 226 rec.interrupt) first ∙ (ap (λ (n : ℕ). set sp 226 n) b ∙ set-get_or sp 226 0) in
        let F : List ℕ → ℕ → FrameState = λ l n. record (state_at frames h v) { control = record s.control { special = l; ps = record s.control.ps { owb = n } } } in
        sym (λ i. F (second i) (d i))

    still : IsStill (record { lo = 0; hi = 0; vecbase = vecbase }) code r.i r.len h v
    still = record {
      plain = plain;
      rest = record {
        quiet = pending_is x s.control ∙ r.quiet;
        goes = r.goes;
        excm = r.excm;
        vectors = other_is x s.control 231 (λ e. omega arith) ∙ r.vectors;
        outside = r.outside;
      };
      at = r.at;
    }

    abbrev W : Option RegWrite
    W = write_with_reply (after_outcome o r.len s.control).write (after_outcome o r.len s.control).awaited rec.reply

    -- by the form of what comes of it
    by_form : (q : Outcome) → Makes q e → (frames : List Frame)
        → IsTurn (done_in_frame q r.len rec.reply (state_at frames h v)) (write_with_reply (after_outcome q r.len s.control).write (after_outcome q r.len s.control).awaited rec.reply) frames h
        (record { seen = seen_after_write (write_with_reply (after_outcome q r.len s.control).write (after_outcome q r.len s.control).awaited rec.reply) seen; control = with_epc1 x (after_outcome q r.len s.control).control })
    by_form q (does is) frames =
        let T : Outcome → Type 0 = λ y. IsTurn (done_in_frame y r.len rec.reply (state_at frames h v)) (write_with_reply (after_outcome y r.len s.control).write (after_outcome y r.len s.control).awaited rec.reply) frames h
        (record { seen = seen_after_write (write_with_reply (after_outcome y r.len s.control).write (after_outcome y r.len s.control).awaited rec.reply) seen; control = with_epc1 x (after_outcome y r.len s.control).control }) in
        let past = effect_past e r.len x s.control (spares code r.i r.len s r.common e makes) in
        subst T (sym is) (record {
          kind = refl;
          writes = refl;
          after = ap (λ (c : Control). state_at frames h (record { seen = seen_after_write e.write seen; control = c })) past;
        })
    by_form q (asks a target is) frames =
        let T : Outcome → Type 0 = λ y. IsTurn (done_in_frame y r.len rec.reply (state_at frames h v)) (write_with_reply (after_outcome y r.len s.control).write (after_outcome y r.len s.control).awaited rec.reply) frames h
        (record { seen = seen_after_write (write_with_reply (after_outcome y r.len s.control).write (after_outcome y r.len s.control).awaited rec.reply) seen; control = with_epc1 x (after_outcome y r.len s.control).control }) in
        let past = effect_past e r.len x s.control (spares code r.i r.len s r.common e makes) in
        subst T (sym is) (record {
          kind = refl;
          writes = refl;
          after = ap (λ (c : Control). state_at frames h (record { seen = seen_after_write (write_with_reply None target rec.reply) seen; control = c })) past;
        })

    row_turn : (frames : List Frame) → IsTurn (turn_at code r.i r.len rec.reply v (state_at frames h v)) rec.write frames h w
    row_turn frames =
        let P : Outcome → Type 0 = λ y. IsTurn (done_in_frame y r.len rec.reply (state_at frames h v)) rec.write frames h w in
        let Q : Option RegWrite → Control → Type 0 = λ y c. IsTurn (done_in_frame o r.len rec.reply (state_at frames h v)) y frames h (record { seen = seen_after_write y seen; control = with_epc1 x c }) in
        let there : Q W (after_outcome o r.len s.control).control = by_form o makes frames in
        let named : Q rec.write (after_outcome o r.len s.control).control = subst (λ (y : Option RegWrite). Q y (after_outcome o r.len s.control).control) (sym ran.write) there in
        subst P same_outcome (subst (Q rec.write) (sym ran.control) named)

    module _ (no_sp : is_sp rec.write ≡ false) (woe : t.control.ps.woe ≡ true) (vectors : special_of t.control 231 ≡ vecbase) (fresh : Bool) where
      row : IsRow fresh r.i r.len code rec h rec.write v w
      row = record {
        common = r.common;
        shown = no_sp;
        reads = λ frames.
            let u : (q : Option ℕ) → is_unset f.unset q ≡ false = λ q. ap (λ (l : List Bool). is_unset l q) numbers ∙ all_numbers q in
            or_from _ _ (none_lacks seen s (reads r.i).0 r.first) (or_from _ _ (none_lacks seen s (reads r.i).1 r.second) (or_from _ _ (u (special_reads r.i).0) (u (special_reads r.i).1)));
        lost = or_from _ _ (none_lost fresh (special_reads r.i).0 r.special) (none_lost fresh (special_reads r.i).1 r.other);
        free = no_sp;
        proper = subst (λ (y : Option RegWrite). IsProperWrite IsAny y) (sym ran.write) (writes_proper code r.i r.len s r.common r.ok rec.reply e makes);
        seen = refl;
        turn = row_turn;
        woe = woe;
        vectors = other_is x t.control 231 (λ e. omega arith) ∙ (vectors ∙ sym (other_is x s.control 231 (λ e. omega arith) ∙ r.vectors));
      }

      -- the judge sees no breach, and the frames are these after it
      module _ (lo hi : ℕ) where
        abbrev limits : Limits
        limits = record { lo = lo; hi = hi; vecbase = vecbase }

        still_in : IsStill limits code r.i r.len h v
        still_in = record { plain = still.plain; rest = record { quiet = still.rest.quiet; goes = still.rest.goes; excm = still.rest.excm; vectors = still.rest.vectors; outside = still.rest.outside }; at = still.at }

        pub over : IsOver limits fresh code rec h rec.write v v w
        over = record { plain = plain; over = laid; quick = quick_or (Some rec.write) limits fresh code rec h v w r.i r.len still_in row }

        pub judged : (core next index : ℕ) (was : Bool) (frames : List Frame) (live dead : ℕ → Bool) (y : Walked)
            → fresh ≡ fresh_before y index → record { core = core; bounds = bounds_of limits; state = state_at frames h v; fresh = was; next = next } ≡ y
            → touches_save_area live rec.access ≡ false → loads_stale live dead rec.access ≡ false
            → (found_in y code live dead index false rec ≡ None) × (record { core = core; bounds = bounds_of limits; state = state_at frames h w; fresh = fresh; next = index + 1 } ≡ walked_past y code index false rec)
        judged core next index was frames live dead y before view saves loads = quick_judged limits fresh code rec h rec.write v v w over core next index was frames live dead y before view saves loads
