-- A judged step that fetches an instruction outside nested interrupts, but MOVSP.
use Rattle.std.specs.Prelude.{is_some}
use Rattle.std.proofs.Common.{◌≡◌, ℕ, zero, suc, ◌<◌, ◌≤◌, ◌≢◌, Bool, true, false, ◌||◌, ◌&&◌, not, ltb, leb, ℤ, List, Option, Some, None, sym, ap, ◌∙◌, refl, arith, subst, length, cond}
use Rattle.std.proofs.lemmas.Bool.{both_ways, cond-false, eqb-false, or_from, or_parts}
use Rattle.xt_isa.specs.declared.Insn.{Insn}
use Rattle.xt_isa.specs.declared.Insn.TheVariants as insn
use Rattle.xt_isa.specs.declared.control.Control.TheVariants as control
use Rattle.xt_isa.specs.Ranges.{in_range}
use Rattle.xt_map.specs.declared.contents.MemoryContents.{MemoryContents}
use Rattle.xt_map.specs.Memory.{byte_at}
use Rattle.xt_map.specs.Touching.{IsMemory}
use Rattle.xt_special.specs.declared.ps.Ps.{Ps}
use Rattle.xt_special.specs.Interrupts.{pending_of}
use Rattle.xt_map.specs.Fetching.{Fetched, Fetches, fetch_at}
use Rattle.xt_map.specs.Code.{AreBytes}
use Rattle.xt_map.proofs.Fetches.{fetched_range}
use Rattle.xt_rows.specs.declared.outcome.Effect.{Effect}
use Rattle.xt_rows.specs.declared.outcome.Outcome.{Outcome}
use Rattle.xt_rows.specs.declared.outcome.Outcome.TheVariants.{Does, Windowed}
use Rattle.xt_rows.specs.declared.outcome.WindowStep.TheVariants.{Enters}
use Rattle.xt_rows.specs.Kinds.{WritesNamed, is_entry, is_movsp}
use Rattle.xt_rows.specs.RowLaws.{IsProper, IsWord}
use Rattle.xt_rows.specs.Operands.{highest_register, reads, special_reads}
use Rattle.xt_rows.specs.Outcomes.{outcome_at}
use Rattle.xt_rows.proofs.Proper.{outcome_words}
use Rattle.xt_rows.proofs.Registers.{names_registers}
use Rattle.xt_exec.specs.State.{State}
use Rattle.xt_exec.specs.TurnLaws.{IsShaped}
use Rattle.xt_exec.specs.Turn.{Planned, turn_or_overflow, fetched_turn, is_illegal, overflow, planned_turn, raises, window_check}
use Rattle.xt_exec.proofs.Finished.{turn_fetches}
use Rattle.xt_trace.specs.declared.record.RegWrite.{RegWrite}
use Rattle.xt_trace.specs.declared.record.StepRecord.{StepRecord}
use Rattle.xt_frames.specs.declared.holes.Nested.{Nested}
use Rattle.xt_frames.specs.Frames.{Frame, FrameState, value_or_zero}
use Rattle.xt_frames.specs.FrameStep.{FrameTurn, done_in_frame, fetched_step, with_inputs, step_with_inputs}
use Rattle.xt_frames.specs.HandlerSteps.{is_window}
use Rattle.xt_frames.specs.Marks.{holds_marks}
use Rattle.xt_frames.specs.Nesting.{ends_nested, unset_after}
use Rattle.xt_frames.specs.SaveAreas.{is_live}
use Rattle.xt_frames.specs.Breaches.{Bounds, fetched_tests, first_shown, inputs_of, insn_tests, laid_breach, loses_epc1, names_high, opens_nothing, other_frame_size, reads_epc1, reads_lost, reads_none, reads_none_in, is_unset, lacks}
use Rattle.xt_frames.proofs.Lengths.{laid_stays}
use Rattle.xt_frames.proofs.Shown.{KeepsSp, entry_number, keeps_sp}
use Rattle.xt_frames.proofs.StackSteps.{breach_fetches, step_fetches}
use Rattle.xt_simulation.specs.Cores.{Related}
use Rattle.xt_simulation.specs.JudgedSteps.{plain_after}
use Rattle.xt_simulation.specs.Relation.{inputs, lost_at}
use Rattle.xt_simulation.specs.Steps.{record_now, reply_now}
use Rattle.xt_simulation.proofs.Evenly.{same_pending}
use Rattle.xt_simulation.proofs.Executed.{overflow_window}
use Rattle.xt_simulation.proofs.Judges.{record_reply, same_laid}
use Rattle.xt_simulation.proofs.Laid.{laid_length}
use Rattle.xt_simulation.proofs.Windowed.{return_has_caller}
use Rattle.xt_uses.specs.Words.{all_bits}
use Rattle.xt_uses.specs.UseBreaches.{has_no_number, nowhere, reads_no_number}
use Rattle.xt_uses.specs.UseState.{UseState}
use Rattle.xt_uses.specs.UseStep.{UseTurn, step_insn, fetched_movsp, full_step, movsp_of, reply_mask, use_turn}
use Rattle.xt_uses.specs.UseLaws.{OutcomesAgree, RowsAgree}
use Rattle.xt_simulation.specs.Knowing.{Follows, Knows, NowFit, with_pointer}
use Rattle.xt_simulation.proofs.Agreed.{Uses, alike_after, return_whole, sp_tested, uses_known}
use Rattle.xt_simulation.proofs.Calling.{pops_follows, pushes_follows}
use Rattle.xt_simulation.proofs.Following.{now_plain, ordinary_follows, quiet_follows, with_unset}
use Rattle.xt_simulation.proofs.Lists.{IsVisible}
use Rattle.xt_simulation.proofs.Operands.{AreMasks, IsGivenAt, NoMark, row_agrees, row_masks, second_special}
use Rattle.xt_simulation.proofs.PlainStep.{JudgedUse, asked, finish, row_moves_none, use_plain}
use Rattle.xt_simulation.proofs.Reading.{Ready, count_of, given_now, read_seats, ready}
use Rattle.xt_simulation.proofs.Rows.{EntersWord, Executes, Pops, Pushes, Rests, RowStep, result, row_step}
use Rattle.xt_simulation.proofs.Tests.{Denied, Tested, before_same, caller_too, shown_none, size_row, tests_too}

-- ---- small facts
pub numbers_of : (i : Insn) (h : FrameState) → h.nested ≡ None → reads_no_number i h ≡ false → (has_no_number h.unset (special_reads i).0 ≡ false) × (has_no_number h.unset (special_reads i).1 ≡ false)
numbers_of i h none e =
    let a : (not (false && ends_nested i) && (has_no_number h.unset (special_reads i).0 || has_no_number h.unset (special_reads i).1)) ≡ false =
    subst (λ (o : Option Nested). (not (is_some o && ends_nested i) && (has_no_number h.unset (special_reads i).0 || has_no_number h.unset (special_reads i).1)) ≡ false) none e in
    let b = or_parts (has_no_number h.unset (special_reads i).0) (has_no_number h.unset (special_reads i).1) a in
    (b.0, b.1)

pub epc1_known : (fresh : Bool) (i : Insn) (h : FrameState) → h.nested ≡ None → loses_epc1 h.nested fresh i ≡ false → (reads_lost fresh (special_reads i).0 ≡ false) × (reads_lost fresh (special_reads i).1 ≡ false)
epc1_known fresh i h none e =
    let a : reads_epc1 fresh i ≡ false = subst (λ (o : Option Nested). loses_epc1 o fresh i ≡ false) none e in
    let b = or_parts (reads_lost fresh (special_reads i).0) (reads_lost fresh (special_reads i).1) a in
    (b.0, b.1)

pub no_mark : (o : Option ℕ) → NoMark o → (n : ℕ) → o ≡ Some n → holds_marks n ≡ false
no_mark o h n e = let k : NoMark (Some n) = subst NoMark e h in k

reads_all : (i : Insn) (g : FrameState) → g.nested ≡ None → lacks g.seen (reads i).0 ≡ false → lacks g.seen (reads i).1 ≡ false → is_unset g.unset (special_reads i).0 ≡ false → is_unset g.unset (special_reads i).1 ≡ false → reads_none i g ≡ false
reads_all i g none a b c d = ap (λ (o : Option Nested). reads_none_in o i g) none ∙ or_from _ _ a (or_from _ _ b (or_from _ _ c d))

calls_some : (number : ℕ) (size : ℤ) (h : FrameState) → opens_nothing (insn.Control (control.Entry number size)) h ≡ false → 0 < h.control.ps.callinc
unfolding opens_nothing
calls_some number size h e = let z : h.control.ps.callinc ≢ 0 = eqb-false _ _ e in omega arith

pub entry_some : (i : Insn) (number : ℕ) (size : ℤ) (h : FrameState) → i ≡ insn.Control (control.Entry number size) → opens_nothing i h ≡ false → 0 < h.control.ps.callinc
entry_some i number size h is e = calls_some number size h (subst (λ j. opens_nothing j h ≡ false) is e)

pub entry_one : (i : Insn) (number : ℕ) (size : ℤ) (b : Bounds) (h : FrameState) → i ≡ insn.Control (control.Entry number size) → other_frame_size b.range i h ≡ false → number ≡ 1
entry_one i number size b h is e = entry_number number size b.range h (subst (λ j. other_frame_size b.range j h ≡ false) is e)

-- the turn passes the window check, where the instruction is legal
pub passes_check : (code : ℕ → ℕ) (s : State) (i : Insn) (len : ℕ) → planned_turn code s ≡ fetched_turn (Fetches i len) code s → is_window (planned_turn code s).kind ≡ false → is_illegal i s ≡ false → window_check i s ≡ 0
passes_check code s i len is nowindow legal = by_check (window_check i s) refl
  where
    here : planned_turn code s ≡ turn_or_overflow (window_check i s) code i len s
    here = is ∙ cond-false (is_illegal i s) (raises _ s) (turn_or_overflow (window_check i s) code i len s) legal

    by_check : (k : ℕ) → window_check i s ≡ k → k ≡ 0
    by_check zero e = refl
    by_check (suc k) e =
        let p : planned_turn code s ≡ overflow (suc k) s = here ∙ ap (λ z. turn_or_overflow z code i len s) e in
        let w : is_window (planned_turn code s).kind ≡ true = ap (λ (q : Planned). is_window q.kind) p ∙ overflow_window (suc k) s in
        absurd (both_ways _ nowindow w)

pub visible_named : (i : Insn) → in_range i ≡ true → (o : Option RegWrite) → WritesNamed i o → IsVisible o
visible_named i ok None h = tt
visible_named i ok (Some w) h = let n = names_registers i ok in omega arith

module _ (rows : RowsAgree) (code : ℕ → ℕ) (bytes : AreBytes code) (b : Bounds) (fresh : Bool) (s : State) (m : MemoryContents) (shaped : IsShaped s) (real : IsMemory m) (nowindow : is_window (planned_turn code s).kind ≡ false)
    (us : UseState) (sn : us.frame.nested ≡ None) (masks : AreMasks us) (live : ℕ → Bool) (own : (a : ℕ) → is_live b.range us.frame a ≡ true → live a ≡ true) (kb : ℕ → ℕ)
    (still : ltb 0 (pending_of s.control) ≡ false) (awake : s.control.waits ≡ false) (i : Insn) (len : ℕ) (at : fetch_at code s.control.pc ≡ Fetches i len) (movsp : is_movsp i ≡ false) where
  abbrev rec : StepRecord
  rec = record_now code m s

  abbrev h : FrameState
  h = with_inputs (inputs_of rec) us.frame

  ok : in_range i ≡ true
  ok = fetched_range code s.control.pc i len bytes at

  abbrev v : FrameTurn
  v = fetched_step (Fetches i len) code rec.reply h

  module _ (d : Denied b fresh live kb i rec us h v) {f : FrameState} {ring spilled : List Frame} (l : Related (byte_at m) b (lost_at fresh f) s f ring spilled) (kn : Knows f us) (fn : f.nested ≡ None) where
    uses : Uses i us h
    uses = uses_known i us h d.unset

    numbers : (has_no_number us.frame.unset (special_reads i).0 ≡ false) × (has_no_number us.frame.unset (special_reads i).1 ≡ false)
    numbers = numbers_of i h sn uses.number

    epc1 : (reads_lost fresh (special_reads i).0 ≡ false) × (reads_lost fresh (special_reads i).1 ≡ false)
    epc1 = epc1_known fresh i h sn d.lost

    abbrev g0 : FrameState
    g0 = with_inputs (inputs_of rec) f

    first_now : NowFit us g0 h
    first_now = now_plain kn fn sn (inputs_of rec)

    same_f : g0 ≡ with_inputs (inputs 0 s) f
    same_f = same_laid code s (reply_now code m s) f shaped.control.ps.owb_fits

    high : names_high i (with_inputs (inputs 0 s) f) ≡ false
    high = subst (λ (x : FrameState). names_high i x ≡ false) same_f (ap (λ (p : Ps). p.excm && leb 4 (highest_register i)) first_now.control.even.ps ∙ d.high)

    sized : other_frame_size b.range i (with_inputs (inputs 0 s) f) ≡ false
    sized = subst (λ (x : FrameState). other_frame_size b.range i x ≡ false) same_f (size_row b.range i g0 h (ap (λ (p : Ps). p.callinc) first_now.control.even.ps) kn.sp (before_same b.range.hi us.masks.kept f.frames us.frame.frames kn.frames) d.size)

    r : Ready b (byte_at m) fresh s ring spilled us i
    r =
        let seats = read_seats l.plain i b.range ok high sized (passes_check code s i len (turn_fetches code s still awake ∙ ap (λ z. fetched_turn z code s) at) nowindow) in
        ready shaped i f l kn fn seats.0 seats.1 numbers.0 numbers.1 (no_mark (special_reads i).1 (second_special i ok))

    abbrev g : FrameState
    g = with_inputs (inputs_of rec) r.frame

    same_g : g ≡ with_inputs (inputs 0 s) r.frame
    same_g = same_laid code s (reply_now code m s) r.frame shaped.control.ps.owb_fits

    now : NowFit us g h
    now = now_plain r.knows r.nested sn (inputs_of rec)

    given : IsGivenAt i g
    given = subst (IsGivenAt i) (sym same_g) (given_now shaped r ok epc1.0 epc1.1)

    abbrev o : Outcome
    o = outcome_at code i (value_or_zero g.seen) g.control

    agree : OutcomesAgree us.masks.discipline i (row_masks i us h) o (outcome_at code i (value_or_zero h.seen) h.control)
    agree = row_agrees now rows masks code i given uses.used

    proper : EntersWord o
    proper n k e = let p : IsProper IsWord (Windowed (Enters n k)) = subst (IsProper IsWord) e (outcome_words code i g.control.pc _ _ _ _ g.control.ps g.control.threadptr bytes given) in p.1

    count : length g.control.special ≡ 256
    count = laid_length r.frame.control.special _ _ ∙ count_of shaped r.related

    abbrev u : FrameTurn
    u = fetched_step (Fetches i len) code rec.reply g

    row : (k : ℕ) → ((e : Effect) → o ≡ Does e → k ≡ all_bits) → RowStep i us g h (result now code i count given.x_word k) u v
    row k full = row_step now code i count given.x_word len rec.reply k agree proper uses.used d.windowing movsp d.window_register full

    first_row : RowStep i us g h (result now code i count given.x_word all_bits) u v
    first_row = row all_bits (λ e q. refl)

    -- ---- it shows nothing
    tested : Tested i g h u v
    tested =
        let after = alike_after now first_row in
        record {
          ps = now.control.even.ps;
          pc = now.control.even.pc;
          sp = r.knows.sp;
          a0 = return_whole now i uses.used given.x_word;
          masks = us.masks.kept;
          frames = r.knows.frames;
          nested = r.nested;
          nested_too = sn;
          write = sp_tested r.knows.frames first_row;
          woe = after.0;
          vectors = after.1;
        }

    pc_g : s.control.pc ≡ g.control.pc
    pc_g = r.related.plain.even.pc

    at_g : fetch_at code g.control.pc ≡ Fetches i len
    at_g = ap (fetch_at code) (sym pc_g) ∙ at

    still_g : ltb 0 (pending_of g.control) ≡ false
    still_g = ap (λ (x : FrameState). ltb 0 (pending_of x.control)) same_g ∙ (ap (λ n. ltb 0 n) (sym (same_pending s.control (with_inputs (inputs 0 s) r.frame).control r.related.plain.even)) ∙ still)

    awake_g : g.control.waits ≡ false
    awake_g = sym r.related.plain.even.waits ∙ awake

    step_g : step_with_inputs code rec.reply g ≡ u
    step_g = step_fetches code rec.reply g still_g awake_g ∙ ap (λ z. fetched_step z code rec.reply g) at_g

    at_h : fetch_at code h.control.pc ≡ Fetches i len
    at_h = ap (fetch_at code) (sym now.control.even.pc) ∙ at_g

    still_h : ltb 0 (pending_of h.control) ≡ false
    still_h = ap (λ n. ltb 0 n) (sym (same_pending g.control (with_pointer g.control.threadptr h.control) now.control.even)) ∙ still_g

    awake_h : h.control.waits ≡ false
    awake_h = sym now.control.even.waits ∙ awake_g

    step_h : step_with_inputs code rec.reply h ≡ v
    step_h = step_fetches code rec.reply h still_h awake_h ∙ ap (λ z. fetched_step z code rec.reply h) at_h

    quiet : laid_breach b fresh code nowhere nowhere rec g ≡ None
    quiet =
        breach_fetches b fresh code nowhere nowhere rec g still_g awake_g
        ∙ (ap (λ z. first_shown (fetched_tests b fresh nowhere nowhere z rec g (step_with_inputs code rec.reply g))) at_g
        ∙ (ap (λ (z : FrameTurn). first_shown (insn_tests b fresh nowhere nowhere i rec g z)) step_g
        ∙ shown_none (insn_tests b fresh nowhere nowhere i rec g u) (tests_too d tested (reads_all i g r.nested r.first r.second r.special r.other) movsp)))

    -- ---- what is known of the reply
    abbrev k : ℕ
    k = reply_mask kb rec.access

    abbrev turn_u : FrameTurn
    turn_u = with_unset (unset_after u.kind (Fetches i len) r.frame.unset) u

    abbrev turn_v : FrameTurn
    turn_v = with_unset (unset_after v.kind (Fetches i len) us.frame.unset) v

    plain_is : plain_after code (reply_now code m s) (with_inputs (inputs 0 s) r.frame) ≡ turn_u
    plain_is =
        let W : FrameTurn → FrameTurn = λ z. with_unset (unset_after z.kind (fetch_at code g.control.pc) r.frame.unset) z in
        ap (plain_after code (reply_now code m s)) (sym same_g)
        ∙ (ap (λ z. plain_after code z g) (sym (record_reply code m s))
        ∙ (ap W step_g ∙ ap (λ z. with_unset (unset_after u.kind z r.frame.unset) u) at_g))

    no_access : (e : Effect) → o ≡ Does e → rec.access ≡ None
    no_access e q = asked code bytes b fresh s m shaped real nowindow r.related r.nested quiet ∙ (ap (λ (z : FrameTurn). z.access) plain_is ∙ ap (λ z. (done_in_frame z len rec.reply g).access) q)

    real_row : RowStep i us g h (result now code i count given.x_word k) u v
    real_row = row k (λ e q. ap (reply_mask kb) (no_access e q))

    keeps_a1 : is_entry i ≡ false → KeepsSp u.write
    keeps_a1 none = keeps_sp i rec.write u.write none movsp (sp_tested r.knows.frames first_row rec.write d.written)

    calls_same : g.control.ps.callinc ≡ h.control.ps.callinc
    calls_same = ap (λ (p : Ps). p.callinc) now.control.even.ps

    three : g.control.ps.callinc ≤ 3
    three =
        let a : s.control.ps.callinc < 4 = r.related.plain.calls in
        let c : s.control.ps.callinc ≡ (with_inputs (inputs 0 s) r.frame).control.ps.callinc = ap (λ (p : Ps). p.callinc) r.related.plain.even.ps in
        let e : g.control.ps.callinc ≡ (with_inputs (inputs 0 s) r.frame).control.ps.callinc = ap (λ (x : FrameState). x.control.ps.callinc) same_g in
        omega arith

    by_row : RowStep i us g h (result now code i count given.x_word k) u v → Follows (use_turn (step_insn v.kind (Fetches i len)) k us h turn_v) turn_u
    by_row (Executes x) = ordinary_follows r.knows r.nested sn (inputs_of rec) i len k u v x (visible_named i ok u.write x.narrow) (keeps_a1 x.no_entry)
    by_row (Rests x why) = quiet_follows r.knows r.nested sn (inputs_of rec) (Fetches i len) k u v x
    by_row (Pushes number value n low entry size is small eu ev) =
        let some : 0 < g.control.ps.callinc = (let z = entry_some i number size h is d.opens in let q = calls_same in omega arith) in
        pushes_follows r.knows sn (inputs_of rec) now.control i entry number value n (entry_one i number size b h is d.size) small some three len k u v eu ev
    by_row (Pops a0 low return_ eu ev) =
        pops_follows r.knows sn (inputs_of rec) now.control i return_ a0 len r.related.stack.shaped (λ e. return_has_caller i g return_ e (caller_too tested b.range d.caller)) k u v eu ev

    same_use : full_step code false rec kb us ≡ use_turn (step_insn v.kind (Fetches i len)) k us h turn_v
    same_use =
        let U : Fetched → FrameTurn → UseTurn = λ z w. use_turn (step_insn w.kind z) k us h (with_unset (unset_after w.kind z us.frame.unset) w) in
        use_plain code rec kb us sn no_move ∙ (ap (U (fetch_at code h.control.pc)) step_h ∙ ap (λ z. U z v) at_h)
      where
        no_move : movsp_of code h ≡ None
        no_move = by_test (is_some us.frame.nested || (ltb 0 (pending_of h.control) || h.control.waits))
          where
            by_test : (t : Bool) → cond t None (fetched_movsp (fetch_at code h.control.pc) h) ≡ None
            by_test true = refl
            by_test false = ap (λ z. fetched_movsp z h) at_h ∙ row_moves_none i len h movsp

    nested_after : turn_u.after.nested ≡ None
    nested_after = ap (λ (z : FrameTurn). z.after.nested) (sym step_g) ∙ ((laid_stays code rec.reply g).0 ∙ r.nested)

    pub row_judged : JudgedUse code b fresh m s live kb (full_step code false rec kb us)
    row_judged =
        let follows : Follows (full_step code false rec kb us) (plain_after code (reply_now code m s) (with_inputs (inputs 0 s) r.frame)) =
        subst (λ z. Follows z (plain_after code (reply_now code m s) (with_inputs (inputs 0 s) r.frame))) (sym same_use) (subst (Follows (use_turn (step_insn v.kind (Fetches i len)) k us h turn_v)) (sym plain_is) (by_row real_row)) in
        finish code bytes b fresh s m shaped real nowindow r.related r.nested quiet live kb r.knows own d.saves d.loads follows (ap (λ (z : FrameTurn). z.after.nested) plain_is ∙ nested_after)
