-- A judged MOVSP outside nested interrupts, which shows no breach of uses: what is left of it.
use Rattle.std.specs.Prelude.{unwrap_or, is_some}
use Rattle.std.proofs.Common.{◌≡◌, ℕ, ◌^◌, ◌<◌, Bool, true, false, ◌||◌, ◌&&◌, not, ltb, leb, List, [], Option, Some, None, sym, ap, ◌∙◌, refl, subst, get_or}
use Rattle.std.proofs.lemmas.Bool.{cond-false, or_from}
use Rattle.xt_isa.specs.declared.Insn.{Insn}
use Rattle.xt_isa.specs.Ranges.{in_range}
use Rattle.xt_map.specs.declared.contents.MemoryContents.{MemoryContents}
use Rattle.xt_map.specs.Memory.{byte_at}
use Rattle.xt_special.specs.declared.ps.Ps.{Ps}
use Rattle.xt_special.specs.Interrupts.{pending_of}
use Rattle.xt_window.specs.Ring.{place, visible}
use Rattle.xt_trace.specs.declared.record.StepKind.TheVariants as step
use Rattle.xt_trace.specs.declared.record.StepRecord.{StepRecord}
use Rattle.xt_map.specs.Fetching.{Fetches, fetch_at}
use Rattle.xt_map.specs.Code.{AreBytes}
use Rattle.xt_map.proofs.Fetches.{fetched_range}
use Rattle.xt_rows.specs.Effects.{write_to}
use Rattle.xt_rows.specs.Kinds.{sets_epc1}
use Rattle.xt_rows.specs.Operands.{highest_register, reads, special_reads}
use Rattle.xt_exec.specs.State.{State}
use Rattle.xt_exec.specs.TurnLaws.{IsShaped}
use Rattle.xt_exec.specs.Turn.{Planned, fall_through, fetched_turn, moved_stack, planned_turn, window_check, window_step}
use Rattle.xt_exec.proofs.Finished.{turn_fetches}
use Rattle.xt_frames.specs.declared.holes.Nested.{Nested}
use Rattle.xt_frames.specs.Frames.{Frame, FrameState, value_or_zero}
use Rattle.xt_frames.specs.FrameStep.{FrameTurn, with_inputs}
use Rattle.xt_frames.specs.HandlerSteps.{is_window}
use Rattle.xt_frames.specs.SaveAreas.{Range}
use Rattle.xt_frames.specs.Breaches.{Bounds, inputs_of, lacks, writes_epc1, ends_exception_mode as mode_falls, fresh_after, names_high, other_frame_size}
use Rattle.xt_frames.specs.Nesting.{current_in, turn_in}
use Rattle.xt_frames.specs.Judging.{value_in}
use Rattle.xt_simulation.specs.Cores.{Related}
use Rattle.xt_simulation.specs.JudgedSteps.{fresh_turn, turn_of}
use Rattle.xt_simulation.specs.Relation.{inputs, lost_at}
use Rattle.xt_simulation.specs.Stacks.{sp_under}
use Rattle.xt_simulation.specs.Steps.{memory_now, memory_after_step, record_now, reply_now, state_now}
use Rattle.xt_simulation.proofs.Judges.{lay, same_laid}
use Rattle.xt_simulation.proofs.Evenly.{same_pending}
use Rattle.xt_simulation.proofs.Windowed.{some_value, visible_value}
use Rattle.xt_simulation.proofs.Plans.{plan_access, plan_asks, plan_kind, plan_state, plan_write}
use Rattle.xt_uses.specs.declared.discipline.Discipline.{Discipline}
use Rattle.xt_uses.specs.declared.words.Word.{Word}
use Rattle.xt_uses.specs.Words.{is_whole}
use Rattle.xt_uses.specs.Used.{shift_used, used_are_known}
use Rattle.xt_uses.specs.UseState.{UseState, first_word, second_word, visible_word}
use Rattle.xt_uses.specs.UseBreaches.{is_insn, keeps_stack}
use Rattle.xt_uses.specs.UseStep.{UseTurn, step_insn, fetched_movsp, full_step, insn_turn, movsp_of, reply_mask, stack_moved, turn_or, use_turn, value_step}
use Rattle.xt_uses.proofs.Wholes.{whole_value}
use Rattle.xt_simulation.specs.Knowing.{Follows, Knows, NowFit, with_pointer}
use Rattle.xt_simulation.proofs.Agreed.{Uses, uses_known}
use Rattle.xt_simulation.proofs.Following.{now_plain, record_fits}
use Rattle.xt_simulation.proofs.MovspStep.{move_follows, movsp}
use Rattle.xt_simulation.proofs.MovspTurn.{Keeps, keeps, not_illegal, movsp_level, movsp_ring, movsp_stack, movsp_turn, ring_under}
use Rattle.xt_simulation.proofs.Operands.{word_fits}
use Rattle.xt_simulation.proofs.PlainRow.{numbers_of, passes_check}
use Rattle.xt_simulation.proofs.PlainStep.{JudgedUse}
use Rattle.xt_simulation.proofs.Reading.{Ready, count_of, read_seats, ready}
use Rattle.xt_simulation.proofs.Tests.{Denied}

-- ---- the step of the machine of uses
pub move_at : (t q len : ℕ) (h : FrameState) → fetched_movsp (Fetches (movsp t q) len) h ≡ Some (stack_moved t (value_or_zero h.seen q) len h)
unfolding fetched_movsp
move_at t q len h = refl

pub use_moves : (code : ℕ → ℕ) (rec : StepRecord) (bytes : ℕ → ℕ) (s : UseState) (w : FrameTurn) → s.frame.nested ≡ None → movsp_of code (with_inputs (inputs_of rec) s.frame) ≡ Some w
    → let h = with_inputs (inputs_of rec) s.frame in
    full_step code false rec bytes s ≡ use_turn (step_insn w.kind (fetch_at code h.control.pc)) (reply_mask bytes rec.access) s h w
unfolding value_step
use_moves code rec bytes s w sn some =
    let inp = inputs_of rec in
    let value = value_in rec.write in
    let r = reply_mask bytes rec.access in
    let U : Option FrameTurn → Option Nested → UseTurn = λ z o. (
    let w = turn_or z (turn_in o code value inp s.frame) in
    let k = with_inputs inp (current_in o s.frame) in
    use_turn (step_insn w.kind (fetch_at code k.control.pc)) r s k w
    ) in
    ap (U (movsp_of code (with_inputs inp s.frame))) sn ∙ ap (λ z. U z None) some

pub move_uses : (by : Discipline) (t q : ℕ) (s : UseState) (h : FrameState) (y : Word) → used_are_known by (movsp t q) (first_word (movsp t q) s h) y ≡ true → is_whole (first_word (movsp t q) s h) ≡ true
unfolding used_are_known shift_used
move_uses by t q s h y e = e

move_reads : (t q : ℕ) → reads (movsp t q) ≡ (Some q, None)
unfolding reads
move_reads t q = refl

move_specials : (t q : ℕ) → special_reads (movsp t q) ≡ (None, None)
unfolding special_reads
move_specials t q = refl

-- EPC1 has what it had
true_right : (z : Bool) → (z && true) ≡ z
true_right true = refl
true_right false = refl

keep_fresh : (fresh z : Bool) → z ≡ false → (fresh && not z) ≡ fresh
keep_fresh fresh z e = ap (λ b. fresh && not b) e ∙ true_right fresh

move_fresh : (fresh : Bool) (t q len : ℕ) (before after : Ps) → before.excm ≡ false → fresh_after fresh step.Insn (Fetches (movsp t q) len) before after ≡ fresh
unfolding writes_epc1 sets_epc1
move_fresh fresh t q len before after low = keep_fresh fresh (mode_falls before after) (ap (λ b. b && not after.excm) low)

executed_insn : (i : Insn) (len : ℕ) → step_insn step.Insn (Fetches i len) ≡ Some i
unfolding step_insn
executed_insn i len = refl

pub move_word : (t q : ℕ) (s : UseState) (h : FrameState) → first_word (movsp t q) s h ≡ visible_word s h (Some q)
unfolding reads
move_word t q s h = refl

move_size : (r : Range) (t q : ℕ) (f : FrameState) → other_frame_size r (movsp t q) f ≡ false
unfolding other_frame_size
move_size r t q f = refl

module _ (code : ℕ → ℕ) (bytes : AreBytes code) (b : Bounds) (fresh : Bool) (s : State) (m : MemoryContents) (shaped : IsShaped s) (nowindow : is_window (planned_turn code s).kind ≡ false)
    (us : UseState) (sn : us.frame.nested ≡ None) (live : ℕ → Bool) (kb : ℕ → ℕ)
    (still : ltb 0 (pending_of s.control) ≡ false) (awake : s.control.waits ≡ false) (q len : ℕ) (at : fetch_at code s.control.pc ≡ Fetches (movsp 1 q) len) where
  abbrev rec : StepRecord
  rec = record_now code m s

  abbrev reply : ℕ
  reply = reply_now code m s

  abbrev h : FrameState
  h = with_inputs (inputs_of rec) us.frame

  ok : in_range (movsp 1 q) ≡ true
  ok = fetched_range code s.control.pc (movsp 1 q) len bytes at

  fetches : planned_turn code s ≡ fetched_turn (Fetches (movsp 1 q) len) code s
  fetches = turn_fetches code s still awake ∙ ap (λ z. fetched_turn z code s) at

  free : window_check (movsp 1 q) s ≡ 0
  free = passes_check code s (movsp 1 q) len fetches nowindow (not_illegal 1 q s)

  abbrev x : ℕ
  x = visible s.regs s.base q

  module _ {v : FrameTurn} (d : Denied b fresh live kb (movsp 1 q) rec us h v) {f : FrameState} {ring spilled : List Frame} (l : Related (byte_at m) b (lost_at fresh f) s f ring spilled) (kn : Knows f us) (fn : f.nested ≡ None) where
    uses : Uses (movsp 1 q) us h
    uses = uses_known (movsp 1 q) us h d.unset

    stays : Keeps b.range 1 q rec.kind h
    stays = keeps b.range 1 q rec.kind h d.stack

    first_now : NowFit us (with_inputs (inputs_of rec) f) h
    first_now = now_plain kn fn sn (inputs_of rec)

    high : names_high (movsp 1 q) (with_inputs (inputs 0 s) f) ≡ false
    high = subst (λ (z : FrameState). names_high (movsp 1 q) z ≡ false) (same_laid code s reply f shaped.control.ps.owb_fits) (ap (λ (p : Ps). p.excm && leb 4 (highest_register (movsp 1 q))) first_now.control.even.ps ∙ d.high)

    r : Ready b (byte_at m) fresh s ring spilled us (movsp 1 q)
    r =
        let seats = read_seats l.plain (movsp 1 q) b.range ok high (move_size b.range 1 q (with_inputs (inputs 0 s) f)) (λ legal. free) in
        let n = numbers_of (movsp 1 q) h sn uses.number in
        ready shaped (movsp 1 q) f l kn fn seats.0 seats.1 n.0 n.1 (λ k e. absurd (none_some (ap (λ (o : Option ℕ × Option ℕ). o.1) (sym (move_specials 1 q)) ∙ e)))
      where
        none_some : {k : ℕ} → None ≡ Some k → ⊥
        none_some e = absurd cc

    abbrev g : FrameState
    g = with_inputs (inputs_of rec) r.frame

    same_g : g ≡ with_inputs (inputs 0 s) r.frame
    same_g = same_laid code s reply r.frame shaped.control.ps.owb_fits

    now : NowFit us g h
    now = now_plain r.knows r.nested sn (inputs_of rec)

    -- the number that is moved
    x_there : value_or_zero r.frame.seen q ≡ x
    x_there =
        let there : lacks r.frame.seen (Some q) ≡ false = subst (λ (o : Option ℕ × Option ℕ). lacks r.frame.seen o.0 ≡ false) (move_reads 1 q) r.first in
        let v = some_value (get_or r.frame.seen q None) there in
        ap (λ (o : Option ℕ). unwrap_or o 0) v.1 ∙ sym (visible_value r.related.plain.windows q v.0 v.1)

    x_word : x < 2 ^ 32
    x_word = shaped.words (place s.base q)

    whole : is_whole (first_word (movsp 1 q) us h) ≡ true
    whole = move_uses us.masks.discipline 1 q us h (second_word (movsp 1 q) us h) uses.used

    x_known : value_or_zero us.frame.seen q ≡ x
    x_known =
        let w : is_whole (visible_word us h (Some q)) ≡ true = ap is_whole (sym (move_word 1 q us h)) ∙ whole in
        whole_value (value_or_zero g.seen q) (visible_word us h (Some q)) (word_fits now (Some q)) (subst (λ z. z < 2 ^ 32) (sym x_there) x_word) w ∙ x_there

    -- ---- the machine of uses
    at_h : fetch_at code h.control.pc ≡ Fetches (movsp 1 q) len
    at_h = ap (fetch_at code) (sym (r.related.plain.even.pc ∙ now.control.even.pc)) ∙ at

    still_h : ltb 0 (pending_of h.control) ≡ false
    still_h =
        ap (λ n. ltb 0 n) (sym (same_pending g.control (with_pointer g.control.threadptr h.control) now.control.even))
        ∙ (ap (λ (z : FrameState). ltb 0 (pending_of z.control)) same_g ∙ (ap (λ n. ltb 0 n) (sym (same_pending s.control (with_inputs (inputs 0 s) r.frame).control r.related.plain.even)) ∙ still))

    awake_h : h.control.waits ≡ false
    awake_h = sym now.control.even.waits ∙ (sym r.related.plain.even.waits ∙ awake)

    abbrev turn_v : FrameTurn
    turn_v = stack_moved 1 (value_or_zero h.seen q) len h

    moves : movsp_of code h ≡ Some turn_v
    moves =
        let none : (is_some us.frame.nested || (ltb 0 (pending_of h.control) || h.control.waits)) ≡ false = or_from _ _ (ap (λ (o : Option Nested). is_some o) sn) (or_from _ _ still_h awake_h) in
        cond-false (is_some us.frame.nested || (ltb 0 (pending_of h.control) || h.control.waits)) None (fetched_movsp (fetch_at code h.control.pc) h) none ∙ (ap (λ z. fetched_movsp z h) at_h ∙ move_at 1 q len h)

    abbrev k : ℕ
    k = reply_mask kb rec.access

    same_use : full_step code false rec kb us ≡ insn_turn (movsp 1 q) k us h turn_v
    same_use = use_moves code rec kb us turn_v sn moves ∙ (ap (λ z. use_turn (step_insn step.Insn z) k us h turn_v) at_h ∙ ap (λ z. use_turn z k us h turn_v) (executed_insn (movsp 1 q) len))

    abbrev turn_u : FrameTurn
    turn_u = stack_moved 1 x len (with_inputs (inputs 0 s) r.frame)

    follows : Follows (full_step code false rec kb us) turn_u
    follows =
        subst (λ z. Follows z turn_u) (sym same_use)
        (subst (λ (z : FrameState). Follows (insn_turn (movsp 1 q) k us h turn_v) (stack_moved 1 x len z)) same_g (move_follows r.knows r.nested sn (inputs_of rec) q len x x_known x_word whole (count_of shaped r.related) k))

    -- ---- the processor
    moved_is : planned_turn code s ≡ moved_stack 1 x len s
    moved_is = movsp_turn code s 1 q len fetches free

    insn_is : is_insn (moved_stack 1 x len s).kind ≡ true
    insn_is = ap is_insn (sym (plan_kind code s (moved_stack 1 x len s) moved_is reply)) ∙ stays.insn

    ring_is : (moved_stack 1 x len s ≡ window_step (write_to 1 x) (fall_through len s)) × (ring ≡ [] → ⊥)
    ring_is = movsp_ring ring r.related.plain 1 x len insn_is

    abbrev plan : Planned
    plan = window_step (write_to 1 x) (fall_through len s)

    is : planned_turn code s ≡ plan
    is = moved_is ∙ ring_is.0

    low : s.control.ps.excm ≡ false
    low = ap (λ (p : Ps). p.excm) r.related.plain.even.ps ∙ (sym (ap (λ (z : FrameState). z.control.ps.excm) same_g) ∙ (ap (λ (p : Ps). p.excm) now.control.even.ps ∙ stays.low))

    fresh_is : fresh_turn fresh code reply s ≡ fresh
    fresh_is =
        ap (λ (p : Planned). fresh_after fresh p.kind (fetch_at code s.control.pc) s.control.ps (turn_of code s reply).after.control.ps) is
        ∙ (ap (λ z. fresh_after fresh step.Insn z s.control.ps (turn_of code s reply).after.control.ps) at ∙ move_fresh fresh 1 q len s.control.ps (turn_of code s reply).after.control.ps low)

    memory_is : memory_now code m s ≡ m
    memory_is = ap (memory_after_step m) (plan_asks code s plan is)

    related : Related (byte_at m) b (lost_at fresh turn_u.after) (state_now code m s) turn_u.after ring spilled
    related =
        let level = movsp_level r.related.plain x len awake in
        let under : sp_under (value_or_zero r.frame.seen 1) ring ≡ sp_under (value_or_zero turn_u.after.seen 1) ring = ring_under ring (value_or_zero r.frame.seen 1) (value_or_zero turn_u.after.seen 1) ring_is.1 in
        subst (λ (z : State). Related (byte_at m) b (lost_at fresh turn_u.after) z turn_u.after ring spilled) (sym (plan_state code s plan is reply)) (record {
          plain = lay level;
          stack = movsp_stack b.range x us.masks.kept r.frame us.frame r.knows.frames (subst (λ z. keeps_stack b.range z us.frame.frames ≡ true) x_known stays.stack) r.related.stack;
          saved = rw (← under) r.related.saved;
        })

    pub movsp_judged : JudgedUse code b fresh m s live kb (full_step code false rec kb us)
    movsp_judged = record {
      fits = record_fits d.saves d.loads (plan_kind code s plan is reply) (plan_write code s plan is reply) (plan_access code s plan is reply) follows;
      frame = turn_u.after;
      ring = ring;
      spilled = spilled;
      related =
          subst (λ (z : MemoryContents). Related (byte_at z) b (lost_at (fresh_turn fresh code reply s) turn_u.after) (state_now code m s) turn_u.after ring spilled) (sym memory_is)
          (subst (λ z. Related (byte_at m) b (lost_at z turn_u.after) (state_now code m s) turn_u.after ring spilled) (sym fresh_is) related);
      nested = r.nested;
      knows = follows.knows;
    }
