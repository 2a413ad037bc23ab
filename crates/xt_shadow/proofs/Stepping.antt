-- A turn in step, as the definition of the verdict sees it.
use Rattle.std.proofs.Common.{◌≡◌, ◌==◌, ℕ, ◌+◌, ◌&&◌, ◌<◌, Bool, true, false, cond, Option, Some, None, Ok, List, length, refl, sym, ◌∙◌, ap, get_or}
use Rattle.std.proofs.lemmas.List.{get_or-set_other}
use Rattle.xt_trace.specs.declared.record.RegWrite.{RegWrite}
use Rattle.xt_trace.specs.declared.record.StepKind.{StepKind}
use Rattle.xt_trace.specs.declared.record.StepKind.TheVariants as kind
use Rattle.xt_trace.specs.declared.record.StepRecord.{StepRecord}
use Rattle.xt_special.specs.Control.{special_of}
use Rattle.xt_exec.specs.State.{State}
use Rattle.xt_exec.specs.Turn.{turn}
use Rattle.xt_frames.specs.declared.kinds.HandlerPhase.{HandlerPhase}
use Rattle.xt_frames.specs.declared.kinds.HandlerPhase.TheVariants.{Outside, InHandler}
use Rattle.xt_frames.specs.Frames.{all_set, seen_after_write}
use Rattle.xt_frames.specs.HandlerSteps.{is_window, phase_after}
use Rattle.xt_frames.specs.Breaches.{is_sp, loads_stale, stores_at, touches_save_area}
use Rattle.xt_frames.specs.Judging.{seen_record}
use Rattle.xt_frames.specs.Stacks.{Moves, Stack, Stays}
use Rattle.xt_frames.specs.Walked.{Walked, found_in, fresh_before, walked_past}
use Rattle.xt_frames.proofs.Shown.{KeepsSp, sp_kept, sp_written}
use Rattle.xt_frames.proofs.StackSteps.{write_stack}
use Rattle.xt_discipline.specs.declared.roles.Role.TheVariants.{Own}
use Rattle.xt_discipline.specs.Phases.{role_of}
use Rattle.xt_discipline.specs.declared.bytes.Held.{Held}
use Rattle.xt_discipline.specs.declared.bytes.Change.TheVariants.{Stored}
use Rattle.xt_discipline.specs.declared.side.Side.{Side}
use Rattle.xt_discipline.specs.ByteMarks.{AreChanged, Agrees, KnowsOf, either}
use Rattle.xt_discipline.specs.Sides.{IsSeen, IsSide, live_in, standing_of}
use Rattle.xt_discipline.proofs.Known.{loads_for, saves_for}
use Rattle.xt_discipline.proofs.Seeing.{at_last, followed_still, judged_marks, judged_past, le_same, role_seen}
use Rattle.xt_shadow.specs.InStep.{IsReady}
use Rattle.xt_frames.specs.Levels.{levelled}
use Rattle.xt_shadow.proofs.InStep.{judged}

pub sp_same : (seen : List (Option ℕ)) (o : Option RegWrite) → KeepsSp o → get_or (seen_after_write o seen) 1 None ≡ get_or seen 1 None
sp_same seen None h = refl
sp_same seen (Some w) h = get_or-set_other seen w.reg 1 (Some w.value) None (λ e. h (sym e))

-- a core in step, whose frames have these registers and this control state
abbrev pub side_at : Side → List (Option ℕ) → State → ℕ → Side
side_at side seen s steps = record side {
  frames = record side.frames { state = levelled side.frames.state seen s.control; next = steps };
  steps = steps;
}

module _ (code : ℕ → ℕ) (side : Side) (seen : List (Option ℕ)) (vecbase : ℕ) (s t : State) (rec : StepRecord) (m n : List Held) (others stale : ℕ → Bool)
    (k : IsSide side) (outside : side.phase ≡ Outside) (plain : side.frames.state.nested ≡ None) (numbers : side.frames.state.unset ≡ all_set)
    (stack : Stack side.frames.bounds.range.lo side.frames.bounds.range.hi seen side.frames.state.frames) (vectors : vecbase ≡ side.frames.bounds.vecbase)
    (ready : IsReady code vecbase seen s) (made : ◌≡◌ {A = StepRecord × State} (rec, t) (turn code s rec.reply)) (owb : s.control.ps.owb < 16)
    (insn : rec.kind ≡ kind.Insn) (no_sp : is_sp rec.write ≡ false) (woe : t.control.ps.woe ≡ true) (kept : special_of t.control 231 ≡ vecbase)
    (saves : (live0 live1 dead : ℕ → Bool) → Agrees m live0 live1 dead → touches_save_area (either live0 live1) rec.access ≡ false)
    (loads : (live0 live1 dead : ℕ → Bool) → Agrees m live0 live1 dead → loads_stale (either live0 live1) dead rec.access ≡ false)
    (stored : AreChanged Stored (stores_at rec.access) m n) (len : length n ≡ 0x52000)
  where
    abbrev before : Side
    before = side_at side seen s side.steps

    abbrev after : Side
    after = side_at side (seen_after_write rec.write seen) t (side.steps + 1)

    free : KeepsSp rec.write
    free = sp_kept rec.write no_sp

    before_side : IsSide before
    before_side = record { core_is = k.core_is; end_is = k.end_is; low = k.low; high = k.high; past = le_same side.steps }

    moves : Moves before.frames.state after.frames.state
    moves = Stays refl (sp_written seen rec.write free)

    fresh_is : (side.frames.fresh && (side.steps == side.steps)) ≡ side.frames.fresh
    fresh_is = at_last side.frames.fresh side.steps

    walked : (live dead : ℕ → Bool) → touches_save_area live rec.access ≡ false → loads_stale live dead rec.access ≡ false
        → (found_in before.frames code live dead side.steps false rec ≡ None) × (after.frames ≡ walked_past before.frames code side.steps false rec)
    walked live dead a b =
        let r = side.frames.bounds.range in
        let f = side.frames.state in
        let view : ◌≡◌ {A = Walked} (record { core = side.frames.core; bounds = record { range = record { lo = r.lo; hi = r.hi }; vecbase = vecbase }; state = before.frames.state; fresh = side.frames.fresh; next = side.steps }) before.frames =
        λ i. record { core = side.frames.core; bounds = record { range = r; vecbase = vectors i }; state = before.frames.state; fresh = side.frames.fresh; next = side.steps } in
        let j = judged code f seen vecbase s t rec ready made insn plain numbers owb no_sp woe kept (fresh_before before.frames side.steps) r.lo r.hi side.frames.core side.steps side.steps side.frames.fresh f.frames live dead before.frames refl view a b in
        let same : ◌≡◌ {A = Walked} after.frames (record { core = side.frames.core; bounds = record { range = record { lo = r.lo; hi = r.hi }; vecbase = vecbase }; state = after.frames.state; fresh = fresh_before before.frames side.steps; next = side.steps + 1 }) =
        λ i. record { core = side.frames.core; bounds = record { range = r; vecbase = sym vectors i }; state = after.frames.state; fresh = sym fresh_is i; next = side.steps + 1 } in
        (j.0, same ∙ j.1)

    phase_is : side.phase ≡ phase_after code side.phase rec
    phase_is = outside ∙ sym (ap (λ (p : HandlerPhase). phase_after code p rec) outside ∙ ap (λ (x : StepKind). cond (is_window x) InHandler Outside) insn)

    pub seen_in_step : (u : Unit {0}) → KnowsOf before.core m (live_in before.frames) others stale → IsSeen before after n others stale (seen_record code before.frames.bounds (standing_of before) others stale rec) (Ok u)
    seen_in_step u known =
        let a = saves_for before.core m (live_in before.frames) others stale rec.access false saves known in
        let b = loads_for before.core m (live_in before.frames) others stale rec.access false loads known in
        let w = walked (either (live_in before.frames) others) stale a b in
        let followed = followed_still before.core before.hi before.frames.state after.frames.state moves n refl in
        let marks = judged_marks before after.frames moves m n n others stale rec.access before_side refl len stack (write_stack stack rec.write free) known stored followed in
        role_seen before after n others stale code rec Own (Ok u) (sym (ap (λ (p : HandlerPhase). role_of p rec.kind) outside ∙ ap (λ (x : StepKind). role_of Outside x) insn))
        (judged_past before after after.frames n others stale code rec (found_in before.frames code (either (live_in before.frames) others) stale side.steps false rec) u false side.phase phase_is before_side w.0 w.1 refl marks)
