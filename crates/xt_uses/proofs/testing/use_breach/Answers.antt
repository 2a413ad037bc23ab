use Rattle.std.proofs.Common.{ltb, sym, ◌∙◌, ap, subst}
use Rattle.xt_map.specs.Fetching.{fetch_at}
use Rattle.xt_frames.specs.declared.view.NextEvent.{NextEvent}
use Rattle.xt_frames.specs.FrameStep.{step_with_inputs}
use Rattle.xt_frames.specs.KeptFrameState.{IsPlan, state_at}
use Rattle.xt_frames.specs.Walked.{bounds_of}
use Rattle.xt_frames.proofs.TestRows.{quiet}
use Rattle.xt_uses.specs.UseParts.{use_at}
use Rattle.xt_uses.proofs.UseTests.{use_alone, use_fetches}
use Rattle.xt_uses.proofs.testing.use_breach.Goals as goal

pub returns-in-Interrupt : goal.returns-in-Interrupt
returns-in-Interrupt c = λ code frames kept v live bytes case touched p turn.
    let h = c.args.holes.now in
    let f = state_at frames h c.args.view.now in
    let s = use_at frames kept h v c.args.masks.now in
    c.vector_breach.ensures frames h ∙ sym (use_alone (bounds_of c.args.case.now.limits) c.args.case.now.fresh code live bytes c.args.rec.now s f (quiet c.args.plan code c.args.view.now.control c.in-Interrupt.is p))

pub returns-in-Fetched : goal.returns-in-Fetched
returns-in-Fetched c = λ code frames kept v live bytes case touched p turn.
    let h = c.args.holes.now in
    let rec = c.args.rec.now in
    let control = c.args.view.now.control in
    let f = state_at frames h c.args.view.now in
    let s = use_at frames kept h v c.args.masks.now in
    let P : NextEvent → Type 0 = λ x. IsPlan x code control in
    let k = subst P c.in-Fetched.is p in
    c.fetched_use.ensures frames kept v live bytes (fetch_at code control.pc) (step_with_inputs code rec.reply f) case touched k.2 turn
    ∙ sym (use_fetches (bounds_of c.args.case.now.limits) c.args.case.now.fresh code live bytes rec s f (ap (ltb 0) k.0) k.1)
