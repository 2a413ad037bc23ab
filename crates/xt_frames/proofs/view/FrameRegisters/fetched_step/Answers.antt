use Rattle.std.proofs.Common.{◌≡◌, sym, ◌∙◌, ap, subst}
use Rattle.xt_map.specs.Memory.{constant_byte}
use Rattle.xt_map.specs.Fetching.{Fetched, Fails, SpellsNothing}
use Rattle.xt_codec.specs.Fetches.{IsFetched}
use Rattle.xt_codec.specs.declared.fetch.Fetch.{Fetch}
use Rattle.xt_frames.specs.FrameStep.{fetched_step}
use Rattle.xt_frames.specs.KeptFrameState.{state_at}
use Rattle.xt_frames.proofs.view.FrameRegisters.fetched_step.Goals as goal

pub returns-in-Fails-clause-turn : goal.returns-in-Fails-clause-turn
returns-in-Fails-clause-turn c = λ frames h f fetched new.
    let P : Fetch → Type 0 = λ x. IsFetched x f in
    let at : f ≡ Fails c.in-Fails.addr = subst P c.in-Fails.is fetched in
    c.raise.ensures.turn frames h ∙ sym (ap (λ (x : Fetched). fetched_step x (constant_byte c.args.code.now) c.args.reply (state_at frames h c.args.self.now)) at)

pub returns-in-Nothing-clause-turn : goal.returns-in-Nothing-clause-turn
returns-in-Nothing-clause-turn c = λ frames h f fetched new.
    let P : Fetch → Type 0 = λ x. IsFetched x f in
    let at : f ≡ SpellsNothing = subst P c.in-Nothing.is fetched in
    c.raise-in-Nothing.ensures.turn frames h ∙ sym (ap (λ (x : Fetched). fetched_step x (constant_byte c.args.code.now) c.args.reply (state_at frames h c.args.self.now)) at)
