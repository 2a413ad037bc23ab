use Rattle.std.proofs.Common.{ap, ◌∙◌}
use Rattle.xt_map.specs.declared.contents.MemoryContents.{MemoryContents}
use Rattle.xt_search.specs.Changed.{contents_of}
use Rattle.xt_exec.specs.State.{State}
use Rattle.xt_outcomes.specs.Dead.{side_forgotten}
use Rattle.xt_outcomes.specs.Spots.{Side, Spot}
use Rattle.xt_outcomes.proofs.timed.Timed.forgetting.Goals as goal

pub returns-clause-spot : goal.returns-clause-spot
returns-clause-spot c =
    let t = c.args.self.now in
    let m = t.opening.contents in
    let ms = t.dead.masks.items in
    let make : Side State → Side State → MemoryContents → Spot State = λ x y k. record { side0 = x; side1 = y; memory = k } in
    let side0 = c.forget.ensures ∙ ap (side_forgotten ms) (c.copy-side0.ensures ∙ c.side.ensures m) in
    let side1 = c.forget-2.ensures ∙ ap (side_forgotten ms) (c.copy-side1.ensures ∙ c.side-2.ensures m) in
    let changes = c.in_ok-changes.ensures ∙ c.deref.ensures in
    c.in_ok-next.ensures.spot m ∙ (λ i. make (side0 i) (side1 i) (contents_of m (changes i)))
