use Rattle.std.proofs.Common.{◌≡◌, ap, ◌∙◌}
use Rattle.xt_map.specs.declared.contents.MemoryContents.{MemoryContents}
use Rattle.xt_search.specs.Changed.{contents_of}
use Rattle.xt_exec.specs.State.{State}
use Rattle.xt_outcomes.specs.Dead.{side_forgotten}
use Rattle.xt_outcomes.specs.KeptWorlds.{spot_of}
use Rattle.xt_outcomes.specs.Spots.{Side, Spot}
use Rattle.xt_judged.proofs.opening.without_dead.Goals as goal

pub returns : goal.returns
returns c = λ m.
    let ms = c.args.dead.now.masks.items in
    let w = c.args.world.now in
    let make : Side State → Side State → MemoryContents → Spot State = λ s t n. record { side0 = s; side1 = t; memory = n } in
    let zero : c.in_ok-new.field-0.value ≡ side_forgotten ms (spot_of m w).side0 = c.in_ok-new.ensures.ok ∙ c.forget.ensures ∙ ap (side_forgotten ms) (c.copy-side0.ensures ∙ c.side.ensures m) in
    let one : c.in_ok-new-2.field-0.value ≡ side_forgotten ms (spot_of m w).side1 = c.in_ok-new-2.ensures.ok ∙ c.forget-2.ensures ∙ ap (side_forgotten ms) (c.copy-side1.ensures ∙ c.side-2.ensures m) in
    let same : c.in_ok-clone.field-0.value ≡ w.changes.value = c.in_ok-clone.ensures.cases in
    λ i. make (zero i) (one i) (contents_of m (same i))
