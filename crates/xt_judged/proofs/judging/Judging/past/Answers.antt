use Rattle.std.proofs.Common.{◌≡◌, ◌∙◌}
use Rattle.xt_map.specs.declared.contents.MemoryContents.{MemoryContents}
use Rattle.xt_outcomes.specs.KeptWorlds.{spot_of}
use Rattle.xt_judged.specs.Alone.{only_after}
use Rattle.xt_judged.specs.Kept.{moved_scene, scene_of, scene_with}
use Rattle.xt_judged.specs.Stales.{renewed}
use Rattle.xt_judged.specs.declared.scene.Scene.{Scene}
use Rattle.xt_judged.proofs.SeenAs.{if_ok}
use Rattle.xt_judged.proofs.judging.Judging.past.Goals as goal

pub returns-clause-scene : goal.returns-clause-scene
returns-clause-scene c =
    let v = c.args.scene.now in
    let core = c.args.core in
    let k = c.args.known in
    if_ok c.moved.result
    (λ (s : Scene). (m : MemoryContents) → scene_of m s ≡ scene_with m core v (spot_of m c.in_ok-world.world) c.in_ok-standing.standing.value c.in_ok-stale.stale.value c.only_after.result)
    (λ (s : Scene). (m : MemoryContents) → scene_of m s ≡ moved_scene m core v c.args.side c.args.changes k.standing (renewed v.stale.value k.stale) (only_after core c.args.rec.now.access))
    (λ s h m. h m ∙ (λ i. scene_with m core v (c.in_ok-world.ensures m i) (c.in_ok-standing.ensures.ok i) (c.in_ok-stale.ensures i) (c.only_after.ensures i)))
    c.moved.ensures.scene
