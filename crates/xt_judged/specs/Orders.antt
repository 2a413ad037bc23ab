-- Carries a proof; nothing that a reader must believe.
-- The scene that an order of turns of an image leads to.
use Rattle.std.specs.Prelude.{ℕ, Bool, List}
use Rattle.xt_image.specs.declared.image.Image.{Image}
use Rattle.xt_trace.specs.declared.options.Options.{Options}
use Rattle.xt_trace.specs.Runs.{world_at_start}
use Rattle.xt_exec.specs.Chips.{processor}
use Rattle.xt_core.specs.Runs.{code_of, opening_of}
use Rattle.xt_discipline.specs.Verdicts.{opened0, opened1}
use Rattle.xt_outcomes.specs.Spots.{spot_in}
use Rattle.xt_judged.specs.Scenes.{Scene, opening_scene, scenes_after}

abbrev pub first_scene : Image → Options → (timed : Bool) → Scene
first_scene image o timed =
    opening_scene (opened0 image o).state (opened1 o).state
    (spot_in timed (world_at_start (opening_of image o)))

abbrev pub scene_after : Image → Options → (timed : Bool) → List ℕ → Scene
scene_after image o timed order =
    scenes_after (processor (code_of image)) (code_of image) (opened0 image o).bounds
    (opened1 o).bounds timed order (first_scene image o timed)
