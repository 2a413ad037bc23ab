-- States the law of every order as the judge sees it ('profile').
use Rattle.std.specs.Prelude.{◌≡◌, ℕ, ◌<◌, Bool, true, false, None, List}
use Rattle.xt_image.specs.declared.image.Image.{Image}
use Rattle.xt_trace.specs.declared.options.Options.{Options}
use Rattle.xt_map.specs.Code.{AreBytes}
use Rattle.xt_core.specs.Runs.{code_of}
use Rattle.xt_search.specs.Worlds.{IsOrder}
use Rattle.xt_discipline.specs.Verdicts.{are_checked}
use Rattle.xt_judged.specs.Runs.{AllAreWhole}
use Rattle.xt_judged.specs.Scenes.{scene_bars}
use Rattle.xt_judged.specs.Orders.{scene_after}

-- Let the turns of no order show the judge a breach, where a core that has made a turn without an
-- access goes on alone up to its next access. Where it is not timed, let no turn use time either. Then
-- the verdict of every run of the image is whole.
abbrev pub AllAreWholeWhereNoSceneBreaks : Type 0
AllAreWholeWhereNoSceneBreaks =
    (image : Image) (o : Options) (timed : Bool)
    → AreBytes (code_of image)
    → are_checked image o ≡ true
    → ((order : List ℕ) → IsOrder order → (scene_after image o timed order).breach ≡ None)
    → ((order : List ℕ) (c : ℕ) → IsOrder order → c < 2
    → scene_bars (code_of image) timed c (scene_after image o timed order) ≡ false)
    → AllAreWhole image o timed
