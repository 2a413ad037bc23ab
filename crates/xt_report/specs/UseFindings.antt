-- What `uses` tells of a run of an image ('profile').
use Rattle.std.specs.Prelude.{◌≡◌, ℕ, List}
use Rattle.xt_trace.specs.declared.run.Run.{Run}
use Rattle.xt_image.specs.declared.image.Image.{Image}
use Rattle.xt_core.specs.Runs.{code_of}
use Rattle.xt_discipline.specs.Verdicts.{are_checked, course_of}
use Rattle.xt_uses.specs.declared.discipline.Discipline.{Discipline}
use Rattle.xt_use_walk.specs.declared.walk.Uses.{Uses}
use Rattle.xt_use_walk.specs.Verdicts.{IsUsesOf}
use Rattle.xt_report.specs.Held.{AreUsesLater, AreUsesSo, IsOnly}
use Rattle.xt_report.specs.UsesText.{uses_text}

-- This is the text of what this discipline of uses says of the run, and it says nothing else of it.
-- What it knows of the run is so, and the lenient one shows no breach before the stack discipline
-- does.
pub record IsUsesTold (d : Discipline) (image : Image) (r : Run) (text : List ℕ) : Type 0 where
  pub uses : Uses
  pub is_uses : IsUsesOf d (are_checked image r.options) (course_of image r) uses
  pub text_is : text ≡ uses_text (code_of image) uses
  pub only : IsOnly d image r uses
  pub so : AreUsesSo d image r uses
  pub later : AreUsesLater d image r uses
