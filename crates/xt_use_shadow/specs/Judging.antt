-- What the discipline of uses says of a run of an image over its records ('profile').
use Rattle.xt_image.specs.declared.image.Image.{Image}
use Rattle.xt_trace.specs.declared.run.Run.{Run}
use Rattle.xt_handlers.specs.declared.Handlers.{Handlers}
use Rattle.xt_discipline.specs.Verdicts.{are_yes, course_of}
use Rattle.xt_uses.specs.declared.discipline.Discipline.{Discipline}
use Rattle.xt_use_walk.specs.declared.walk.Uses.{Uses}
use Rattle.xt_use_walk.specs.Verdicts.{IsUsesOf}

-- where the handlers have these answers
abbrev pub IsUsesIn : Discipline → Handlers → Image → Run → Uses → Type 0
IsUsesIn d handlers image r uses = IsUsesOf d (are_yes handlers) (course_of image r) uses
