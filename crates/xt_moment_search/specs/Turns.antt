-- Carries a proof; nothing that a reader must believe.
-- What a step of a search does.
use Rattle.xt_moments.specs.Moments.{IsMove}
use Rattle.xt_moment_search.specs.declared.machine.Step.{Step}
use Rattle.xt_moment_search.specs.declared.machine.Step.TheVariants as step

-- a move that it makes is one of two cores with three timers each
abbrev pub MakesMove : Step → Type 0
MakesMove (step.Makes made) = IsMove made
MakesMove (step.Passes passed) = Unit {0}
MakesMove step.Rests = Unit {0}

-- it makes no move
abbrev pub IsPassing : Step → Type 0
IsPassing (step.Makes made) = ⊥
IsPassing (step.Passes passed) = Unit {0}
IsPassing step.Rests = Unit {0}
