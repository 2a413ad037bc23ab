-- What stands at a line, given the lines before it and the lines after it ('profile').
use Rattle.std.specs.Prelude.{List, [], ◌∷◌, ◌++◌}
use Rattle.xt_parse.specs.declared.line.Line.{Line}

-- What f gives for each of some lines, in their order: f sees the lines before a line, the line,
-- and the lines after it. The lines `before` stand before the first.
abbrev pub each_after :
    {A : Type 0} → (List Line → Line → List Line → A) → List Line → List Line → List A
each_after f before [] = []
each_after f before (l ∷ rest) = f before l rest ∷ each_after f (before ++ l ∷ []) rest

-- what f gives for each line of a text
abbrev pub each : {A : Type 0} → (List Line → Line → List Line → A) → List Line → List A
each f lines = each_after f [] lines
