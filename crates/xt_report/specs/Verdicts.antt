-- The lines of the answers for the window handlers of an image, and of what is judged of its run
-- ('profile').
use Rattle.std.specs.Prelude.{ℕ, List, [], ◌∷◌, ◌++◌, codes}
use Rattle.std.specs.List.{concat}
use Rattle.std.specs.Fmt.{decimal}
use Rattle.xt_handlers.specs.declared.stretch.HandlerVerdict.{HandlerVerdict}
use Rattle.xt_handlers.specs.declared.stretch.HandlerVerdict.TheVariants.{Yes, No}
use Rattle.xt_handlers.specs.declared.Handlers.{Handlers}
use Rattle.xt_frames.specs.declared.kinds.Judged.{Judged}
use Rattle.xt_frames.specs.declared.kinds.Judged.TheVariants as judged
use Rattle.xt_report.specs.Breaches.{breach_text}

-- ---- the handlers

-- `yes`, or `no` and the offset at which a vector fails
abbrev pub verdict_text : HandlerVerdict → List ℕ
verdict_text Yes = codes "yes"
verdict_text (No offset) = codes "no " ++ decimal offset

-- ` ofS V ufS V`: the answers of one size of call
abbrev pub pair_text : List ℕ → HandlerVerdict → HandlerVerdict → List ℕ
pair_text size overflow underflow =
    codes " of" ++ (size ++ (codes " " ++ (verdict_text overflow
    ++ (codes " uf" ++ (size ++ (codes " " ++ verdict_text underflow))))))

-- `handlers of4 V uf4 V of8 V uf8 V of12 V uf12 V`
abbrev pub handlers_line : Handlers → List ℕ
handlers_line h = concat (
    codes "handlers" ∷ pair_text (codes "4") h.of4 h.uf4
    ∷ pair_text (codes "8") h.of8 h.uf8
    ∷ pair_text (codes "12") h.of12 h.uf12
    ∷ codes "\n" ∷ [])

-- ---- the verdict

-- `none`, `whole`, or the breach
abbrev pub frames_text : Judged → List ℕ
frames_text judged.Unchecked = codes "none"
frames_text judged.Whole = codes "whole"
frames_text (judged.Broken b) = breach_text b

abbrev pub frames_line : Judged → List ℕ
frames_line j = codes "frames " ++ frames_text j ++ codes "\n"
