-- Carries a proof; nothing that a reader must believe.
-- The form of the tokens that begin with a byte.
use Rattle.std.specs.Prelude.{ℕ, ◌==◌, if◌then◌else◌, List, [], ◌∷◌}
use Rattle.std.specs.Char.{is_ascii_digit}
use Rattle.xt_lex.specs.TextBytes.{is_word_start}
use Rattle.xt_lex.specs.declared.fronts.Form.{Form}
use Rattle.xt_lex.specs.declared.fronts.Form.TheVariants as form

abbrev pub form_of : ℕ → Form
form_of b =
    if is_word_start b then form.Word else
    if is_ascii_digit b then form.Number else
    if b == 39 then form.Character else
    if b == 34 then form.Str else form.Mark

abbrev pub form_at : List ℕ → Form
form_at [] = form.Mark
form_at (b ∷ _) = form_of b
