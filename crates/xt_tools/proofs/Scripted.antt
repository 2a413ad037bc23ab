-- A line as a text.
use Rattle.std.proofs.Common.{◌≡◌, ℕ, Bool, true, false, if◌then◌else◌, List, None, refl, sym, ap, ◌∙◌}
use Rattle.std.specs.Str.{IsUtf8, is_utf8}
use Rattle.std.proofs.lemmas.Str.{IsUtf8-from_is_utf8, is_utf8-from_IsUtf8}
use Rattle.xt_command_line.specs.Numbers.{number_of}
use Rattle.xt_debug.specs.Grammar.{script_of}
use Rattle.xt_tools.specs.Session.{number_in, script_in}

not_true : (b : Bool) → (b ≡ true → ⊥) → b ≡ false
not_true true h = absurd (h refl)
not_true false h = refl

no_text : (bytes : List ℕ) → (IsUtf8 bytes → ⊥) → is_utf8 bytes ≡ false
no_text bytes h = not_true (is_utf8 bytes) (λ is. h (IsUtf8-from_is_utf8 bytes is))

pub script_of_text : (line text : List ℕ) → text ≡ line → IsUtf8 line → script_in line ≡ script_of text
unfolding script_in
script_of_text line text same is = ap (λ t. if t then script_of line else None) (is_utf8-from_IsUtf8 line is) ∙ ap script_of (sym same)

pub no_script : (line : List ℕ) → (IsUtf8 line → ⊥) → script_in line ≡ None
unfolding script_in
no_script line h = ap (λ t. if t then script_of line else None) (no_text line h)

pub number_of_text : (line text : List ℕ) → text ≡ line → IsUtf8 line → number_in line ≡ number_of text
unfolding number_in
number_of_text line text same is = ap (λ t. if t then number_of line else None) (is_utf8-from_IsUtf8 line is) ∙ ap number_of (sym same)

pub no_number : (line : List ℕ) → (IsUtf8 line → ⊥) → number_in line ≡ None
unfolding number_in
no_number line h = ap (λ t. if t then number_of line else None) (no_text line h)
