-- Carries a proof; nothing that a reader must believe.
-- What a word, a half-word and a byte can hold.
use Rattle.std.specs.Prelude.{ℤ, Bool}
use Rattle.xt_asm.specs.Kinds.{fits_word, fits_short, fits_byte}
use Rattle.xt_asm.specs.declared.kinds.Width.{Width}
use Rattle.xt_asm.specs.declared.kinds.Width.TheVariants as width

abbrev pub fits : Width → ℤ → Bool
fits width.Word = fits_word
fits width.Short = fits_short
fits width.Byte = fits_byte
