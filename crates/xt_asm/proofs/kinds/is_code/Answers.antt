use Rattle.std.proofs.Common.{arith}
use Rattle.std.proofs.lemmas.Int.{ints}
use Rattle.xt_asm.proofs.Codes.{past_words}
use Rattle.xt_asm.proofs.kinds.is_code.Goals as goal

pub returns-then-value-gt4294967295 : goal.returns-then-value-gt4294967295
returns-then-value-gt4294967295 c = past_words c.args.value (omega (arith, ints))
