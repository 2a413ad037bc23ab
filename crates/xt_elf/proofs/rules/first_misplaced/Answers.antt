use Rattle.std.proofs.Common.{sym}
use Rattle.std.proofs.lemmas.Iterator.Adapters.{position_from-zero}
use Rattle.xt_elf.specs.Rules.{is_misplaced}
use Rattle.xt_elf.proofs.rules.first_misplaced.Goals as goal

pub loop-i-init : goal.loop-i-init
loop-i-init c = sym (position_from-zero is_misplaced c.args.headers.now)
