use Rattle.std.proofs.Common.{sym}
use Rattle.std.proofs.lemmas.Iterator.Adapters.{position_from-zero}
use Rattle.xt_elf.specs.Rules.{ends_behind}
use Rattle.xt_elf.proofs.rules.first_ending_behind.Goals as goal

pub loop-i-init : goal.loop-i-init
loop-i-init c = sym (position_from-zero (ends_behind c.args.end) c.args.headers.now)
