use Rattle.std.proofs.Common.{sym}
use Rattle.std.proofs.lemmas.Iterator.Adapters.{position_from-zero}
use Rattle.xt_elf.specs.declared.header.Header.{Header}
use Rattle.xt_elf.specs.Rules.{do_overlap}
use Rattle.xt_elf.proofs.rules.first_sharing.Goals as goal

pub loop-i-init : goal.loop-i-init
loop-i-init c = sym (position_from-zero (λ (k : Header). do_overlap k c.args.header.now) c.args.before.now)
