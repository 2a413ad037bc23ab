use Rattle.xt_map.specs.Memory.{constant_byte}
use Rattle.xt_report.proofs.Fetching.{fetches_small}
use Rattle.xt_report.proofs.text.push_insn.Goals as goal

pub push_listed-requires : goal.push_listed-requires
push_listed-requires c = fetches_small (constant_byte c.args.code.now) c.args.pc c.in-Insn.field-0 c.in-Insn.field-1 c.in-Insn.ensures.fetched.0
