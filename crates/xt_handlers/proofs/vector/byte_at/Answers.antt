use Rattle.std.proofs.Common.{sym, ◌∙◌, arith}
use Rattle.xt_map.specs.Memory.{constant_byte}
use Rattle.xt_handlers.proofs.Bytes.{code_bytes-at, code_bytes-past}
use Rattle.xt_handlers.proofs.vector.byte_at.Goals as goal

pub returns-then-i-lt64 : goal.returns-then-i-lt64
returns-then-i-lt64 c = c.code_byte.ensures ∙ sym (code_bytes-at (constant_byte c.args.code.now) c.args.at 64 c.args.i (omega arith))

pub returns-else-i-lt64 : goal.returns-else-i-lt64
returns-else-i-lt64 c = sym (code_bytes-past (constant_byte c.args.code.now) c.args.at 64 c.args.i (omega arith))
