use Rattle.std.proofs.Common.{◌≡◌, arith}
use Rattle.xt_codec.specs.DecoderAnswers.{answer}
use Rattle.xt_codec.specs.declared.Decoded.TheVariants as decoded
use Rattle.xt_disasm.specs.Listing.{byte_at}
use Rattle.xt_disasm.proofs.Decoding.{at_front, front-good, front-illegal, front-short}
use Rattle.xt_disasm.proofs.lines.front.Goals as goal

pub returns-in-Good : goal.returns-in-Good
returns-in-Good c =
    let is : decoded.Good c.in-Good.insn c.in-Good.len ≡ answer (byte_at c.args.bytes.now 0) (at_front c.args.bytes.now) = cc (c.in-Good.ensures.spelled) in
    front-good c.args.bytes.now c.in-Good.insn c.in-Good.len is (omega arith)

pub returns-in_default : goal.returns-in_default
returns-in_default c =
    let is : decoded.Good c.in-Good.insn c.in-Good.len ≡ answer (byte_at c.args.bytes.now 0) (at_front c.args.bytes.now) = cc (c.in-Good.ensures.spelled) in
    front-short c.args.bytes.now c.in-Good.insn c.in-Good.len is (omega arith)

pub returns-in_default-2 : goal.returns-in_default-2
returns-in_default-2 c =
    let is : decoded.Illegal ≡ answer (byte_at c.args.bytes.now 0) (at_front c.args.bytes.now) = cc (c.in_default.ensures.spelled) in
    front-illegal c.args.bytes.now is
