use Rattle.std.proofs.Common.{◌≡◌, ◌∷◌, ◌++◌, ◌≤◌, length, string_bytes, arith, rules, take}
use Rattle.std.specs.Prelude.{codes}
use Rattle.xt_disasm.specs.Operands.{operand_text}
use Rattle.xt_disasm.proofs.Joined.{behind, joined}
use Rattle.xt_disasm.proofs.operand.push_operands.Goals as goal

pub returns : goal.returns
returns c =
    let all : length c.in-Some.others.now ≤ c.loop-operand.operand-index = omega arith in
    let space : string_bytes c.push_str.new.self ≡ string_bytes c.args.out.now ++ codes " " = search rules in
    let first : string_bytes c.push_operand.new.out ≡ string_bytes c.push_str.new.self ++ operand_text c.in-Some.first.now = search rules in
    let others : string_bytes c.loop-operand.out ≡ string_bytes c.push_operand.new.out ++ behind (take c.loop-operand.operand-index c.in-Some.others.now) = c.loop-operand.invariant in
    let parts : c.args.operands.now ≡ c.in-Some.first.now ∷ c.in-Some.others.now = search rules in
    let whole = joined (string_bytes c.args.out.now) c.in-Some.first.now c.in-Some.others.now c.loop-operand.operand-index all in
    cc
