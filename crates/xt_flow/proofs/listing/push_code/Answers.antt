use Rattle.std.proofs.Common.{◌≡◌, ◌+◌, ◌++◌, ◌<◌, ◌∙◌, ap, length, length-drop, string_bytes, rules, arith}
use Rattle.std.proofs.lemmas.List.{take_rest}
use Rattle.std.proofs.lemmas.Bool.Decides.{nat_tests}
use Rattle.xt_flow.specs.FlowTables.{marks_of}
use Rattle.xt_flow.specs.Printing.{first_line, flow_lines, first_line_length}
use Rattle.xt_flow.proofs.Walks.{no_line_left, one_line_more}
use Rattle.xt_flow.proofs.listing.push_code.Goals as goal

pub loop-rest-preserved : goal.loop-rest-preserved
loop-rest-preserved c =
    let m = marks_of c.args.segments.now c.args.visited.now.starts.items c.args.visited.now.reads.items in
    let n = c.in_ok-shown.shown in
    let rest = c.loop-rest.rest.now in
    let is : n ≡ first_line_length m c.loop-rest.address rest = c.in_ok-shown.ensures.shown in
    let few = c.in_ok-shown.ensures.few in
    let some : 0 < length rest = omega (arith, few) in
    let printed : string_bytes c.push_first_line.new.out ≡ string_bytes c.loop-rest.out ++ first_line m c.loop-rest.address rest = search rules in
    let whole = one_line_more m (string_bytes c.loop-rest.out) (string_bytes c.push_first_line.new.out) _ c.loop-rest.address n rest some is printed c.loop-rest.invariant.0 in
    let below = c.loop-rest.invariant.1 in (
      ap (λ xs. string_bytes c.push_first_line.new.out ++ flow_lines m (c.loop-rest.address + n) xs) (take_rest rest n) ∙ whole,
      (let same = ap length (take_rest rest n) in let len = length-drop n rest in omega arith),
    )

pub returns : goal.returns
returns c =
    let m = marks_of c.args.segments.now c.args.visited.now.starts.items c.args.visited.now.reads.items in
    let none : length c.loop-rest.rest.now ≡ 0 = grind (arith, nat_tests) in
    no_line_left m (string_bytes c.loop-rest.out) _ c.loop-rest.address c.loop-rest.rest.now none c.loop-rest.invariant.0
