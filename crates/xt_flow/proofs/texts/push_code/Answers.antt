use Rattle.std.proofs.Common.{◌≡◌, ◌+◌, ◌++◌, ◌<◌, ◌∙◌, ap, length, length-drop, rules, arith}
use Rattle.std.proofs.lemmas.List.{take_rest}
use Rattle.std.proofs.lemmas.Bool.Decides.{nat_tests}
use Rattle.std.specs.Prelude.{option_map, string_bytes}
use Rattle.xt_flow.specs.FlowTables.{code_reading}
use Rattle.xt_flow.specs.Sources.{source_line, source_lines}
use Rattle.xt_flow.proofs.Sourced.{code_shows, no_line_left, one_line_more}
use Rattle.xt_flow.proofs.texts.push_code.Goals as goal

pub loop-rest-preserved : goal.loop-rest-preserved
loop-rest-preserved c =
    let r = code_reading c.args.segments.now (option_map (λ v. v.now) c.args.visited) in
    let n = c.in_ok-shown.shown in
    let rest = c.loop-rest.rest.now in
    let is : n ≡ r.count c.loop-rest.address rest = c.in_ok-shown.ensures.shown in
    let few = c.in_ok-shown.ensures.few in
    let some : 0 < length rest = omega (arith, few) in
    let printed : string_bytes c.push_first.new.out ≡ string_bytes c.loop-rest.out ++ source_line c.loop-rest.address (r.words c.loop-rest.address rest) = search rules in
    let whole = one_line_more r (code_shows c.args.segments.now (option_map (λ v. v.now) c.args.visited)) (string_bytes c.loop-rest.out) (string_bytes c.push_first.new.out) _ c.loop-rest.address n rest some is printed c.loop-rest.invariant.0 in
    let below = c.loop-rest.invariant.1 in (
      ap (λ xs. (string_bytes c.push_first.new.out) ++ source_lines r (c.loop-rest.address + n) xs) (take_rest rest n) ∙ whole,
      (let same = ap length (take_rest rest n) in let len = length-drop n rest in omega arith),
    )

pub returns : goal.returns
returns c =
    let r = code_reading c.args.segments.now (option_map (λ v. v.now) c.args.visited) in
    let none : length c.loop-rest.rest.now ≡ 0 = grind (arith, nat_tests) in
    no_line_left r (string_bytes c.loop-rest.out) _ c.loop-rest.address c.loop-rest.rest.now none c.loop-rest.invariant.0
