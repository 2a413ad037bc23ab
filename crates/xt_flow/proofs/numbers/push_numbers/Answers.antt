use Rattle.std.proofs.Common.{◌≡◌, ◌+◌, ◌++◌, ◌<◌, ◌∙◌, ap, length, length-drop, rules, arith}
use Rattle.std.proofs.lemmas.List.{take_rest}
use Rattle.std.proofs.lemmas.Bool.Decides.{nat_tests}
use Rattle.std.specs.Prelude.{string_bytes}
use Rattle.xt_flow.specs.Sources.{data_count, data_words, numbers, source_line, source_lines}
use Rattle.xt_flow.proofs.Sourced.{no_line_left, numbers_show, one_line_more}
use Rattle.xt_flow.proofs.numbers.push_numbers.Goals as goal

pub loop-rest-preserved : goal.loop-rest-preserved
loop-rest-preserved c =
    let n = c.in_ok-shown.shown in
    let rest = c.loop-rest.rest.now in
    let is : n ≡ data_count rest = c.in_ok-shown.ensures.shown in
    let few = c.in_ok-shown.ensures.few in
    let some : 0 < length rest = omega (arith, few) in
    let printed : string_bytes c.push_first.new.out ≡ string_bytes c.loop-rest.out ++ source_line c.loop-rest.address (data_words rest) = search rules in
    let whole = one_line_more numbers numbers_show (string_bytes c.loop-rest.out) (string_bytes c.push_first.new.out) _ c.loop-rest.address n rest some is printed c.loop-rest.invariant.0 in
    let below = c.loop-rest.invariant.1 in (
      ap (λ xs. (string_bytes c.push_first.new.out) ++ source_lines numbers (c.loop-rest.address + n) xs) (take_rest rest n) ∙ whole,
      (let same = ap length (take_rest rest n) in let len = length-drop n rest in omega arith),
    )

pub returns : goal.returns
returns c =
    let none : length c.loop-rest.rest.now ≡ 0 = grind (arith, nat_tests) in
    no_line_left numbers (string_bytes c.loop-rest.out) _ c.loop-rest.address c.loop-rest.rest.now none c.loop-rest.invariant.0
