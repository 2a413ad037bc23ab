use Rattle.std.proofs.Common.{◌≡◌, ◌+◌, ◌%◌, ◌^◌, ◌++◌, ◌<◌, ◌∙◌, ap, length, string_bytes, rules, arith}
use Rattle.std.proofs.lemmas.List.{take_rest}
use Rattle.std.proofs.lemmas.Bool.Decides.{nat_tests}
use Rattle.xt_disasm.specs.Listing.{code_line, code_lines, front_length}
use Rattle.xt_disasm.proofs.Walks.{no_line_left, one_line_more}
use Rattle.xt_disasm.proofs.lines.push_code.Goals as goal

pub loop-rest-preserved : goal.loop-rest-preserved
loop-rest-preserved c =
    let n = c.in_ok-shown.shown in
    let rest = c.loop-rest.rest.now in
    let shown : n ≡ front_length rest = c.in_ok-shown.ensures.shown in
    let fits = c.in_ok-shown.ensures.fits in
    let some : 0 < length rest = omega (arith, fits) in
    let printed : string_bytes c.push_line.new.out ≡ string_bytes c.loop-rest.out ++ code_line c.loop-rest.address rest = search rules in
    let so_far : string_bytes c.loop-rest.out ++ code_lines c.loop-rest.address rest ≡ string_bytes c.args.out.now ++ code_lines c.args.pc c.args.bytes.now = c.loop-rest.invariant in
    ap (λ xs. string_bytes c.push_line.new.out ++ code_lines ((c.loop-rest.address + n) % 2 ^ 32) xs) (take_rest rest n)
    ∙ one_line_more (string_bytes c.loop-rest.out) (string_bytes c.push_line.new.out) _ c.loop-rest.address n rest some shown printed so_far

pub returns : goal.returns
returns c =
    let none : length c.loop-rest.rest.now ≡ 0 = grind (arith, nat_tests) in
    no_line_left (string_bytes c.loop-rest.out) _ c.loop-rest.address c.loop-rest.rest.now none c.loop-rest.invariant
