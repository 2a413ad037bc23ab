use Rattle.std.proofs.Common.{◌≡◌, ℕ, ◌+◌, ◌%◌, sym, ◌∙◌, ap, arith}
use Rattle.xt_map.specs.Memory.{constant_byte}
use Rattle.xt_discipline.proofs.Endings.{no_load_ends, no_store_ends}
use Rattle.xt_discipline.proofs.roles.reaches_frames.Goals as goal

pub returns-in-9 : goal.returns-in-9
returns-in-9 c = λ yes.
    let code = constant_byte c.args.code.now in
    let first : c.code_three-first.result.0 ≡ code c.args.pc = ap (λ (b : ℕ × ℕ × ℕ). b.0) c.code_three-first.ensures in
    let third : c.code_three-first.result.2 ≡ code (c.args.pc + 2) = ap (λ (b : ℕ × ℕ × ℕ). b.2) c.code_three-first.ensures in
    let major : c.code_three-first.result.0 % 16 ≡ 0 = omega (arith, c.if-first-ne0.false) in
    no_load_ends code c.args.pc (ap (λ (n : ℕ). n % 16) (sym first) ∙ major) (sym third ∙ c.in-9.is)

pub returns-in-73 : goal.returns-in-73
returns-in-73 c = λ yes.
    let code = constant_byte c.args.code.now in
    let first : c.code_three-first.result.0 ≡ code c.args.pc = ap (λ (b : ℕ × ℕ × ℕ). b.0) c.code_three-first.ensures in
    let third : c.code_three-first.result.2 ≡ code (c.args.pc + 2) = ap (λ (b : ℕ × ℕ × ℕ). b.2) c.code_three-first.ensures in
    let major : c.code_three-first.result.0 % 16 ≡ 0 = omega (arith, c.if-first-ne0.false) in
    no_store_ends code c.args.pc (ap (λ (n : ℕ). n % 16) (sym first) ∙ major) (sym third ∙ c.in-73.is)
