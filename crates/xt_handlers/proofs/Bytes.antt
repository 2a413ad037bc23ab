-- The bytes of a vector.
use Rattle.std.proofs.Common.{◌≡◌, ℕ, zero, suc, ◌+◌, ◌<◌, ◌≤◌, refl, sym, ◌∙◌, ap, arith, List, length, get_or, drop}
use Rattle.xt_isa.specs.Spelling.{length_of}
use Rattle.xt_map.specs.Code.{code_bytes}
use Rattle.xt_handlers.specs.Symbols.{Effect, effect_after_step}
use Rattle.xt_handlers.specs.Handling.{answer_at, walk}
use Rattle.xt_handlers.specs.Spelled.{step_of, lines_in}
use Rattle.xt_handlers.specs.declared.stretch.Side.{Side}
use Rattle.xt_handlers.specs.declared.stretch.HandlerInsn.{HandlerInsn}
use Rattle.xt_handlers.specs.declared.stretch.HandlerVerdict.{HandlerVerdict}
use Rattle.xt_handlers.specs.declared.stretch.HandlerVerdict.TheVariants.{No}
use Rattle.xt_handlers.specs.declared.stretch.Side.TheVariants.{Overflow, Underflow}
use Rattle.xt_handlers.specs.declared.stretch.HandlerInsn.TheVariants.{Rfwo, Rfwu, Foreign}
use Rattle.xt_handlers.proofs.Lines.{here, lines_cut}

pub code_bytes-length : (code : ℕ → ℕ) (a n : ℕ) → length (code_bytes code a n) ≡ n
code_bytes-length code a zero = refl
code_bytes-length code a (suc n) = ap suc (code_bytes-length code (a + 1) n)

pub code_bytes-at : (code : ℕ → ℕ) (a n i : ℕ) → i < n → get_or (code_bytes code a n) i 0 ≡ code (a + i)
code_bytes-at code a zero i h = absurd (omega arith)
code_bytes-at code a (suc n) zero h = let e : a ≡ a + 0 = omega arith in ap code e
code_bytes-at code a (suc n) (suc i) h = let e : (a + 1) + i ≡ a + suc i = omega arith in code_bytes-at code (a + 1) n i (omega arith) ∙ ap code e

pub code_bytes-past : (code : ℕ → ℕ) (a n i : ℕ) → n ≤ i → get_or (code_bytes code a n) i 0 ≡ 0
code_bytes-past code a zero i h = refl
code_bytes-past code a (suc n) zero h = absurd (omega arith)
code_bytes-past code a (suc n) (suc i) h = code_bytes-past code (a + 1) n i (omega arith)

-- the answer by the instruction at an offset, of which the first byte is given
pub here_at : (side : Side) (n : ℕ) (e : Effect) (bytes : List ℕ) (o len first second third : ℕ) (step : HandlerInsn) (answer : HandlerVerdict) →
    length bytes ≡ 64 → 2 ≤ len → len ≡ length_of first → o + len ≤ 64 → first ≡ get_or bytes o 0 → second ≡ get_or bytes (o + 1) 0 → third ≡ get_or bytes (o + 2) 0 →
    step ≡ step_of first second third → walk side n e (lines_in 0 o (drop o bytes)) ≡ answer →
    answer_at side n e o step (walk side n (effect_after_step e step) (lines_in 0 (o + len) (drop (o + len) bytes))) ≡ answer
here_at side n e bytes o len first second third step answer size low is h a b c st w =
    here side n e bytes o len second third step answer low (is ∙ ap length_of a) (omega (arith, size)) b c (st ∙ ap (λ x. step_of x second third) a) w

pub cut_at : (side : Side) (n : ℕ) (e : Effect) (bytes : List ℕ) (o len first : ℕ) (answer : HandlerVerdict) →
    length bytes ≡ 64 → len ≡ length_of first → o < 64 → 64 < o + len → first ≡ get_or bytes o 0 → walk side n e (lines_in 0 o (drop o bytes)) ≡ answer → No 64 ≡ answer
cut_at side n e bytes o len first answer size is low h a w =
    let long : len ≡ length_of (get_or bytes o 0) = is ∙ ap length_of a in
    sym (ap (walk side n e) (lines_cut bytes o (omega (arith, size)) (omega (arith, size, long)))) ∙ w

pub rfwo_stops : (side : Side) (n o : ℕ) (e : Effect) (rest : HandlerVerdict) → side ≡ Underflow → answer_at side n e o Rfwo rest ≡ No o
rfwo_stops Overflow n o e rest h = absurd cc
rfwo_stops Underflow n o e rest h = refl

pub rfwu_stops : (side : Side) (n o : ℕ) (e : Effect) (rest : HandlerVerdict) → side ≡ Overflow → answer_at side n e o Rfwu rest ≡ No o
rfwu_stops Overflow n o e rest h = refl
rfwu_stops Underflow n o e rest h = absurd cc

foreign_stops : (side : Side) (n o : ℕ) (e : Effect) (rest answer : HandlerVerdict) → answer_at side n e o Foreign rest ≡ answer → No o ≡ answer
foreign_stops Overflow n o e rest answer h = h
foreign_stops Underflow n o e rest answer h = h

pub foreign_at : (side : Side) (n : ℕ) (e : Effect) (bytes : List ℕ) (o len first second third : ℕ) (answer : HandlerVerdict) →
    length bytes ≡ 64 → 2 ≤ len → len ≡ length_of first → o + len ≤ 64 → first ≡ get_or bytes o 0 → second ≡ get_or bytes (o + 1) 0 → third ≡ get_or bytes (o + 2) 0 →
    Foreign ≡ step_of first second third → walk side n e (lines_in 0 o (drop o bytes)) ≡ answer → No o ≡ answer
foreign_at side n e bytes o len first second third answer size low is h a b c st w =
    foreign_stops side n o e (walk side n (effect_after_step e Foreign) (lines_in 0 (o + len) (drop (o + len) bytes))) answer
    (here_at side n e bytes o len first second third Foreign answer size low is h a b c st w)
