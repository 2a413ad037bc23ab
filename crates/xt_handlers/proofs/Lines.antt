-- The instruction at an offset, and those after it.
use Rattle.std.proofs.Common.{◌≡◌, ℕ, zero, suc, ◌+◌, ◌-◌, ◌<◌, ◌≤◌, refl, sym, ◌∙◌, ap, arith, List, [], ◌∷◌, length, get_or, drop}
use Rattle.std.proofs.lemmas.Bool.{cond-true, cond-false, le-ltb, lt-ltb}
use Rattle.std.proofs.lemmas.List.{drop_more, get_or-drop, length-drop, drop_all}
use Rattle.xt_handlers.specs.Symbols.{Effect, effect_after_step, opening}
use Rattle.xt_handlers.specs.Handling.{answer_at, ending_verdict, walk, handling_verdict}
use Rattle.xt_isa.specs.Spelling.{length_of}
use Rattle.xt_handlers.specs.Spelled.{step_of, lines_in, lines_of}
use Rattle.xt_handlers.specs.declared.stretch.Side.{Side}
use Rattle.xt_handlers.specs.declared.stretch.Side.TheVariants.{Overflow, Underflow}
use Rattle.xt_handlers.specs.declared.stretch.HandlerInsn.{HandlerInsn}
use Rattle.xt_handlers.specs.declared.stretch.HandlerInsn.TheVariants.{Rfwo, Rfwu}
use Rattle.xt_handlers.specs.declared.stretch.HandlerVerdict.{HandlerVerdict}

skip : (bytes : List ℕ) (k o : ℕ) → o + k ≤ length bytes → lines_in k o (drop o bytes) ≡ lines_in 0 (o + k) (drop (o + k) bytes)
skip bytes zero o h = let e : o ≡ o + 0 = omega arith in ap (λ j. lines_in 0 j (drop j bytes)) e
skip bytes (suc k) o h =
    let e : (o + 1) + k ≡ o + suc k = omega arith in
    ap (lines_in (suc k) o) (drop_more bytes o 0 (omega arith))
    ∙ (skip bytes k (o + 1) (omega arith) ∙ ap (λ j. lines_in 0 j (drop j bytes)) e)

pub lines_at : (bytes : List ℕ) (o len : ℕ) → 2 ≤ len → len ≡ length_of (get_or bytes o 0) → o + len ≤ length bytes →
    lines_in 0 o (drop o bytes) ≡ record { offset = o; step = step_of (get_or bytes o 0) (get_or bytes (o + 1) 0) (get_or bytes (o + 2) 0) } ∷ lines_in 0 (o + len) (drop (o + len) bytes)
lines_at bytes o len low is h =
    let a = get_or bytes o 0 in
    let rest = drop (o + 1) bytes in
    let more : ℕ = length_of a - 1 in
    let here : drop o bytes ≡ a ∷ rest = drop_more bytes o 0 (omega arith) in
    let room : length_of a ≤ length rest + 1 = omega (arith, length-drop (o + 1) bytes, is) in
    let b : get_or rest 0 0 ≡ get_or bytes (o + 1) 0 = get_or-drop (o + 1) bytes 0 0 ∙ (let e : (o + 1) + 0 ≡ o + 1 = omega arith in ap (λ j. get_or bytes j 0) e) in
    let c : get_or rest 1 0 ≡ get_or bytes (o + 2) 0 = get_or-drop (o + 1) bytes 1 0 ∙ (let e : (o + 1) + 1 ≡ o + 2 = omega arith in ap (λ j. get_or bytes j 0) e) in
    let tail : lines_in more (o + 1) rest ≡ lines_in 0 (o + len) (drop (o + len) bytes) =
    skip bytes more (o + 1) (omega (arith, is)) ∙ (let e : (o + 1) + more ≡ o + len = omega (arith, is) in ap (λ j. lines_in 0 j (drop j bytes)) e) in
    ap (lines_in 0 o) here
    ∙ (cond-false _ _ _ (le-ltb (length rest + 1) (length_of a) room)
    ∙ (ap (λ x. record { offset = o; step = step_of a x (get_or rest 1 0) } ∷ lines_in more (o + 1) rest) b
    ∙ (ap (λ x. record { offset = o; step = step_of a (get_or bytes (o + 1) 0) x } ∷ lines_in more (o + 1) rest) c
    ∙ ap (λ ls. record { offset = o; step = step_of a (get_or bytes (o + 1) 0) (get_or bytes (o + 2) 0) } ∷ ls) tail)))

pub lines_end : (bytes : List ℕ) (o : ℕ) → length bytes ≤ o → lines_in 0 o (drop o bytes) ≡ []
lines_end bytes o h = ap (lines_in 0 o) (drop_all o bytes h)

pub lines_cut : (bytes : List ℕ) (o : ℕ) → o < length bytes → length bytes < o + length_of (get_or bytes o 0) → lines_in 0 o (drop o bytes) ≡ []
lines_cut bytes o low h =
    ap (lines_in 0 o) (drop_more bytes o 0 low)
    ∙ cond-true _ _ _ (lt-ltb (length (drop (o + 1) bytes) + 1) (length_of (get_or bytes o 0)) (omega (arith, length-drop (o + 1) bytes)))

pub handling_is : (side : Side) (n : ℕ) (bytes : List ℕ) → walk side n opening (lines_in 0 0 (drop 0 bytes)) ≡ handling_verdict side n (lines_of bytes)
unfolding lines_of
handling_is side n bytes = refl

-- the answer by the instruction at an offset
pub here : (side : Side) (n : ℕ) (e : Effect) (bytes : List ℕ) (o len second third : ℕ) (step : HandlerInsn) (answer : HandlerVerdict) →
    2 ≤ len → len ≡ length_of (get_or bytes o 0) → o + len ≤ length bytes → second ≡ get_or bytes (o + 1) 0 → third ≡ get_or bytes (o + 2) 0 →
    step ≡ step_of (get_or bytes o 0) second third → walk side n e (lines_in 0 o (drop o bytes)) ≡ answer →
    answer_at side n e o step (walk side n (effect_after_step e step) (lines_in 0 (o + len) (drop (o + len) bytes))) ≡ answer
here side n e bytes o len second third step answer low is h b c st w =
    let rest = lines_in 0 (o + len) (drop (o + len) bytes) in
    let same : step ≡ step_of (get_or bytes o 0) (get_or bytes (o + 1) 0) (get_or bytes (o + 2) 0) =
    st ∙ (ap (λ x. step_of (get_or bytes o 0) x third) b ∙ ap (λ x. step_of (get_or bytes o 0) (get_or bytes (o + 1) 0) x) c) in
    ap (λ (x : HandlerInsn). answer_at side n e o x (walk side n (effect_after_step e x) rest)) same
    ∙ (sym (ap (walk side n e) (lines_at bytes o len low is h)) ∙ w)

pub rfwo_ends : (side : Side) (n o : ℕ) (e : Effect) (rest : HandlerVerdict) → side ≡ Overflow → answer_at side n e o Rfwo rest ≡ ending_verdict side n e o
rfwo_ends Overflow n o e rest h = refl
rfwo_ends Underflow n o e rest h = absurd cc

pub rfwu_ends : (side : Side) (n o : ℕ) (e : Effect) (rest : HandlerVerdict) → side ≡ Underflow → answer_at side n e o Rfwu rest ≡ ending_verdict side n e o
rfwu_ends Underflow n o e rest h = refl
rfwu_ends Overflow n o e rest h = absurd cc
