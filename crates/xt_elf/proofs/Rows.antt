-- Headers whose spans stand in a row share no byte.
use Rattle.std.proofs.Common.{◌≡◌, ℕ, ◌<◌, ◌≤◌, Bool, true, false, ◌&&◌, List, length, get_or, max, min, ◌⊎◌, ⊎_elim, refl, sym, ap, ◌∙◌, arith}
use Rattle.std.specs.Prelude.{nat_lt}
use Rattle.std.specs.List.Sorted.{IsPermutation}
use Rattle.std.proofs.lemmas.Bool.{and_right, cases_Bool, cases_order}
use Rattle.std.proofs.lemmas.Bool.Decides.{nat_tests}
use Rattle.std.proofs.lemmas.List.{get_or_default}
use Rattle.std.proofs.lemmas.List.Sorted.{Contains-permutation}
use Rattle.xt_elf.specs.declared.header.Header.{Header}
use Rattle.xt_elf.specs.declared.spans.Span.{Span}
use Rattle.xt_elf.specs.Headers.{is_loaded_header}
use Rattle.xt_elf.specs.Rules.{padded_end}
use Rattle.xt_elf.specs.Spans.{AreApart, AreInARow, HasSpans, span_of}

pub spans_moved : (hs : List Header) (n : ℕ) (old new : List Span) → IsPermutation old new → HasSpans hs n old → HasSpans hs n new
spans_moved hs n old new moved has k d lt loaded = Contains-permutation old new (span_of (get_or hs k d) k) moved (has k d lt loaded)

before_numbers : (a b e f : ℕ) → e ≤ b → nat_lt (max a b) (min e f) ≡ false
before_numbers a b e f h = grind (arith, nat_tests)

behind_numbers : (a b e f : ℕ) → f ≤ a → nat_lt (max a b) (min e f) ≡ false
behind_numbers a b e f h = grind (arith, nat_tests)

-- two spans of a row, at two places
apart_in_row : (ss : List Span) (x y : Span) (a b : ℕ) → AreInARow ss → a < b → b < length ss → get_or ss a x ≡ x → get_or ss b y ≡ y → x.ends ≤ y.begins
apart_in_row ss x y a b row lt within at bt =
    let le : (get_or ss a x).ends ≤ (get_or ss b x).begins = row a b x lt within in
    let p : (get_or ss a x).ends ≡ x.ends = ap (λ (s : Span). s.ends) at in
    let q : (get_or ss b x).begins ≡ y.begins = ap (λ (s : Span). s.begins) (get_or_default ss b x y within ∙ bt) in
    omega arith

idle_first : (a b t : Bool) → a ≡ false → ((a && b) && t) ≡ false
idle_first false b t h = refl
idle_first true b t h = absurd cc

idle_second : (a b t : Bool) → b ≡ false → ((a && b) && t) ≡ false
idle_second false b t h = refl
idle_second true false t h = refl
idle_second true true t h = absurd cc

pub row_apart : (hs : List Header) (n : ℕ) (ss : List Span) → HasSpans hs n ss → AreInARow ss → AreApart n hs
row_apart hs n ss has row i j d lt within =
    let h = get_or hs i d in
    let k = get_or hs j d in
    let meet : Bool = nat_lt (max h.addr k.addr) (min (padded_end h) (padded_end k)) in
    ⊎_elim
    (λ (l : is_loaded_header h ≡ true). ⊎_elim
    (λ (m : is_loaded_header k ≡ true).
    let x = span_of h i in
    let y = span_of k j in
    let (a, la, at) = has i d (omega arith) l in
    let (b, lb, bt) = has j d within m in
    and_right (is_loaded_header h && is_loaded_header k) meet
    (⊎_elim
    (λ (e : a ≡ b).
    let same : x ≡ y = sym at ∙ get_or_default ss a x y la ∙ ap (λ c. get_or ss c y) e ∙ bt in
    let number : i ≡ j = ap (λ (s : Span). s.number) same in
    absurd (omega arith))
    (λ (o : (a < b) ⊎ (b < a)). ⊎_elim
    (λ (first : a < b). before_numbers h.addr k.addr (padded_end h) (padded_end k) (apart_in_row ss x y a b row first lb at bt))
    (λ (first : b < a). behind_numbers h.addr k.addr (padded_end h) (padded_end k) (apart_in_row ss y x b a row first la bt at)) o)
    (cases_order a b)))
    (λ (m : is_loaded_header k ≡ false). idle_second (is_loaded_header h) (is_loaded_header k) meet m) (cases_Bool (is_loaded_header k)))
    (λ (l : is_loaded_header h ≡ false). idle_first (is_loaded_header h) (is_loaded_header k) meet l) (cases_Bool (is_loaded_header h))
