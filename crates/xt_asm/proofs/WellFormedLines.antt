-- What is known of the lines of a text without a fault.
use Rattle.std.proofs.Common.{◌≡◌, ℕ, ◌+◌, ◌<◌, ◌≤◌, Bool, true, false, ◌&&◌, ◌||◌, cond, List, [], ◌∷◌, ◌++◌, length, take, get_or, Some, None, refl, sym, ap, ◌∙◌, ⊎_elim, arith}
use Rattle.std.specs.Prelude.{nat_le, not}
use Rattle.std.specs.Option.{option_map_or}
use Rattle.std.specs.List.{list_any, slice_get}
use Rattle.std.proofs.lemmas.Bool.{cases_Bool, cases_eq, false_from_ne_true, both_ways}
use Rattle.std.proofs.lemmas.Bool.Decides.{nat_tests}
use Rattle.std.proofs.lemmas.List.{get_or-take, length-take-le}
use Rattle.std.proofs.lemmas.List.Folds.{list_any_at}
use Rattle.std.proofs.lemmas.List.Sums.{sum_by-cons, sum_by_push}
use Rattle.std.proofs.lemmas.Option.{slice_get-get_or}
use Rattle.xt_asm.proofs.Clear.{not_failed}
use Rattle.xt_lex.specs.declared.labels.Label.{Label}
use Rattle.xt_parse.specs.declared.line.Line.{Line}
use Rattle.xt_layout.specs.declared.word.PoolWord.{PoolWord}
use Rattle.xt_layout.specs.Around.{each_after}
use Rattle.xt_layout.specs.Findings.{Finding, at_statement, fails, first, or_else}
use Rattle.xt_layout.specs.Pools.{has_no_pool, is_segment, words_of}
use Rattle.xt_layout.specs.Addresses.{labels_of}
use Rattle.xt_layout.specs.Faults.{defines, has_entry, is_last, is_misaligned, is_outside, is_too_many, overlaps, segments_in, twice}
use Rattle.xt_layout.specs.Sizes.{pool_size}
use Rattle.xt_layout.specs.Spans.{meet, spans_of}
use Rattle.xt_layout.specs.Spots.{spot_at}
use Rattle.xt_asm.specs.Kinds.{has_segment, has_misfit, has_no_word, has_unknown, is_misaligned_target, is_out_of_reach, is_range, is_stray_entry, kinds_at, lines_fault, no_entry}
use Rattle.xt_asm.specs.Operands.{insn_at, site_at}

-- ---- no finding

pub both_none : (x y : Finding) → or_else x y ≡ None → (x ≡ None) × (y ≡ None)
both_none None y h = (refl, h)
both_none (Some f) y h = absurd cc

-- each of the findings is none
abbrev AreNone : List Finding → Type 0
AreNone [] = Unit {0}
AreNone (x ∷ xs) = (x ≡ None) × AreNone xs

are_none : (xs : List Finding) → first xs ≡ None → AreNone xs
are_none [] h = tt
are_none (x ∷ xs) h = let both = both_none x (first xs) h in (both.0, are_none xs both.1)

-- f finds nothing at any of the lines, which stand after some others
abbrev pub FindsNone : (List Line → Line → List Line → Finding) → List Line → List Line → Type 0
FindsNone f before [] = Unit {0}
FindsNone f before (l ∷ rest) = (f before l rest ≡ None) × FindsNone f (before ++ l ∷ []) rest

finds_none : (f : List Line → Line → List Line → Finding) (before rest : List Line) → first (each_after f before rest) ≡ None → FindsNone f before rest
finds_none f before [] h = tt
finds_none f before (l ∷ rest) h =
    let both = both_none (f before l rest) (first (each_after f (before ++ l ∷ []) rest)) h in
    (both.0, finds_none f (before ++ l ∷ []) rest both.1)

finds_none_by : (f g : List Line → Line → List Line → Finding) → ((before : List Line) (l : Line) (rest : List Line) → f before l rest ≡ None → g before l rest ≡ None) →
    (before rest : List Line) → FindsNone f before rest → FindsNone g before rest
finds_none_by f g by before [] h = tt
finds_none_by f g by before (l ∷ rest) h = (by before l rest h.0, finds_none_by f g by (before ++ l ∷ []) rest h.1)

-- ---- the findings that the image rests on

abbrev pub too_many : List Line → Line → List Line → Finding
too_many before l rest = is_too_many (segments_in before) l

abbrev pub outside : List PoolWord → List Line → Line → List Line → Finding
outside words before l rest = is_outside (pool_size words (length before)) (spot_at words before l) l (is_last rest)

-- at a `.seg`, its own one of the given things meets an earlier one
abbrev pub meets_earlier : {S : Type 0} → (S → S → Bool) → List S → ℕ → Line → Bool
meets_earlier meets xs n l = is_segment l.statement && option_map_or (λ own. list_any (meets own) (take n xs)) (slice_get xs n) false

abbrev pub overlapping : {S : Type 0} → (S → S → Bool) → List S → List Line → Line → List Line → Finding
overlapping meets xs before l rest = fails (meets_earlier meets xs (segments_in before) l) (at_statement l 7)

abbrev pub stray : List Label → List Line → Line → List Line → Finding
stray labels before l rest = fails (is_stray_entry labels l.statement) (at_statement l 6)

-- the findings of a line, in the order of the kinds
abbrev findings_at : List Line → List Line → Line → List Line → List Finding
findings_at lines before l rest =
    let here = spot_at (words_of lines) before l in
    let site = site_at lines before l in
    let made = insn_at site l.statement in
    twice (defines before) (has_entry before) l
    ∷ fails (has_unknown site.labels l.statement) (at_statement l 1)
    ∷ or_else (is_too_many (segments_in before) l) (fails (has_misfit site l.statement || is_range made) (at_statement l 2))
    ∷ or_else (is_misaligned here l) (fails (is_misaligned_target made) (at_statement l 5))
    ∷ or_else (is_outside (pool_size (words_of lines) (length before)) here l (is_last rest)) (fails (is_stray_entry site.labels l.statement) (at_statement l 6))
    ∷ overlaps (spans_of lines) (segments_in before) l
    ∷ or_else (has_no_pool before l rest) (fails (has_no_word site l.statement || is_out_of_reach made) (at_statement l 3))
    ∷ []

-- of a text without a fault
pub record IsFaultless (lines : List Line) : Type 0 where
  pub some : 0 < segments_in lines
  pub few : FindsNone too_many [] lines
  pub inside : FindsNone (outside (words_of lines)) [] lines
  pub apart : FindsNone (overlapping meet (spans_of lines)) [] lines
  pub entry : FindsNone (stray (labels_of lines)) [] lines

all_at : (lines before : List Line) (l : Line) (rest : List Line) → kinds_at lines before l rest ≡ None → AreNone (findings_at lines before l rest)
all_at lines before l rest h = are_none (findings_at lines before l rest) h

second_holds : (a b : Bool) → not (a && b) ≡ false → b ≡ true
second_holds true true e = refl
second_holds true false e = absurd (cc)
second_holds false b e = absurd (cc)

one_more : (b : Bool) (later : Bool) (n : ℕ) → (b || later) ≡ true → (later ≡ true → 0 < n) → 0 < cond b 1 0 + n
one_more true later n e h = omega arith
one_more false later n e h = omega (arith, h e)

counted : (lines : List Line) → has_segment lines ≡ true → 0 < segments_in lines
counted [] e = absurd (cc)
counted (l ∷ lines) e =
    let more : segments_in (l ∷ lines) ≡ cond (is_segment l.statement) 1 0 + segments_in lines = sum_by-cons (λ (l : Line). cond (is_segment l.statement) 1 0) l lines in
    omega (arith, more, one_more (is_segment l.statement) (has_segment lines) (segments_in lines) e (counted lines))

pub faultless : (lines : List Line) → lines_fault lines ≡ None → IsFaultless lines
unfolding lines_fault
faultless lines h =
    let both = both_none (first (each_after (kinds_at lines) [] lines)) (no_entry lines) h in
    let none : FindsNone (kinds_at lines) [] lines = finds_none (kinds_at lines) [] lines both.0 in
    let segments : has_segment lines ≡ true = second_holds (has_entry lines) (has_segment lines) (not_failed (not (has_entry lines && has_segment lines)) (record { line = 0; column = 0; kind = 9 }) both.1) in
    record {
      some = counted lines segments;
      few = finds_none_by (kinds_at lines) too_many (λ before l rest at.
          (both_none (too_many before l rest) (fails (has_misfit (site_at lines before l) l.statement || is_range (insn_at (site_at lines before l) l.statement)) (at_statement l 2)) (all_at lines before l rest at).1.1.0).0) [] lines none;
      inside = finds_none_by (kinds_at lines) (outside (words_of lines)) (λ before l rest at.
          (both_none (outside (words_of lines) before l rest) (stray (labels_of lines) before l rest) (all_at lines before l rest at).1.1.1.1.0).0) [] lines none;
      apart = finds_none_by (kinds_at lines) (overlapping meet (spans_of lines)) (λ before l rest at. (all_at lines before l rest at).1.1.1.1.1.0) [] lines none;
      entry = finds_none_by (kinds_at lines) (stray (labels_of lines)) (λ before l rest at.
          (both_none (outside (words_of lines) before l rest) (stray (labels_of lines) before l rest) (all_at lines before l rest at).1.1.1.1.0).1) [] lines none;
    }

-- ---- how many segments

seventeen : (b : Bool) (n : ℕ) → n ≤ 16 → (b && nat_le 16 n) ≡ false → n + cond b 1 0 ≤ 16
seventeen b n le h = grind (arith, nat_tests)

few_behind : (before rest : List Line) → segments_in before ≤ 16 → FindsNone too_many before rest → segments_in before + segments_in rest ≤ 16
few_behind before [] le none = omega arith
few_behind before (l ∷ rest) le none =
    let one : segments_in (before ++ l ∷ []) ≡ segments_in before + cond (is_segment l.statement) 1 0 = sum_by_push (λ (l : Line). cond (is_segment l.statement) 1 0) before l in
    let small : segments_in before + cond (is_segment l.statement) 1 0 ≤ 16 = seventeen (is_segment l.statement) (segments_in before) le (not_failed (is_segment l.statement && nat_le 16 (segments_in before)) (at_statement l 2) none.0) in
    omega (arith, few_behind (before ++ l ∷ []) rest (omega arith) none.1, sum_by-cons (λ (l : Line). cond (is_segment l.statement) 1 0) l rest)

pub few_segments : (lines : List Line) → FindsNone too_many [] lines → segments_in lines ≤ 16
few_segments lines none = let le : segments_in [] + segments_in lines ≤ 16 = few_behind [] lines (omega arith) none in omega arith

-- ---- no two spans share an address

and_true : (a b : Bool) → a ≡ true → (a && b) ≡ false → b ≡ false
and_true true b h e = e
and_true false b h e = absurd cc

one_if : (b : Bool) → b ≡ true → cond {A = ℕ} b 1 0 ≡ 1
one_if b h = rw h refl

none_if : (b : Bool) → b ≡ false → cond {A = ℕ} b 1 0 ≡ 0
none_if b h = rw h refl

own_apart : {S : Type 0} (meets : S → S → Bool) (xs : List S) (n : ℕ) (d : S) → n < length xs → option_map_or (λ own. list_any (meets own) (take n xs)) (slice_get xs n) false ≡ false →
    list_any (meets (get_or xs n d)) (take n xs) ≡ false
own_apart meets xs n d lt h = ap (λ o. option_map_or (λ own. list_any (meets own) (take n xs)) o false) (sym (slice_get-get_or xs n d lt)) ∙ h

apart_behind : {S : Type 0} (meets : S → S → Bool) (xs : List S) (before rest : List Line) → FindsNone (overlapping meets xs) before rest → (j : ℕ) (d : S) →
    segments_in before ≤ j → j < segments_in before + segments_in rest → j < length xs → list_any (meets (get_or xs j d)) (take j xs) ≡ false
apart_behind meets xs before [] none j d ge lt within = absurd (omega arith)
apart_behind meets xs before (l ∷ rest) none j d ge lt within =
    let one : segments_in (before ++ l ∷ []) ≡ segments_in before + cond (is_segment l.statement) 1 0 = sum_by_push (λ (l : Line). cond (is_segment l.statement) 1 0) before l in
    let more : segments_in (l ∷ rest) ≡ cond (is_segment l.statement) 1 0 + segments_in rest = sum_by-cons (λ (l : Line). cond (is_segment l.statement) 1 0) l rest in
    let found : meets_earlier meets xs (segments_in before) l ≡ false = not_failed (meets_earlier meets xs (segments_in before) l) (at_statement l 7) none.0 in
    ⊎_elim
    (λ (seg : is_segment l.statement ≡ true).
    let counted : cond {A = ℕ} (is_segment l.statement) 1 0 ≡ 1 = one_if (is_segment l.statement) seg in
    ⊎_elim
    (λ (is : segments_in before ≡ j).
    ap (λ n. list_any (meets (get_or xs n d)) (take n xs)) (sym is)
    ∙ own_apart meets xs (segments_in before) d (omega arith)
    (and_true (is_segment l.statement) (option_map_or (λ own. list_any (meets own) (take (segments_in before) xs)) (slice_get xs (segments_in before)) false) seg found))
    (λ (other : segments_in before ≡ j → ⊥). apart_behind meets xs (before ++ l ∷ []) rest none.1 j d (omega arith) (omega arith) within) (cases_eq (segments_in before) j))
    (λ (no_seg : is_segment l.statement ≡ false).
    let counted : cond {A = ℕ} (is_segment l.statement) 1 0 ≡ 0 = none_if (is_segment l.statement) no_seg in
    apart_behind meets xs (before ++ l ∷ []) rest none.1 j d (omega arith) (omega arith) within) (cases_Bool (is_segment l.statement))

in_take : {S : Type 0} (xs : List S) (i j : ℕ) → i < j → j < length xs → i < length (take j xs)
in_take xs i j lt within = omega (arith, length-take-le j xs (omega arith))

pub apart_at : {S : Type 0} (meets : S → S → Bool) (xs : List S) (lines : List Line) → FindsNone (overlapping meets xs) [] lines → length xs ≡ segments_in lines →
    (i j : ℕ) (d : S) → i < j → j < length xs → meets (get_or xs j d) (get_or xs i d) ≡ false
apart_at meets xs lines none as_many i j d lt within =
    let none_met : list_any (meets (get_or xs j d)) (take j xs) ≡ false = apart_behind meets xs [] lines none j d (omega arith) (omega arith) within in
    false_from_ne_true (meets (get_or xs j d) (get_or xs i d)) (λ met.
    both_ways (list_any (meets (get_or xs j d)) (take j xs)) none_met
    (list_any_at (meets (get_or xs j d)) (take j xs) i d (in_take xs i j lt within) (ap (meets (get_or xs j d)) (get_or-take j xs i d lt) ∙ met)))
