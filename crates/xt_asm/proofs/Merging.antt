-- The faults that the pools, the layout and the walk find are, taken together, the kinds of each line in their order.
use Rattle.std.proofs.Common.{◌≡◌, ℕ, suc, ◌<◌, ◌≤◌, Bool, true, false, ◌&&◌, ◌||◌, List, [], ◌∷◌, ◌++◌, Some, None, refl, sym, ap, ◌∙◌, eqb, length, arith, if◌then◌else◌}
use Rattle.std.specs.Prelude.{nat_lt}
use Rattle.std.proofs.lemmas.Bool.Decides.{nat_tests}
use Rattle.xt_lex.specs.declared.fault.AsmPlace.{AsmPlace}
use Rattle.xt_lex.specs.declared.name.Name.{Name}
use Rattle.xt_parse.specs.declared.line.Line.{Line}
use Rattle.xt_parse.specs.declared.line.Placed.{Placed}
use Rattle.xt_parse.specs.Small.{AreAbove}
use Rattle.xt_layout.specs.Around.{each, each_after}
use Rattle.xt_layout.specs.Findings.{Finding, IsOf, at_statement, fails, first, is_before, least, or_else, rank}
use Rattle.xt_layout.specs.Pools.{has_no_pool, pool_fault, words_of}
use Rattle.xt_layout.proofs.Leasts.{least_fault}
use Rattle.xt_layout.specs.Addresses.{label_name, literal_name}
use Rattle.xt_layout.specs.Faults.{again, defines, has_entry, is_entry, is_last, is_misaligned, is_outside, is_too_many, layout_fault, layout_faults, overlaps, segments_in, twice}
use Rattle.xt_layout.specs.Sizes.{pool_size}
use Rattle.xt_layout.specs.Spans.{spans_of}
use Rattle.xt_layout.specs.Spots.{spot_at}
use Rattle.xt_asm.specs.Kinds.{has_misfit, has_no_word, has_unknown, is_misaligned_target, is_out_of_reach, is_range, is_stray_entry, kinds_at}
use Rattle.xt_asm.specs.Operands.{insn_at, site_at}
use Rattle.xt_asm.specs.Walks.{own_at, own_first}

-- ---- lists of findings whose ranks rise

-- the finding, if any, is of this line and of this rank
abbrev HasRank : ℕ → ℕ → Finding → Type 0
HasRank n i None = Unit {0}
HasRank n i (Some place) = (place.line ≡ n) × (rank place.kind ≡ i)

abbrev RanksFrom : ℕ → ℕ → List Finding → Type 0
RanksFrom n i [] = Unit {0}
RanksFrom n i (x ∷ xs) = HasRank n i x × RanksFrom n (suc i) xs

-- the finding, if any, is of this line and of a higher rank
abbrev IsLater : ℕ → ℕ → Finding → Type 0
IsLater n i None = Unit {0}
IsLater n i (Some place) = (place.line ≡ n) × (i < rank place.kind)

first_later : (n i j : ℕ) (xs : List Finding) → i < j → RanksFrom n j xs → IsLater n i (first xs)
first_later n i j [] lt ranks = tt
first_later n i j (None ∷ xs) lt ranks = first_later n i (suc j) xs (omega arith) ranks.1
first_later n i j (Some place ∷ xs) lt ranks = (ranks.0.0, omega (arith, ranks.0.1))

-- two lists, place by place
abbrev merged : List Finding → List Finding → List Finding
merged [] ys = ys
merged (x ∷ xs) [] = x ∷ xs
merged (x ∷ xs) (y ∷ ys) = or_else x y ∷ merged xs ys

not_before : (a b r s : ℕ) → a ≡ b → s ≤ r → (nat_lt a b || (eqb a b && nat_lt r s)) ≡ false
not_before a b r s e le = grind (arith, nat_tests)

sooner_before : (a b r s : ℕ) → a ≡ b → r < s → (nat_lt a b || (eqb a b && nat_lt r s)) ≡ true
sooner_before a b r s e lt = grind (arith, nat_tests)

keeps_left : (n i : ℕ) (x : AsmPlace) (later : Finding) → x.line ≡ n → rank x.kind ≡ i → IsLater n i later → least (Some x) later ≡ Some x
keeps_left n i x None line r is = refl
keeps_left n i x (Some y) line r is = ap (λ b. if b then Some y else Some x) (not_before y.line x.line (rank y.kind) (rank x.kind) (is.0 ∙ sym line) (omega (arith, is.1)))

keeps_right : (n i : ℕ) (y : AsmPlace) (later : Finding) → y.line ≡ n → rank y.kind ≡ i → IsLater n i later → least later (Some y) ≡ Some y
keeps_right n i y None line r is = refl
keeps_right n i y (Some x) line r is = ap (λ b. if b then Some y else Some x) (sooner_before y.line x.line (rank y.kind) (rank x.kind) (line ∙ sym is.0) (omega (arith, is.1)))

keeps_first : (n i : ℕ) (x y : AsmPlace) → x.line ≡ n → rank x.kind ≡ i → y.line ≡ n → rank y.kind ≡ i → least (Some x) (Some y) ≡ Some x
keeps_first n i x y line r line' r' = ap (λ b. if b then Some y else Some x) (not_before y.line x.line (rank y.kind) (rank x.kind) (line' ∙ sym line) (omega (arith, r, r')))

least_merged : (n i : ℕ) (xs ys : List Finding) → RanksFrom n i xs → RanksFrom n i ys → least (first xs) (first ys) ≡ first (merged xs ys)
least_merged n i [] ys a b = refl
least_merged n i (x ∷ xs) [] a b = right_none (or_else x (first xs))
  where
    right_none : (f : Finding) → least f None ≡ f
    right_none None = refl
    right_none (Some place) = refl
least_merged n i (None ∷ xs) (None ∷ ys) a b = least_merged n (suc i) xs ys a.1 b.1
least_merged n i (Some x ∷ xs) (None ∷ ys) a b = keeps_left n i x (first ys) a.0.0 a.0.1 (first_later n i (suc i) ys (omega arith) b.1)
least_merged n i (None ∷ xs) (Some y ∷ ys) a b = keeps_right n i y (first xs) b.0.0 b.0.1 (first_later n i (suc i) xs (omega arith) a.1)
least_merged n i (Some x ∷ xs) (Some y ∷ ys) a b = keeps_first n i x y a.0.0 a.0.1 b.0.0 b.0.1

merged_rank : (n i : ℕ) (x y : Finding) → HasRank n i x → HasRank n i y → HasRank n i (or_else x y)
merged_rank n i None y a b = b
merged_rank n i (Some x) y a b = a

merged_ranks : (n i : ℕ) (xs ys : List Finding) → RanksFrom n i xs → RanksFrom n i ys → RanksFrom n i (merged xs ys)
merged_ranks n i [] ys a b = b
merged_ranks n i (x ∷ xs) [] a b = a
merged_ranks n i (x ∷ xs) (y ∷ ys) a b = (merged_rank n i x y a.0 b.0, merged_ranks n (suc i) xs ys a.1 b.1)

ranked_is_of : (l : Line) (i : ℕ) (xs : List Finding) → RanksFrom l.number i xs → IsOf l (first xs)
ranked_is_of l i [] a = tt
ranked_is_of l i (None ∷ xs) a = ranked_is_of l (suc i) xs a.1
ranked_is_of l i (Some x ∷ xs) a = a.0.0

-- ---- the findings of a line

fails_rank : (n i : ℕ) (b : Bool) (place : AsmPlace) → place.line ≡ n → rank place.kind ≡ i → HasRank n i (fails b place)
fails_rank n i true place line r = (line, r)
fails_rank n i false place line r = tt

again_rank : (defined : Name → Bool) (l : Line) (ps : List Placed) → HasRank l.number 0 (again defined l ps)
again_rank defined l [] = tt
again_rank defined l (p ∷ ps) = elim (defined p.name) as (λ b. HasRank l.number 0 (if b then Some (record { line = l.number; column = p.column; kind = 4 }) else again defined l ps)) [
  | true ↦ (refl, refl)
  | false ↦ again_rank defined l ps
]

twice_rank : (defined : Name → Bool) (entry : Bool) (l : Line) → HasRank l.number 0 (twice defined entry l)
twice_rank defined entry l =
    let last = fails_rank l.number 0 (is_entry l.statement && entry) (at_statement l 4) refl refl in
    merged_rank l.number 0 (again defined l (label_name l.label)) (first (again defined l (literal_name l.statement) ∷ fails (is_entry l.statement && entry) (at_statement l 4) ∷ [])) (again_rank defined l (label_name l.label))
    (merged_rank l.number 0 (again defined l (literal_name l.statement)) (first (fails (is_entry l.statement && entry) (at_statement l 4) ∷ [])) (again_rank defined l (literal_name l.statement))
    (merged_rank l.number 0 (fails (is_entry l.statement && entry) (at_statement l 4)) None last tt))

outside_rank : (lines before : List Line) (l : Line) (last : Bool) → HasRank l.number 4 (is_outside (pool_size (words_of lines) (length before)) (spot_at (words_of lines) before l) l last)
outside_rank lines before l last = elim (spot_at (words_of lines) before l) as (λ h. HasRank l.number 4 (is_outside (pool_size (words_of lines) (length before)) h l last)) [
  | None ↦ tt
  | Some p ↦ fails_rank l.number 4 _ (at_statement l 6) refl refl
]

-- the findings of the pools, of the layout and of the walk, by rank
abbrev pool_list : List Line → Line → List Line → List Finding
pool_list before l rest = None ∷ None ∷ None ∷ None ∷ None ∷ None ∷ has_no_pool before l rest ∷ []

abbrev layout_list : List Line → List Line → Line → List Line → List Finding
layout_list lines before l rest =
    let here = spot_at (words_of lines) before l in
    twice (defines before) (has_entry before) l ∷ None ∷ is_too_many (segments_in before) l ∷ is_misaligned here l
    ∷ is_outside (pool_size (words_of lines) (length before)) here l (is_last rest) ∷ overlaps (spans_of lines) (segments_in before) l ∷ None ∷ []

abbrev own_list : List Line → List Line → Line → List Finding
own_list lines before l =
    let site = site_at lines before l in
    let made = insn_at site l.statement in
    None ∷ fails (has_unknown site.labels l.statement) (at_statement l 1) ∷ fails (has_misfit site l.statement || is_range made) (at_statement l 2)
    ∷ fails (is_misaligned_target made) (at_statement l 5) ∷ fails (is_stray_entry site.labels l.statement) (at_statement l 6) ∷ None
    ∷ fails (has_no_word site l.statement || is_out_of_reach made) (at_statement l 3) ∷ []

pool_ranks : (before : List Line) (l : Line) (rest : List Line) → RanksFrom l.number 0 (pool_list before l rest)
pool_ranks before l rest = (tt, (tt, (tt, (tt, (tt, (tt, (fails_rank l.number 6 _ (at_statement l 3) refl refl, tt)))))))

layout_ranks : (lines before : List Line) (l : Line) (rest : List Line) → RanksFrom l.number 0 (layout_list lines before l rest)
layout_ranks lines before l rest = (
  twice_rank (defines before) (has_entry before) l,
  (
    tt,
    (
      fails_rank l.number 2 _ (at_statement l 2) refl refl,
      (
        fails_rank l.number 3 _ (at_statement l 5) refl refl,
        (outside_rank lines before l (is_last rest), (fails_rank l.number 5 _ (at_statement l 7) refl refl, (tt, tt))),
      ),
    ),
  ),
)

own_ranks : (lines before : List Line) (l : Line) → RanksFrom l.number 0 (own_list lines before l)
own_ranks lines before l = (
  tt,
  (
    fails_rank l.number 1 _ (at_statement l 1) refl refl,
    (
      fails_rank l.number 2 _ (at_statement l 2) refl refl,
      (
        fails_rank l.number 3 _ (at_statement l 5) refl refl,
        (fails_rank l.number 4 _ (at_statement l 6) refl refl, (tt, (fails_rank l.number 6 _ (at_statement l 3) refl refl, tt))),
      ),
    ),
  ),
)

-- ---- one line

or_nothing : (x : Finding) → or_else x None ≡ x
or_nothing None = refl
or_nothing (Some place) = refl

-- the findings of the layout, as it says them
abbrev layout_at : List Line → List Line → Line → List Line → Finding
layout_at lines before l rest = first (layout_faults (words_of lines) (spans_of lines) before l rest)

pool_first : (before : List Line) (l : Line) (rest : List Line) → first (pool_list before l rest) ≡ has_no_pool before l rest
pool_first before l rest = or_nothing (has_no_pool before l rest)

line_merged : (lines before : List Line) (l : Line) (rest : List Line) → least (least (has_no_pool before l rest) (layout_at lines before l rest)) (own_at lines before l rest) ≡ kinds_at lines before l rest
line_merged lines before l rest =
    let here = spot_at (words_of lines) before l in
    let site = site_at lines before l in
    let made = insn_at site l.statement in
    let t : Finding = twice (defines before) (has_entry before) l in
    let u : Finding = fails (has_unknown site.labels l.statement) (at_statement l 1) in
    let r : Finding = or_else (is_too_many (segments_in before) l) (fails (has_misfit site l.statement || is_range made) (at_statement l 2)) in
    let m : Finding = or_else (is_misaligned here l) (fails (is_misaligned_target made) (at_statement l 5)) in
    let s : Finding = or_else (is_outside (pool_size (words_of lines) (length before)) here l (is_last rest)) (fails (is_stray_entry site.labels l.statement) (at_statement l 6)) in
    let v : Finding = overlaps (spans_of lines) (segments_in before) l in
    let p : Finding = has_no_pool before l rest in
    let q : Finding = fails (has_no_word site l.statement || is_out_of_reach made) (at_statement l 3) in
    ap (λ x. least (least x (layout_at lines before l rest)) (own_at lines before l rest)) (sym (pool_first before l rest))
    ∙ ap (λ x. least x (own_at lines before l rest)) (least_merged l.number 0 (pool_list before l rest) (layout_list lines before l rest) (pool_ranks before l rest) (layout_ranks lines before l rest))
    ∙ least_merged l.number 0 (merged (pool_list before l rest) (layout_list lines before l rest)) (own_list lines before l)
    (merged_ranks l.number 0 (pool_list before l rest) (layout_list lines before l rest) (pool_ranks before l rest) (layout_ranks lines before l rest)) (own_ranks lines before l)
    ∙ ap (λ x. first (x ∷ u ∷ r ∷ m ∷ s ∷ or_else v None ∷ or_else (or_else p None) q ∷ [])) (or_nothing t)
    ∙ ap (λ x. first (t ∷ u ∷ r ∷ m ∷ s ∷ x ∷ or_else (or_else p None) q ∷ [])) (or_nothing v)
    ∙ ap (λ x. first (t ∷ u ∷ r ∷ m ∷ s ∷ v ∷ or_else x q ∷ [])) (or_nothing p)

-- ---- all lines

pool_is_of : (before : List Line) (l : Line) (rest : List Line) → IsOf l (has_no_pool before l rest)
pool_is_of before l rest = fails_is_of l _
  where
    fails_is_of : (l : Line) (b : Bool) → IsOf l (fails b (at_statement l 3))
    fails_is_of l true = refl
    fails_is_of l false = tt

layout_is_of : (lines before : List Line) (l : Line) (rest : List Line) → IsOf l (layout_at lines before l rest)
layout_is_of lines before l rest = ranked_is_of l 0 (layout_list lines before l rest) (layout_ranks lines before l rest)

own_is_of : (lines before : List Line) (l : Line) (rest : List Line) → IsOf l (own_at lines before l rest)
own_is_of lines before l rest = ranked_is_of l 0 (own_list lines before l) (own_ranks lines before l)

least_is_of : (l : Line) (x y : Finding) → IsOf l x → IsOf l y → IsOf l (least x y)
least_is_of l None y a b = b
least_is_of l (Some x) None a b = a
least_is_of l (Some x) (Some y) a b = elim (is_before y x) as (λ t. IsOf l (if t then Some y else Some x)) [ true ↦ b | false ↦ a ]

each_same : {A : Type 0} (f g : List Line → Line → List Line → A) → ((before : List Line) (l : Line) (rest : List Line) → f before l rest ≡ g before l rest) → (before lines : List Line) → each_after f before lines ≡ each_after g before lines
each_same f g same before [] = refl
each_same f g same before (l ∷ lines) = ap (λ x. x ∷ each_after f (before ++ l ∷ []) lines) (same before l lines) ∙ ap (λ xs. g before l lines ∷ xs) (each_same f g same (before ++ l ∷ []) lines)

pub all_merged : (lines : List Line) → AreAbove 0 lines → least (least (pool_fault lines) (layout_fault lines)) (own_first lines) ≡ first (each (kinds_at lines) lines)
unfolding pool_fault layout_fault
all_merged lines above =
    let both : List Line → Line → List Line → Finding = λ before l rest. least (has_no_pool before l rest) (layout_at lines before l rest) in
    ap (λ x. least x (own_first lines)) (least_fault has_no_pool (layout_at lines) lines above pool_is_of (layout_is_of lines))
    ∙ least_fault both (own_at lines) lines above (λ before l rest. least_is_of l (has_no_pool before l rest) (layout_at lines before l rest) (pool_is_of before l rest) (layout_is_of lines before l rest)) (own_is_of lines)
    ∙ ap first (each_same (λ before l rest. least (both before l rest) (own_at lines before l rest)) (kinds_at lines) (line_merged lines) [] lines)
