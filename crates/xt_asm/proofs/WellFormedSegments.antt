-- The segments of an image beside the spans of the lines that they are made of.
use Rattle.std.proofs.Common.{◌≡◌, ℕ, suc, ◌+◌, ◌-◌, ◌%◌, true, false, cond, List, [], ◌∷◌, ◌++◌, length, Some, None, refl, sym, ap, ◌∙◌, subst, inl, ⊎_elim, arith, add-zero, length-append}
use Rattle.std.proofs.Math.Nat.{sub_self}
use Rattle.std.specs.Prelude.{map, zip}
use Rattle.std.specs.List.{AllByRecursion}
use Rattle.std.proofs.lemmas.Bool.{cases_Bool, cond-true, cond-false}
use Rattle.std.proofs.lemmas.List.{length-replicate}
use Rattle.std.proofs.lemmas.List.Sums.{sum_by-cons}
use Rattle.xt_map.specs.declared.segment.Segment.{Segment}
use Rattle.xt_map.specs.Placing.{end_of_segment}
use Rattle.xt_parse.specs.declared.line.Line.{Line}
use Rattle.xt_parse.specs.declared.statement.Statement.{Statement}
use Rattle.xt_parse.specs.declared.statement.Statement.TheVariants.{Seg}
use Rattle.xt_layout.specs.declared.word.PoolWord.{PoolWord}
use Rattle.xt_layout.specs.Around.{each_after}
use Rattle.xt_layout.specs.Pools.{is_segment, words_of}
use Rattle.xt_layout.specs.Bounds.{later}
use Rattle.xt_layout.specs.Faults.{segments_in}
use Rattle.xt_layout.specs.Sizes.{padding, pool_size, size}
use Rattle.xt_layout.specs.Spans.{segment_end, span, span_at}
use Rattle.xt_layout.specs.Spots.{address, behind, spot, spot_at}
use Rattle.xt_asm.specs.Images.{content, with_padding, segment_at, segments_of}
use Rattle.xt_asm.specs.Pieces.{ArePieces, source_at, zeros}
use Rattle.xt_asm.proofs.WellFormedLines.{FindsNone, outside}
use Rattle.xt_asm.proofs.WellFormedPlaces.{InPlace, behind_same, behind_seg, end_here, end_later, ends_in_place, one_more, padded_end, stands_at}

-- ---- lists

pub all_append : {X : Type 0} (P : X → Type 0) (xs ys : List X) → AllByRecursion P xs → AllByRecursion P ys → AllByRecursion P (xs ++ ys)
all_append P [] ys h k = k
all_append P (x ∷ xs) ys h k = (h.0, all_append P xs ys h.1 k)

map_append : {X Y : Type 0} (f : X → Y) (xs ys : List X) → map f (xs ++ ys) ≡ map f xs ++ map f ys
map_append f [] ys = refl
map_append f (x ∷ xs) ys = ap (λ zs. f x ∷ zs) (map_append f xs ys)

-- ---- how many bytes the lines have

-- how many bytes each of the lines has, which stand after some others
abbrev pub sizes_after : List PoolWord → List Line → List Line → List ℕ
sizes_after words before rest = each_after (λ before l rest. size (pool_size words (length before)) (address (spot_at words before l)) l.statement) before rest

-- the pieces are as long as the addresses of the lines count
pub sizes_are : (lines before rest : List Line) (pieces : List (List ℕ)) → ArePieces (each_after (source_at lines) before rest) pieces → map length pieces ≡ sizes_after (words_of lines) before rest
sizes_are lines before [] [] are = refl
sizes_are lines before [] (piece ∷ pieces) are = absurd are
sizes_are lines before (l ∷ rest) [] are = absurd are
sizes_are lines before (l ∷ rest) (piece ∷ pieces) are =
    ap (λ n. n ∷ map length pieces) are.0.many
    ∙ ap (λ ns. size (pool_size (words_of lines) (length before)) (address (spot_at (words_of lines) before l)) l.statement ∷ ns) (sizes_are lines (before ++ l ∷ []) rest pieces are.1)

-- how many bytes of the lines stand in the segment that goes on
abbrev stretch : List Line → List (List ℕ) → ℕ
stretch rest pieces = length (content (zip rest pieces))

stretch_none : (l : Line) (rest : List Line) (piece : List ℕ) (pieces : List (List ℕ)) → is_segment l.statement ≡ true → stretch (l ∷ rest) (piece ∷ pieces) ≡ 0
stretch_none l rest piece pieces seg = ap length (cond-true (is_segment l.statement) [] (piece ++ content (zip rest pieces)) seg)

stretch_more : (l : Line) (rest : List Line) (piece : List ℕ) (pieces : List (List ℕ)) → is_segment l.statement ≡ false →
    stretch (l ∷ rest) (piece ∷ pieces) ≡ length piece + stretch rest pieces
stretch_more l rest piece pieces no_seg =
    ap length (cond-false (is_segment l.statement) [] (piece ++ content (zip rest pieces)) no_seg) ∙ length-append piece (content (zip rest pieces))

-- the first and the rest of a list of sizes
head_size : (piece : List ℕ) (pieces : List (List ℕ)) (n : ℕ) (ns : List ℕ) → map length (piece ∷ pieces) ≡ n ∷ ns → length piece ≡ n
head_size piece pieces n ns e = cc

rest_sizes : (piece : List ℕ) (pieces : List (List ℕ)) (n : ℕ) (ns : List ℕ) → map length (piece ∷ pieces) ≡ n ∷ ns → map length pieces ≡ ns
rest_sizes piece pieces n ns e = cc

no_sizes : {P : Type 0} (n : ℕ) (ns : List ℕ) → [] ≡ n ∷ ns → P
no_sizes n ns e = absurd cc

-- a segment ends as many bytes after an address as its lines from there on have
end_as_long : (words : List PoolWord) (s : ℕ) (before rest : List Line) (a : ℕ) (pieces : List (List ℕ)) → behind words 0 None before ≡ Some (spot s a) →
    map length pieces ≡ sizes_after words before rest → segment_end words (length before) a rest ≡ a + stretch rest pieces
end_as_long words s before [] a pieces at sizes = sym (add-zero a)
end_as_long words s before (l ∷ rest) a [] at sizes =
    no_sizes (size (pool_size words (length before)) (address (spot_at words before l)) l.statement) (sizes_after words (before ++ l ∷ []) rest) sizes
end_as_long words s before (l ∷ rest) a (piece ∷ pieces) at sizes =
    let pool : ℕ = pool_size words (length before) in
    let n : ℕ = size pool a l.statement in
    let counted : ℕ = size pool (address (spot_at words before l)) l.statement in
    let later_sizes : List ℕ = sizes_after words (before ++ l ∷ []) rest in
    ⊎_elim
    (λ (seg : is_segment l.statement ≡ true). end_here words (length before) a l rest seg ∙ sym (ap (λ m. a + m) (stretch_none l rest piece pieces seg) ∙ add-zero a))
    (λ (no_seg : is_segment l.statement ≡ false).
    let long : length piece ≡ n = head_size piece pieces counted later_sizes sizes ∙ ap (λ p. size pool (address p) l.statement) (stands_at words before l s a at no_seg) in
    let rest_end : segment_end words (length (before ++ l ∷ [])) (a + n) rest ≡ (a + n) + stretch rest pieces
    = end_as_long words s (before ++ l ∷ []) rest (a + n) pieces (behind_same words before l s a at no_seg) (rest_sizes piece pieces counted later_sizes sizes) in
    let more : stretch (l ∷ rest) (piece ∷ pieces) ≡ length piece + stretch rest pieces = stretch_more l rest piece pieces no_seg in
    end_later words before a l rest no_seg ∙ rest_end ∙ omega arith) (cases_Bool (is_segment l.statement))

-- ---- each segment

length-padded : (bytes : List ℕ) → length (with_padding bytes) ≡ length bytes + padding 4 (length bytes)
length-padded bytes = length-append bytes (zeros (padding 4 (length bytes))) ∙ ap (λ n. length bytes + n) (length-replicate (padding 4 (length bytes)) 0)

back : (s n : ℕ) → (s + n) - s ≡ n
back s n = omega arith

-- the padded end of a segment with these bytes
end_of_bytes : (s e : ℕ) (bytes : List ℕ) → e ≡ s + length bytes → padded_end s e ≡ s + length (with_padding bytes)
end_of_bytes s e bytes is =
    let pad : padding 4 (e - s) ≡ padding 4 (length bytes) = ap (padding 4) (ap (λ n. n - s) is ∙ back s (length bytes)) in
    omega (arith, length-padded bytes)

-- what is known where a statement may begin a segment
EndsWith : List PoolWord → ℕ → Statement → List Line → List (List ℕ) → Type 0
EndsWith words k st rest pieces = (start : ℕ) → st ≡ Seg start → segment_end words (k + 1) start rest ≡ start + stretch rest pieces

ends_with : (words : List PoolWord) (before : List Line) (l : Line) (rest : List Line) (pieces : List (List ℕ)) → map length pieces ≡ sizes_after words (before ++ l ∷ []) rest →
    EndsWith words (length before) l.statement rest pieces
unfolding EndsWith
ends_with words before l rest pieces sizes start is =
    ap (λ k. segment_end words k start rest) (sym (one_more before l)) ∙ end_as_long words start (before ++ l ∷ []) rest start pieces (behind_seg words before l start is) sizes

-- the segment of a statement takes the addresses of the statement's span
span_of_segment : (words : List PoolWord) (k : ℕ) (st : Statement) (rest : List Line) (pieces : List (List ℕ)) → EndsWith words k st rest pieces →
    span_at words k st rest ≡ map (λ s. span s.addr (end_of_segment s)) (segment_at st (zip rest pieces))
unfolding EndsWith
span_of_segment words k (Seg start) rest pieces ends =
    ap (λ e. span start e ∷ []) (end_of_bytes start (segment_end words (k + 1) start rest) (content (zip rest pieces)) (ends start refl))
span_of_segment words k _ rest pieces ends = refl

pub spans_of_segments : (words : List PoolWord) (before rest : List Line) (pieces : List (List ℕ)) → map length pieces ≡ sizes_after words before rest →
    later words before rest ≡ map (λ s. span s.addr (end_of_segment s)) (segments_of (zip rest pieces))
spans_of_segments words before [] pieces sizes = refl
spans_of_segments words before (l ∷ rest) [] sizes =
    no_sizes (size (pool_size words (length before)) (address (spot_at words before l)) l.statement) (sizes_after words (before ++ l ∷ []) rest) sizes
spans_of_segments words before (l ∷ rest) (piece ∷ pieces) sizes =
    let sizes_later : map length pieces ≡ sizes_after words (before ++ l ∷ []) rest
    = rest_sizes piece pieces (size (pool_size words (length before)) (address (spot_at words before l)) l.statement) (sizes_after words (before ++ l ∷ []) rest) sizes in
    ap (λ xs. xs ++ later words (before ++ l ∷ []) rest) (span_of_segment words (length before) l.statement rest pieces (ends_with words before l rest pieces sizes_later))
    ∙ ap (λ xs. map (λ s. span s.addr (end_of_segment s)) (segment_at l.statement (zip rest pieces)) ++ xs) (spans_of_segments words (before ++ l ∷ []) rest pieces sizes_later)
    ∙ sym (map_append (λ s. span s.addr (end_of_segment s)) (segment_at l.statement (zip rest pieces)) (segments_of (zip rest pieces)))

-- ---- in the regions

-- the segment has no byte, or lies in the region of its first
abbrev pub IsInPlace : Segment → Type 0
IsInPlace s = InPlace s.addr (end_of_segment s)

no_padding : (s : ℕ) → padded_end s s ≡ s
no_padding s = rw (sub_self s) (add-zero s)

one_in_place : (words : List PoolWord) (before : List Line) (l : Line) (rest : List Line) (pieces : List (List ℕ)) (st : Statement) → l.statement ≡ st →
    map length pieces ≡ sizes_after words (before ++ l ∷ []) rest → FindsNone (outside words) (before ++ l ∷ []) rest → AllByRecursion IsInPlace (segment_at st (zip rest pieces))
one_in_place words before l rest pieces (Seg start) is sizes none =
    let at : behind words 0 None (before ++ l ∷ []) ≡ Some (spot start start) = behind_seg words before l start is in
    let whole : InPlace start (padded_end start (segment_end words (length (before ++ l ∷ [])) start rest))
    = ends_in_place words start (before ++ l ∷ []) rest start at (omega arith) (inl refl) (λ last. inl (no_padding start)) none in
    let ends : segment_end words (length (before ++ l ∷ [])) start rest ≡ start + stretch rest pieces = end_as_long words start (before ++ l ∷ []) rest start pieces at sizes in
    (subst (InPlace start) (end_of_bytes start (segment_end words (length (before ++ l ∷ [])) start rest) (content (zip rest pieces)) ends) whole, tt)
one_in_place words before l rest pieces _ is sizes none = tt

pub all_in_place : (words : List PoolWord) (before rest : List Line) (pieces : List (List ℕ)) → map length pieces ≡ sizes_after words before rest → FindsNone (outside words) before rest →
    AllByRecursion IsInPlace (segments_of (zip rest pieces))
all_in_place words before [] pieces sizes none = tt
all_in_place words before (l ∷ rest) [] sizes none =
    no_sizes (size (pool_size words (length before)) (address (spot_at words before l)) l.statement) (sizes_after words (before ++ l ∷ []) rest) sizes
all_in_place words before (l ∷ rest) (piece ∷ pieces) sizes none =
    let sizes_later : map length pieces ≡ sizes_after words (before ++ l ∷ []) rest
    = rest_sizes piece pieces (size (pool_size words (length before)) (address (spot_at words before l)) l.statement) (sizes_after words (before ++ l ∷ []) rest) sizes in
    all_append IsInPlace (segment_at l.statement (zip rest pieces)) (segments_of (zip rest pieces))
    (one_in_place words before l rest pieces l.statement refl sizes_later none.1) (all_in_place words (before ++ l ∷ []) rest pieces sizes_later none.1)

-- ---- how many, and their lengths

one_segment : (st : Statement) (rest : List (Line × List ℕ)) → length (segment_at st rest) ≡ cond (is_segment st) 1 0
one_segment (Seg start) rest = refl
one_segment _ rest = refl

pub as_many_segments : (lines : List Line) (pieces : List (List ℕ)) (ns : List ℕ) → map length pieces ≡ ns → length ns ≡ length lines → length (segments_of (zip lines pieces)) ≡ segments_in lines
as_many_segments [] pieces ns sizes many = refl
as_many_segments (l ∷ lines) [] ns sizes many = absurd (let none : length ns ≡ 0 = ap length (sym sizes) in omega arith)
as_many_segments (l ∷ lines) (piece ∷ pieces) ns sizes many =
    let as_long : length (map length (piece ∷ pieces)) ≡ suc (length lines) = ap length sizes ∙ many in
    omega (
      arith,
      length-append (segment_at l.statement (zip lines pieces)) (segments_of (zip lines pieces)),
      one_segment l.statement (zip lines pieces),
      as_many_segments lines pieces (map length pieces) refl (omega arith),
      sum_by-cons (λ (l : Line). cond (is_segment l.statement) 1 0) l lines,
    )

whole_words : (n : ℕ) → (n + padding 4 n) % 4 ≡ 0
whole_words n = omega arith

-- whole words
abbrev pub IsEven : Segment → Type 0
IsEven s = length s.bytes % 4 ≡ 0

one_even : (st : Statement) (rest : List (Line × List ℕ)) → AllByRecursion IsEven (segment_at st rest)
one_even (Seg start) rest = (ap (λ n. n % 4) (length-padded (content rest)) ∙ whole_words (length (content rest)), tt)
one_even _ rest = tt

pub all_even : (rest : List (Line × List ℕ)) → AllByRecursion IsEven (segments_of rest)
all_even [] = tt
all_even (x ∷ rest) = all_append IsEven (segment_at x.0.statement rest) (segments_of rest) (one_even x.0.statement rest) (all_even rest)
