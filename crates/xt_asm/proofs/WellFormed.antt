-- The image of a text without a fault is well formed.
use Rattle.std.proofs.Common.{◌≡◌, ℕ, ◌+◌, ◌<◌, ◌≤◌, true, false, ◌&&◌, ◌||◌, List, [], ◌∷◌, ◌++◌, length, get_or, Option, Some, None, sym, ap, ◌∙◌, subst, ◌⊎◌, inl, inr, ⊎_elim, arith}
use Rattle.std.proofs.Math.ListN.{get_or-map}
use Rattle.std.specs.Prelude.{ℤ, pos, map, zip, ◌==◌, nat_lt, not, max, min}
use Rattle.std.specs.Option.{option_map_or}
use Rattle.std.specs.List.{AllByRecursion, list_any, sum_by}
use Rattle.std.proofs.lemmas.Bool.{and_right, eq-eqb, not-false, or_left, or_right}
use Rattle.std.proofs.lemmas.Bool.Decides.{nat_tests}
use Rattle.std.proofs.lemmas.List.{length-map}
use Rattle.std.proofs.lemmas.List.Elements.{All-from_recursion}
use Rattle.std.proofs.lemmas.List.Sums.{get_or-le-sum_by}
use Rattle.xt_lex.specs.declared.labels.Label.{Label}
use Rattle.xt_lex.specs.Values.{value_of}
use Rattle.xt_map.specs.declared.segment.Segment.{Segment}
use Rattle.xt_map.specs.Memory.{is_loaded}
use Rattle.xt_map.specs.Placing.{IsPlaced, do_overlap, end_of_segment, is_well_placed, takes}
use Rattle.xt_map.specs.Regions.{is_executable, ranges, region_of}
use Rattle.xt_image.specs.declared.image.Head.{Head}
use Rattle.xt_image.specs.declared.image.Image.{Image}
use Rattle.xt_image.specs.ImageParts.{FitsImage, FitsSegment, IsWellFormed, MeetsRules}
use Rattle.xt_image.proofs.Capacity.{bytes_in, fit_in_regions, share_address, short_by_bytes}
use Rattle.xt_image.proofs.Ruled.{by_rules}
use Rattle.xt_parse.specs.declared.line.Line.{Line}
use Rattle.xt_parse.specs.declared.statement.Statement.{Statement}
use Rattle.xt_parse.specs.declared.statement.Statement.TheVariants.{Entry}
use Rattle.xt_parse.proofs.SegmentStarts.{StartsLow, starts_are_low}
use Rattle.xt_layout.specs.Findings.{at_statement}
use Rattle.xt_layout.specs.Pools.{words_of}
use Rattle.xt_layout.specs.Addresses.{labels_of}
use Rattle.xt_layout.specs.Bounds.{later}
use Rattle.xt_layout.specs.Faults.{is_in_place, segments_in}
use Rattle.xt_layout.specs.Sizes.{pool_size, size}
use Rattle.xt_layout.specs.Spots.{address, spot_at}
use Rattle.xt_layout.specs.Spans.{meet, span, spans_of}
use Rattle.xt_layout.proofs.Each.{length-each}
use Rattle.xt_asm.specs.Images.{IsImageOf, entry_of, entry_or, segments_of}
use Rattle.xt_asm.specs.Kinds.{fault_of, is_code, is_stray_entry, lines_fault, text_fault}
use Rattle.xt_asm.specs.AssemblyLaws.{TextImageIsWellFormed}
use Rattle.xt_asm.specs.Pieces.{ArePieces, sources_of}
use Rattle.xt_asm.proofs.WellFormedLines.{FindsNone, IsFaultless, apart_at, faultless, few_segments, overlapping, stray}
use Rattle.xt_asm.proofs.Clear.{not_failed}
use Rattle.xt_asm.proofs.WellFormedNumbers.{HasNumbers, all_have_numbers, executable_fits, pieces_are_bytes}
use Rattle.xt_asm.proofs.WellFormedPlaces.{some_range}
use Rattle.xt_asm.proofs.WellFormedSegments.{IsEven, IsInPlace, all_even, all_in_place, as_many_segments, spans_of_segments, sizes_after, sizes_are}

-- ---- the entry

code_of : (n : ℕ) (v : Option ℤ) → v ≡ Some (pos n) → option_map_or (λ v. not (is_code v)) v false ≡ false → is_executable (region_of n) ≡ true
code_of n v is fits = not-false (is_executable (region_of n)) (ap (λ o. option_map_or (λ v. not (is_code v)) o false) (sym is) ∙ fits)

first_entry : (labels : List Label) (st : Statement) (later : Option ℤ) (n : ℕ) → entry_or labels st later ≡ Some (pos n) → is_stray_entry labels st ≡ false →
    (later ≡ Some (pos n) → is_executable (region_of n) ≡ true) → is_executable (region_of n) ≡ true
first_entry labels (Entry e) later n is fits others = code_of n (value_of labels e) is fits
first_entry labels _ later n is fits others = others is

entry_is_code : (labels : List Label) (before rest : List Line) (n : ℕ) → entry_of labels rest ≡ Some (pos n) → FindsNone (stray labels) before rest → is_executable (region_of n) ≡ true
entry_is_code labels before [] n is none = absurd cc
entry_is_code labels before (l ∷ rest) n is none =
    first_entry labels l.statement (entry_of labels rest) n is (not_failed (is_stray_entry labels l.statement) (at_statement l 6) none.0)
    (λ later. entry_is_code labels (before ++ l ∷ []) rest n later none.1)

-- ---- the segments

-- segments that an image may have
record AreGood (segments : List Segment) : Type 0 where
  some : 0 < length segments
  few : length segments ≤ 16
  even : AllByRecursion IsEven segments
  in_place : AllByRecursion IsInPlace segments
  numbers : AllByRecursion HasNumbers segments
  apart : (i j : ℕ) (d : Segment) → i < j → j < length segments → share_address (get_or segments i d) (get_or segments j d) ≡ false

spans_are : (lines : List Line) (pieces : List (List ℕ)) → map length pieces ≡ sizes_after (words_of lines) [] lines → spans_of lines ≡ map (λ s. span s.addr (end_of_segment s)) (segments_of (zip lines pieces))
unfolding spans_of
spans_are lines pieces sizes = spans_of_segments (words_of lines) [] lines pieces sizes

-- of numbers: m addresses from a on and n from b on
no_address_of_numbers : (a m b n : ℕ) → ((nat_lt b (b + n) && nat_lt a (a + m)) && (nat_lt b (a + m) && nat_lt a (b + n))) ≡ false → nat_lt (max a b) (min (a + m) (b + n)) ≡ false
no_address_of_numbers a m b n h = grind (arith, nat_tests)

no_address : (s t : Segment) → meet (span t.addr (end_of_segment t)) (span s.addr (end_of_segment s)) ≡ false → share_address s t ≡ false
no_address s t apart = no_address_of_numbers s.addr (length s.bytes) t.addr (length t.bytes) apart

segments_apart : (lines : List Line) (segments : List Segment) → FindsNone (overlapping meet (spans_of lines)) [] lines → spans_of lines ≡ map (λ s. span s.addr (end_of_segment s)) segments →
    length segments ≡ segments_in lines → (i j : ℕ) (d : Segment) → i < j → j < length segments → share_address (get_or segments i d) (get_or segments j d) ≡ false
segments_apart lines segments none same many i j d lt within =
    let spans = map (λ s. span s.addr (end_of_segment s)) segments in
    let none_there = subst (λ xs. FindsNone (overlapping meet xs) [] lines) same none in
    let long : length spans ≡ length segments = length-map segments (λ s. span s.addr (end_of_segment s)) in
    let apart : meet (get_or spans j (span d.addr (end_of_segment d))) (get_or spans i (span d.addr (end_of_segment d))) ≡ false
    = apart_at meet spans lines none_there (long ∙ many) i j (span d.addr (end_of_segment d)) lt (omega arith) in
    no_address (get_or segments i d) (get_or segments j d)
    (ap (λ x. meet x (span (get_or segments i d).addr (end_of_segment (get_or segments i d)))) (sym (get_or-map (λ s. span s.addr (end_of_segment s)) segments j d))
    ∙ ap (meet (get_or spans j (span d.addr (end_of_segment d)))) (sym (get_or-map (λ s. span s.addr (end_of_segment s)) segments i d)) ∙ apart)

good_segments : (lines : List Line) (pieces : List (List ℕ)) → IsFaultless lines → AllByRecursion (λ l. StartsLow l.statement) lines → ArePieces (sources_of lines) pieces →
    AreGood (segments_of (zip lines pieces))
good_segments lines pieces f low are =
    let sizes : map length pieces ≡ sizes_after (words_of lines) [] lines = sizes_are lines [] lines pieces are in
    let many : length (segments_of (zip lines pieces)) ≡ segments_in lines
    = as_many_segments lines pieces (sizes_after (words_of lines) [] lines) sizes (length-each (λ before l rest. size (pool_size (words_of lines) (length before)) (address (spot_at (words_of lines) before l)) l.statement) lines) in
    record {
      some = omega (arith, many, f.some);
      few = omega (arith, many, few_segments lines f.few);
      even = all_even (zip lines pieces);
      in_place = all_in_place (words_of lines) [] lines pieces sizes f.inside;
      numbers = all_have_numbers lines pieces low (pieces_are_bytes (sources_of lines) pieces are);
      apart = segments_apart lines (segments_of (zip lines pieces)) f.apart (spans_are lines pieces sizes) many;
    }

-- ---- their places

in_one_range : (s : Segment) → IsInPlace s → (bytes_in s ≡ 0) ⊎ (list_any (takes s) ranges ≡ true)
in_one_range s here =
    ⊎_elim
    (λ (none : end_of_segment s ≡ s.addr). inl (omega arith))
    (λ (one : is_in_place s.addr (span s.addr (end_of_segment s)) ≡ true). inr (some_range (takes s) s.addr s.addr (end_of_segment s) (λ r h. h) one)) here

well_placed : (s : Segment) → IsInPlace s → is_well_placed s ≡ true
well_placed s here =
    or_right (not (is_loaded s)) (length s.bytes == 0 || list_any (takes s) ranges)
    (⊎_elim
    (λ (none : bytes_in s ≡ 0). or_left (length s.bytes == 0) (list_any (takes s) ranges) (eq-eqb (length s.bytes) 0 none))
    (λ (one : list_any (takes s) ranges ≡ true). or_right (length s.bytes == 0) (list_any (takes s) ranges) one) (in_one_range s here))

by_each : {X : Type 0} (P Q : X → Type 0) → ((x : X) → P x → Q x) → (xs : List X) → AllByRecursion P xs → AllByRecursion Q xs
by_each P Q f [] h = tt
by_each P Q f (x ∷ xs) h = (f x h.0, by_each P Q f xs h.1)

no_overlap : (s t : Segment) → share_address s t ≡ false → do_overlap s t ≡ false
no_overlap s t apart = and_right (is_loaded s && is_loaded t) (share_address s t) apart

placed : (segments : List Segment) → AreGood segments → IsPlaced segments
placed segments g = record {
  placed = All-from_recursion (λ s. is_well_placed s ≡ true) segments (by_each IsInPlace (λ s. is_well_placed s ≡ true) well_placed segments g.in_place);
  apart = λ i j d lt within. no_overlap (get_or segments i d) (get_or segments j d) (g.apart i j d lt within);
}

all_bytes : (segments : List Segment) → AreGood segments → sum_by bytes_in segments ≤ 8093698
all_bytes segments g = fit_in_regions segments g.apart
    (by_each IsInPlace (λ s. (bytes_in s ≡ 0) ⊎ (list_any (takes s) ranges ≡ true)) in_one_range segments g.in_place)

-- ---- the image

fits_segment : (segments : List Segment) (k : ℕ) (d : Segment) → k < length segments → AreGood segments → FitsSegment (get_or segments k d)
fits_segment segments k d lt g =
    let numbers : HasNumbers (get_or segments k d) = All-from_recursion HasNumbers segments g.numbers k d lt in
    record {
      addr = numbers.0;
      len = omega (arith, get_or-le-sum_by bytes_in segments k d lt, all_bytes segments g);
      bytes = All-from_recursion (λ b. b < 256) (get_or segments k d).bytes numbers.1;
    }

fits_image : (lines : List Line) (image : Image) → IsImageOf lines image → is_executable (region_of image.entry) ≡ true → AreGood image.segments → FitsImage image
fits_image lines image is code g =
    let min_rev : image.head.min_rev ≡ 0 = ap (λ (h : Head). h.min_rev) is.head_is in
    let max_rev : image.head.max_rev ≡ 0xFFFF = ap (λ (h : Head). h.max_rev) is.head_is in
    record {
      entry = executable_fits image.entry code;
      min_rev = omega arith;
      max_rev = omega arith;
      drive = ap (λ (h : Head). length h.drive) is.head_is;
      reserved = ap (λ (h : Head). length h.reserved) is.head_is;
      segments = λ k d lt. fits_segment image.segments k d lt g;
    }

lines_well_formed : (lines : List Line) (image : Image) → lines_fault lines ≡ None → AllByRecursion (λ l. StartsLow l.statement) lines → IsImageOf lines image → IsWellFormed image
lines_well_formed lines image none low is =
    let f : IsFaultless lines = faultless lines none in
    let g : AreGood image.segments = subst AreGood (sym is.segments) (good_segments lines is.pieces f low is.are_pieces) in
    let code : is_executable (region_of image.entry) ≡ true = entry_is_code (labels_of lines) [] lines image.entry (sym is.entry) f.entry in
    let fits : FitsImage image = fits_image lines image is code g in
    let rules : MeetsRules image = record {
      some = g.some;
      few = g.few;
      whole_words = All-from_recursion IsEven image.segments g.even;
      placed = placed image.segments g;
      entry = code;
    } in
    (by_rules image).1 (fits, (rules, short_by_bytes image fits g.few (all_bytes image.segments g)))

pub well_formed : TextImageIsWellFormed
unfolding text_fault
well_formed text image none is = lines_well_formed is.lines image (ap fault_of (sym is.read) ∙ none) (starts_are_low text is.lines is.read) is.image_is
