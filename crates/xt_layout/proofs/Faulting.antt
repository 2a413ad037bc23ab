-- The faults of a line, from what is known of the lines before it.
use Rattle.std.proofs.Common.{◌≡◌, List, [], ◌∷◌, ◌++◌, refl, sym, ap, ◌∙◌, subst, ℕ, ◌+◌, ◌^◌, ◌<◌, ◌≤◌, Bool, true, false, cond, ◌||◌, ◌&&◌, length, take, get_or, Option, Some, None, if◌then◌else◌, arith}
use Rattle.std.specs.Prelude.{not, ◌-◌}
use Rattle.std.specs.List.{list_any}
use Rattle.std.specs.Str.{bytes_eq}
use Rattle.std.proofs.lemmas.List.{length-take-le}
use Rattle.std.proofs.lemmas.List.Folds.{list_any-append}
use Rattle.std.proofs.lemmas.List.Sums.{sum_by_push, count_by-le-length}
use Rattle.xt_lex.specs.declared.name.Name.{Name}
use Rattle.xt_parse.specs.declared.line.Line.{Line}
use Rattle.xt_parse.specs.declared.line.Placed.{Placed}
use Rattle.xt_layout.specs.declared.word.PoolWord.{PoolWord}
use Rattle.xt_layout.specs.Around.{each}
use Rattle.xt_layout.specs.Findings.{Finding, at_statement, fails, first, or_else}
use Rattle.xt_layout.specs.Pools.{is_segment, words_of}
use Rattle.xt_layout.specs.declared.spot.Spot.{Spot}
use Rattle.xt_layout.specs.declared.spot.Span.{Span}
use Rattle.xt_layout.specs.Addresses.{label_name, literal_name}
use Rattle.xt_layout.specs.Bounds.{ArePools}
use Rattle.xt_layout.specs.Faults.{again, defines, has_entry, is_empty, is_entry, is_last, is_misaligned, is_outside, is_too_many, layout_fault, layout_faults, leaves, names_at, overlaps, segments_in, twice}
use Rattle.xt_layout.specs.Sizes.{padding, pool_size, size}
use Rattle.xt_layout.specs.Spans.{span, spans_of}
use Rattle.xt_layout.specs.Spots.{spot_at}
use Rattle.xt_layout.proofs.Each.{Finds, next}

again_same : (f g : Name → Bool) → ((q : Name) → f q ≡ g q) → (l : Line) (ps : List Placed) → again f l ps ≡ again g l ps
again_same f g same l [] = refl
again_same f g same l (p ∷ ps) = ap (λ b. if b then Some (record { line = l.number; column = p.column; kind = 4 }) else again f l ps) (same p.name)
    ∙ ap (λ x. if g p.name then Some (record { line = l.number; column = p.column; kind = 4 }) else x) (again_same f g same l ps)

twice_same : (f g : Name → Bool) (a b : Bool) → ((q : Name) → f q ≡ g q) → a ≡ b → (l : Line) → twice f a l ≡ twice g b l
twice_same f g a b same e l =
    ap (λ x. or_else x (first (again f l (literal_name l.statement) ∷ fails (is_entry l.statement && a) (at_statement l 4) ∷ []))) (again_same f g same l (label_name l.label))
    ∙ ap (λ x. or_else (again g l (label_name l.label)) (or_else x (first (fails (is_entry l.statement && a) (at_statement l 4) ∷ [])))) (again_same f g same l (literal_name l.statement))
    ∙ ap (λ c. or_else (again g l (label_name l.label)) (or_else (again g l (literal_name l.statement)) (first (fails (is_entry l.statement && c) (at_statement l 4) ∷ [])))) e

-- what is known of lines
pub record Knows (names : Name → Bool) (entry : Bool) (segments : ℕ) (before : List Line) : Type 0 where
  pub names_are : (q : Name) → names q ≡ defines before q
  pub entry_is : entry ≡ has_entry before
  pub segments_are : segments ≡ segments_in before

pub few_segments : (names : Name → Bool) (entry : Bool) (segments k : ℕ) (lines : List Line) → Knows names entry segments (take k lines) → k ≤ length lines → length lines < 2 ^ 32 → segments < 2 ^ 32
few_segments names entry segments k lines knows le few = omega (arith, knows.segments_are, count_by-le-length (λ (l : Line). is_segment l.statement) (take k lines), length-take-le k lines le)

or_false : (b : Bool) → b ≡ (b || false)
or_false true = refl
or_false false = refl

or_three : (a b c : Bool) → ((a || b) || c) ≡ (a || ((b || c) || false))
or_three true b c = refl
or_three false true c = refl
or_three false false true = refl
or_three false false false = refl

more_names : (before : List Line) (l : Line) (q : Name) (had now : Bool) → had ≡ defines before q →
    now ≡ ((had || list_any (λ (p : Placed). bytes_eq p.name q) (label_name l.label)) || list_any (λ (p : Placed). bytes_eq p.name q) (literal_name l.statement)) → now ≡ defines (before ++ l ∷ []) q
more_names before l q had now had_is now_is = now_is
    ∙ or_three had (list_any (λ (p : Placed). bytes_eq p.name q) (label_name l.label)) (list_any (λ (p : Placed). bytes_eq p.name q) (literal_name l.statement))
    ∙ ap (λ b. had || (b || false)) (sym (list_any-append (λ (p : Placed). bytes_eq p.name q) (label_name l.label) (literal_name l.statement)))
    ∙ ap (λ b. b || (list_any (λ (p : Placed). bytes_eq p.name q) (names_at l) || false)) had_is
    ∙ sym (list_any-append (λ l. list_any (λ (p : Placed). bytes_eq p.name q) (names_at l)) before (l ∷ []))

pub knows_more : (names now : Name → Bool) (entry entry' : Bool) (segments segments' : ℕ) (k : ℕ) (lines : List Line) (l : Line) → k < length lines → l ≡ get_or lines k l → Knows names entry segments (take k lines) →
    ((q : Name) → now q ≡ ((names q || list_any (λ (p : Placed). bytes_eq p.name q) (label_name l.label)) || list_any (λ (p : Placed). bytes_eq p.name q) (literal_name l.statement))) →
    entry' ≡ (entry || is_entry l.statement) → segments' ≡ segments + (if is_segment l.statement then 1 else 0) → Knows now entry' segments' (take (k + 1) lines)
knows_more names now entry entry' segments segments' k lines l lt is knows names_add entry_add segments_add =
    let P : List Line → Type 0 = λ before. Knows now entry' segments' before in
    subst P (sym (next lines k l lt is)) (record {
      names_are = λ q. more_names (take k lines) l q (names q) (now q) (knows.names_are q) (names_add q);
      entry_is = entry_add ∙ ap (λ b. b || is_entry l.statement) knows.entry_is ∙ ap (λ b. has_entry (take k lines) || b) (or_false (is_entry l.statement)) ∙ sym (list_any-append (λ (l : Line). is_entry l.statement) (take k lines) (l ∷ []));
      segments_are = segments_add ∙ ap (λ n. n + (if is_segment l.statement then 1 else 0)) knows.segments_are ∙ sym (sum_by_push (λ (l : Line). cond (is_segment l.statement) 1 0) (take k lines) l);
    })

-- the faults of a line of a text
abbrev pub line_faults : List Line → List PoolWord → List Line → Line → List Line → Finding
line_faults lines words before l rest = first (layout_faults words (spans_of lines) before l rest)

pub faults_here : (lines : List Line) (words : List PoolWord) (pools : List ℕ) (spans : List Span) (names : Name → Bool) (entry : Bool) (segments k : ℕ) (l : Line) (here : Option Spot) (last : Bool) (rest : List Line) → k < length lines →
    ArePools words (length lines) pools → spans ≡ spans_of lines → here ≡ spot_at words (take k lines) l → last ≡ is_last rest → Knows names entry segments (take k lines) →
    first (twice names entry l ∷ is_too_many segments l ∷ is_misaligned here l ∷ is_outside (get_or pools k 0) here l last ∷ overlaps spans segments l ∷ [])
    ≡ line_faults lines words (take k lines) l rest
faults_here lines words pools spans names entry segments k l here last rest lt pools_are spans_are here_is last_is knows =
    let long : length (take k lines) ≡ k = length-take-le k lines (omega arith) in
    ap (λ x. first (x ∷ is_too_many segments l ∷ is_misaligned here l ∷ is_outside (get_or pools k 0) here l last ∷ overlaps spans segments l ∷ [])) (twice_same names (defines (take k lines)) entry (has_entry (take k lines)) knows.names_are knows.entry_is l)
    ∙ ap (λ n. first (twice (defines (take k lines)) (has_entry (take k lines)) l ∷ is_too_many n l ∷ is_misaligned here l ∷ is_outside (get_or pools k 0) here l last ∷ overlaps spans n l ∷ [])) knows.segments_are
    ∙ ap (λ p. first (twice (defines (take k lines)) (has_entry (take k lines)) l ∷ is_too_many (segments_in (take k lines)) l ∷ is_misaligned p l ∷ is_outside (get_or pools k 0) p l last ∷ overlaps spans (segments_in (take k lines)) l ∷ [])) here_is
    ∙ ap (λ n. first (twice (defines (take k lines)) (has_entry (take k lines)) l ∷ is_too_many (segments_in (take k lines)) l ∷ is_misaligned (spot_at words (take k lines) l) l ∷ is_outside n (spot_at words (take k lines) l) l last ∷ overlaps spans (segments_in (take k lines)) l ∷ [])) (pools_are.sizes k lt ∙ ap (pool_size words) (sym long))
    ∙ ap (λ b. first (twice (defines (take k lines)) (has_entry (take k lines)) l ∷ is_too_many (segments_in (take k lines)) l ∷ is_misaligned (spot_at words (take k lines) l) l ∷ is_outside (pool_size words (length (take k lines))) (spot_at words (take k lines) l) l b ∷ overlaps spans (segments_in (take k lines)) l ∷ [])) last_is
    ∙ ap (λ s. first (twice (defines (take k lines)) (has_entry (take k lines)) l ∷ is_too_many (segments_in (take k lines)) l ∷ is_misaligned (spot_at words (take k lines) l) l ∷ is_outside (pool_size words (length (take k lines))) (spot_at words (take k lines) l) l (is_last rest) ∷ overlaps s (segments_in (take k lines)) l ∷ [])) spans_are

-- ---- the zeros that pad a segment count to a statement alone

and_twice : (e b : Bool) → (not e && (not e && b)) ≡ (not e && b)
and_twice true b = refl
and_twice false b = refl

outside_once : (pool : ℕ) (here : Option Spot) (l : Line) (b : Bool) → is_outside pool here l (not (is_empty l.statement) && b) ≡ is_outside pool here l b
outside_once pool None l b = refl
outside_once pool (Some p) l b =
    let end = p.at + size pool p.at l.statement in
    ap (λ pads. fails (leaves p.start (span p.at (if pads then end + padding 4 (end - p.start) else end))) (at_statement l 6)) (and_twice (is_empty l.statement) b)

-- the same, where the line looks ahead only if it has a statement
pub faults_ahead : (lines : List Line) (words : List PoolWord) (pools : List ℕ) (spans : List Span) (names : Name → Bool) (entry : Bool) (segments k : ℕ) (l : Line) (here : Option Spot) (last : Bool) (rest : List Line) → k < length lines →
    ArePools words (length lines) pools → spans ≡ spans_of lines → here ≡ spot_at words (take k lines) l → last ≡ (not (is_empty l.statement) && is_last rest) → Knows names entry segments (take k lines) →
    first (twice names entry l ∷ is_too_many segments l ∷ is_misaligned here l ∷ is_outside (get_or pools k 0) here l last ∷ overlaps spans segments l ∷ [])
    ≡ line_faults lines words (take k lines) l rest
faults_ahead lines words pools spans names entry segments k l here last rest lt pools_are spans_are here_is last_is knows =
    ap (λ b. first (twice names entry l ∷ is_too_many segments l ∷ is_misaligned here l ∷ is_outside (get_or pools k 0) here l b ∷ overlaps spans segments l ∷ [])) last_is
    ∙ ap (λ x. first (twice names entry l ∷ is_too_many segments l ∷ is_misaligned here l ∷ x ∷ overlaps spans segments l ∷ [])) (outside_once (get_or pools k 0) here l (is_last rest))
    ∙ faults_here lines words pools spans names entry segments k l here (is_last rest) rest lt pools_are spans_are here_is refl knows

-- the first fault of the text, before any line is looked at
pub none_yet : (lines : List Line) (words : List PoolWord) → words ≡ words_of lines → Finds (line_faults lines words) 0 lines (layout_fault lines)
unfolding layout_fault
none_yet lines words e = ap (λ ws. first (each (line_faults lines ws) lines)) e
