-- The walk over the lines: where they stand, and the segments.
use Rattle.std.proofs.Common.{◌≡◌, List, [], ◌∷◌, ◌++◌, refl, sym, ap, ◌∙◌, subst, ℕ, ◌+◌, ◌*◌, ◌^◌, ◌<◌, ◌≤◌, length, take, drop, get_or, Option, Some, None, if◌then◌else◌, eqb, arith, add-zero, zero-add, lit≤}
use Rattle.std.specs.Prelude.{slice_index, All}
use Rattle.std.proofs.lemmas.List.{append_assoc, append-nil, drop_all, length-take-le}
use Rattle.std.proofs.lemmas.List.Elements.{All-push, All-nil}
use Rattle.std.proofs.lemmas.List.Sums.{count_by-le-length, get_or-le-sum_by}
use Rattle.xt_parse.specs.declared.line.Line.{Line}
use Rattle.xt_parse.specs.declared.statement.Statement.{Statement}
use Rattle.xt_parse.specs.declared.statement.Statement.TheVariants.{Seg}
use Rattle.xt_layout.specs.declared.word.PoolWord.{PoolWord}
use Rattle.xt_layout.specs.Around.{each}
use Rattle.xt_layout.specs.Pools.{is_segment}
use Rattle.xt_layout.specs.declared.spot.Spot.{Spot}
use Rattle.xt_layout.specs.declared.spot.Span.{Span}
use Rattle.xt_layout.specs.Sizes.{IsSmall, items, pool_size, size, weight}
use Rattle.xt_layout.specs.Spots.{behind, begins, passes, spot_at}
use Rattle.xt_layout.specs.Spans.{padded_span, segment_end, span_at, spans_of}
use Rattle.xt_layout.specs.Bounds.{ArePools, IsBelow, IsText, IsWalk, Walks, closed_span, later, pending_span, reach}
use Rattle.xt_layout.proofs.Each.{here, next, builds_more, builds_all, builds_none}
use Rattle.xt_layout.proofs.Reaching.{behind_more, below_more, lines_in_weight, reach_more, reach_small}

-- ---- bounds

pub pool_fits : (lines : List Line) (words : List PoolWord) (k : ℕ) → IsText lines words → pool_size words k < 2 ^ 32
pool_fits lines words k text = omega (arith, count_by-le-length (λ (w : PoolWord). eqb w.position k) words, text.few, lines_in_weight lines, text.small)

pub items_fit : (lines : List Line) (k : ℕ) (l : Line) → IsSmall lines → k < length lines → l ≡ get_or lines k l → items l.statement < 2 ^ 32
items_fit lines k l small lt is = omega (arith, get_or-le-sum_by weight lines k l lt, ap weight is, small)

pub near_fits : (lines : List Line) (words : List PoolWord) (k : ℕ) (p : Option Spot) → IsText lines words → IsBelow (reach lines words k) p → IsBelow (2 ^ 62) p
near_fits lines words k p text near = below_more (reach lines words k) (2 ^ 62) p (omega (arith, reach_small lines words k text.small text.few)) near

-- ---- spans

-- a segment begins
seg_spans : (words : List PoolWord) (k : ℕ) (start : ℕ) (rest : List Line) (before : List Line) → length before ≡ k → (pool : ℕ) (here : Option Spot) →
    span_at words (length before) (Seg start) rest ≡ pending_span words (passes pool here (Seg start)) (k + 1) rest
unfolding size
seg_spans words k start rest before is pool here = ap (λ j. padded_span start (segment_end words (j + 1) start rest) ∷ []) is
    ∙ ap (λ a. padded_span start (segment_end words (k + 1) a rest) ∷ []) (sym (add-zero start))

-- the segment that a line with this statement, and the lines after it, go on
abbrev goes_on : List PoolWord → Option Spot → ℕ → Statement → List Line → List Span
goes_on words None k s rest = []
goes_on words (Some p) k s rest = padded_span p.start (if is_segment s then p.at else segment_end words (k + 1) (p.at + size (pool_size words k) p.at s) rest) ∷ []

span_steps : (words : List PoolWord) (before : List Line) (k : ℕ) (rest : List Line) (here : Option Spot) (s : Statement) (others : List Span) → length before ≡ k →
    goes_on words here k s rest ++ (span_at words (length before) s rest ++ others)
    ≡ (if is_segment s then closed_span here else []) ++ (pending_span words (passes (pool_size words k) here s) (k + 1) rest ++ others)
span_steps words before k rest None (Seg start) others at = ap (λ ws. ws ++ others) (seg_spans words k start rest before at (pool_size words k) None)
span_steps words before k rest None _ others at = refl
span_steps words before k rest (Some p) (Seg start) others at = ap (λ ws. padded_span p.start p.at ∷ ws ++ others) (seg_spans words k start rest before at (pool_size words k) (Some p))
span_steps words before k rest (Some p) _ others at = refl

span_step : (words : List PoolWord) (before : List Line) (k : ℕ) (l : Line) (rest : List Line) (here : Option Spot) → length before ≡ k →
    pending_span words here k (l ∷ rest) ++ later words before (l ∷ rest)
    ≡ (if is_segment l.statement then closed_span here else []) ++ (pending_span words (passes (pool_size words k) here l.statement) (k + 1) rest ++ later words (before ++ l ∷ []) rest)
span_step words before k l rest None at = span_steps words before k rest None l.statement (later words (before ++ l ∷ []) rest) at
span_step words before k l rest (Some p) at = span_steps words before k rest (Some p) l.statement (later words (before ++ l ∷ []) rest) at

pending_none : (words : List PoolWord) (here : Option Spot) (k : ℕ) → pending_span words here k [] ≡ closed_span here
pending_none words None k = refl
pending_none words (Some p) k = refl

-- ---- the walk

pub walks_none : (lines : List Line) (words : List PoolWord) (spots : List (Option Spot)) (spans : List Span) → IsText lines words → spots ≡ [] → spans ≡ [] → Walks lines words 0 None spots spans
unfolding spans_of
walks_none lines words spots spans text e f = record {
  here_is = refl;
  near = tt;
  spots_are = builds_none (λ before l rest. spot_at words before l) spots lines e;
  below = (let P : List (Option Spot) → Type 0 = λ xs. All (IsBelow (2 ^ 34)) xs in subst P (sym e) (All-nil (IsBelow (2 ^ 34))));
  spans_are = ap (λ ws. ws ++ ([] ++ later words [] lines)) f ∙ ap (λ ws. later ws [] lines) text.words_are;
}

pub walks_all : (lines : List Line) (words : List PoolWord) (k : ℕ) (here : Option Spot) (spots : List (Option Spot)) (spans all : List Span) → length lines ≤ k →
    Walks lines words k here spots spans → all ≡ spans ++ closed_span here → IsWalk lines words spots all
walks_all lines words k here spots spans all le walks e = record {
  spots_are = builds_all (λ before l rest. spot_at words before l) spots k lines (each (λ before l rest. spot_at words before l) lines) le walks.spots_are;
  below = walks.below;
  spans_are = e ∙ ap (λ ws. spans ++ ws) (sym (append-nil (closed_span here)) ∙ ap (λ ws. ws ++ []) (sym (pending_none words here k)))
      ∙ ap (λ ls. spans ++ (pending_span words here k ls ++ later words (take k lines) ls)) (sym (drop_all k lines le)) ∙ walks.spans_are;
}

-- what is known at a line
pub record Stands (lines : List Line) (words : List PoolWord) (pools : List ℕ) (k : ℕ) (l : Line) : Type 0 where
  pub text : IsText lines words
  pub pools_are : ArePools words (length lines) pools
  pub lt : k < length lines
  pub is : l ≡ get_or lines k l

pub walks_more : (lines : List Line) (words : List PoolWord) (pools : List ℕ) (k : ℕ) (l : Line) → Stands lines words pools k l →
    (from now begun : Option Spot) (spots spots' : List (Option Spot)) (spans spans' : List Span) → Walks lines words k from spots spans →
    spans' ≡ spans ++ (if is_segment l.statement then closed_span from else []) → spots' ≡ spots ++ begun ∷ [] →
    begun ≡ begins from l.statement → ((n : ℕ) → 2 ^ 32 ≤ n → IsBelow n from → IsBelow n begun) →
    now ≡ passes (slice_index pools k) from l.statement → ((n : ℕ) → 2 ^ 32 ≤ n → IsBelow n from → IsBelow (n + (1027 + 4 * items l.statement + 4 * slice_index pools k)) now) →
    Walks lines words (k + 1) now spots' spans'
walks_more lines words pools k l stands from now begun spots spots' spans spans' walks spans_add spots_add begun_is begun_below now_is now_below =
    let lt = stands.lt in
    let front : List Line = take k lines in
    let rest : List Line = drop (k + 1) lines in
    let long : length front ≡ k = length-take-le k lines (omega arith) in
    let pool : slice_index pools k ≡ pool_size words k = stands.pools_are.sizes k lt in
    let step : now ≡ passes (pool_size words k) from l.statement = now_is ∙ ap (λ m. passes m from l.statement) pool in
    record {
      here_is = step ∙ ap (λ p. passes (pool_size words k) p l.statement) walks.here_is
          ∙ ap (λ j. passes (pool_size words j) (behind words 0 None front) l.statement) (sym (zero-add (length front) ∙ long))
          ∙ sym (behind_more words 0 None front l) ∙ ap (behind words 0 None) (sym (next lines k l lt stands.is));
      near = below_more (reach lines words k + (1027 + 4 * items l.statement + 4 * slice_index pools k)) (reach lines words (k + 1)) now
          (omega (arith, reach_more lines words k l lt stands.is, pool)) (now_below (reach lines words k) (omega arith) walks.near);
      spots_are = builds_more (λ before l rest. spot_at words before l) spots spots' k lines l (each (λ before l rest. spot_at words before l) lines) lt stands.is walks.spots_are
          (spots_add ∙ ap (λ x. spots ++ x ∷ []) (begun_is ∙ ap (λ p. begins p l.statement) walks.here_is));
      below = (let P : List (Option Spot) → Type 0 = λ xs. All (IsBelow (2 ^ 34)) xs in
          subst P (sym spots_add) (All-push (IsBelow (2 ^ 34)) spots begun walks.below
          (begun_below (2 ^ 34) (lit≤ tt) (below_more (reach lines words k) (2 ^ 34) from (reach_small lines words k stands.text.small stands.text.few) walks.near))));
      spans_are = ap (λ ws. ws ++ (pending_span words now (k + 1) rest ++ later words (take (k + 1) lines) rest)) spans_add
          ∙ ap (λ p. (spans ++ (if is_segment l.statement then closed_span from else [])) ++ (pending_span words p (k + 1) rest ++ later words (take (k + 1) lines) rest)) step
          ∙ ap (λ ls. (spans ++ (if is_segment l.statement then closed_span from else [])) ++ (pending_span words (passes (pool_size words k) from l.statement) (k + 1) rest ++ later words ls rest)) (next lines k l lt stands.is)
          ∙ append_assoc spans (if is_segment l.statement then closed_span from else []) (pending_span words (passes (pool_size words k) from l.statement) (k + 1) rest ++ later words (front ++ l ∷ []) rest)
          ∙ ap (λ ws. spans ++ ws) (sym (span_step words front k l rest from long))
          ∙ ap (λ ls. spans ++ (pending_span words from k ls ++ later words front ls)) (sym (here lines k l lt stands.is)) ∙ walks.spans_are;
    }
