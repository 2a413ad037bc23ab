-- Carries a proof; nothing that a reader must believe.
-- What the parts of the layout know of one another: the words are those of the lines, and
-- addresses do not grow too large.
use Rattle.std.specs.Prelude.{ℕ, ◌+◌, ◌*◌, ◌^◌, ◌≤◌, ◌<◌, ◌≡◌, List, [], ◌∷◌, ◌++◌, length, take}
use Rattle.std.specs.Prelude.{drop, slice_index, count_by, sum_by, nat_lt, All, Option, Some, None}
use Rattle.xt_parse.specs.declared.line.Line.{Line}
use Rattle.xt_layout.specs.declared.word.PoolWord.{PoolWord}
use Rattle.xt_layout.specs.Pools.{words_of, IsAmong}
use Rattle.std.specs.List.{flat_map}
use Rattle.xt_layout.specs.Around.{each, each_after}
use Rattle.xt_layout.specs.declared.spot.Spot.{Spot}
use Rattle.xt_layout.specs.declared.spot.Span.{Span}
use Rattle.xt_layout.specs.Spans.{padded_span, segment_end, span_at, spans_of}
use Rattle.xt_layout.specs.Spots.{behind, spot_at}
use Rattle.xt_layout.specs.Sizes.{IsSmall, pool_size, weight}

-- the pool words of a text within the limit
pub record IsText (lines : List Line) (words : List PoolWord) : Type 0 where
  pub words_are : words ≡ words_of lines
  pub few : length words ≤ length lines
  pub places : All (IsAmong (length lines)) words
  pub small : IsSmall lines

-- how many words the pool at each of n places has
pub record ArePools (words : List PoolWord) (n : ℕ) (pools : List ℕ) : Type 0 where
  pub many : length pools ≡ n
  pub sizes : (k : ℕ) → k < n → slice_index pools k ≡ pool_size words k

-- the address is at most n
abbrev pub IsBelow : ℕ → Option Spot → Type 0
IsBelow n None = Unit {0}
IsBelow n (Some p) = p.at ≤ n

-- no address after the first k lines is larger
abbrev pub reach : List Line → List PoolWord → ℕ → ℕ
reach lines words k =
    2 ^ 32 + (1027 * sum_by weight (take k lines) + 4 * count_by (λ w. nat_lt w.position k) words)

-- ---- spans, while the lines are gone through

-- the segment that ends here
abbrev pub closed_span : Option Spot → List Span
closed_span None = []
closed_span (Some p) = padded_span p.start p.at ∷ []

-- the segment that lines from the place k on go on
abbrev pub pending_span : List PoolWord → Option Spot → ℕ → List Line → List Span
pending_span words None k rest = []
pending_span words (Some p) k rest = padded_span p.start (segment_end words k p.at rest) ∷ []

-- the segments that the lines begin
abbrev pub later : List PoolWord → List Line → List Line → List Span
later words before rest =
    flat_map (λ spans. spans)
    (each_after (λ before l rest. span_at words (length before) l.statement rest) before rest)

-- ---- what is known after k lines

pub record Walks
    (lines : List Line) (words : List PoolWord) (k : ℕ) (here : Option Spot)
    (spots : List (Option Spot)) (spans : List Span) : Type 0 where
  pub here_is : here ≡ behind words 0 None (take k lines)
  pub near : IsBelow (reach lines words k) here
  pub spots_are :
      spots ++ each_after (λ before l rest. spot_at words before l) (take k lines) (drop k lines)
      ≡ each (λ before l rest. spot_at words before l) lines
  pub below : All (IsBelow (2 ^ 34)) spots
  pub spans_are :
      spans ++ (pending_span words here k (drop k lines)
      ++ later words (take k lines) (drop k lines))
      ≡ spans_of lines

-- where the lines stand, and the segments
pub record IsWalk
    (lines : List Line) (words : List PoolWord) (spots : List (Option Spot))
    (spans : List Span) : Type 0 where
  pub spots_are : spots ≡ each (λ before l rest. spot_at words before l) lines
  pub below : All (IsBelow (2 ^ 34)) spots
  pub spans_are : spans ≡ spans_of lines
