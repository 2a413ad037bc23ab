-- The bytes of segments as ranges of addresses ('profile').
use Rattle.std.specs.Prelude.{ℕ, ◌+◌, ◌-◌, Bool, ◌&&◌, nat_lt, List, [], ◌∷◌, length, if◌then◌else◌}
use Rattle.std.specs.List.{flat_map}
use Rattle.xt_parse.specs.declared.line.Line.{Line}
use Rattle.xt_parse.specs.declared.statement.Statement.{Statement}
use Rattle.xt_parse.specs.declared.statement.Statement.TheVariants.{Seg}
use Rattle.xt_layout.specs.declared.word.PoolWord.{PoolWord}
use Rattle.xt_layout.specs.Around.{each}
use Rattle.xt_layout.specs.Pools.{is_segment, words_of}
use Rattle.xt_layout.specs.declared.spot.Span.{Span}
use Rattle.xt_layout.specs.Sizes.{padding, pool_size, size}

abbrev pub span : ℕ → ℕ → Span
span start end = record { start = start; end = end }

-- two ranges share an address
abbrev pub meet : Span → Span → Bool
meet x y =
    (nat_lt x.start x.end && nat_lt y.start y.end) && (nat_lt x.start y.end && nat_lt y.start x.end)

-- where a segment ends, of which the lines from the place k on stand at an address
abbrev pub segment_end : List PoolWord → ℕ → ℕ → List Line → ℕ
segment_end words k a [] = a
segment_end words k a (l ∷ rest) =
    if is_segment l.statement then a
    else segment_end words (k + 1) (a + size (pool_size words k) a l.statement) rest

-- a segment is padded with zeros to a multiple of 4 bytes
abbrev pub padded_span : ℕ → ℕ → Span
padded_span start end = span start (end + padding 4 (end - start))

-- the segment that a statement begins, which these lines follow
abbrev pub span_at : List PoolWord → ℕ → Statement → List Line → List Span
span_at words k (Seg start) rest = padded_span start (segment_end words (k + 1) start rest) ∷ []
span_at words k _ rest = []

-- the segments of a text
unfoldable pub spans_of : List Line → List Span
spans_of lines =
    flat_map (λ spans. spans)
    (each (λ before l rest. span_at (words_of lines) (length before) l.statement rest) lines)
