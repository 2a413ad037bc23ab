-- Where a line stands: the start of its segment, and the address that the lines
-- before it lead to ('profile').
use Rattle.std.specs.Prelude.{ℕ, ◌+◌, List, [], ◌∷◌, Option, Some, None}
use Rattle.std.specs.Option.{option_map, option_map_or}
use Rattle.xt_parse.specs.declared.line.Line.{Line}
use Rattle.xt_parse.specs.declared.statement.Statement.{Statement}
use Rattle.xt_parse.specs.declared.statement.Statement.TheVariants.{Seg}
use Rattle.xt_layout.specs.declared.word.PoolWord.{PoolWord}
use Rattle.xt_layout.specs.declared.spot.Spot.{Spot}
use Rattle.xt_layout.specs.Sizes.{size, pool_size}

abbrev pub spot : ℕ → ℕ → Spot
spot start at = record { start = start; at = at }

-- a `.seg` begins a segment at its number
abbrev pub begins : Option Spot → Statement → Option Spot
begins before (Seg start) = Some (spot start start)
begins before _ = before

-- after the bytes of a statement, before which the pool at its place has so many words
abbrev pub spot_past : ℕ → Statement → Spot → Spot
spot_past pool s p = spot p.start (p.at + size pool p.at s)

abbrev pub passes : ℕ → Option Spot → Statement → Option Spot
passes pool before s = option_map (spot_past pool s) (begins before s)

-- After lines, of which the first has the place k: the statements, pools and zeros of a segment
-- stand one after another.
abbrev pub behind : List PoolWord → ℕ → Option Spot → List Line → Option Spot
behind words k before [] = before
behind words k before (l ∷ rest) =
    behind words (k + 1) (passes (pool_size words k) before l.statement) rest

-- where a line stands, given the lines before it: none with no `.seg` on it or before it
abbrev pub spot_at : List PoolWord → List Line → Line → Option Spot
spot_at words before l = begins (behind words 0 None before) l.statement

-- the address of the spot, and 0 without a segment
abbrev pub address : Option Spot → ℕ
address p = option_map_or (λ p. p.at) p 0
