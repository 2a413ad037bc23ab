-- The list of cores that a seed makes: which core has each turn of a run ('profile').
use Rattle.std.specs.Prelude.{ℕ, zero, suc, ◌+◌, ◌/◌, ◌%◌, ◌^◌, List, [], ◌++◌, take, replicate}
use Rattle.xt_gen.specs.Generated.{next}

-- the block of a number: the core is the number's highest bit, and has 1 to 32 turns, by bits 24 to
-- 28
abbrev pub block : ℕ → List ℕ
block x = replicate (1 + x / 2 ^ 24 % 32) (x / 2 ^ 31)

-- so many blocks, the first of the number that follows a number
unfoldable pub blocks_from : ℕ → ℕ → List ℕ
blocks_from zero x = []
blocks_from (suc blocks) x = block (next x) ++ blocks_from blocks (next x)

-- as many turns, of the blocks that follow a seed: each block has at least one
unfoldable pub seeded_order : ℕ → ℕ → List ℕ
seeded_order seed count = take count (blocks_from count seed)
