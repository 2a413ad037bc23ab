-- How many bytes a statement takes ('profile').
use Rattle.std.specs.Prelude.{ℕ, ◌+◌, ◌-◌, ◌*◌, ◌%◌, ◌^◌, ◌≤◌, ◌==◌, Bool, List, [], ◌∷◌, length}
use Rattle.std.specs.Prelude.{count_by, sum_by, nat_le, if◌then◌else◌}
use Rattle.std.specs.List.{list_any}
use Rattle.xt_names.specs.Forms.{size_of}
use Rattle.xt_parse.specs.declared.line.Line.{Line}
use Rattle.xt_parse.specs.declared.statement.Statement.{Statement}
use Rattle.xt_parse.specs.declared.statement.Statement.TheVariants.{Empty, Seg, Entry, Position}
use Rattle.xt_parse.specs.declared.statement.Statement.TheVariants.{Literal, Words, Bytes, Ascii}
use Rattle.xt_parse.specs.declared.statement.Statement.TheVariants.{Shorts, Align, Space, Insn}
use Rattle.xt_layout.specs.declared.word.PoolWord.{PoolWord}

-- the zeros from an address up to a multiple of n
abbrev pub padding : ℕ → ℕ → ℕ
padding n a = (n - a % n) % n

-- a power of two from 1 to 1024
abbrev pub is_alignment : ℕ → Bool
is_alignment n = list_any (λ k. n == k) (1 ∷ 2 ∷ 4 ∷ 8 ∷ 16 ∷ 32 ∷ 64 ∷ 128 ∷ 256 ∷ 512 ∷ 1024 ∷ [])

-- so many zeros from an address on end at FFFFFFFF or before
abbrev pub is_space : ℕ → ℕ → Bool
is_space n a = nat_le (a + n) (2 ^ 32)

-- how many of the words stand in the pool at a place
abbrev pub pool_size : List PoolWord → ℕ → ℕ
pool_size words k = count_by (λ w. w.position == k) words

-- The bytes of a statement at an address, where a pool there has so many words. An `.align` or a
-- `.space` with a bad number takes none; a literal's bytes are its pool's.
unfoldable pub size : ℕ → ℕ → Statement → ℕ
size pool a Position = padding 4 a + 4 * pool
size pool a (Words values) = 4 * length values
size pool a (Shorts values) = 2 * length values
size pool a (Bytes values) = length values
size pool a (Ascii bytes) = length bytes
size pool a (Align n) = if is_alignment n then padding n a else 0
size pool a (Space n) = if is_space n a then n else 0
size pool a (Insn m operands) = size_of m
size pool a Empty = 0
size pool a (Seg start) = 0
size pool a (Entry value) = 0
size pool a (Literal name value) = 0

-- ---- lines of a text within the limit

-- a line counts 1, and each of its values or bytes 1
abbrev pub items : Statement → ℕ
items (Words values) = length values
items (Shorts values) = length values
items (Bytes values) = length values
items (Ascii bytes) = length bytes
items _ = 0

abbrev pub weight : Line → ℕ
weight l = 1 + items l.statement

-- The lines and the values and bytes in them are at most 2^21: a text within the limit
-- of 2^20 bytes has no more.
abbrev pub IsSmall : List Line → Type 0
IsSmall lines = sum_by weight lines ≤ 2 ^ 21
