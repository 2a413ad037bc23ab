-- Carries a proof; nothing that a reader must believe.
-- What a fetch answers, as its definition has it ('profile').
use Rattle.std.specs.Prelude.{◌≡◌, ℕ, ◌+◌, true}
use Rattle.xt_isa.specs.Ranges.{in_range}
use Rattle.xt_isa.specs.Spelling.{spelled_insn, fields_at, length_of}
use Rattle.xt_map.specs.Fetching.{Fetched, Fetches, Fails, SpellsNothing, read_as}
use Rattle.xt_codec.specs.declared.fetch.Fetch.{Fetch}
use Rattle.xt_codec.specs.declared.fetch.Fetch.TheVariants as fetch

-- an instruction has its operands in their ranges
abbrev pub IsFetched : Fetch → Fetched → Type 0
IsFetched (fetch.Insn i len) f = (f ≡ Fetches i len) × (in_range i ≡ true)
IsFetched (fetch.Fails address) f = f ≡ Fails address
IsFetched fetch.Nothing f = f ≡ SpellsNothing

-- the same of the operands alone
abbrev pub IsGoodFetch : Fetch → Type 0
IsGoodFetch (fetch.Insn i len) = in_range i ≡ true
IsGoodFetch (fetch.Fails address) = Unit {0}
IsGoodFetch fetch.Nothing = Unit {0}

-- what the bytes at an address spell
abbrev pub read_at : (ℕ → ℕ) → ℕ → Fetched
read_at code pc =
    read_as (spelled_insn (fields_at (code pc) (code (pc + 1)) (code (pc + 2))))
    (length_of (code pc))
