-- What is fetched from bytes has its operands in their ranges.
use Rattle.std.proofs.Common.{◌≡◌, ℕ, ◌+◌, true, Option, Some, None, refl, subst}
use Rattle.xt_isa.specs.declared.Insn.{Insn}
use Rattle.xt_isa.specs.Ranges.{in_range}
use Rattle.xt_isa.specs.Spelling.{spelled_insn, fields_at, length_of}
use Rattle.xt_isa.proofs.Ranged.{spelled_at_in_range}
use Rattle.xt_map.specs.Fetching.{Fetches, fetch_at, fetched_past, unfetchable, fetched_length, read_as}
use Rattle.xt_map.specs.Code.{AreBytes}
use Rattle.xt_map.specs.FetchLaws.{FetchedIsInRange}

read_range : (o : Option Insn) (len : ℕ) (i : Insn) (n : ℕ) → ((j : Insn) → Some j ≡ o → in_range j ≡ true) → read_as o len ≡ Fetches i n → in_range i ≡ true
read_range None len i n h e = absurd cc
read_range (Some j) len i n h e = let same : j ≡ i = cc in subst (λ k. in_range k ≡ true) same (h j refl)

past_range : (code : ℕ → ℕ) (pc : ℕ) (i : Insn) (n : ℕ) (o : Option ℕ) → AreBytes code → fetched_past o code pc ≡ Fetches i n → in_range i ≡ true
past_range code pc i n (Some a) bytes e = absurd cc
past_range code pc i n None bytes e = read_range (spelled_insn (fields_at (code pc) (code (pc + 1)) (code (pc + 2)))) (length_of (code pc)) i n (λ j is. spelled_at_in_range (code pc) (code (pc + 1)) (code (pc + 2)) j (bytes pc) (bytes (pc + 1)) (bytes (pc + 2)) is) e

pub fetched_range : FetchedIsInRange
unfolding fetch_at
fetched_range code pc i n bytes e = past_range code pc i n (unfetchable pc (fetched_length code pc)) bytes e
