-- States laws that are proved; nothing that a reader must believe.
-- What is fetched has its operands in their ranges.
use Rattle.std.specs.Prelude.{◌≡◌, ℕ, true}
use Rattle.xt_isa.specs.declared.Insn.{Insn}
use Rattle.xt_isa.specs.Ranges.{in_range}
use Rattle.xt_map.specs.Code.{AreBytes}
use Rattle.xt_map.specs.Fetching.{Fetches, fetch_at}

abbrev pub FetchedIsInRange : Type 0
FetchedIsInRange =
    (code : ℕ → ℕ) (pc : ℕ) (i : Insn) (n : ℕ)
    → AreBytes code → fetch_at code pc ≡ Fetches i n → in_range i ≡ true
