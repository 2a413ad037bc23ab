-- The keys before the part that is searched are less than the wanted one, and those after it are more.
use Rattle.std.proofs.Common.{◌-◌, ◌<◌, ◌≤◌, ℕ, length}
use Rattle.xt_names.specs.Names.{mnemonics}
use Rattle.xt_names.proofs.Searched.{at, key_of}
use Rattle.xt_names.proofs.search.mnemonic_of.Given as goal

abbrev pub invariant-loop-low : goal.invariant-loop-low
invariant-loop-low l =
    (l.high ≤ length mnemonics)
    × ((j : ℕ) → j < l.low → key_of (at j) < l.wanted)
    × ((j : ℕ) → l.high ≤ j → j < length mnemonics → l.wanted < key_of (at j))

abbrev pub decreases-loop-low : goal.decreases-loop-low
decreases-loop-low l = l.high - l.low
