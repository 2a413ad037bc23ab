-- An address that fetches an instruction is not one of the last.
use Rattle.std.proofs.Common.{◌≡◌, ◌+◌, ◌<◌, ◌^◌, ℕ, Bool, true, false, cond, Some, None, refl, arith}
use Rattle.std.proofs.lemmas.Bool.Decides.{nat_tests}
use Rattle.xt_isa.specs.declared.Insn.{Insn}
use Rattle.xt_isa.specs.Spelling.{length_of}
use Rattle.xt_map.specs.Regions.{is_executable, region_of}
use Rattle.xt_map.specs.Fetching.{Fetches, can_fetch, fetch_at, fetched_past, unfetchable}

executable_small : (a : ℕ) → is_executable (region_of a) ≡ true → a + 4 < 2 ^ 32
unfolding region_of
executable_small a h = grind (arith, nat_tests)

pub fetches_small : (code : ℕ → ℕ) (pc : ℕ) (i : Insn) (len : ℕ) → fetch_at code pc ≡ Fetches i len → pc + 4 < 2 ^ 32
unfolding fetch_at
fetches_small code pc i len is = by_test (can_fetch pc) refl is
  where
    fails : (u : Bool) → u ≡ false → fetched_past (cond u None (Some pc)) code pc ≡ Fetches i len → ⊥
    fails true e is = absurd cc
    fails false e is = absurd cc

    by_test : (t : Bool) → can_fetch pc ≡ t → fetched_past (unfetchable pc (cond t (length_of (code pc)) 1)) code pc ≡ Fetches i len → pc + 4 < 2 ^ 32
    by_test true can is = executable_small pc can
    by_test false can is = absurd (fails (can_fetch pc) can is)
