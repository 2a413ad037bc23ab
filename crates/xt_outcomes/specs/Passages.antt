-- Carries a proof; nothing that a reader must believe.
-- What an instruction does with registers, and whether a turn fits, by what is noted of it.
use Rattle.std.specs.Prelude.{◌≡◌, ℕ, Bool, ◌&&◌, List}
use Rattle.xt_map.specs.Fetching.{fetch_at}
use Rattle.xt_timeless.specs.Time.{fetches_compare, fetches_time, fetches_write}
use Rattle.xt_outcomes.specs.Dead.{are_fit, dead_at, is_compare_fit, reads_of, registers_in}
use Rattle.xt_outcomes.specs.declared.dead.Uses.{Uses}
use Rattle.xt_outcomes.specs.declared.paths.Passage.{Passage}

-- of the instruction at a program counter
pub record AreUses (code : ℕ → ℕ) (pc : ℕ) (u : Uses) : Type 0 where
  pub registers : u.reads ≡ reads_of (fetch_at code pc)
  pub compare : u.reads_compare ≡ fetches_compare (fetch_at code pc)
  pub written : u.writes_compare ≡ fetches_write (fetch_at code pc)
  pub time : u.reads_time ≡ fetches_time (fetch_at code pc)

abbrev pub passage_fits : List ℕ → Passage → Bool
passage_fits ms x =
    are_fit (registers_in (dead_at ms x.from)) x.reads x.stays x.write
    (registers_in (dead_at ms x.to))
    && is_compare_fit (dead_at ms x.from) x.reads_compare x.writes_compare (dead_at ms x.to)
