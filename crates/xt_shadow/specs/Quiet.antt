-- Carries a proof; nothing that a reader must believe.
-- An access that shows no breach; most are to bytes of which nothing is known.
use Rattle.std.specs.Prelude.{◌≡◌, ◌+◌, ◌<◌, ℕ, Bool, false, Option, Some, None, List}
use Rattle.xt_map.specs.declared.access.Access.{Access}
use Rattle.xt_frames.specs.Breaches.{loads_stale, stores_at, touches_save_area}
use Rattle.xt_discipline.specs.declared.bytes.Held.{Held}
use Rattle.xt_discipline.specs.declared.bytes.Change.TheVariants.{Stored}
use Rattle.xt_discipline.specs.ByteMarks.{AreChanged, Agrees, either, held_at, nothing}

abbrev pub IsQuiet : List Held → Option Access → Type 0
IsQuiet marks None = Unit {0}
IsQuiet marks (Some a) = (k : ℕ) → k < a.size → held_at marks (a.addr + k) ≡ nothing

-- whatever bytes the marks are those of, it shows no breach, and the marks follow it
pub record IsPassedBy (m n : List Held) (o : Option Access) : Type 0 where
  pub saves : (live0 live1 stale : ℕ → Bool) → Agrees m live0 live1 stale
      → touches_save_area (either live0 live1) o ≡ false
  pub loads : (live0 live1 stale : ℕ → Bool) → Agrees m live0 live1 stale
      → loads_stale (either live0 live1) stale o ≡ false
  pub stored : AreChanged Stored (stores_at o) m n
