-- The answer on the secrets of a run of an image ('profile'): its first leak, or that it has none.
use Rattle.std.specs.Prelude.{◌≡◌, ℕ, ◌==◌, nat_lt, if◌then◌else◌, Option, Some, None, List, length}
use Rattle.std.specs.Prelude.{slice_get}
use Rattle.xt_image.specs.declared.image.Image.{Image}
use Rattle.xt_trace.specs.declared.run.Run.{Run}
use Rattle.xt_map.specs.Fetching.{Fetched, Fetches, fetch_at}
use Rattle.xt_rows.specs.Operands.{reads}
use Rattle.xt_exec.specs.State.{State}
use Rattle.xt_frames.specs.FirstBreach.{turn_of}
use Rattle.xt_uses.specs.declared.lacking.Lack.{Lack}
use Rattle.xt_uses.specs.Words.{all_bits}
use Rattle.xt_simulation.specs.Knowledge.{Knowledge, register_word}
use Rattle.xt_simulation.specs.SecretWorlds.{known_of}
use Rattle.xt_simulation.specs.FirstLeak.{IsFirstLeak, Watched, carried_count, standing_before, state_of}
use Rattle.xt_simulation.specs.WatchedRuns.{has_byte_at, watched_of}
use Rattle.xt_secret_walk.specs.declared.leak.FirstLeak.{FirstLeak}
use Rattle.xt_secret_walk.specs.declared.leak.Secrets.{Secrets}
use Rattle.xt_secret_walk.specs.declared.leak.Secrets.TheVariants.{Whole, Leaks}

-- ---- the registers that an instruction reads and of which not every bit is known

abbrev pub lack_of : Knowledge → State → ℕ → Option Lack
lack_of m s n =
    let w = register_word m s (Some n) in
    if w.mask == all_bits then None
    else Some (record { number = n; value = w.value; mask = w.mask; mark = None })

-- once each, in the order of their numbers
abbrev pub lacks_among : Knowledge → State → Option ℕ × Option ℕ → Option Lack × Option Lack
lacks_among m s (None, second) = (None, None)
lacks_among m s (Some x, None) = (lack_of m s x, None)
lacks_among m s (Some x, Some y) =
    if nat_lt x y then (lack_of m s x, lack_of m s y)
    else (if nat_lt y x then (lack_of m s y, lack_of m s x) else (lack_of m s x, None))

abbrev pub lacks_fetched : Fetched → Knowledge → State → Option Lack × Option Lack
lacks_fetched (Fetches i len) m s = lacks_among m s (reads i)
lacks_fetched _ m s = (None, None)

-- of the instruction at the program counter of this core before turn p
abbrev pub lacks_at : Watched → ℕ → ℕ → Option Lack × Option Lack
lacks_at r p core =
    let b = standing_before r p in
    let s = state_of core b in
    lacks_fetched (fetch_at r.code s.control.pc) (known_of core b.learned) s

-- ---- the answer

-- the first leak: its core, the number of its turn among those of the core, and the turn's record
pub record IsLeaks (r : Watched) (first : FirstLeak) : Type 0 where
  pub place : ℕ
  pub is_first :
      IsFirstLeak r place (Some (record { core = first.core; step = first.step }))
  pub turn : slice_get r.turns place ≡ Some (turn_of first.core first.rec)
  pub lacks : first.lacks ≡ lacks_at r place first.core

-- no turn leaks; how many turns of core 0 and of core 1 carry what is not known
pub record IsWhole (r : Watched) (carried0 carried1 : ℕ) : Type 0 where
  pub none : IsFirstLeak r (length r.turns) None
  pub first : carried0 ≡ carried_count r 0 (length r.turns)
  pub second : carried1 ≡ carried_count r 1 (length r.turns)

abbrev pub IsSaidOf : Watched → Secrets → Type 0
IsSaidOf r (Whole n m) = IsWhole r n m
IsSaidOf r (Leaks first) = IsLeaks r first

-- of a run of an image, whose secret and public bytes are those of these ranges
abbrev pub IsSecretsOf : Image → Run → List (ℕ × ℕ) → List (ℕ × ℕ) → Secrets → Type 0
IsSecretsOf image run secret public answer =
    IsSaidOf (watched_of image run (has_byte_at secret) (has_byte_at public)) answer

-- a run has one answer
abbrev pub SecretsAreOne : Type 0
SecretsAreOne =
    (r : Watched) (one other : Secrets) → IsSaidOf r one → IsSaidOf r other → one ≡ other
