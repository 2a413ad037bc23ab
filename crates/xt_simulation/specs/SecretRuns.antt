-- Runs of an image with other secrets ('profile'): up to its first leak a run is the same, whatever
-- the hidden bytes hold as it opens.
--
-- Profile: a byte is hidden if it is secret and not public. With other secrets the cores make their
-- turns in the order of the run's own schedule. The image, the options and so the states in which
-- both cores open are the same, and memory differs in hidden bytes alone.
-- Note: the definition compares the worlds after each number n of turns up to the leak, and turn n
-- itself if it is before the leak. Only these may differ: values that are written, stored or
-- replied, in bits that are not known; and whether a conditional move writes whose condition is not
-- known.
use Rattle.std.specs.Prelude.{◌≡◌, ℕ, ◌<◌, ◌≤◌, Bool, false, Some, length, slice_get}
use Rattle.xt_map.specs.declared.contents.MemoryContents.{MemoryContents}
use Rattle.xt_map.specs.Memory.{byte_at}
use Rattle.xt_map.specs.Touching.{IsMemory}
use Rattle.xt_image.specs.declared.image.Image.{Image}
use Rattle.xt_trace.specs.declared.run.Run.{Run}
use Rattle.xt_trace.specs.Schedule.{schedule_in}
use Rattle.xt_trace.specs.Traces.{has_stopped}
use Rattle.xt_trace.specs.Walks.{state_at}
use Rattle.xt_trace.specs.Worlds.{World}
use Rattle.xt_exec.specs.Chips.{processor}
use Rattle.xt_exec.specs.State.{State}
use Rattle.xt_frames.specs.FirstBreach.{Turn}
use Rattle.xt_uses.specs.UseStep.{reply_mask}
use Rattle.xt_core.specs.Runs.{code_of, memory_of, opening_of}
use Rattle.xt_simulation.specs.SecretBytes.{is_hidden}
use Rattle.xt_simulation.specs.SecretLaws.{TurnsAgree}
use Rattle.xt_simulation.specs.SecretWorlds.{Learned, core_in, known_of, turn_in}
use Rattle.xt_simulation.specs.WorldLaws.{PublicAgree, WorldsAgree}
use Rattle.xt_simulation.specs.FirstLeak.{standing_before}
use Rattle.xt_simulation.specs.WatchedRuns.{watched_of}

-- ---- two memories with which a run may open

-- the other memory has the same regions, and the same bytes except for hidden ones
pub record HasOtherSecrets (hidden : ℕ → Bool) (memory other : MemoryContents) : Type 0 where
  pub regions : IsMemory other
  pub bytes : (a : ℕ) → hidden a ≡ false → byte_at memory a ≡ byte_at other a
  pub sent : memory.sent ≡ other.sent

-- both cores and the bus after n turns of the run's schedule, if memory opens with this
abbrev pub world_from : Image → Run → MemoryContents → ℕ → World State
world_from image r memory n =
    state_at
    (processor (code_of image))
    (record (opening_of image r.options) { memory = memory })
    (schedule_in r)
    n

-- and as the run itself has them
abbrev pub run_world : Image → Run → ℕ → World State
run_world image r n = world_from image r (memory_of image r.options) n

-- after each of the first n turns the public bytes are the same
abbrev pub StoresSamePublic : Image → Run → (ℕ → Bool) → MemoryContents → ℕ → Type 0
StoresSamePublic image r public other n =
    (i : ℕ) → i ≤ n → PublicAgree public (run_world image r i) (world_from image r other i)

-- ---- what is the same

-- in both worlds what is known is the same, the same bytes were sent, and each core has as many
-- turns left and has stopped or not
pub record AreSameWorlds (known : Learned) (v w : World State) : Type 0 where
  pub agree : WorldsAgree known v w
  pub stopped0 : has_stopped v.core0.records ≡ has_stopped w.core0.records
  pub stopped1 : has_stopped v.core1.records ≡ has_stopped w.core1.records

-- This turn of the run is the next one of its core in the world v. In the world w that core has a
-- turn left too, and makes the same one: of the same place and kind, with the same access, byte
-- sent and register, in all that is known then.
pub record IsSameTurn (code : ℕ → ℕ) (known : Learned) (t : Turn) (v w : World State) : Type 0 where
  pub left : (0 < (core_in t.core v).left) × (0 < (core_in t.core w).left)
  pub own : t.rec ≡ (turn_in code t.core v).0
  pub same :
      TurnsAgree
      code
      (reply_mask known.bytes t.rec.access)
      (known_of t.core known)
      (core_in t.core v).state
      (turn_in code t.core v)
      (turn_in code t.core w)

-- what is known of the run before its turn n, by the records of the turns before it
abbrev pub learned_before : Image → Run → (ℕ → Bool) → (ℕ → Bool) → ℕ → Learned
learned_before image r secret public n =
    (standing_before (watched_of image r secret public) n).learned

-- no core has a turn left
abbrev pub HasNoTurnsLeft : World State → Type 0
HasNoTurnsLeft w = (w.core0.left ≡ 0) × (w.core1.left ≡ 0)

-- Turn n of the run, if it is before turn p, and the worlds before it; after the last turn of the
-- run both worlds have ended.
pub record IsSameAt
    (image : Image) (r : Run) (secret public : ℕ → Bool) (other : MemoryContents) (p n : ℕ)
    : Type 0 where
  pub worlds :
      AreSameWorlds
      (learned_before image r secret public n)
      (run_world image r n)
      (world_from image r other n)
  pub turn :
      (t : Turn) → n < p → slice_get (watched_of image r secret public).turns n ≡ Some t
      → IsSameTurn
      (code_of image)
      (learned_before image r secret public n)
      t
      (run_world image r n)
      (world_from image r other n)
  pub end :
      n ≡ length (watched_of image r secret public).turns
      → HasNoTurnsLeft (run_world image r n) × HasNoTurnsLeft (world_from image r other n)

-- The first p turns of the run are the same with every other secret, if with that secret each of
-- them also stores the same into the public bytes.
abbrev pub IsSameWithOtherSecrets : Image → Run → (ℕ → Bool) → (ℕ → Bool) → ℕ → Type 0
IsSameWithOtherSecrets image r secret public p =
    (other : MemoryContents)
    → HasOtherSecrets (is_hidden secret public) (memory_of image r.options) other
    → (n : ℕ) → n ≤ p → StoresSamePublic image r public other n
    → IsSameAt image r secret public other p n
