-- Carries a proof; nothing that a reader must believe.
-- What stands for a scene in a search.
use Rattle.std.specs.Prelude.{◌≡◌, ℕ, zero, suc, ◌<◌, ◌≤◌, Bool, false, not, ◌&&◌, Option, Some}
use Rattle.std.specs.Prelude.{None, List, is_some, option_map, slice_get}
use Rattle.xt_map.specs.declared.contents.MemoryContents.{MemoryContents}
use Rattle.xt_image.specs.declared.image.Image.{Image}
use Rattle.xt_trace.specs.declared.options.Options.{Options}
use Rattle.xt_search.specs.Changed.{ChangesState, contents_of}
use Rattle.xt_exec.specs.Chips.{processor}
use Rattle.xt_exec.specs.State.{State}
use Rattle.xt_core.specs.Runs.{memory_of}
use Rattle.xt_frames.specs.Breaches.{Bounds}
use Rattle.xt_frames.specs.Judging.{Standing}
use Rattle.xt_discipline.specs.Verdicts.{opened0, opened1}
use Rattle.xt_search.specs.declared.graph.Graph.{Graph}
use Rattle.xt_search.specs.declared.graph.Kept.{Kept}
use Rattle.xt_search.specs.Graphs.{IsAt}
use Rattle.xt_search.specs.Meetings.{run}
use Rattle.xt_outcomes.specs.KeptWorlds.{moved_spot, spot_of}
use Rattle.xt_outcomes.specs.Spots.{Side, Spot}
use Rattle.xt_judged.specs.Orders.{first_scene}
use Rattle.xt_judged.specs.Scenes.{Scene, Told, is_idle, scene_bars, scene_past}
use Rattle.xt_judged.specs.Scenes.{with_standing}
use Rattle.xt_judged.specs.declared.scene.Scene as kept
use Rattle.xt_judged.specs.declared.scene.Shown as shown
use Rattle.xt_judged.specs.declared.scene.Standing as standing
use Rattle.xt_judged.specs.Stales.{among}

abbrev pub standing_of : standing.Standing → Standing
standing_of s = record { frame = s.frames.state; fresh = s.frames.fresh; phase = s.phase }

abbrev pub told_of : shown.Shown → Told
told_of s = record { core = s.core; pc = s.pc; kind = s.kind }

-- the scene that it stands for where memory opened so
abbrev pub scene_of : MemoryContents → kept.Scene → Scene
scene_of m s = record {
  spot = spot_of m s.world;
  standing0 = standing_of s.standing0.value;
  standing1 = standing_of s.standing1.value;
  stale = among s.stale.value;
  only = s.only;
  breach = option_map told_of s.breach;
}

-- ---- what each core is judged by

abbrev pub bounds0 : kept.Scene → Bounds
bounds0 s = s.standing0.value.frames.bounds

abbrev pub bounds1 : kept.Scene → Bounds
bounds1 s = s.standing1.value.frames.bounds

-- ---- what is known of a core, and of the other

abbrev pub own_of : ℕ → kept.Scene → standing.Standing
own_of zero s = s.standing0.value
own_of (suc c) s = s.standing1.value

abbrev pub other_of : ℕ → kept.Scene → standing.Standing
other_of zero s = s.standing1.value
other_of (suc c) s = s.standing0.value

-- the cores and memory have come so far, so much is known of the core, these bytes are stale, and
-- this core goes on alone
abbrev pub scene_with :
    MemoryContents → ℕ → kept.Scene → Spot State → standing.Standing → List ℕ → Option ℕ → Scene
scene_with m c s spot st stale only = record (with_standing c (standing_of st) (scene_of m s)) {
  spot = spot;
  stale = among stale;
  only = only;
  breach = None;
}

-- the same, where the core and memory have come so far
abbrev pub moved_scene :
    MemoryContents → ℕ → kept.Scene → Side State → ChangesState → standing.Standing → List ℕ
    → Option ℕ → Scene
moved_scene m c s side changes st stale only =
    scene_with m c s (moved_spot c side (contents_of m changes) (spot_of m s.world)) st stale only

-- both scenes are equal, but that their worlds may only hold the same
pub record IsJudgedAs (v w : kept.Scene) : Type 0 where
  pub standing0 : v.standing0.value ≡ w.standing0.value
  pub standing1 : v.standing1.value ≡ w.standing1.value
  pub stale : v.stale.value ≡ w.stale.value
  pub only : v.only ≡ w.only
  pub breach : v.breach ≡ w.breach

-- ---- turns

abbrev pub bars : (code : ℕ → ℕ) (timed : Bool) → MemoryContents → ℕ → kept.Scene → Bool
bars code timed m c s = scene_bars code timed c (scene_of m s)

-- a turn of the core leads from the one to the other, and each core is judged by the same
pub record IsTurn (code : ℕ → ℕ) (timed : Bool) (m : MemoryContents) (c : ℕ) (v w : kept.Scene)
    : Type 0 where
  pub turn : scene_of m w
      ≡ scene_past (processor code) code (bounds0 v) (bounds1 v) timed c (scene_of m v)
  pub same0 : bounds0 w ≡ bounds0 v
  pub same1 : bounds1 w ≡ bounds1 v

-- the core goes on alone, by a turn that uses no time
abbrev pub goes_on : (code : ℕ → ℕ) (timed : Bool) → ℕ → Scene → Bool
goes_on code timed c s =
    not (is_idle c s) && (is_some s.only && not (scene_bars code timed c s))

-- a turn of the core, and then those that it makes alone, at most so many
abbrev pub stretch : (code : ℕ → ℕ) → Bounds → Bounds → (timed : Bool) → ℕ → ℕ → Scene → Scene
stretch code b0 b1 timed n c s =
    run (scene_past (processor code) code b0 b1 timed) (goes_on code timed) n c s

-- they lead from the one to the other, and the first one uses no time
pub record Leads (code : ℕ → ℕ) (timed : Bool) (n : ℕ) (m : MemoryContents) (c : ℕ)
    (v w : kept.Scene) : Type 0 where
  pub turns : scene_of m w ≡ stretch code (bounds0 v) (bounds1 v) timed n c (scene_of m v)
  pub same0 : bounds0 w ≡ bounds0 v
  pub same1 : bounds1 w ≡ bounds1 v
  pub free : bars code timed m c v ≡ false

-- the scene in which the runs of an image open
pub record IsFirst (image : Image) (o : Options) (timed : Bool) (w : kept.Scene) : Type 0 where
  pub scene : scene_of (memory_of image o) w ≡ first_scene image o timed
  pub judged0 : bounds0 w ≡ (opened0 image o).bounds
  pub judged1 : bounds1 w ≡ (opened1 o).bounds

-- ---- kept worlds of any kind

-- no kept world shows a breach
abbrev pub ShowsNone : {W : Type 0} → (W → Option shown.Shown) → Graph W → Type 0
ShowsNone {W} shows g = (k : ℕ) (w : W) → IsAt g.kept.items k w → shows w ≡ None

-- each kept world but the first one comes from an earlier one, by turns of core 0 or 1
abbrev pub IsTree : {W : Type 0} → Graph W → Type 0
IsTree {W} g =
    (k : ℕ) (x : Kept W) → slice_get g.kept.items (suc k) ≡ Some x → (x.from ≤ k) × (x.core < 2)
