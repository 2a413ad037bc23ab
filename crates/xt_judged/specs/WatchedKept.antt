-- Carries a proof; nothing that a reader must believe.
-- What stands in a search for two cores with a judge each.
use Rattle.std.specs.Prelude.{◌≡◌, ℕ, zero, suc, true, None, List, length}
use Rattle.xt_map.specs.declared.contents.MemoryContents.{MemoryContents}
use Rattle.xt_exec.specs.State.{State}
use Rattle.xt_frames.specs.Walked.{Walked}
use Rattle.xt_outcomes.specs.KeptWorlds.{spot_of}
use Rattle.xt_outcomes.specs.Places.{is_told}
use Rattle.xt_outcomes.specs.Spots.{Side}
use Rattle.xt_outcomes.specs.declared.places.Place.{Place}
use Rattle.xt_judged.specs.Kept.{standing_of}
use Rattle.xt_judged.specs.Lives.{AreApart}
use Rattle.xt_judged.specs.OwnJudges.{Judge, Own, Watched, goes}
use Rattle.xt_judged.specs.Stales.{among}
use Rattle.xt_judged.specs.declared.watched.OwnJudge.{OwnJudge}
use Rattle.xt_judged.specs.declared.watched.Running.{Running}
use Rattle.xt_judged.specs.declared.watched.Watched as kept

abbrev pub judge_of : OwnJudge → Judge
judge_of j = record {
  standing = standing_of j.standing;
  bounds = j.standing.frames.bounds;
  stale = among j.stale;
  fate = j.fate;
}

-- as its core makes turns, with these frames
abbrev pub judge_at : Walked → Running → Judge
judge_at w r = record {
  standing = record { frame = w.state; fresh = w.fresh; phase = r.phase };
  bounds = w.bounds;
  stale = among r.stale;
  fate = r.fate;
}

-- The frames have all special registers and count their records from the next one on, and no stale
-- byte is live.
pub record IsRunning (w : Walked) (r : Running) : Type 0 where
  pub whole : length w.state.control.special ≡ 256
  pub first : w.next ≡ 0
  pub apart : AreApart w None r.stale

-- what it stands for where memory opened so
abbrev pub watched_of : MemoryContents → kept.Watched → Watched
watched_of m w = record {
  spot = spot_of m w.world;
  judge0 = judge_of w.judge0.value;
  judge1 = judge_of w.judge1.value;
}

-- a core with its judge
abbrev pub own_of : Side State → OwnJudge → Own
own_of s j = record { side = s; judge = judge_of j }

abbrev pub own_at : Side State → Walked → Running → Own
own_at s w r = record { side = s; judge = judge_at w r }

abbrev pub judge_in : ℕ → kept.Watched → OwnJudge
judge_in zero w = w.judge0.value
judge_in (suc c) w = w.judge1.value

-- both judges go on, and the places tell of both next turns
pub record AreSettled (code : ℕ → ℕ) (ps : List Place) (w : kept.Watched) : Type 0 where
  pub goes0 : goes w.judge0.value.fate ≡ true
  pub goes1 : goes w.judge1.value.fate ≡ true
  pub told0 : is_told code ps 0 w.world.side0.value ≡ true
  pub told1 : is_told code ps 1 w.world.side1.value ≡ true
