-- Carries a proof; nothing that a reader must believe.
-- A search over what all orders of an image's runs lead to, with a judge of each core.
use Rattle.std.specs.Prelude.{◌≡◌, ℕ, ◌≤◌, ◌⊎◌, Bool}
use Rattle.xt_map.specs.Memory.{constant_byte}
use Rattle.xt_image.specs.declared.image.Image.{Image}
use Rattle.xt_trace.specs.declared.options.Options.{Options}
use Rattle.xt_trace.specs.Runs.{world_at_start}
use Rattle.xt_map.specs.Code.{AreBytes}
use Rattle.xt_core.specs.Runs.{code_of, memory_of, opening_of}
use Rattle.xt_discipline.specs.Verdicts.{opened0, opened1}
use Rattle.xt_search.specs.Graphs.{IsAt, IsGraph, OpensWith}
use Rattle.xt_outcomes.specs.Spots.{spot_in}
use Rattle.xt_judged.specs.OwnJudges.{Watched, opening_judge, range_of}
use Rattle.xt_judged.specs.Forgotten.{Leads, Stands}
use Rattle.xt_judged.specs.WatchedKept.{AreSettled, watched_of}
use Rattle.xt_judged.specs.declared.apart.OwnSearch.{OwnSearch}
use Rattle.xt_judged.specs.declared.watched.Watched as kept

-- both cores as the runs of an image open
abbrev pub first_watched : Image → Options → (timed : Bool) → Watched
first_watched image o timed = record {
  spot = spot_in timed (world_at_start (opening_of image o));
  judge0 = opening_judge (opened0 image o);
  judge1 = opening_judge (opened1 o);
}

-- a search of this image and these options
pub record IsSearch (image : Image) (o : Options) (timed : Bool) (s : OwnSearch) : Type 0 where
  pub bytes : AreBytes (code_of image)
  pub code : s.machine.timed.code ≡ image.segments
  pub opening : s.machine.timed.opening.contents ≡ memory_of image o
  pub is_timed : s.machine.timed.timed ≡ timed
  pub stack0 : s.machine.stack0 ≡ o.stack0
  pub stack1 : s.machine.stack1 ≡ o.stack1
  pub graph : IsGraph (Leads (code_of image) s.machine.timed.dead.masks.items (range_of o.stack0)
      (range_of o.stack1) timed s.machine.places.list.items (memory_of image o)) s.graph
  pub first : (w : kept.Watched) × OpensWith s.graph w
      × Stands s.machine.timed.dead.masks.items (watched_of (memory_of image o) w)
      (first_watched image o timed)

-- of all that is kept both judges go on, and the places tell of both next turns
abbrev pub AreAllSettled : OwnSearch → Type 0
AreAllSettled s =
    (k : ℕ) (w : kept.Watched) → IsAt s.graph.kept.items k w
    → AreSettled (constant_byte s.machine.timed.code) s.machine.places.list.items w

-- the stack ranges of both cores have no byte in common
abbrev pub AreStacksApart : Options → Type 0
AreStacksApart o = (o.stack0.hi ≤ o.stack1.lo) ⊎ (o.stack1.hi ≤ o.stack0.lo)
