-- Carries a proof; nothing that a reader must believe.
-- What a replay keeps of its fields.
use Rattle.std.specs.Prelude.{◌≡◌, ◌+◌, ◌≤◌, length, All}
use Rattle.xt_map.specs.Placing.{IsPlaced}
use Rattle.xt_trace.specs.declared.run.Run.{Run}
use Rattle.xt_image.specs.declared.image.Image.{Image}
use Rattle.xt_core.specs.Positions.{schedule_in, world_at}
use Rattle.xt_core.specs.Runs.{IsRunOf}
use Rattle.xt_replay.specs.declared.pair.Checkpoint.{Checkpoint}
use Rattle.xt_replay.specs.declared.replay.Replay.TheInside.{Inside}
use Rattle.xt_replay.specs.Shown.{ReplayState}
use Rattle.xt_replay.specs.Stands.{HasRoom, mark_stand, stand_in, stand_of}

abbrev pub replay_in : Inside → ReplayState
replay_in r = record { image = r.image.now; run = r.run.now; position = r.position }

-- a copy of what the run has at its position
pub record IsCopy (image : Image) (r : Run) (c : Checkpoint) : Type 0 where
  pub stand : mark_stand c.mark ≡ stand_in (world_at image r c.position)
  pub within : c.position ≤ length (schedule_in r)

-- The run is the image's; the cores and memory are those of the position, and those that are kept
-- are those of the start and of the positions of the copies.
pub record IsKept (r : Inside) : Type 0 where
  pub run_is : IsRunOf r.image.now r.run.now
  pub placed : IsPlaced r.image.now.segments
  pub code_is : r.code ≡ r.image.now.segments
  pub stand : stand_of r.pair ≡ stand_in (world_at r.image.now r.run.now r.position)
  pub opening_is : mark_stand r.opening ≡ stand_in (world_at r.image.now r.run.now 0)
  pub copies : All (IsCopy r.image.now r.run.now) r.checkpoints.items
  pub near_is : IsCopy r.image.now r.run.now r.near
  pub near_room : r.near.mark.room ≡ r.run.now.options.turns0 + r.run.now.options.turns1
  pub has_room : HasRoom r.pair r.run.now.options
  pub within : r.position ≤ length (schedule_in r.run.now)
