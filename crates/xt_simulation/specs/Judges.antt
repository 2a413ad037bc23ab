-- Carries a proof; nothing that a reader must believe.
-- A judged step of one core over both memories.
use Rattle.std.specs.Prelude.{◌≡◌, ℕ, Bool, false}
use Rattle.xt_map.specs.declared.contents.MemoryContents.{MemoryContents}
use Rattle.xt_map.specs.Memory.{byte_at}
use Rattle.xt_trace.specs.declared.record.StepRecord.{StepRecord}
use Rattle.xt_exec.specs.State.{State}
use Rattle.xt_frames.specs.Frames.{FrameState}
use Rattle.xt_frames.specs.FrameStep.{FrameTurn}
use Rattle.xt_frames.specs.Breaches.{Bounds, stale_after}
use Rattle.xt_frames.specs.Judging.{step_on, live_of, fresh_on}
use Rattle.xt_simulation.specs.Steps.{reply_at, memory_after_step, record_now, state_now}
use Rattle.xt_simulation.specs.Steps.{memory_now}
use Rattle.xt_simulation.specs.Relation.{lost_at}
use Rattle.xt_simulation.specs.Handling.{Somewhere}
use Rattle.xt_simulation.specs.Memories.{Agree}

-- PC, kind, write and access of the record are those of the frame step, and the frame machine's
-- memory gives its reply
pub record Matches
    (pc : ℕ) (rec : StepRecord) (u : FrameTurn) (framed : MemoryContents) : Type 0 where
  pub place : rec.pc ≡ pc
  pub kind : rec.kind ≡ u.kind
  pub write : rec.write ≡ u.write
  pub access : rec.access ≡ u.access
  pub reply : rec.reply ≡ reply_at framed u.access

-- after a judged step
pub record After
    (code : ℕ → ℕ) (b : Bounds) (fresh : Bool) (s : State) (f : FrameState)
    (m framed : MemoryContents) (others stale : ℕ → Bool) : Type 0 where
  pub same : Matches f.control.pc (record_now code m s) (step_on code false (record_now code m s) f)
      framed
  pub somewhere : let u = step_on code false (record_now code m s) f in
      Somewhere (byte_at (memory_now code m s)) b
      (lost_at (fresh_on fresh code false (record_now code m s) f) u.after) (state_now code m s)
      u.after
  pub agree : let u = step_on code false (record_now code m s) f in
      Agree (live_of b u.after others)
      (stale_after (live_of b u.after others) (live_of b f others) stale
      (record_now code m s).access)
      (memory_now code m s) (memory_after_step framed u.access)
