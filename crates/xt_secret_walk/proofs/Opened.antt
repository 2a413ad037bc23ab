-- A run as it opens.
use Rattle.std.proofs.Common.{◌≡◌, ℕ, ◌≤◌, List, sym, ap, arith}
use Rattle.xt_map.specs.Memory.{constant_byte}
use Rattle.xt_image.specs.declared.image.Image.{Image}
use Rattle.xt_trace.specs.declared.run.Run.{Run}
use Rattle.xt_trace.specs.Schedule.{schedule_in}
use Rattle.xt_trace.specs.Traces.{trace_over}
use Rattle.xt_exec.specs.Chips.{processor}
use Rattle.xt_core.specs.Runs.{IsRunOf, code_of, records_of, turns_of}
use Rattle.xt_frames.specs.FirstBreach.{turns}
use Rattle.xt_simulation.specs.FirstLeak.{Watched, standing_before}
use Rattle.xt_simulation.specs.SecretBytes.{opening_bytes}
use Rattle.xt_simulation.specs.WatchedRuns.{has_byte_at, watched_of}
use Rattle.xt_secret_walk.specs.declared.side.Side.{Side}
use Rattle.xt_secret_walk.specs.declared.walk.Walk.{Walk}
use Rattle.xt_secret_walk.specs.KnownBytes.{KnowsBytes}
use Rattle.xt_secret_walk.specs.Walked.{IsOn, IsOpenSide, IsSide, records_left}

side_room : (w : Side) (image : Image) (run : Run) (core : ℕ) → IsOpenSide image run core w → turns_of core run.options ≤ 4000000 → IsSide w
side_room w image run core o few =
    let steps = o.steps in
    let left = o.left in
    let carried = o.carried in
    record { turns = (omega arith); carried = (omega arith) }

all_left : (w : Side) (image : Image) (run : Run) (core : ℕ) → IsOpenSide image run core w → (records_of core image run).records ≡ records_left (code_of image) w
all_left w image run core o =
    sym (λ i. (trace_over (processor (code_of image)) (o.state i) (o.left i) (o.replies i)).records)

pub opens : (image : Image) (run : Run) (secret public : List (ℕ × ℕ)) (w : Walk) → IsRunOf image run → constant_byte w.code ≡ code_of image → w.public.now ≡ public → IsOpenSide image run 0 w.side0 → IsOpenSide image run 1 w.side1
    → KnowsBytes w.bytes (has_byte_at public) (opening_bytes (has_byte_at secret) (has_byte_at public)) → IsOn (watched_of image run (has_byte_at secret) (has_byte_at public)) w (schedule_in run) 0
unfolding standing_before
opens image run secret public w is code same o0 o1 bytes =
    let v = is.valid in
    let r : Watched = watched_of image run (has_byte_at secret) (has_byte_at public) in
    record {
      code_is = code;
      public_is = ap has_byte_at same;
      stands = record {
        side0 = side_room w.side0 image run 0 o0 v.turns0;
        side1 = side_room w.side1 image run 1 o1 v.turns1;
        core0 = o0.core_is;
        core1 = o1.core_is;
        state0 = o0.state;
        state1 = o1.state;
        known0 = o0.known;
        known1 = o1.known;
      };
      bytes = bytes;
      within = (omega arith);
      rest = λ i. turns (schedule_in run) (all_left w.side0 image run 0 o0 i) (all_left w.side1 image run 1 o1 i);
      known = λ j t h. absurd (omega (arith, h));
      steps0 = o0.steps;
      steps1 = o1.steps;
      carried0 = o0.carried;
      carried1 = o1.carried;
    }
