-- How many records a run has.
use Rattle.std.proofs.Common.{ℕ, zero, suc, ◌<◌, ◌≤◌, length, arith}
use Rattle.xt_map.specs.History.{replies_of}
use Rattle.xt_trace.specs.declared.run.Run.{Run}
use Rattle.xt_trace.proofs.Short.{trace_bound}
use Rattle.xt_image.specs.declared.image.Image.{Image}
use Rattle.xt_exec.specs.Chips.{processor}
use Rattle.xt_core.specs.Runs.{IsRunOf, code_of, opening_of, records_of}

pub records_fit : (core : ℕ) (image : Image) (r : Run) → core < 2 → IsRunOf image r → length (records_of core image r).records ≤ 4000000
records_fit zero image r lt h =
    let o = opening_of image r.options in
    omega (arith, trace_bound (processor (code_of image)) o.state0 o.turns0 (replies_of 0 r.history), h.valid.turns0)
records_fit (suc zero) image r lt h =
    let o = opening_of image r.options in
    omega (arith, trace_bound (processor (code_of image)) o.state1 o.turns1 (replies_of 1 r.history), h.valid.turns1)
records_fit (suc (suc core)) image r lt h = absurd (omega arith)
