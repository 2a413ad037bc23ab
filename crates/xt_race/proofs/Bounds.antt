-- How many records and entries a run has.
use Rattle.std.proofs.Common.{◌≡◌, ℕ, zero, suc, ◌+◌, ◌<◌, ◌≤◌, None, Some, List, [], ◌∷◌, length, refl, ap, arith}
use Rattle.xt_map.specs.declared.access.Access.{Access}
use Rattle.xt_map.specs.declared.access.Entry.{Entry}
use Rattle.xt_map.specs.History.{IsOfCores, calls_of, replies_of}
use Rattle.xt_trace.specs.declared.record.StepRecord.{StepRecord}
use Rattle.xt_trace.specs.declared.run.Run.{Run}
use Rattle.xt_trace.specs.Calls.{call_before, calls_in}
use Rattle.xt_trace.specs.Worlds.{entry}
use Rattle.xt_trace.proofs.Short.{trace_bound}
use Rattle.xt_image.specs.declared.image.Image.{Image}
use Rattle.xt_exec.specs.Chips.{processor}
use Rattle.xt_core.specs.Runs.{IsRunOf, code_of, opening_of, records_of}

pub records_fit : (core : ℕ) (image : Image) (r : Run) → core < 2 → IsRunOf image r → length (records_of core image r).records ≤ 4000000
records_fit zero image r lt h =
    let o = opening_of image r.options in
    omega (arith, trace_bound (processor (code_of image)) o.state0 o.turns0 (replies_of 0 r.history), h.valid.turns0)
records_fit (suc zero) image r lt h =
    let o = opening_of image r.options in
    omega (arith, trace_bound (processor (code_of image)) o.state1 o.turns1 (replies_of 1 r.history), h.valid.turns1)
records_fit (suc (suc core)) image r lt h = absurd (omega arith)

calls_few : (rs : List StepRecord) → length (calls_in rs) ≤ length rs
calls_few [] = omega arith
calls_few (x ∷ xs) =
    let h : length (calls_in xs) ≤ length xs = calls_few xs in
    elim x.access as (λ d. length (call_before d x.reply (calls_in xs)) ≤ suc (length xs)) [ None ↦ omega arith | Some a ↦ omega arith ]

split_at : (c : ℕ) (a : Access) (y : ℕ) (es : List Entry) → c < 2 → length es ≡ length (calls_of 0 es) + length (calls_of 1 es)
    → suc (length es) ≡ length (calls_of 0 (entry c a y ∷ es)) + length (calls_of 1 (entry c a y ∷ es))
split_at zero a y es lt h = omega arith
split_at (suc zero) a y es lt h = omega arith
split_at (suc (suc c)) a y es lt h = absurd (omega arith)

calls_all : (es : List Entry) → IsOfCores es → length es ≡ length (calls_of 0 es) + length (calls_of 1 es)
calls_all [] h = refl
calls_all (e ∷ es) h = split_at e.core e.access e.reply es (h 0 e refl) (calls_all es (λ k x at. h (suc k) x at))

pub entries_few : (image : Image) (r : Run) → IsRunOf image r → length r.history ≤ 8000000
entries_few image r h =
    omega (
      arith,
      calls_all r.history h.cores,
      ap length h.calls0,
      ap length h.calls1,
      calls_few (records_of 0 image r).records,
      calls_few (records_of 1 image r).records,
      records_fit 0 image r (omega arith) h,
      records_fit 1 image r (omega arith) h,
    )
