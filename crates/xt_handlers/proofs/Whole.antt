-- A vector's bytes that pass the check move a frame.
use Rattle.std.proofs.Common.{◌≡◌, ℕ, ◌+◌, ◌-◌, ◌<◌, List, get_or, drop, ⊎_elim, ◌∙◌, arith, slice_range}
use Rattle.std.proofs.lemmas.Bool.{cases_lt}
use Rattle.std.proofs.lemmas.List.{get_or-take, get_or-drop, get_or_past, length-take}
use Rattle.xt_handlers.specs.Handling.{handling_verdict}
use Rattle.xt_handlers.specs.Spelled.{lines_of}
use Rattle.xt_handlers.specs.declared.stretch.Side.TheVariants.{Overflow, Underflow}
use Rattle.xt_handlers.specs.declared.stretch.HandlerVerdict.TheVariants.{Yes}
use Rattle.xt_handlers.specs.Running.{machine_after_lines}
use Rattle.xt_handlers.specs.HandlerInvariants.{StoresFrames, LoadsFrames}
use Rattle.xt_handlers.proofs.Places.{room_from}
use Rattle.xt_handlers.proofs.Runs.{run_first, stores_frame, loads_frame}
use Rattle.xt_handlers.proofs.Turning.{bytes_registers}

pub stores_frames : (n : ℕ) (bytes : List ℕ) → 0 < n → n < 4 → ((i : ℕ) → get_or bytes i 0 < 256) → handling_verdict Overflow n (lines_of bytes) ≡ Yes → StoresFrames n bytes
stores_frames n bytes low high below y = λ start f.
    let r = run_first Overflow n start (lines_of bytes) (room_from Overflow n start f) (bytes_registers bytes below) y in
    record { end = r.end; is = r.is; holds = stores_frame n start (machine_after_lines (lines_of bytes) start) r }

pub loads_frames : (n : ℕ) (bytes : List ℕ) → 0 < n → n < 4 → ((i : ℕ) → get_or bytes i 0 < 256) → handling_verdict Underflow n (lines_of bytes) ≡ Yes → LoadsFrames n bytes
loads_frames n bytes low high below y = λ start f.
    let r = run_first Underflow n start (lines_of bytes) (room_from Underflow n start f) (bytes_registers bytes below) y in
    record { end = r.end; is = r.is; holds = loads_frame n start (machine_after_lines (lines_of bytes) start) r high }

pub range_below : (code : List ℕ) (a b i : ℕ) → ((i : ℕ) → get_or code i 0 < 256) → get_or (slice_range code a b) i 0 < 256
range_below code a b i below =
    ⊎_elim
    (λ l. let e : get_or (slice_range code a b) i 0 ≡ get_or code (a + i) 0 = get_or-take (b - a) (drop a code) i 0 l ∙ get_or-drop a code i 0 in
    omega (arith, e, below (a + i)))
    (λ l. let e : get_or (slice_range code a b) i 0 ≡ 0 = get_or_past (slice_range code a b) i 0 (omega (arith, length-take (b - a) (drop a code))) in
    omega (arith, e))
    (cases_lt i (b - a))
