-- A call and a return, on whole states.
use Rattle.std.proofs.Common.{◌≡◌, ℕ, ◌+◌, ◌-◌, ◌*◌, ◌<◌, ◌≤◌, Bool, true, false, List, [], ◌∷◌, Option, Some, None, ap, ◌∙◌, refl, arith, length, take}
use Rattle.std.specs.Prelude.{unwrap_or}
use Rattle.std.proofs.Math.ListN.{set}
use Rattle.std.proofs.lemmas.List.{get_or-take, get_or_append_left}
use Rattle.xt_special.specs.Control.{Control}
use Rattle.xt_window.specs.Ring.{bit}
use Rattle.xt_window.specs.Moves.{base_after_return}
use Rattle.xt_rows.specs.declared.outcome.Flow.TheVariants.{Falls}
use Rattle.xt_rows.specs.Settling.{after_flow}
use Rattle.xt_exec.specs.State.{State}
use Rattle.xt_exec.specs.Turn.{entry_turn, return_turn, underflow, return_size, return_pc}
use Rattle.xt_frames.specs.Frames.{Frame, FrameState, value_or_zero, windows_moved, seen_after_call, seen_after_return}
use Rattle.xt_frames.specs.FrameStep.{entry_in_frame, return_in_frame}
use Rattle.xt_frames.specs.Stacks.{IsFrame}
use Rattle.xt_simulation.specs.Stacks.{sp_under}
use Rattle.xt_simulation.specs.Relation.{Even, Level}
use Rattle.xt_simulation.proofs.Modular.{bit_at_window}
use Rattle.xt_simulation.proofs.Kept as kept
use Rattle.xt_simulation.proofs.Behind.{free_behind}
use Rattle.xt_simulation.proofs.Windowed.{caller_there}
use Rattle.xt_exec.specs.Finishing.{finished_turn}
use Rattle.xt_simulation.specs.JudgedSteps.{Steps}
use Rattle.xt_simulation.proofs.Evenly.{even_flow, even_ticked}
use Rattle.xt_simulation.proofs.Ordinary.{Ends, even_level}

enters_sp : (seen : List (Option ℕ)) (n value : ℕ) (ring : List Frame) → 0 < n → n ≤ 3 → length seen ≡ 16 → sp_under (value_or_zero (set (seen_after_call seen n) 1 (Some value)) 1) (record { by = n; kept = take (4 * n) seen } ∷ ring) ≡ sp_under (value_or_zero seen 1) ring
enters_sp seen n value ring pos small wide =
    ap (λ x. sp_under (unwrap_or x 0) ring) (get_or-take (4 * n) seen 1 None (omega arith))

leaves_sp : (seen : List (Option ℕ)) (f : Frame) (ring : List Frame) → IsFrame f → sp_under (value_or_zero (seen_after_return f.kept seen f.by) 1) ring ≡ sp_under (value_or_zero seen 1) (f ∷ ring)
leaves_sp seen f ring shape =
    let k = shape.keeps in
    let m = shape.moves in
    ap (λ x. sp_under (unwrap_or x 0) ring) (get_or_append_left f.kept (take (16 - 4 * f.by) seen) None 1 (omega arith))

pub enters : {vecbase : ℕ} {lost : ℕ → Bool} {s : State} {g : FrameState} {ring spilled : List Frame} → Level vecbase lost s g ring spilled → (value len reply : ℕ) → 0 < s.control.ps.callinc → windows_moved ring + s.control.ps.callinc < 16
    → Ends vecbase (finished_turn (entry_turn 1 value len s) reply) (entry_in_frame 1 value len g) → Steps vecbase lost spilled (sp_under (value_or_zero g.seen 1) ring) (finished_turn (entry_turn 1 value len s) reply) (entry_in_frame 1 value len g)
unfolding entry_turn entry_in_frame
enters {s = s} {g = g} {ring = ring} {spilled = spilled} l value len reply pos room ends =
    let n : s.control.ps.callinc ≡ g.control.ps.callinc = ap (λ p. p.callinc) l.even.ps in
    let c = l.calls in
    let w = kept.called l.windows s.control.ps.callinc pos (omega arith) room in
    let even = even_ticked (after_flow Falls len s.control) (after_flow Falls len g.control) (even_flow Falls len s.control g.control l.even) in
    record {
      kind = refl;
      write = refl;
      access = refl;
      ring = record { by = s.control.ps.callinc; kept = take (4 * s.control.ps.callinc) g.seen } ∷ ring;
      same = (enters_sp g.seen s.control.ps.callinc value ring pos (omega arith) l.windows.wide);
      level = record {
        windows = rw (← n) (kept.written w 1 value (omega arith) (omega arith));
        frames = rw (← n) (ap (λ fs. record { by = s.control.ps.callinc; kept = take (4 * s.control.ps.callinc) g.seen } ∷ fs) l.frames);
        older = l.older;
        even = even;
        woe = ap (λ p. p.woe) even.ps ∙ ends.woe;
        calls = ends.calls;
        vectors = even_level even ends.vectors;
      };
    }

-- ---- a return
moved_even : {lost : ℕ → Bool} {c d : Control} (p q : ℕ) → p ≡ q → Even lost c d → Even lost (record c { pc = p }) (record d { pc = q })
moved_even p q e h = record { pc = e; ps = h.ps; threadptr = h.threadptr; waits = h.waits; special = h.special }

-- where the caller stands in the ring
pub leaves : {vecbase : ℕ} {lost : ℕ → Bool} {s : State} {g : FrameState} {f : Frame} {ring spilled : List Frame} → Level vecbase lost s g (f ∷ ring) spilled → (a0 reply : ℕ) → return_size a0 ≡ f.by
    → Ends vecbase (finished_turn (return_turn a0 s) reply) (return_in_frame a0 g) → Steps vecbase lost spilled (sp_under (value_or_zero g.seen 1) (f ∷ ring)) (finished_turn (return_turn a0 s) reply) (return_in_frame a0 g)
unfolding return_turn return_in_frame
leaves {vecbase = vecbase} {lost = lost} {s = s} {g = g} {f = f} {ring = ring} {spilled = spilled} l a0 reply n =
    let w = l.windows in
    let at : bit s.start (base_after_return s.base f.by) ≡ true = caller_there w in
    rw (n, l.frames, at) (λ ends.
    let even = even_ticked (record s.control { pc = return_pc s.control.pc a0 }) (record g.control { pc = return_pc g.control.pc a0 }) (moved_even (return_pc s.control.pc a0) (return_pc g.control.pc a0) (rw l.even.pc refl) l.even) in
    record {
      kind = refl;
      write = refl;
      access = refl;
      ring = ring;
      same = leaves_sp g.seen f ring w.shaped.0;
      level = record {
        windows = kept.returned w;
        frames = refl;
        older = l.older;
        even = even;
        woe = ap (λ p. p.woe) even.ps ∙ ends.woe;
        calls = ends.calls;
        vectors = even_level even ends.vectors;
      };
    })

-- where the caller does not stand in the ring, the return is an underflow
pub underflows : {vecbase : ℕ} {lost : ℕ → Bool} {s : State} {g : FrameState} {spilled : List Frame} → Level vecbase lost s g [] spilled → (a0 : ℕ) → 0 < return_size a0 → return_size a0 ≤ 3 → return_turn a0 s ≡ underflow (return_size a0) s
unfolding return_turn
underflows {s = s} l a0 pos small =
    let at : bit s.start (base_after_return s.base (return_size a0)) ≡ false = bit_at_window s.start (base_after_return s.base (return_size a0)) (s.base + (16 - return_size a0)) (omega arith) ∙ free_behind l.windows (return_size a0) pos (omega arith) in
    rw at refl
