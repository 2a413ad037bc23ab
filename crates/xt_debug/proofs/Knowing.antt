-- What a walk of the judge tells of a core's frames, and the lines of the frames one after another.
use Rattle.std.proofs.Common.{◌≡◌, ℕ, zero, suc, Option, Some, None, ◌++◌, refl, sym, ap, ◌∙◌, subst}
use Rattle.std.specs.Option.{option_map}
use Rattle.xt_trace.specs.declared.run.Run.{Run}
use Rattle.xt_image.specs.declared.image.Image.{Image}
use Rattle.xt_frames.specs.Breaches.{Bounds}
use Rattle.xt_frames.specs.Frames.{FrameState}
use Rattle.xt_frames.specs.Judging.{Standing}
use Rattle.xt_frames.specs.Verdict.{Known}
use Rattle.xt_discipline.specs.declared.walk.Walk.{Walk}
use Rattle.xt_discipline.specs.Places.{IsThere, frames_in}
use Rattle.xt_discipline.specs.Verdicts.{opened0, opened1}
use Rattle.xt_debug.specs.Calls.{call_line, call_lines, stack_end}
use Rattle.xt_debug.specs.Depths.{frame_at, frame_of, known_at}

nothing_known : (b0 b1 : Bounds) (o : Option Known) (core : ℕ) → IsThere None b0 b1 o → option_map (frame_of core) o ≡ None
nothing_known b0 b1 None core t = refl
nothing_known b0 b1 (Some k) core t = absurd t

state_known : (w : Walk) (b0 b1 : Bounds) (o : Option Known) (core : ℕ) → IsThere (Some w) b0 b1 o → option_map (frame_of core) o ≡ Some (frames_in core w).state
state_known w b0 b1 None core t = absurd t
state_known w b0 b1 (Some k) zero t = ap (λ (s : Standing). Some s.frame) (sym t.zero.standing_is)
state_known w b0 b1 (Some k) (suc core) t = ap (λ (s : Standing). Some s.frame) (sym t.one.standing_is)

end_known : (w : Walk) (image : Image) (r : Run) (o : Option Known) (core : ℕ) → IsThere (Some w) (opened0 image r.options).bounds (opened1 r.options).bounds o
    → (frames_in core w).bounds.range.hi ≡ stack_end core r
end_known w image r None core t = absurd t
end_known w image r (Some k) zero t = ap (λ (b : Bounds). b.range.hi) t.zero.bounds_are
end_known w image r (Some k) (suc core) t = ap (λ (b : Bounds). b.range.hi) t.one.bounds_are

-- ---- by what a walk answered
abbrev pub There : Image → Run → ℕ → Option Walk → Type 0
There image r p found = IsThere found (opened0 image r.options).bounds (opened1 r.options).bounds (known_at image r p)

pub no_frame : (image : Image) (r : Run) (core p : ℕ) (found : Option Walk) → found ≡ None → There image r p found → frame_at image r core p ≡ None
unfolding frame_at
no_frame image r core p found e t =
    nothing_known (opened0 image r.options).bounds (opened1 r.options).bounds (known_at image r p) core (subst (There image r p) e t)

pub the_frame : (image : Image) (r : Run) (core p : ℕ) (found : Option Walk) (w : Walk) → found ≡ Some w → There image r p found → frame_at image r core p ≡ Some (frames_in core w).state
unfolding frame_at
the_frame image r core p found w e t =
    state_known w (opened0 image r.options).bounds (opened1 r.options).bounds (known_at image r p) core (subst (There image r p) e t)

pub the_end : (image : Image) (r : Run) (core p : ℕ) (found : Option Walk) (w : Walk) → found ≡ Some w → There image r p found → (frames_in core w).bounds.range.hi ≡ stack_end core r
the_end image r core p found w e t = end_known w image r (known_at image r p) core (subst (There image r p) e t)

-- ---- the lines
pub one_call : (hi : ℕ) (f : FrameState) (n m : ℕ) → n ≡ suc m → call_lines hi f n ≡ call_line hi f n ++ call_lines hi f m
one_call hi f n m e = ap (call_lines hi f) e ∙ ap (λ k. call_line hi f k ++ call_lines hi f m) (sym e)
