use Rattle.std.proofs.Common.{◌≡◌, ℕ, List, ◌++◌, ap, subst, ◌∙◌}
use Rattle.std.specs.Prelude.{OnOk, string_bytes}
use Rattle.xt_frames.specs.Frames.{value_or_zero}
use Rattle.xt_debug.specs.FrameNotes.{all_marks, all_unset, areas_text, depth_text, frames_text}
use Rattle.xt_debug.proofs.FrameNoting.{four_texts}
use Rattle.xt_debug.proofs.frame_notes.push_frames.Goals as goal

pub returns : goal.returns
unfolding frames_text
returns c =
    let f = c.args.frames.now.state in
    let out = string_bytes c.args.out.now in
    let areas = areas_text c.args.frames.now.bounds.range.hi (value_or_zero f.seen 1) f.frames in
    let P : List ℕ → Type 0 = λ text. OnOk c.push_all_marks.result (string_bytes c.push_all_marks.new.out ≡ text) in
    let so_far = c.in_ok-push_all_unset.ensures
    ∙ ap (λ (x : List ℕ). x ++ all_unset f) (c.in_ok-push_areas.ensures ∙ ap (λ (x : List ℕ). x ++ areas) c.in_ok-push_depth.ensures) in
    subst P (ap (λ (x : List ℕ). x ++ all_marks f) so_far ∙ four_texts out (depth_text f) areas (all_unset f) (all_marks f)) c.push_all_marks.ensures
