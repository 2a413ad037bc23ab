use Rattle.std.proofs.Common.{◌∙◌, arith}
use Rattle.std.specs.Prelude.{string_bytes}
use Rattle.xt_debug.specs.FrameNotes.{unset_text}
use Rattle.xt_debug.proofs.Ranges.{one_more_of}
use Rattle.xt_debug.proofs.frame_notes.unset_in.Goals as goal

pub loop-i-preserved : goal.loop-i-preserved
loop-i-preserved c =
    one_more_of (unset_text c.args.frames.now.state) c.loop-i.i 16 (string_bytes c.loop-i.text) (string_bytes c.push_unset.new.out) (omega arith) c.in_ok-push_unset.ensures
    ∙ c.loop-i.invariant
