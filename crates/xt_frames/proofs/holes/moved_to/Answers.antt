use Rattle.std.proofs.Common.{rules, ◌≡◌, Some, sym}
use Rattle.xt_frames.specs.Marks.{moved_to}
use Rattle.xt_frames.proofs.Inside.{moved_range}
use Rattle.xt_frames.proofs.holes.moved_to.Goals as goal

pub returns-in-System-Special-Wsr-default-default : goal.returns-in-System-Special-Wsr-default-default
unfolding moved_to
returns-in-System-Special-Wsr-default-default c =
    let at = c.in-System-Special-Wsr-default-default in
    let v : Some (at.t, at.n) ≡ moved_to c.args.i = search rules in
    record { value = v; range = moved_range c.args.i at.t at.n c.requires (sym v) }
