use Rattle.std.proofs.Common.{◌≡◌, ◌+◌, ◌*◌, ◌%◌, ◌^◌, ap, ◌∙◌}
use Rattle.xt_search.specs.Changed.{digest_of}
use Rattle.xt_outcomes.specs.SideMarks.{side_mark}
use Rattle.xt_outcomes.proofs.timed.TimedMachine.digest.Goals as goal

pub returns : goal.returns
returns c =
    let m = c.args.self.now.opening.contents in
    let w = c.args.world.now in
    let side0 : c.digest-side0.result ≡ side_mark w.side0.value = c.digest-side0.ensures ∙ ap side_mark (c.side.ensures m) in
    let side1 : c.digest-side1.result ≡ side_mark w.side1.value = c.digest-side1.ensures ∙ ap side_mark (c.side-2.ensures m) in
    let changes : c.digest.result ≡ digest_of w.changes.value = c.digest.ensures ∙ ap digest_of c.deref.ensures in
    λ i. ((changes i + side0 i * 31 % 2 ^ 64) % 2 ^ 64 + side1 i * 1009 % 2 ^ 64) % 2 ^ 64
