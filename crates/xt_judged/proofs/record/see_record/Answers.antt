use Rattle.std.proofs.Common.{Option, Result, refl, subst}
use Rattle.std.specs.Prelude.{option_copied}
use Rattle.xt_frames.specs.declared.kinds.BreachKind.{BreachKind}
use Rattle.xt_frames.specs.Walked.{Walked}
use Rattle.xt_judged.specs.Seen.{IsApartAfter}
use Rattle.xt_judged.specs.Stales.{renewed}
use Rattle.xt_judged.specs.declared.record.Beside.{Beside}
use Rattle.xt_judged.proofs.JudgePast.{apart_copied}
use Rattle.xt_judged.proofs.record.see_record.Goals as goal

pub returns-in_ok-snapshot-in-Ok-clause-apart : goal.returns-in_ok-snapshot-in-Ok-clause-apart
returns-in_ok-snapshot-in-Ok-clause-apart c =
    let other : Option Walked = option_copied c.args.other in
    let stale = c.args.stale.now in
    let b = c.in-Ok.beside in
    let new = c.see_beside.new.frames in
    let seen = c.in_ok-beside.ensures in
    apart_copied b new c.in_ok-snapshot-in-Ok.field-0 c.in_ok-snapshot-in-Ok.ensures (rw c.in-Ok.is at seen.whole)
    other stale (renewed stale b.stale) refl
    (subst (λ (r : Result Beside BreachKind). IsApartAfter other stale new r) c.in-Ok.is seen.apart)
