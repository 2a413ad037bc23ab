use Rattle.std.proofs.Common.{List, sym, ap, ◌∙◌, subst}
use Rattle.xt_map.specs.declared.access.Entry.{Entry}
use Rattle.xt_record.specs.Format.{run_with}
use Rattle.xt_image.specs.Findings.{first}
use Rattle.xt_record.specs.Standing.{IsWalked, turn_rules}
use Rattle.xt_record.proofs.Again.{points_again}
use Rattle.xt_record.proofs.Lawful.{no_fault}
use Rattle.xt_record.proofs.writing.points_of.Goals as goal

pub returns-in-Ok : goal.returns-in-Ok
returns-in-Ok c =
    let image = c.args.image.now in
    let run = c.args.run.now in
    let made : IsWalked c.in-Ok.walked image (run_with image run.options run.history) =
    subst (λ (l : List Entry). IsWalked c.in-Ok.walked image (run_with image run.options l)) c.as_slice.ensures c.in-Ok.ensures in
    record { points = points_again image run c.in-Ok.walked c.requires.run made; few = (made.few_points, made.few_entries) }

pub unreachable-requires : goal.unreachable-requires
unreachable-requires c =
    no_fault c.args.image.now c.args.run.now c.in-Err.fault c.requires.run
    (ap (λ (l : List Entry). first (turn_rules c.args.image.now (run_with c.args.image.now c.args.run.now.options l))) (sym c.as_slice.ensures)
    ∙ c.in-Err.ensures c.in_default.not-Memory)
