use Rattle.std.proofs.Common.{◌≡◌, List, Result, Ok, Err, sym, ap, ◌∙◌, subst, rules}
use Rattle.xt_map.specs.declared.access.Entry.{Entry}
use Rattle.xt_record.specs.declared.fault.RecordFault.{RecordFault}
use Rattle.xt_record.specs.declared.walk.Walked.{Walked}
use Rattle.xt_record.specs.Standing.{ReadsRun, Walks}
use Rattle.xt_record.proofs.Ruling.{difference, not_points, not_turns}
use Rattle.xt_record.proofs.reading.walked_parts.Goals as goal

pub returns-in_err-walked : goal.returns-in_err-walked
returns-in_err-walked c =
    let parts = c.args.parts.now in
    let e = c.in_err-walked.field-0.0 in
    let same : c.from_residual.result ≡ Err e = search rules in
    subst (λ (r : Result Walked RecordFault). ReadsRun r parts c.args.bytes.now) (sym same)
    (not_turns c.args.bytes.now parts e c.requires
    (subst (λ (l : List Entry). Walks (Err e) parts.image parts.options l) c.as_slice.ensures.value c.in_err-walked.ensures))

pub returns-in-Some : goal.returns-in-Some
returns-in-Some c =
    let parts = c.args.parts.now in
    let walked = c.in_ok-walked.walked in
    not_points c.args.bytes.now parts walked c.in-Some.index c.requires
    (subst (λ (l : List Entry). Walks (Ok walked) parts.image parts.options l) c.as_slice.ensures.value c.in_ok-walked.ensures)
    (c.in-Some.ensures ∙ ap (difference c.args.bytes.now) c.as_slice-2.ensures.value)

pub returns-in-None : goal.returns-in-None
returns-in-None c =
    let parts = c.args.parts.now in
    let walked = c.in_ok-walked.walked in (
      subst (λ (l : List Entry). Walks (Ok walked) parts.image parts.options l) c.as_slice.ensures.value c.in_ok-walked.ensures,
      c.in-None.ensures ∙ ap (difference c.args.bytes.now) c.as_slice-2.ensures.value,
    )
