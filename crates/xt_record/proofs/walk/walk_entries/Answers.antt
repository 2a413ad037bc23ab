use Rattle.std.proofs.Common.{◌≡◌, Result, Err, refl, sym, subst, rules}
use Rattle.xt_trace.specs.Validity.{IsValid}
use Rattle.xt_record.specs.declared.fault.RecordFault.{RecordFault}
use Rattle.xt_record.specs.declared.walk.Walked.{Walked}
use Rattle.xt_record.specs.Standing.{Walks}
use Rattle.xt_record.proofs.Ending.{went_all, went_not}
use Rattle.xt_record.proofs.walk.walk_entries.Goals as goal

pub take_turns-requires-clause-valid : goal.take_turns-requires-clause-valid
take_turns-requires-clause-valid c = subst IsValid (sym c.in_ok-walk.ensures.options) c.requires.valid

pub into_trace-requires-clause-ended : goal.into_trace-requires-clause-ended
into_trace-requires-clause-ended c = c.in_ok-take_turns.ensures.0.0

pub into_trace-requires-clause-waiting : goal.into_trace-requires-clause-waiting
into_trace-requires-clause-waiting c = c.in_ok-take_turns.ensures.0.1

pub into_trace-requires-2-clause-ended : goal.into_trace-requires-2-clause-ended
into_trace-requires-2-clause-ended c = c.in_ok-take_turns.ensures.1.0

pub into_trace-requires-2-clause-waiting : goal.into_trace-requires-2-clause-waiting
into_trace-requires-2-clause-waiting c = c.in_ok-take_turns.ensures.1.1

pub returns-in_err-take_turns : goal.returns-in_err-take_turns
returns-in_err-take_turns c =
    let same : c.from_residual-in_err-take_turns.result ≡ Err c.in_err-take_turns.field-0.0 = search rules in
    subst (λ (r : Result Walked RecordFault). Walks r c.args.image.now c.args.options.now c.args.entries.now) (sym same)
    (went_not c.args.image.now c.args.options.now c.args.entries.now c.in_ok-walk.walk c.take_turns.new.self c.in_err-take_turns.field-0.0
    c.in_ok-walk.ensures.image c.in_ok-walk.ensures.options c.in_err-take_turns.ensures)

pub returns : goal.returns
returns c =
    went_all c.args.image.now c.args.options.now c.args.entries.now c.in_ok-walk.walk c.take_turns.new.self c.in_ok-take_turns.field-0 _
    c.in_ok-walk.ensures.image c.in_ok-walk.ensures.options c.in_ok-take_turns.ensures c.into_trace.ensures c.into_trace-2.ensures refl
