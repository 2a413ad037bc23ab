use Rattle.std.proofs.Common.{◌≡◌, ◌+◌, Result, Err, sym, subst, arith, rules}
use Rattle.xt_record.specs.declared.fault.RecordFault.{RecordFault}
use Rattle.xt_record.specs.Standing.{WentThrough}
use Rattle.xt_record.proofs.Through.{Through, all_through, step_not, step_on}
use Rattle.xt_record.proofs.walk.Walk.take_all.Goals as goal

pub loop-entry-preserved : goal.loop-entry-preserved
loop-entry-preserved c =
    let before = c.loop-entry.invariant in
    let h : Through c.args.entries.now c.loop-entry.index c.args.self.now c.loop-entry.self =
    record { same = before.same; stands = before.stands; found = before.found } in
    let after : Through c.args.entries.now (c.loop-entry.index + 1) c.args.self.now c.take.new.self =
    step_on c.args.entries.now c.loop-entry.index c.loop-entry.entry-index _ c.args.self.now c.loop-entry.self c.take.new.self c.in_ok-take.field-0
    before.index c.loop-entry-test.true c.requires.cores h c.in_ok-take.ensures.takes in
    record { index = omega (arith, before.index); same = after.same; stands = after.stands; found = after.found }

pub returns : goal.returns
returns c =
    let now = c.loop-entry.invariant in
    let h : Through c.args.entries.now c.loop-entry.index c.args.self.now c.loop-entry.self = record { same = now.same; stands = now.stands; found = now.found } in
    record {
      through = all_through c.args.entries.now c.loop-entry.index c.args.self.now c.loop-entry.self
          (omega (arith, now.index, c.loop-entry-test.false)) (omega (arith, now.index, c.loop-entry.auto.entry-index-end)) h;
    }

pub returns-in_err-take : goal.returns-in_err-take
returns-in_err-take c =
    let before = c.loop-entry.invariant in
    let h : Through c.args.entries.now c.loop-entry.index c.args.self.now c.loop-entry.self =
    record { same = before.same; stands = before.stands; found = before.found } in
    let same : c.from_residual.result ≡ Err c.in_err-take.field-0.0 = search rules in
    record {
      through = subst (λ (r : Result Unit RecordFault). WentThrough r c.args.entries.now c.args.self.now c.take.new.self) (sym same)
          (λ other. step_not c.args.entries.now c.loop-entry.index c.loop-entry.entry-index _ c.args.self.now c.loop-entry.self c.take.new.self c.in_err-take.field-0.0
          before.index c.loop-entry-test.true c.requires.cores h c.in_err-take.ensures.takes other);
    }
