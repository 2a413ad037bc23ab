use Rattle.xt_flow.proofs.Calling.{found, goes_on, lost, past}
use Rattle.xt_flow.proofs.calls.is_called.Goals as goal

pub returns-in-Goes : goal.returns-in-Goes
returns-in-Goes c = found 64 c.loop.counter c.args.segments.now c.args.register c.loop.here c.fate_at.result _ c.loop-test.true c.fate_at.ensures c.in-Goes.is c.loop.invariant

pub returns-in-Ends : goal.returns-in-Ends
returns-in-Ends c = lost 64 c.loop.counter c.args.segments.now c.args.register c.loop.here c.fate_at.result _ c.loop-test.true c.fate_at.ensures c.in-Ends.is c.loop.invariant

pub loop-preserved : goal.loop-preserved
loop-preserved c = goes_on 64 c.loop.counter c.args.segments.now c.args.register c.loop.here c.in-Stays.next c.fate_at.result _ c.loop-test.true c.fate_at.ensures c.in-Stays.is c.loop.invariant

pub returns : goal.returns
returns c = past 64 c.loop.counter c.args.segments.now c.args.register c.loop.here _ c.loop-test.false c.loop.invariant
