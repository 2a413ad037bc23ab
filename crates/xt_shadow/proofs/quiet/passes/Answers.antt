use Rattle.xt_shadow.proofs.Silent.{quiet_loads, quiet_saves, quiet_stores}
use Rattle.xt_shadow.proofs.quiet.passes.Goals as goal

pub returns-then-is_quiet-clause-passed : goal.returns-then-is_quiet-clause-passed
returns-then-is_quiet-clause-passed c = λ e.
    let m = c.args.marks.now in
    let q = c.is_quiet.ensures c.if-is_quiet.true in
    record {
      saves = λ live0 live1 stale agrees. quiet_saves m live0 live1 stale agrees c.args.access q;
      loads = λ live0 live1 stale agrees. quiet_loads m live0 live1 stale agrees c.args.access q;
      stored = quiet_stores m c.args.access q;
    }
