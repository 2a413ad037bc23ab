use Rattle.std.proofs.Common.{◌≡◌, ◌+◌, ◌∙◌, sym, ap, true, false, drop, length, arith}
use Rattle.std.proofs.lemmas.List.{take_rest}
use Rattle.xt_flow.specs.FlowTables.{marks_of}
use Rattle.xt_flow.specs.Printing.{is_zero, run}
use Rattle.xt_flow.proofs.Runs.{run_goes_on, run_has_all, run_stops}
use Rattle.xt_flow.proofs.listing.zero_run.Goals as goal

pub returns-then-not-is_zero-clause-is : goal.returns-then-not-is_zero-clause-is
returns-then-not-is_zero-clause-is c =
    let m = marks_of c.args.segments.now c.args.visited.now.starts.items c.args.visited.now.reads.items in
    let bytes = c.args.bytes.now in
    let fails : is_zero m (c.args.at + c.loop-k.k) (drop c.loop-k.k bytes) ≡ false = ap (is_zero m (c.args.at + c.loop-k.k)) (sym (take_rest bytes c.loop-k.k)) ∙ sym c.is_zero.ensures ∙ c.if-not-is_zero.true in
    run_stops (is_zero m) c.args.at (length bytes) c.loop-k.k _ bytes fails c.loop-k.invariant

pub loop-k-preserved : goal.loop-k-preserved
loop-k-preserved c =
    let m = marks_of c.args.segments.now c.args.visited.now.starts.items c.args.visited.now.reads.items in
    let bytes = c.args.bytes.now in
    let passes : is_zero m (c.args.at + c.loop-k.k) (drop c.loop-k.k bytes) ≡ true = ap (is_zero m (c.args.at + c.loop-k.k)) (sym (take_rest bytes c.loop-k.k)) ∙ sym c.is_zero.ensures ∙ c.if-not-is_zero.false in
    run_goes_on (is_zero m) c.args.at (length bytes) c.loop-k.k _ bytes c.loop-k-test.true c.loop-k-test.true passes c.loop-k.invariant

pub returns-clause-is : goal.returns-clause-is
returns-clause-is c =
    let m = marks_of c.args.segments.now c.args.visited.now.starts.items c.args.visited.now.reads.items in
    let bytes = c.args.bytes.now in
    let all : c.loop-k.k ≡ run (length bytes) (is_zero m) c.args.at bytes = run_has_all (is_zero m) c.args.at (length bytes) c.loop-k.k _ bytes c.loop-k-test.false c.loop-k.invariant in
    omega arith
