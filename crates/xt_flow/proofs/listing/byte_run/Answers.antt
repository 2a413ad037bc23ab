use Rattle.std.proofs.Common.{◌≡◌, ◌+◌, ◌≤◌, ◌∙◌, sym, ap, true, false, drop, arith}
use Rattle.std.proofs.lemmas.List.{take_rest}
use Rattle.xt_flow.specs.FlowTables.{marks_of}
use Rattle.xt_flow.specs.Printing.{is_byte, run}
use Rattle.xt_flow.proofs.Runs.{run_goes_on, run_has_all, run_has_most, run_stops}
use Rattle.xt_flow.proofs.listing.byte_run.Goals as goal
use Rattle.xt_flow.proofs.listing.byte_run.Goals.{then-k-bytes-via-then-k-bytes, then-k-bytes-via-else-k-bytes+then-not-is_byte}

pub returns-then-k-bytes-clause-is : goal.returns-then-k-bytes-clause-is
returns-then-k-bytes-clause-is c =
    let m = marks_of c.args.segments.now c.args.visited.now.starts.items c.args.visited.now.reads.items in
    let bytes = c.args.bytes.now in
    elim c.then-k-bytes.branch [
      | then-k-bytes-via-then-k-bytes w ↦ run_has_all (is_byte m) c.args.at 16 c.loop-k.k _ bytes w.if-k-bytes.true c.loop-k.invariant.0
      | then-k-bytes-via-else-k-bytes+then-not-is_byte w ↦
          let fails : is_byte m (c.args.at + c.loop-k.k) (drop c.loop-k.k bytes) ≡ false = ap (is_byte m (c.args.at + c.loop-k.k)) (sym (take_rest bytes c.loop-k.k)) ∙ sym w.is_byte.ensures ∙ w.if-not-is_byte.true in
          run_stops (is_byte m) c.args.at 16 c.loop-k.k _ bytes fails c.loop-k.invariant.0
    ]

pub loop-k-preserved : goal.loop-k-preserved
loop-k-preserved c =
    let m = marks_of c.args.segments.now c.args.visited.now.starts.items c.args.visited.now.reads.items in
    let bytes = c.args.bytes.now in
    let passes : is_byte m (c.args.at + c.loop-k.k) (drop c.loop-k.k bytes) ≡ true = ap (is_byte m (c.args.at + c.loop-k.k)) (sym (take_rest bytes c.loop-k.k)) ∙ sym c.is_byte.ensures ∙ c.if-not-is_byte.false in
    (run_goes_on (is_byte m) c.args.at 16 c.loop-k.k _ bytes c.loop-k-test.true c.if-k-bytes.false passes c.loop-k.invariant.0, omega arith)

pub returns-clause-is : goal.returns-clause-is
returns-clause-is c =
    let m = marks_of c.args.segments.now c.args.visited.now.starts.items c.args.visited.now.reads.items in
    let bytes = c.args.bytes.now in
    let all : c.loop-k.k ≡ run 16 (is_byte m) c.args.at bytes = run_has_most (is_byte m) c.args.at 16 c.loop-k.k _ bytes c.loop-k-test.false c.loop-k.invariant.0 in
    let end : c.loop-k.k ≤ 16 = c.loop-k.auto.k-end in
    omega arith
