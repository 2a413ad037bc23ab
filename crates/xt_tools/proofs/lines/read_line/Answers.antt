use Rattle.std.proofs.Common.{◌≡◌, ◌≢◌, ◌++◌, ◌-◌, Err, ◌==◌, false, arith, length, length-append, rules, slice_index, subst, sym}
use Rattle.std.specs.Io.KnownBytes.{Consumes}
use Rattle.xt_io.specs.declared.whole.ReadError.TheVariants as error
use Rattle.xt_tools.specs.Reads.{IsInLine}
use Rattle.xt_tools.proofs.Reading.{inside_on, line_wants, one_too_many, taken_on}
use Rattle.xt_tools.proofs.lines.read_line.Goals as goal

pub returns-then-spare-eq0-clause-reads : goal.returns-then-spare-eq0-clause-reads
returns-then-spare-eq0-clause-reads g c =
    let line = c.loop-line.line.items in
    let buf = c.read.new.buf in
    let n = c.in_ok-count.count in
    let len : length buf ≡ 1 = search rules in
    let some : n ≢ 0 = omega (arith, c.if-count-eq0.false) in
    let consumed = taken_on (g.S.Source.left c.args.source.now) (g.S.Source.left c.loop-line.source) (g.S.Source.left c.read.new.self) line buf n c.loop-line.invariant.consumed c.in_ok-count.ensures.bytes.0 len c.in_ok-count.ensures.bound.0 some in
    let all : length line ≡ c.args.spare.now = omega (arith, c.loop-line.invariant.count, c.if-spare-eq0.true) in
    one_too_many (g.S.Source.left c.args.source.now) (g.S.Source.left c.read.new.self) line buf c.args.spare.now 0 consumed len c.loop-line.invariant.inside all

pub loop-line-preserved : goal.loop-line-preserved
loop-line-preserved g c =
    let line = c.loop-line.line.items in
    let buf = c.read.new.buf in
    let n = c.in_ok-count.count in
    let len : length buf ≡ 1 = search rules in
    let some : n ≢ 0 = omega (arith, c.if-count-eq0.false) in
    let differs : (slice_index buf 0 == 10) ≡ false = search rules in
    let longer = c.in_ok-extend_from_slice.ensures.items in
    let taken : Consumes (g.S.Source.left c.args.source.now) (g.S.Source.left c.read.new.self) (line ++ buf) =
    taken_on (g.S.Source.left c.args.source.now) (g.S.Source.left c.loop-line.source) (g.S.Source.left c.read.new.self) line buf n c.loop-line.invariant.consumed c.in_ok-count.ensures.bytes.0 len c.in_ok-count.ensures.bound.0 some in
    record {
      consumed = subst (Consumes (g.S.Source.left c.args.source.now) (g.S.Source.left c.read.new.self)) (sym longer) taken;
      inside = subst IsInLine (sym longer) (inside_on line buf len c.loop-line.invariant.inside differs);
      count = grind (arith, c.loop-line.invariant.count, c.if-spare-eq0.false, longer, len, length-append line buf);
      later = omega (arith, c.loop-line.invariant.later, c.in_ok-count.ensures.cause.later);
    }

pub returns-in_err-extend_from_slice-clause-reads : goal.returns-in_err-extend_from_slice-clause-reads
returns-in_err-extend_from_slice-clause-reads g c =
    let line = c.loop-line.line.items in
    let buf = c.read.new.buf in
    let n = c.in_ok-count.count in
    let len : length buf ≡ 1 = search rules in
    let some : n ≢ 0 = omega (arith, c.if-count-eq0.false) in
    let differs : (slice_index buf 0 == 10) ≡ false = search rules in
    let is : c.from_residual-in_err-extend_from_slice.result ≡ Err error.Memory = search rules in
    let consumed = taken_on (g.S.Source.left c.args.source.now) (g.S.Source.left c.loop-line.source) (g.S.Source.left c.read.new.self) line buf n c.loop-line.invariant.consumed c.in_ok-count.ensures.bytes.0 len c.in_ok-count.ensures.bound.0 some in
    line_wants c.from_residual-in_err-extend_from_slice.result (g.S.Source.left c.args.source.now) (g.S.Source.left c.read.new.self) c.args.spare.now (c.loop-line.spare - 1)
    is (line ++ buf, consumed, inside_on line buf len c.loop-line.invariant.inside differs)
