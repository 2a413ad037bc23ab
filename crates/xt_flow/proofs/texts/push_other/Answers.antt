use Rattle.std.proofs.Common.{◌≡◌, ◌<◌, ◌∙◌, sym, false, arith}
use Rattle.std.proofs.lemmas.Bool.{lt-leb}
use Rattle.xt_flow.specs.FlowTables.{is_marked, marks_of}
use Rattle.xt_flow.specs.Printing.{byte_run, is_byte, is_space, is_word, zero_run}
use Rattle.xt_flow.proofs.Runs.{run_some}
use Rattle.xt_flow.proofs.Walks.{byte_left}
use Rattle.xt_flow.proofs.texts.push_other.Goals as goal

pub returns-clause-few : goal.returns-clause-few
returns-clause-few c =
    let m = marks_of c.args.segments.now c.args.visited.now.starts.items c.args.visited.now.reads.items in
    let bytes = c.args.bytes.now in
    let at = c.args.at in
    let none : is_marked c.args.visited.now.starts.items at ≡ false = c.requires.none in
    let word : is_word m at bytes ≡ false = sym c.is_word.ensures ∙ c.if-is_word.false in
    let few : zero_run m at bytes < 4 = omega (arith, c.zero_run-zeros.ensures.is) in
    let space : is_space m at bytes ≡ false = lt-leb 4 (zero_run m at bytes) few in
    let some : 0 < byte_run m at bytes = run_some (is_byte m) at 16 bytes (omega arith) c.requires.some (byte_left (is_marked c.args.visited.now.starts.items at) (is_word m at bytes) (is_space m at bytes) none word space) in
    (omega (arith, c.byte_run-count.ensures.is), c.byte_run-count.ensures.few)
