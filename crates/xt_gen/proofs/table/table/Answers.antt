use Rattle.std.proofs.Common.{◌++◌, ap, arith, ◌∙◌}
use Rattle.xt_gen.specs.Generated.{table_of, words_from}
use Rattle.xt_gen.proofs.Tabled.{all_there, step}
use Rattle.xt_gen.proofs.table.table.Goals as goal

pub loop-word-init : goal.loop-word-init
loop-word-init c = (32768, omega arith, ap (λ l. l ++ words_from 32768 c.args.number) c.new-bytes.ensures.items)

pub loop-word-preserved : goal.loop-word-preserved
loop-word-preserved c =
    step c.loop-word._word c.loop-word.x c.next-x.result c.loop-word.bytes.items c.extend_from_slice.new.self.items c.to_le_bytes.result (table_of c.args.number)
    (omega arith) c.next-x.ensures c.to_le_bytes.ensures c.in_ok-extend_from_slice.ensures.items c.loop-word.invariant

pub returns : goal.returns
returns c = c.new.ensures ∙ all_there c.loop-word._word c.loop-word.x c.loop-word.bytes.items (table_of c.args.number) (omega arith) c.loop-word.invariant
