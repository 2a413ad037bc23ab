use Rattle.std.proofs.Common.{◌≡◌, ◌++◌, take}
use Rattle.xt_record.specs.Fields.{words}
use Rattle.xt_record.proofs.words.put_words.Given as goal

abbrev pub invariant-loop-value : goal.invariant-loop-value
invariant-loop-value l = l.out.items ≡ l.fn.out.items ++ words (take l.value-index l.values)
