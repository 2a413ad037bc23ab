use Rattle.xt_word.proofs.BooleanBits.{written_same, written_other, written_small}
use Rattle.xt_word.proofs.boolean_laws.register_written.Goals as goal

pub returns-clause-same : goal.returns-clause-same
returns-clause-same c = written_same

pub returns-clause-other : goal.returns-clause-other
returns-clause-other c = written_other

pub returns-clause-range : goal.returns-clause-range
returns-clause-range c = written_small
