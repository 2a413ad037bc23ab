use Rattle.xt_special.proofs.PsWords.{of_word_of_fields, word_of_fields_of}
use Rattle.xt_special.proofs.laws.ps_as_word.Goals as goal

pub returns-clause-fields : goal.returns-clause-fields
returns-clause-fields c = of_word_of_fields

pub returns-clause-kept : goal.returns-clause-kept
returns-clause-kept c = word_of_fields_of
