use Rattle.std.proofs.Common.{◌≡◌, subst, ap, ◌∙◌}
use Rattle.std.proofs.lemmas.Result.{IfOk-weaker}
use Rattle.xt_names.specs.Forms.{size_of}
use Rattle.xt_names.specs.Insns.{insn_size}
use Rattle.xt_names.specs.Lengths.{HasLength}
use Rattle.xt_names.proofs.WordLengths.{words_have_length}
use Rattle.xt_names.proofs.making.instruction.Goals as goal

pub returns-clause-length : goal.returns-clause-length
returns-clause-length c =
    IfOk-weaker c.if_in_range.result (λ j. j ≡ c.insn_of.result) (λ i. HasLength i (size_of c.args.mnemonic))
    (λ j same. subst (HasLength j) (ap insn_size same ∙ (c.insn_of.ensures.size ∙ ap size_of c.in_ok-parts_in.ensures.same)) (words_have_length j))
    c.if_in_range.ensures.same
