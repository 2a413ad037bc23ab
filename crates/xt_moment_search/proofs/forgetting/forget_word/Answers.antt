use Rattle.std.proofs.Common.{◌∙◌, sym}
use Rattle.xt_moment_search.proofs.Forgotten.{word_forgotten}
use Rattle.xt_moment_search.proofs.forgetting.forget_word.Goals as goal

pub returns : goal.returns
returns c =
    let g = c.args.ground.now in
    word_forgotten g.opening.contents g.cleared.contents c.args.bytes.now c.serve.new.bytes
    c.args.word c.opening_word.result (sym c.is_in_memory.ensures ∙ c.if-not-is_in_memory.false)
    c.in_ok-serve.ensures.held c.in_ok-serve.ensures.hidden c.in_ok-serve.ensures.memory
