use Rattle.std.proofs.Common.{subst, arith}
use Rattle.std.specs.List.{All}
use Rattle.std.proofs.lemmas.List.{take_all}
use Rattle.xt_moment_search.specs.KnownCores.{known_byte}
use Rattle.xt_moment_search.proofs.KnownWords.{IsKnownWord, all_known}
use Rattle.xt_moment_search.proofs.keys.has_hidden_word.Goals as goal

pub returns : goal.returns
returns c = λ none.
    let bytes = known_byte c.args.ground.now.cleared.contents c.args.world.now.hidden.value in
    let past = c.loop-word-test.false in
    all_known bytes c.args.words.now
    (subst (All (IsKnownWord bytes)) (take_all c.loop-word.word-index c.args.words.now (omega (arith, past))) c.loop-word.invariant)
