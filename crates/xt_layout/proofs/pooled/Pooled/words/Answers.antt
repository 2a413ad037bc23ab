use Rattle.std.proofs.Common.{◌≤◌, List, length, ap, sym, ◌∙◌, subst}
use Rattle.std.specs.List.{All}
use Rattle.xt_layout.specs.declared.word.PoolWord.{PoolWord}
use Rattle.xt_layout.specs.Pools.{words_of, IsAmong}
use Rattle.xt_layout.proofs.Places.{words_among, words_fewer}
use Rattle.xt_layout.proofs.pooled.Pooled.words.Goals as goal

pub returns-clause-few : goal.returns-clause-few
returns-clause-few c =
    let P : List PoolWord → Type 0 = λ ws. length ws ≤ length c.args.self.now in
    subst P (sym (c.deref.ensures.value ∙ c.self.invariant.0 ∙ ap words_of c.self.view_is)) (words_fewer c.args.self.now)

pub returns-clause-places : goal.returns-clause-places
returns-clause-places c =
    let P : List PoolWord → Type 0 = λ ws. All (IsAmong (length c.args.self.now)) ws in
    subst P (sym (c.deref.ensures.value ∙ c.self.invariant.0 ∙ ap words_of c.self.view_is)) (words_among c.args.self.now)
