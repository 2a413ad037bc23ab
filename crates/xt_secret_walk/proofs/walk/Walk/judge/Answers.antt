use Rattle.std.proofs.Common.{◌≡◌, Some, sym, ◌∙◌, subst}
use Rattle.std.proofs.lemmas.Option.{none-some, same_Some}
use Rattle.xt_secret_walk.specs.declared.leak.End.{End}
use Rattle.xt_secret_walk.specs.declared.leak.FirstLeak.{FirstLeak}
use Rattle.xt_secret_walk.specs.Answers.{IsLeaks}
use Rattle.xt_secret_walk.specs.Walked.{IsEnded}
use Rattle.xt_secret_walk.proofs.walk.Walk.judge.Goals as goal

pub returns-in-Some : goal.returns-in-Some
returns-in-Some c = λ r on.
    let w = c.follow.new.self in
    let E : End → Type 0 = λ e. IsEnded r w e in
    let L : FirstLeak → Type 0 = λ f. IsLeaks r f in
    let end = subst E c.in-Err-Leaks.field-0-is (c.in-Err-Leaks.ensures r on) in
    let same : Some end.0 ≡ Some c.in-Some.first = sym end.1 ∙ c.in-Some.is in
    subst L (same_Some end.0 c.in-Some.first same) end.2

pub unreachable-requires : goal.unreachable-requires
unreachable-requires c =
    let q = c.requires.on in
    let w = c.follow.new.self in
    let E : End → Type 0 = λ e. IsEnded q.0 w e in
    let end = subst E c.in-Err-Leaks.field-0-is (c.in-Err-Leaks.ensures q.0 q.1) in
    none-some end.0 (sym c.in-None.is ∙ end.1)

pub returns-in-Err-NoTurn : goal.returns-in-Err-NoTurn
returns-in-Err-NoTurn c = λ r on.
    let E : End → Type 0 = λ e. IsEnded r c.follow.new.self e in
    subst E c.in-Err-NoTurn.field-0-is (c.in-Err-NoTurn.ensures r on)
