use Rattle.std.proofs.Common.{◌≡◌, true, length, set, refl, sym, ◌∙◌, arith, rules}
use Rattle.std.proofs.lemmas.Bool.{cond-false, cond-true}
use Rattle.xt_frames.specs.Marks.{holds_marks}
use Rattle.xt_simulation.specs.Learning.{with_mask}
use Rattle.xt_secret_walk.specs.declared.masks.CoreMasks.{CoreMasks}
use Rattle.xt_secret_walk.specs.SeenWords.{special_mask}
use Rattle.xt_secret_walk.proofs.Knowing.{special_put}
use Rattle.xt_secret_walk.proofs.masks.CoreMasks.keep.Goals as goal

pub returns-then-keeps_unknown-clause-special : goal.returns-then-keeps_unknown-clause-special
returns-then-keeps_unknown-clause-special c =
    let w = c.args.self.now in
    let n = c.args.n in
    let holds : holds_marks n ≡ true = sym c.keeps_unknown.ensures ∙ c.if-keeps_unknown.true in
    let long : length w.special ≡ 256 = search rules in
    let new : CoreMasks = record w { special = set w.special n c.args.given } in
    special_put w new n c.args.given holds (omega (arith, long)) refl ∙ sym (cond-true (holds_marks n) (with_mask n c.args.given (special_mask w)) (special_mask w) holds)

pub returns-else-keeps_unknown-clause-special : goal.returns-else-keeps_unknown-clause-special
returns-else-keeps_unknown-clause-special c =
    let w = c.args.self.now in
    let n = c.args.n in
    sym (cond-false (holds_marks n) (with_mask n c.args.given (special_mask w)) (special_mask w) (sym c.keeps_unknown.ensures ∙ c.if-keeps_unknown.false))
