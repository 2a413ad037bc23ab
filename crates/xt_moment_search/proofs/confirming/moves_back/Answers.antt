use Rattle.std.proofs.Common.{List, [], reverse, ap, sym, subst}
use Rattle.xt_map.specs.Memory.{constant_byte}
use Rattle.xt_moments.specs.declared.moves.Move.{Move}
use Rattle.xt_moment_search.specs.Covering.{Led}
use Rattle.xt_moment_search.specs.Stuckness.{IsPath}
use Rattle.xt_moment_search.specs.declared.machine.Step.{Step}
use Rattle.xt_moment_search.specs.declared.machine.Step.TheVariants as step
use Rattle.xt_moment_search.proofs.Ended.{no_moves}
use Rattle.xt_moment_search.proofs.confirming.moves_back.Goals as goal

pub returns-in-Passes : goal.returns-in-Passes
returns-in-Passes c =
    let g = c.args.machine.now.ground in
    let v = c.args.from.now in
    let w = c.args.to.now in
    let s = step.Passes c.in-Passes.field-0 in
    let led = subst (λ (x : Step). Led (constant_byte g.code) g.opening.contents g.cleared.contents x v w) c.in-Passes.is
    c.requires.led in
    subst (λ (l : List Move). IsPath g (reverse l) v w) (sym c.new.ensures.items) (no_moves g s v w tt led)

pub returns-in-Rests : goal.returns-in-Rests
returns-in-Rests c =
    let g = c.args.machine.now.ground in
    let v = c.args.from.now in
    let w = c.args.to.now in
    let led = subst (λ (x : Step). Led (constant_byte g.code) g.opening.contents g.cleared.contents x v w) c.in-Rests.is
    c.requires.led in
    subst (λ (l : List Move). IsPath g (reverse l) v w) (sym c.new-in-Rests.ensures.items) (no_moves g step.Rests v w tt led)
