use Rattle.std.proofs.Common.{ap, subst, sym}
use Rattle.xt_special.specs.Values.{Specials}
use Rattle.xt_exec.specs.TurnLaws.{IsShaped}
use Rattle.xt_exec.specs.States.{file_state}
use Rattle.xt_timeless.proofs.Shaped.{cleared_shaped}
use Rattle.xt_moment_search.proofs.ground.clear_clocks.Goals as goal

pub returns-clause-shaped : goal.returns-clause-shaped
returns-clause-shaped c =
    subst (λ (x : Specials). IsShaped (file_state (record c.args.regs.now { sr = x }))) (sym c.clear_time.ensures) (cleared_shaped (file_state c.args.regs.now) c.requires)

pub returns-clause-cleared : goal.returns-clause-cleared
returns-clause-cleared c =
    ap (λ (x : Specials). file_state (record c.args.regs.now { sr = x })) c.clear_time.ensures
