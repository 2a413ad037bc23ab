use Rattle.std.proofs.Common.{sym, subst, arith}
use Rattle.xt_map.specs.Memory.{constant_byte}
use Rattle.xt_rows.specs.declared.outcome.Outcome.{Outcome}
use Rattle.xt_rows.specs.Effects.{no_change}
use Rattle.xt_rows.specs.RowLaws.{AsksWith, IsAny, IsProper}
use Rattle.xt_rows.proofs.Fitting.{outcome_alone}
use Rattle.xt_rows.proofs.Proper.{outcome_fit}
use Rattle.xt_rows.proofs.rows.outcome_of.Goals as goal

pub returns-clause-proper : goal.returns-clause-proper
returns-clause-proper g c =
    let P : Outcome → Type 0 = λ o. IsProper IsAny o in
    let a = c.args in
    subst P (sym c.row_outcome.ensures)
    (outcome_fit (constant_byte a.code.now) a.i a.pc a.values.x a.values.y a.values.u a.values.v a.ps a.threadptr
    (record {
      range = c.requires.range;
      pc_word = omega arith;
      x_word = omega arith;
      y_word = omega arith;
      u_word = omega arith;
      v_word = omega arith;
      sar = c.requires.sar;
      fields = c.requires.ps;
      threadptr_word = omega arith;
    }))

pub returns-clause-alone : goal.returns-clause-alone
returns-clause-alone g c =
    let a = c.args in
    let P : Outcome → Type 0 = λ o. AsksWith (no_change a.ps a.threadptr) o in
    subst P (sym c.row_outcome.ensures) (outcome_alone (constant_byte a.code.now) a.i a.pc a.values.x a.values.y a.values.u a.values.v a.ps a.threadptr)
