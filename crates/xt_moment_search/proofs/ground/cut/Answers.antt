use Rattle.xt_exec.specs.States.{file_state}
use Rattle.xt_moment_search.proofs.CutStates.{cut_trans}
use Rattle.xt_moment_search.proofs.ground.cut.Goals as goal

pub loop-register-preserved : goal.loop-register-preserved
loop-register-preserved c = record {
  shaped = c.cut_one.ensures.shaped;
  cut = cut_trans c.args.masks.now.regs (file_state c.args.regs.now) (file_state c.loop-register.regs)
      (file_state c.cut_one.new.regs) c.loop-register.invariant.cut c.cut_one.ensures.cut;
}
