use Rattle.std.proofs.Common.{◌%◌, List, ℕ, ap, ◌∙◌, arith}
use Rattle.xt_window.specs.Ring.{visible}
use Rattle.xt_record.proofs.Putting.{register_more, registers_all}
use Rattle.xt_record.proofs.points.put_file.Goals as goal

pub loop-i-preserved : goal.loop-i-preserved
loop-i-preserved c = record {
  out = register_more c.args.win.now.regs c.loop-i.i c.set_base.new.self.base c.read.result _ _ _ c.loop-i-test.true c.set_base.ensures.base
      (c.read.ensures ∙ ap (λ (r : List ℕ). visible r c.set_base.new.self.base (c.loop-i.i % 16)) (c.set_base.ensures.regs ∙ c.loop-i.invariant.regs))
      c.loop-i.invariant.out c.in_ok-put_word.ensures;
  regs = c.set_base.ensures.regs ∙ c.loop-i.invariant.regs;
}

pub returns : goal.returns
returns c =
    registers_all c.args.win.now.regs c.loop-i.i _ _ (omega (arith, c.loop-i-test.false)) (omega (arith, c.loop-i.auto.i-end)) c.loop-i.invariant.out
