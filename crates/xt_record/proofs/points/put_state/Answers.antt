use Rattle.std.proofs.Common.{◌≡◌, [], ◌∷◌, ◌++◌, rules}
use Rattle.xt_special.specs.Control.{bit_of, ps_word}
use Rattle.xt_exec.specs.States.{file_state}
use Rattle.xt_record.specs.Fields.{words}
use Rattle.xt_record.proofs.Putting.{state_joined}
use Rattle.xt_record.proofs.points.put_state.Goals as goal

pub returns : goal.returns
returns c =
    let s = file_state c.args.regs.now in
    let head : c.put_words.new.out.items ≡ c.args.out.now.items ++ words (s.control.pc ∷ bit_of s.control.waits ∷ c.args.step ∷ s.base ∷ s.start ∷ []) =
    search rules in
    let ps : c.put_words-2.new.out.items ≡ c.put_registers.new.out.items ++ words (ps_word s.control.ps ∷ []) = search rules in
    let last : c.put_words-3.new.out.items ≡ c.put_registers-2.new.out.items ++ words (s.control.threadptr ∷ []) = search rules in
    state_joined c.args.step s c.args.out.now.items c.put_words.new.out.items c.put_file.new.out.items c.put_registers.new.out.items
    c.put_words-2.new.out.items c.put_registers-2.new.out.items c.put_words-3.new.out.items
    head c.in_ok-put_file.ensures c.in_ok-put_registers.ensures ps c.in_ok-put_registers-2.ensures last
