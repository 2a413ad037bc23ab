use Rattle.std.proofs.Common.{ℕ, ◌+◌, ◌<◌, ◌++◌, sym, ap, ◌∙◌}
use Rattle.std.specs.Prelude.{filter, string_bytes}
use Rattle.std.specs.List.{flat_map}
use Rattle.xt_isa.specs.Spelling.{can_read}
use Rattle.xt_exec.specs.States.{file_state}
use Rattle.xt_debug.specs.Printed.{special_line}
use Rattle.xt_debug.proofs.Ranges.{all_specials, from_to, one_more_fails, one_more_passes}
use Rattle.xt_debug.proofs.special.push_specials.Goals as goal
use Rattle.xt_debug.proofs.special.push_specials.Goals.{then-can_read+in_ok-push_special, else-can_read}

pub loop-n-init : goal.loop-n-init
loop-n-init c = ap (λ l. string_bytes c.args.out.now ++ flat_map (special_line (file_state c.args.regs.now)) l) all_specials

pub loop-n-preserved : goal.loop-n-preserved
loop-n-preserved c =
    let line = special_line (file_state c.args.regs.now) in
    let n : ℕ = c.loop-n.n in
    let before = string_bytes c.loop-n.out in
    let after = string_bytes c.if-can_read.out in
    let below : n < 256 = c.loop-n-test.true in
    elim c.if-can_read.branch [
      | then-can_read+in_ok-push_special w ↦
          one_more_passes line can_read n 256 before after below (sym w.if-can_read.ensures) (ap string_bytes w.out-is ∙ w.in_ok-push_special.ensures)
          ∙ c.loop-n.invariant
      | else-can_read w ↦
          ap (λ text. string_bytes text ++ flat_map line (filter can_read (from_to (n + 1) 256))) w.out-is
          ∙ one_more_fails line can_read n 256 before below (sym w.if-can_read.ensures)
          ∙ c.loop-n.invariant
    ]
