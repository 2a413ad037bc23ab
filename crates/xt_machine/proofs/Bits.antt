-- The definitions of the bits of interrupts agree, by what they compute to.
use Rattle.std.proofs.Common.{refl}
use Rattle.xt_special.specs.Access.{timer_bit, value_kept}
use Rattle.xt_special.specs.Timers.{ticked_special}
use Rattle.xt_machine.specs.InterruptBits.{BitsAgree}

pub bits_agree : BitsAgree
unfolding timer_bit value_kept ticked_special
bits_agree = record { levels = refl; fifth = refl; enabled = λ x v. refl; timers = λ special. refl }
