-- The answer for a vector, with the offset at which it fails ('profile').
use Rattle.std.specs.Prelude.{ℕ, if◌then◌else◌, List, [], ◌∷◌}
use Rattle.xt_handlers.specs.Symbols.{Effect, effect_after_step, opening}
use Rattle.xt_handlers.specs.Needs.{has_effect}
use Rattle.xt_handlers.specs.declared.stretch.Side.{Side}
use Rattle.xt_handlers.specs.declared.stretch.Side.TheVariants.{Overflow, Underflow}
use Rattle.xt_handlers.specs.declared.stretch.HandlerInsn.{HandlerInsn}
use Rattle.xt_handlers.specs.declared.stretch.HandlerInsn.TheVariants.{L32e, S32e, Nop, Rfwo, Rfwu, Foreign}
use Rattle.xt_handlers.specs.declared.stretch.HandlerVerdict.{HandlerVerdict}
use Rattle.xt_handlers.specs.declared.stretch.HandlerVerdict.TheVariants.{Yes, No}

-- an instruction of a vector and its offset
pub record Line : Type 0 where
  pub offset : ℕ
  pub step : HandlerInsn

abbrev pub ending_verdict : Side → ℕ → Effect → ℕ → HandlerVerdict
ending_verdict side n e offset = if has_effect side n e then Yes else No offset

-- the answer at an instruction, where `rest` is the answer of what follows it
abbrev pub answer_at : Side → ℕ → Effect → ℕ → HandlerInsn → HandlerVerdict → HandlerVerdict
answer_at side n e offset (L32e t s back) rest = rest
answer_at side n e offset (S32e t s back) rest = rest
answer_at side n e offset Nop rest = rest
answer_at Overflow n e offset Rfwo rest = ending_verdict Overflow n e offset
answer_at Underflow n e offset Rfwo rest = No offset
answer_at Overflow n e offset Rfwu rest = No offset
answer_at Underflow n e offset Rfwu rest = ending_verdict Underflow n e offset
answer_at side n e offset Foreign rest = No offset

-- the answer for the instructions that are left
abbrev pub walk : Side → ℕ → Effect → List Line → HandlerVerdict
walk side n e [] = No 64
walk side n e (l ∷ ls) =
    answer_at side n e l.offset l.step (walk side n (effect_after_step e l.step) ls)

abbrev pub handling_verdict : Side → ℕ → List Line → HandlerVerdict
handling_verdict side n lines = walk side n opening lines
