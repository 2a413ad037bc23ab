-- One instruction of a vector that handles, at an offset of its bytes.
use Rattle.std.proofs.Common.{◌≡◌, ⊎_elim, inl, inr, ℕ, zero, suc, ◌+◌, ◌-◌, ◌<◌, ◌≤◌, Bool, true, refl, sym, ◌∙◌, ap, arith, List, [], ◌∷◌, length, get_or, drop, Some, None, Option, ℤ, ltb}
use Rattle.std.proofs.lemmas.Bool.{cond_both, cases_lt, and_parts, ltb-true}
use Rattle.std.proofs.lemmas.Bool.Decides.{nat_tests}
use Rattle.xt_handlers.specs.Symbols.{Effect, effect_after_step}
use Rattle.xt_handlers.specs.Needs.{has_effect}
use Rattle.xt_handlers.specs.Handling.{Line, answer_at, walk}
use Rattle.xt_isa.specs.declared.Insn.{Insn}
use Rattle.xt_isa.specs.declared.Insn.TheVariants as insn
use Rattle.xt_isa.specs.declared.memory.WindowName.{WindowName}
use Rattle.xt_isa.specs.declared.memory.WindowName.TheVariants as window
use Rattle.xt_isa.specs.declared.memory.Memory.TheVariants as memory
use Rattle.xt_isa.specs.declared.system.System.TheVariants as system
use Rattle.xt_isa.specs.declared.system.WaitName.TheVariants as wait
use Rattle.xt_isa.specs.declared.system.ExceptionReturnName.TheVariants as return
use Rattle.xt_isa.specs.declared.density.Density.TheVariants as density
use Rattle.xt_isa.specs.declared.density.BareName.TheVariants as narrow
use Rattle.xt_isa.specs.Ranges.{in_range, two_registers, window_within}
use Rattle.xt_isa.specs.Spelling.{spelled_insn, fields_at, length_of}
use Rattle.xt_isa.proofs.Ranged.{spelled_at_in_range}
use Rattle.xt_handlers.specs.Spelled.{HasRegisters, window_step_of, step_of_insn, step_of_spelled, step_of, lines_in, lines_of}
use Rattle.xt_handlers.specs.declared.stretch.Side.{Side}
use Rattle.xt_handlers.specs.declared.stretch.Side.TheVariants.{Overflow, Underflow}
use Rattle.xt_handlers.specs.declared.stretch.HandlerInsn.{HandlerInsn}
use Rattle.xt_handlers.specs.declared.stretch.HandlerInsn.TheVariants.{L32e, S32e, Nop, Rfwo, Rfwu, Foreign}
use Rattle.xt_handlers.specs.declared.stretch.HandlerVerdict.TheVariants.{Yes, No}
use Rattle.xt_handlers.proofs.Lines.{here, lines_end, lines_cut}
use Rattle.xt_handlers.specs.Machines.{Machine}
use Rattle.xt_handlers.specs.Frames.{HasRoom}
use Rattle.xt_handlers.specs.HandlerInvariants.{Stands, HaveRegisters, Spares, step_at, ending_of, Handles, Turns, Done}
use Rattle.xt_handlers.proofs.Unspoiled.{ending_yes}
use Rattle.xt_handlers.proofs.Steps.{StepMoves, load_moves, store_moves, no_store}
use Rattle.xt_handlers.proofs.Runs.{Ends, at_once, keeps_registers, saved_words, loaded_registers}

two_small : (t s : ℕ) → two_registers t s ≡ true → (t < 16) × (s < 16)
unfolding two_registers
two_small t s h = let p = and_parts (ltb t 16) (ltb s 16) h in (ltb-true _ _ p.0, ltb-true _ _ p.1)

window_registers : (name : WindowName) (t s : ℕ) (offset : ℤ) → (t < 16) × (s < 16) → HasRegisters (window_step_of name t s offset)
window_registers window.L32e t s offset h = h
window_registers window.S32e t s offset h = h

insn_registers : (i : Insn) → in_range i ≡ true → HasRegisters (step_of_insn i)
unfolding step_of_insn
insn_registers (insn.Memory (memory.Window name t s offset)) h = window_registers name t s offset (two_small t s (and_parts (two_registers t s) (window_within offset) h).0)
insn_registers (insn.System (system.Wait wait.Nop)) h = tt
insn_registers (insn.Density (density.Bare narrow.Nop)) h = tt
insn_registers (insn.System (system.ExceptionReturn return.Rfwo)) h = tt
insn_registers (insn.System (system.ExceptionReturn return.Rfwu)) h = tt
insn_registers _ h = tt

spelled_registers : (o : Option Insn) → ((i : Insn) → Some i ≡ o → in_range i ≡ true) → HasRegisters (step_of_spelled o)
spelled_registers None h = tt
spelled_registers (Some i) h = insn_registers i (h i refl)

pub step_registers : (a b c : ℕ) → a < 256 → b < 256 → c < 256 → HasRegisters (step_of a b c)
unfolding step_of
step_registers a b c p q r = spelled_registers (spelled_insn (fields_at a b c)) (λ i e. spelled_at_in_range a b c i p q r e)

pub data Goes (side : Side) (n : ℕ) (start : Machine) (e : Effect) (flags : List Bool) (step : HandlerInsn) (now : Machine) (rest : List Line) : Type 0 where
  closes : step ≡ ending_of side → has_effect side n e ≡ true → Goes side n start e flags step now rest
  moves : StepMoves side n start e flags step now → walk side n (effect_after_step e step) rest ≡ Yes → Goes side n start e flags step now rest

goes : (side : Side) (n : ℕ) (start : Machine) (o : ℕ) (e : Effect) (flags : List Bool) (now : Machine) (step : HandlerInsn) (rest : List Line) → HasRoom side n start →
    HasRegisters step → Stands side n start e flags now → answer_at side n e o step (walk side n (effect_after_step e step) rest) ≡ Yes → Goes side n start e flags step now rest
goes side n start o e flags now (L32e t s back) rest room regs stands y = moves (load_moves side n start e flags now rest room stands t s back regs.0 regs.1 y) y
goes Overflow n start o e flags now (S32e t s back) rest room regs stands y = moves (store_moves Overflow n start e flags now rest room stands t s back refl regs.0 regs.1 y) y
goes Underflow n start o e flags now (S32e t s back) rest room regs stands y = absurd (no_store Underflow n start e flags now rest room stands t s back refl y)
goes side n start o e flags now Nop rest room regs stands y =
    moves (record { after = flags; next = now; is = refl; access = tt; does = refl; stands = stands; touches = record { elsewhere = λ x h. refl; never = λ u x. refl } }) y
goes Overflow n start o e flags now Rfwo rest room regs stands y = closes refl (ending_yes Overflow n o e y)
goes Underflow n start o e flags now Rfwo rest room regs stands y = absurd cc
goes Overflow n start o e flags now Rfwu rest room regs stands y = absurd cc
goes Underflow n start o e flags now Rfwu rest room regs stands y = closes refl (ending_yes Underflow n o e y)
goes side n start o e flags now Foreign rest room regs stands y = absurd cc

turn_from : (side : Side) (n : ℕ) (start : Machine) (bytes : List ℕ) (o : ℕ) (e : Effect) (flags : List Bool) (now : Machine) → o + length_of (get_or bytes o 0) ≤ 64 →
    Goes side n start e flags (step_at bytes o) now (lines_in 0 (o + length_of (get_or bytes o 0)) (drop (o + length_of (get_or bytes o 0)) bytes)) → Turns side n start bytes o e flags now
turn_from side n start bytes o e flags now room (closes is has) = record { inside = room; goes = inl (record { is = is; has = has }) }
turn_from side n start bytes o e flags now room (moves m w) =
    record { inside = room; goes = inr (record { after = m.after; next = m.next; is = m.is; access = m.access; does = m.does; stands = m.stands; touches = m.touches; handles = w }) }

no_lines : (side : Side) (n : ℕ) (e : Effect) (lines : List Line) → lines ≡ [] → walk side n e lines ≡ Yes → ⊥
no_lines side n e lines h y = let q : No 64 ≡ Yes = sym (ap (walk side n e) h) ∙ y in absurd cc

two_at_least : (a : ℕ) → 2 ≤ length_of a
two_at_least a = grind (arith, nat_tests)

pub turns : (side : Side) (n : ℕ) (start : Machine) (bytes : List ℕ) (o : ℕ) (e : Effect) (flags : List Bool) (now : Machine) → HasRoom side n start →
    length bytes ≡ 64 → ((i : ℕ) → get_or bytes i 0 < 256) → Stands side n start e flags now → Handles side n bytes o e → Turns side n start bytes o e flags now
turns side n start bytes o e flags now room size below stands y =
    ⊎_elim
    (λ l. ⊎_elim
    (λ m. absurd (no_lines side n e _ (lines_cut bytes o (omega (arith, size)) (omega (arith, size))) y))
    (λ m. turn_from side n start bytes o e flags now m
    (goes side n start o e flags now (step_at bytes o) _ room (step_registers (get_or bytes o 0) (get_or bytes (o + 1) 0) (get_or bytes (o + 2) 0) (below o) (below (o + 1)) (below (o + 2))) stands
    (here side n e bytes o (length_of (get_or bytes o 0)) _ _ (step_at bytes o) Yes (two_at_least (get_or bytes o 0)) refl (omega (arith, size)) refl refl refl y)))
    (cases_lt 64 (o + length_of (get_or bytes o 0))))
    (λ l. absurd (no_lines side n e _ (lines_end bytes o (omega (arith, size))) y))
    (cases_lt o 64)

-- the instructions of bytes have register numbers
nothing : (inside o : ℕ) → HaveRegisters (lines_in inside o [])
nothing zero o = tt
nothing (suc inside) o = tt

lines_registers : (inside o : ℕ) (bytes : List ℕ) → ((i : ℕ) → get_or bytes i 0 < 256) → HaveRegisters (lines_in inside o bytes)
lines_registers inside o [] below = nothing inside o
lines_registers (suc inside) o (a ∷ rest) below = lines_registers inside (o + 1) rest (λ i. below (suc i))
lines_registers zero o (a ∷ rest) below =
    cond_both (ltb (length rest + 1) (length_of a)) _ _ HaveRegisters (λ p. tt)
    (λ p. (step_registers a (get_or rest 0 0) (get_or rest 1 0) (below 0) (below 1) (below 2), lines_registers (length_of a - 1) (o + 1) rest (λ i. below (suc i))))

pub bytes_registers : (bytes : List ℕ) → ((i : ℕ) → get_or bytes i 0 < 256) → HaveRegisters (lines_of bytes)
unfolding lines_of
bytes_registers bytes below = lines_registers 0 0 bytes below

-- ---- the end
pub done : (side : Side) (n : ℕ) (start : Machine) (e : Effect) (flags : List Bool) (now : Machine) → n < 4 → Stands side n start e flags now → has_effect side n e ≡ true → Done side n start now
unfolding at_once
done Overflow n start e flags now three stands has =
    let r : Ends Overflow n start now (Some now) = at_once Overflow n start e flags now stands has in
    record {
      registers = keeps_registers Overflow n start now (Some now) r;
      saved = λ o k l. saved_words n start now (Some now) r k l;
      loaded = λ u. absurd cc;
    }
done Underflow n start e flags now three stands has =
    let r : Ends Underflow n start now (Some now) = at_once Underflow n start e flags now stands has in
    record {
      registers = keeps_registers Underflow n start now (Some now) r;
      saved = λ o. absurd cc;
      loaded = λ u k l. loaded_registers n start now (Some now) r three k l;
    }

-- ---- another core
pub spared : (side : Side) (n : ℕ) (start : Machine) (e : Effect) (flags : List Bool) (now : Machine) (new : ℕ → ℕ) → Stands side n start e flags now → Spares side n start now.bytes new →
    Stands side n start e flags (record { ring = now.ring; base = now.base; bytes = new })
spared side n start e flags now new stands s = record {
  base = stands.base;
  size = stands.size;
  symbols = stands.symbols;
  shown = stands.shown;
  hidden = stands.hidden;
  wanted = stands.wanted;
  few = stands.few;
  read = λ w h. s.named w h ∙ stands.read w h;
  saved = λ o k l h. s.saves o k l ∙ stands.saved o k l h;
}
