-- A RETW that is not illegal goes back to a window that is there, or to one that has to be filled.
use Rattle.std.proofs.Common.{◌≡◌, ◌≢◌, ℕ, Bool, true, false, ◌||◌, not, cond, refl, sym, subst, inl, inr}
use Rattle.xt_isa.specs.declared.Insn.{Insn}
use Rattle.xt_isa.specs.declared.Insn.TheVariants as insn
use Rattle.xt_isa.specs.declared.control.Control.TheVariants as control
use Rattle.xt_isa.specs.declared.control.ReturnName.TheVariants as ReturnName
use Rattle.xt_isa.specs.declared.density.Density.TheVariants as density
use Rattle.xt_isa.specs.declared.density.BareName.TheVariants as BareName
use Rattle.xt_special.specs.Control.{Control}
use Rattle.xt_window.specs.declared.windows.Return.TheVariants.{Returned, Under, Bad}
use Rattle.xt_window.specs.Ring.{visible, bit}
use Rattle.xt_window.specs.Moves.{base_after_return, is_bad}
use Rattle.xt_window.specs.WindowAnswers.{return_of}
use Rattle.xt_rows.specs.declared.outcome.WindowStep.TheVariants.{Enters, Returns, EndsOverflow, EndsUnderflow, Rotates, MovesStack, Reads, Sets, Exchanges}
use Rattle.xt_rows.specs.declared.outcome.Outcome.{Outcome}
use Rattle.xt_rows.specs.declared.outcome.Outcome.TheVariants.{Does, Raises, Asks, Stops, Windowed}
use Rattle.xt_rows.specs.Operands.{reads}
use Rattle.xt_rows.specs.Outcomes.{outcome, outcome_at, control_outcome, density_outcome, value_of}
use Rattle.xt_rows.specs.Kinds.{IsReturn, Fits}
use Rattle.xt_rows.specs.Settling.{return_size}
use Rattle.xt_rows.proofs.Fitting.{outcome_fits}
use Rattle.xt_exec.specs.State.{State}
use Rattle.xt_exec.specs.Turn.{has_windows, illegal_return, is_illegal}
use Rattle.xt_exec.specs.Steps.{OutcomeGoesBack}

-- ---- what the answer says of the caller's bit

there_of : (bad there : Bool) → cond bad Bad (cond there Returned Under) ≡ Returned → there ≡ true
there_of true there e = cc
there_of false true e = refl
there_of false false e = cc

absent_of : (bad there : Bool) → cond bad Bad (cond there Returned Under) ≡ Under → there ≡ false
absent_of true there e = cc
absent_of false true e = cc
absent_of false false e = refl

pub is_there : (start base n : ℕ) → return_of start base n ≡ Returned → bit start (base_after_return base n) ≡ true
unfolding return_of
is_there start base n e = there_of (is_bad start base n) (bit start (base_after_return base n)) e

pub is_absent : (start base n : ℕ) → return_of start base n ≡ Under → bit start (base_after_return base n) ≡ false
unfolding return_of
is_absent start base n e = absent_of (is_bad start base n) (bit start (base_after_return base n)) e

-- ---- a RETW that is not illegal

good : (bad there : Bool) → bad ≡ false → cond bad Bad (cond there Returned Under) ≢ Bad
good true there e = absurd cc
good false true e = λ q. cc
good false false e = λ q. cc

first_of : (a b : Bool) → (a || b) ≡ false → a ≡ false
first_of true b e = e
first_of false b e = refl

legal_return : (s : State) → illegal_return s ≡ false → return_of s.start s.base (return_size (visible s.regs s.base 0)) ≢ Bad
unfolding return_of
legal_return s e =
    let n = return_size (visible s.regs s.base 0) in
    good (is_bad s.start s.base n) (bit s.start (base_after_return s.base n)) (first_of (is_bad s.start s.base n) (not (has_windows s.control.ps)) e)

legal_insn : (i : Insn) (s : State) → IsReturn i → is_illegal i s ≡ false → illegal_return s ≡ false
unfolding is_illegal
legal_insn i s (inl e) h = let z : is_illegal (insn.Control (control.Return ReturnName.Retw)) s ≡ false = rw e at h in z
legal_insn i s (inr e) h = let z : is_illegal (insn.Density (density.Bare BareName.Retw)) s ≡ false = rw e at h in z

pub return_value : (code : ℕ → ℕ) (i : Insn) (f : ℕ → ℕ) (c : Control) (a0 : ℕ) → IsReturn i → outcome_at code i f c ≡ Windowed (Returns a0) → f 0 ≡ a0
unfolding outcome control_outcome density_outcome reads
return_value code i f c a0 (inl e) q = let z : outcome_at code (insn.Control (control.Return ReturnName.Retw)) f c ≡ Windowed (Returns a0) = rw e at q in cc
return_value code i f c a0 (inr e) q = let z : outcome_at code (insn.Density (density.Bare BareName.Retw)) f c ≡ Windowed (Returns a0) = rw e at q in cc

back : (code : ℕ → ℕ) (i : Insn) (s : State) → is_illegal i s ≡ false → (o : Outcome) → outcome_at code i (visible s.regs s.base) s.control ≡ o → Fits i o → OutcomeGoesBack o s
back code i s legal (Windowed (Returns a0)) q f =
    subst (λ (a : ℕ). return_of s.start s.base (return_size a) ≢ Bad) (return_value code i (visible s.regs s.base) s.control a0 f q) (legal_return s (legal_insn i s f legal))
back code i s legal (Windowed (Enters number value)) q f = tt
back code i s legal (Windowed (EndsOverflow epc1)) q f = tt
back code i s legal (Windowed (EndsUnderflow epc1)) q f = tt
back code i s legal (Windowed (Rotates n)) q f = tt
back code i s legal (Windowed (MovesStack number value)) q f = tt
back code i s legal (Windowed (Reads register number)) q f = tt
back code i s legal (Windowed (Sets register value)) q f = tt
back code i s legal (Windowed (Exchanges register number value)) q f = tt
back code i s legal (Does e) q f = tt
back code i s legal (Raises cause address) q f = tt
back code i s legal (Asks access awaited e) q f = tt
back code i s legal Stops q f = tt

pub goes_back : (code : ℕ → ℕ) (i : Insn) (s : State) → is_illegal i s ≡ false → (o : Outcome) → o ≡ outcome_at code i (visible s.regs s.base) s.control → OutcomeGoesBack o s
goes_back code i s legal o is =
    let f = visible s.regs s.base in
    back code i s legal o (sym is) (subst (Fits i) (sym is) (outcome_fits code i s.control.pc (value_of f (reads i).0) (value_of f (reads i).1) _ _ s.control.ps s.control.threadptr))
