-- No row but those that set PS changes INTLEVEL or EXCM, or waits.
use Rattle.std.proofs.Common.{◌≡◌, ℕ, Bool, false, cond, eqb, refl}
use Rattle.xt_isa.specs.declared.Insn.{Insn}
use Rattle.xt_special.specs.declared.ps.Ps.{Ps}
use Rattle.xt_special.specs.Control.{ps_of}
use Rattle.xt_rows.specs.Effects.{no_change}
use Rattle.xt_rows.specs.RowLaws.{sets_mode, KeepsMode, ModesAreKept}
use Rattle.xt_rows.proofs.Forms.{Form, Puts, PutsLoaded, Jumps, Calls, CallsWindow, Loops, SetsRegister, PutsSpecial, WritesSpecial, ExchangesSpecial, PutsPointer, SetsPointer, EndsException, EndsInterrupt, SetsLevel, Waits, Nothing, Makes, rows_have_forms}

written_mode : (b : Bool) (x : ℕ) (ps : Ps) → b ≡ false → ((cond b (ps_of x) ps).intlevel ≡ ps.intlevel) × ((cond b (ps_of x) ps).excm ≡ ps.excm)
written_mode b x ps none = rw none (refl, refl)

module _ (code : ℕ → ℕ) (pc x y u v : ℕ) where
  form_keeps : {i : Insn} {o : Makes} → Form code pc x y u v i o → (ps : Ps) (t : ℕ) → sets_mode i ≡ false → KeepsMode (no_change ps t) (o ps t)
  unfolding sets_mode
  form_keeps (Puts number value c n w) ps t none = (refl, refl, refl)
  form_keeps (PutsLoaded size signed number addr l z c n) ps t none = (refl, refl, refl)
  form_keeps (Jumps target c w) ps t none = (refl, refl, refl)
  form_keeps (Calls target c w) ps t none = (refl, refl, refl)
  form_keeps (CallsWindow size target s c n w) ps t none = (refl, refl, refl)
  form_keeps (Loops passes offset c) ps t none = (refl, refl, refl)
  form_keeps (SetsRegister number value c k w) ps t none = (refl, refl, refl)
  form_keeps PutsSpecial ps t none = (refl, refl, refl)
  form_keeps (WritesSpecial {n = n}) ps t none = let m = written_mode (eqb n 230) x ps none in (m.0, m.1, refl)
  form_keeps (ExchangesSpecial {n = n}) ps t none = let m = written_mode (eqb n 230) x ps none in (m.0, m.1, refl)
  form_keeps PutsPointer ps t none = (refl, refl, refl)
  form_keeps SetsPointer ps t none = (refl, refl, refl)
  form_keeps EndsException ps t none = absurd cc
  form_keeps EndsInterrupt ps t none = absurd cc
  form_keeps SetsLevel ps t none = absurd cc
  form_keeps Waits ps t none = absurd cc
  form_keeps (Nothing c) ps t none = (refl, refl, refl)
  form_keeps _ ps t none = tt

pub modes_kept : ModesAreKept
modes_kept code i pc x y u v ps threadptr none = form_keeps code pc x y u v (rows_have_forms code pc x y u v i) ps threadptr none
