-- What a row leaves of THREADPTR: WUR sets it, and no other row changes it.
use Rattle.std.proofs.Common.{◌≡◌, ℕ, true, refl}
use Rattle.xt_isa.specs.declared.Insn.{Insn}
use Rattle.xt_isa.specs.declared.Insn.TheVariants as insn
use Rattle.xt_isa.specs.declared.system.System.TheVariants as system
use Rattle.xt_isa.specs.declared.system.UserName.TheVariants as UserName
use Rattle.xt_special.specs.declared.ps.Ps.{Ps}
use Rattle.xt_rows.specs.declared.outcome.Outcome.{Outcome}
use Rattle.xt_rows.specs.declared.outcome.Outcome.TheVariants.{Does, Asks}
use Rattle.xt_rows.specs.Outcomes.{outcome}
use Rattle.xt_rows.proofs.Forms.{Form, Puts, PutsLoaded, Jumps, Calls, CallsWindow, Loops, SetsRegister, PutsSpecial, WritesSpecial, ExchangesSpecial, PutsPointer, SetsPointer, EndsException, EndsInterrupt, SetsLevel, Waits, Nothing, AsksLoad, AsksStore, AsksSwap, Makes, is_calm, rows_have_forms}

unfoldable pub pointer_left : Insn → ℕ → ℕ → ℕ
pointer_left (insn.System (system.User UserName.Wur t n)) x pointer = x
pointer_left _ x pointer = pointer

abbrev pub LeavesPointer : ℕ → Outcome → Type 0
LeavesPointer t (Does e) = e.threadptr ≡ t
LeavesPointer t (Asks access awaited e) = e.threadptr ≡ t
LeavesPointer t _ = Unit {0}

kept : (i : Insn) (x pointer : ℕ) → is_calm i ≡ true → pointer ≡ pointer_left i x pointer
unfolding is_calm pointer_left
kept (insn.System (system.User UserName.Wur t n)) x pointer c = absurd cc
kept _ x pointer c = refl

module _ (code : ℕ → ℕ) (pc x y u v : ℕ) where
  form_leaves : {i : Insn} {o : Makes} → Form code pc x y u v i o → (ps : Ps) (t : ℕ) → LeavesPointer (pointer_left i x t) (o ps t)
  unfolding pointer_left
  form_leaves {i = i} (Puts number value c n w) ps t = kept i x t c
  form_leaves {i = i} (PutsLoaded size signed number addr l z c n) ps t = kept i x t c
  form_leaves {i = i} (Jumps target c w) ps t = kept i x t c
  form_leaves {i = i} (Calls target c w) ps t = kept i x t c
  form_leaves {i = i} (CallsWindow size target s c n w) ps t = kept i x t c
  form_leaves {i = i} (Loops passes offset c) ps t = kept i x t c
  form_leaves {i = i} (SetsRegister number value c k w) ps t = kept i x t c
  form_leaves PutsSpecial ps t = refl
  form_leaves WritesSpecial ps t = refl
  form_leaves ExchangesSpecial ps t = refl
  form_leaves PutsPointer ps t = refl
  form_leaves SetsPointer ps t = refl
  form_leaves EndsException ps t = refl
  form_leaves EndsInterrupt ps t = refl
  form_leaves SetsLevel ps t = refl
  form_leaves Waits ps t = refl
  form_leaves {i = i} (Nothing c) ps t = kept i x t c
  form_leaves {i = i} (AsksLoad size signed number addr l c n m) ps t = kept i x t c
  form_leaves {i = i} (AsksStore size offset s c m) ps t = kept i x t c
  form_leaves (AsksSwap m) ps t = refl
  form_leaves _ ps t = tt

pub pointer_kept : (code : ℕ → ℕ) (i : Insn) (pc x y u v : ℕ) (ps : Ps) (t : ℕ) → LeavesPointer (pointer_left i x t) (outcome code i pc x y u v ps t)
pointer_kept code i pc x y u v ps t = form_leaves code pc x y u v (rows_have_forms code pc x y u v i) ps t
