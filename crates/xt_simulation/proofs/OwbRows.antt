-- The rows over two PS that differ in OWB alone: only RSR and XSR of PS, and RSIL, show it.
use Rattle.std.proofs.Common.{◌≡◌, ℕ, Bool, true, false, cond, eqb, refl, ap}
use Rattle.xt_isa.specs.declared.Insn.{Insn}
use Rattle.xt_isa.specs.declared.Insn.TheVariants as insn
use Rattle.xt_isa.specs.declared.system.System.{System}
use Rattle.xt_isa.specs.declared.system.System.TheVariants as system
use Rattle.xt_isa.specs.declared.system.LevelName.TheVariants as LevelName
use Rattle.xt_isa.specs.declared.system.SpecialName.TheVariants as SpecialName
use Rattle.xt_special.specs.declared.ps.Ps.{Ps}
use Rattle.xt_special.specs.Control.{ps_word, ps_of}
use Rattle.xt_special.specs.Access.{value_read, ps_written}
use Rattle.xt_rows.specs.declared.outcome.Effect.{Effect}
use Rattle.xt_rows.specs.declared.outcome.Outcome.{Outcome}
use Rattle.xt_rows.specs.declared.outcome.Outcome.TheVariants.{Does, Asks}
use Rattle.xt_rows.specs.Numbers.{natural}
use Rattle.xt_rows.specs.Outcomes.{outcome}
use Rattle.xt_rows.proofs.Forms.{Form, Makes, Puts, PutsLoaded, Jumps, Calls, CallsWindow, Loops, SetsRegister, PutsSpecial, WritesSpecial, ExchangesSpecial, PutsPointer, SetsPointer, EndsException, EndsInterrupt, SetsLevel, Waits, Nothing, AsksLoad, AsksStore, AsksSwap, rows_have_forms}
use Rattle.xt_uses.specs.UseLaws.{AgreeIn, WritesAgree}

-- the effects and outcomes are equal but for OWB, and what is written agrees in the bits of a mask
pub record EffectsNear (m : ℕ) (d e : Effect) : Type 0 where
  pub write : WritesAgree m d.write e.write
  pub sets : d.sets ≡ e.sets
  pub ps : (z : ℕ) → record d.ps { owb = z } ≡ record e.ps { owb = z }
  pub threadptr : d.threadptr ≡ e.threadptr
  pub flow : d.flow ≡ e.flow
  pub waits : d.waits ≡ e.waits

abbrev pub OutcomesNear : ℕ → Outcome → Outcome → Type 0
OutcomesNear m (Does d) (Does e) = EffectsNear m d e
OutcomesNear m (Asks a x d) (Asks b y e) = (a ≡ b) × ((x ≡ y) × EffectsNear m d e)
OutcomesNear m o p = o ≡ p

-- the row shows PS in the register that it writes
unfoldable pub shows_owb : System → Bool
shows_owb (system.Special SpecialName.Rsr t k) = eqb k 230
shows_owb (system.Special SpecialName.Xsr t k) = eqb k 230
shows_owb (system.Level LevelName.Rsil t level) = true
shows_owb _ = false

unfoldable pub shows_owb_in : Insn → Bool
shows_owb_in (insn.System i) = shows_owb i
shows_owb_in _ = false

module _ (m : ℕ) (p q : Ps) (same : (z : ℕ) → record p { owb = z } ≡ record q { owb = z }) where
  value_near : (k u : ℕ) → (eqb k 230 ≡ true → AgreeIn m (ps_word p) (ps_word q)) → AgreeIn m (value_read k u p) (value_read k u q)
  value_near k u h = by_test (eqb k 230) h
    where
      by_test : (b : Bool) → (b ≡ true → AgreeIn m (ps_word p) (ps_word q)) → AgreeIn m (cond b (ps_word p) u) (cond b (ps_word q) u)
      by_test true g = g refl
      by_test false g = refl

  written_near : (k x z : ℕ) → record (ps_written k x p) { owb = z } ≡ record (ps_written k x q) { owb = z }
  written_near k x z = by_test (eqb k 230)
    where
      by_test : (b : Bool) → record (cond b (ps_of x) p) { owb = z } ≡ record (cond b (ps_of x) q) { owb = z }
      by_test true = refl
      by_test false = same z

  form_near : (code : ℕ → ℕ) (pc x y u v : ℕ) {i : Insn} {o : Makes} → Form code pc x y u v i o → (t : ℕ) → (shows_owb_in i ≡ true → AgreeIn m (ps_word p) (ps_word q)) → OutcomesNear m (o p t) (o q t)
  unfolding shows_owb_in shows_owb
  form_near code pc x y u v (Puts number value c n w) t h = record { write = (refl, refl); sets = refl; ps = same; threadptr = refl; flow = refl; waits = refl }
  form_near code pc x y u v (PutsLoaded size signed number addr l z c n) t h = record { write = (refl, refl); sets = refl; ps = same; threadptr = refl; flow = refl; waits = refl }
  form_near code pc x y u v (Jumps target c w) t h = record { write = tt; sets = refl; ps = same; threadptr = refl; flow = refl; waits = refl }
  form_near code pc x y u v (Calls target c w) t h = record { write = (refl, refl); sets = refl; ps = same; threadptr = refl; flow = refl; waits = refl }
  form_near code pc x y u v (CallsWindow size target s c n w) t h = record { write = (refl, refl); sets = refl; ps = λ z. ap (λ (k : Ps). record k { callinc = size }) (same z); threadptr = refl; flow = refl; waits = refl }
  form_near code pc x y u v (Loops passes offset c) t h = record { write = tt; sets = refl; ps = same; threadptr = refl; flow = refl; waits = refl }
  form_near code pc x y u v (SetsRegister number value c k w) t h = record { write = tt; sets = refl; ps = same; threadptr = refl; flow = refl; waits = refl }
  form_near code pc x y u v (PutsSpecial {n = n}) t h = record { write = (refl, value_near n u h); sets = refl; ps = same; threadptr = refl; flow = refl; waits = refl }
  form_near code pc x y u v (WritesSpecial {n = n}) t h = record { write = tt; sets = refl; ps = written_near n x; threadptr = refl; flow = refl; waits = refl }
  form_near code pc x y u v (ExchangesSpecial {n = n}) t h = record { write = (refl, value_near n u h); sets = refl; ps = written_near n x; threadptr = refl; flow = refl; waits = refl }
  form_near code pc x y u v PutsPointer t h = record { write = (refl, refl); sets = refl; ps = same; threadptr = refl; flow = refl; waits = refl }
  form_near code pc x y u v SetsPointer t h = record { write = tt; sets = refl; ps = same; threadptr = refl; flow = refl; waits = refl }
  form_near code pc x y u v EndsException t h = record { write = tt; sets = refl; ps = λ z. ap (λ (k : Ps). record k { excm = false }) (same z); threadptr = refl; flow = refl; waits = refl }
  form_near code pc x y u v EndsInterrupt t h = record { write = tt; sets = refl; ps = λ z. refl; threadptr = refl; flow = refl; waits = refl }
  form_near code pc x y u v (SetsLevel {level = level}) t h = record { write = (refl, h refl); sets = refl; ps = λ z. ap (λ (k : Ps). record k { intlevel = natural level }) (same z); threadptr = refl; flow = refl; waits = refl }
  form_near code pc x y u v (Waits {level = level}) t h = record { write = tt; sets = refl; ps = λ z. ap (λ (k : Ps). record k { intlevel = natural level }) (same z); threadptr = refl; flow = refl; waits = refl }
  form_near code pc x y u v (Nothing c) t h = record { write = tt; sets = refl; ps = same; threadptr = refl; flow = refl; waits = refl }
  form_near code pc x y u v (AsksLoad size signed number addr l c n k) t h = (refl, (refl, record { write = tt; sets = refl; ps = same; threadptr = refl; flow = refl; waits = refl }))
  form_near code pc x y u v (AsksStore size offset s c k) t h = (refl, (refl, record { write = tt; sets = refl; ps = same; threadptr = refl; flow = refl; waits = refl }))
  form_near code pc x y u v (AsksSwap k) t h = (refl, (refl, record { write = tt; sets = refl; ps = same; threadptr = refl; flow = refl; waits = refl }))
  form_near code pc x y u v _ t h = refl

pub rows_near : (m : ℕ) (code : ℕ → ℕ) (i : Insn) (pc x y u v : ℕ) (p q : Ps) (t : ℕ) → ((z : ℕ) → record p { owb = z } ≡ record q { owb = z }) → (shows_owb_in i ≡ true → AgreeIn m (ps_word p) (ps_word q)) → OutcomesNear m (outcome code i pc x y u v p t) (outcome code i pc x y u v q t)
rows_near m code i pc x y u v p q t same shown = form_near m p q same code pc x y u v (rows_have_forms code pc x y u v i) t shown
