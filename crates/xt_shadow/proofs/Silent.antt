-- An access to bytes of which nothing is known shows no breach, and changes no mark.
use Rattle.std.proofs.Common.{◌≡◌, ℕ, zero, suc, ◌+◌, ◌-◌, ◌<◌, ◌≤◌, ◌&&◌, Bool, true, false, leb, ltb, Option, Some, None, List, refl, sym, ◌∙◌, ap, subst, arith, ⊎_elim}
use Rattle.std.proofs.lemmas.Bool.{and_parts, and_right, cases_Bool, cond-false, cond-true, leb-true, ltb-true, or_from}
use Rattle.xt_map.specs.declared.access.Access.{Access}
use Rattle.xt_map.specs.Touching.{is_store, touches}
use Rattle.xt_frames.specs.Breaches.{loads_stale, some_byte, stores_at, touches_save_area}
use Rattle.xt_discipline.specs.declared.bytes.Held.{Held}
use Rattle.xt_discipline.specs.declared.bytes.Change.TheVariants.{Stored}
use Rattle.xt_discipline.specs.ByteMarks.{Agrees, AreChanged, byte_after_change, either, held_at, is_marked, nothing}
use Rattle.xt_shadow.specs.Quiet.{IsQuiet}

none_of : (test : ℕ → Bool) (addr n : ℕ) → ((k : ℕ) → k < n → test (addr + k) ≡ false) → some_byte test addr n ≡ false
none_of test addr zero h = refl
none_of test addr (suc n) h =
    let here : addr + 0 ≡ addr = omega arith in
    let next : (k : ℕ) → addr + suc k ≡ addr + 1 + k = λ k. omega arith in
    or_from _ _ (subst (λ (a : ℕ). test a ≡ false) here (h 0 (omega arith)))
    (none_of test (addr + 1) n (λ k lt. subst (λ (a : ℕ). test a ≡ false) (next k) (h (suc k) (omega (arith, lt)))))

module _ (m : List Held) (live0 live1 dead : ℕ → Bool) (k : Agrees m live0 live1 dead) where
  none_live : (a : ℕ) → held_at m a ≡ nothing → either live0 live1 a ≡ false
  none_live a q = or_from _ _ (sym (k.first_core a) ∙ ap (λ (h : Held). h.live0) q) (sym (k.second_core a) ∙ ap (λ (h : Held). h.live1) q)

  none_dead : (a : ℕ) → held_at m a ≡ nothing → dead a ≡ false
  none_dead a q = sym (k.no_longer a) ∙ ap (λ (h : Held). h.stale) q

  pub quiet_saves : (o : Option Access) → IsQuiet m o → touches_save_area (either live0 live1) o ≡ false
  quiet_saves None q = refl
  quiet_saves (Some a) q = and_right _ _ (none_of (either live0 live1) a.addr a.size (λ k lt. none_live (a.addr + k) (q k lt)))

  pub quiet_loads : (o : Option Access) → IsQuiet m o → loads_stale (either live0 live1) dead o ≡ false
  quiet_loads None q = refl
  quiet_loads (Some a) q =
      and_right _ _ (or_from _ _ (none_of dead a.addr a.size (λ k lt. none_dead (a.addr + k) (q k lt)))
      (and_right _ _ (none_of (either live0 live1) a.addr a.size (λ k lt. none_live (a.addr + k) (q k lt)))))

touched : (m : List Held) (x : Access) (a : ℕ) → IsQuiet m (Some x) → touches x.addr x.size a ≡ true → held_at m a ≡ nothing
touched m x a q h =
    let p = and_parts (leb x.addr a) (ltb a (x.addr + x.size)) h in
    let low : x.addr ≤ a = leb-true _ _ p.0 in
    let high : a < x.addr + x.size = ltb-true _ _ p.1 in
    let same : x.addr + (a - x.addr) ≡ a = omega (arith, low) in
    subst (λ (b : ℕ). held_at m b ≡ nothing) same (q (a - x.addr) (omega (arith, low, high)))

pub quiet_stores : (m : List Held) (o : Option Access) → IsQuiet m o → AreChanged Stored (stores_at o) m m
quiet_stores m None q a = refl
quiet_stores m (Some x) q a =
    ⊎_elim
    (λ e.
    let h = (and_parts (is_store x.kind) (touches x.addr x.size a) (and_parts (stores_at (Some x) a) (is_marked m a) e).0).1 in
    let none : held_at m a ≡ nothing = touched m x a q h in
    none ∙ (sym (ap (byte_after_change Stored) none) ∙ sym (cond-true (stores_at (Some x) a && is_marked m a) (byte_after_change Stored (held_at m a)) (held_at m a) e)))
    (λ e. sym (cond-false (stores_at (Some x) a && is_marked m a) (byte_after_change Stored (held_at m a)) (held_at m a) e))
    (cases_Bool (stores_at (Some x) a && is_marked m a))
