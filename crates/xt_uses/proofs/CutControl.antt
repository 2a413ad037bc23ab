-- What exceptions, interrupts, the tick and rows leave of THREADPTR, EXCSAVE and MISC.
use Rattle.std.proofs.Common.{◌≡◌, ◌≢◌, ℕ, ◌+◌, ◌%◌, ◌^◌, ◌<◌, ◌≤◌, Bool, true, false, cond, eqb, List, Option, Some, None, length, get_or, refl, sym, ap, ◌∙◌, subst, arith}
use Rattle.std.proofs.Math.ListN.{set}
use Rattle.std.proofs.lemmas.Bool.{both_ways, cond_both, false_from_ne_true}
use Rattle.std.proofs.lemmas.List.{get_or-set_other, get_or-set_same, length-set}
use Rattle.xt_special.specs.declared.writes.SpecialWrite.{SpecialWrite}
use Rattle.xt_special.specs.Access.{SpecialWrites, no_set, set_to, with_set, with_sets}
use Rattle.xt_special.specs.Control.{Control, special_of}
use Rattle.xt_special.specs.Exceptions.{after_double, after_exception, after_general, with_address}
use Rattle.xt_special.specs.Interrupts.{after_high_level, after_interrupt}
use Rattle.xt_special.specs.Timers.{after_tick, ticked_special, with_timer}
use Rattle.xt_special.specs.Looping.{loops_back}
use Rattle.xt_rows.specs.declared.outcome.Effect.{Effect}
use Rattle.xt_rows.specs.declared.outcome.Flow.{Flow}
use Rattle.xt_rows.specs.declared.outcome.Flow.TheVariants.{Falls, Goes}
use Rattle.xt_rows.specs.Kinds.{AllSpare, Spares}
use Rattle.xt_rows.specs.Settling.{after_effect, after_flow}
use Rattle.xt_frames.specs.Marks.{holds_marks}
use Rattle.xt_uses.proofs.WholeStates.{special_high}

pub marks_apart : (n k : ℕ) → holds_marks n ≡ true → holds_marks k ≡ false → n ≢ k
marks_apart n k h none e = both_ways (holds_marks k) none (subst (λ j. holds_marks j ≡ true) e h)

-- ---- a list of special registers of which these are as they were
pub record Spared (xs ys : List ℕ) : Type 0 where
  pub at : (n : ℕ) → holds_marks n ≡ true → get_or ys n 0 ≡ get_or xs n 0
  pub size : length ys ≡ length xs

pub spared_same : (xs : List ℕ) → Spared xs xs
spared_same xs = record { at = λ n h. refl; size = refl }

pub spared_set : (xs ys : List ℕ) (k v : ℕ) → holds_marks k ≡ false → Spared xs ys → Spared xs (set ys k v)
spared_set xs ys k v none s = record {
  at = λ n h. get_or-set_other ys k n v 0 (marks_apart n k h none) ∙ s.at n h;
  size = length-set ys k v ∙ s.size;
}

pub spared_either : (xs : List ℕ) (b : Bool) (ys zs : List ℕ) → Spared xs ys → Spared xs zs → Spared xs (cond b ys zs)
spared_either xs true ys zs p q = p
spared_either xs false ys zs p q = q

pub spared_tick : (xs ys : List ℕ) → Spared xs ys → Spared xs (ticked_special ys)
unfolding ticked_special
spared_tick xs ys s =
    timer 2 (2 ^ 16) _ (timer 1 (2 ^ 15) _ (timer 0 (2 ^ 6) _ (spared_set xs ys 234 _ refl s)))
  where
    timer : (t mask : ℕ) (zs : List ℕ) → Spared xs zs → Spared xs (with_timer t mask zs)
    timer t mask zs p = spared_either xs _ _ zs (spared_set xs zs 226 _ refl p) p

-- ---- a control state
pub record Keeps (c d : Control) : Type 0 where
  pub special : Spared c.special d.special
  pub threadptr : d.threadptr ≡ c.threadptr

pub keeps_tick : (c d : Control) → Keeps c d → Keeps c (after_tick d)
keeps_tick c d k = record { special = spared_tick c.special d.special k.special; threadptr = k.threadptr }

pub keeps_same : (c : Control) → Keeps c c
keeps_same c = record { special = spared_same c.special; threadptr = refl }

spared_address : (xs ys : List ℕ) (address : Option ℕ) → Spared xs ys → Spared xs (with_address address ys)
spared_address xs ys None s = s
spared_address xs ys (Some a) s = spared_set xs ys 238 a refl s

pub keeps_exception : (cause : ℕ) (address : Option ℕ) (c : Control) → Keeps c (after_exception cause address c)
unfolding after_exception
keeps_exception cause address c = cond_both c.ps.excm (after_double cause address c) (after_general cause address c) (λ (d : Control). Keeps c d)
    (λ e. record { special = spared_address c.special _ address (spared_set c.special _ 232 cause refl (spared_set c.special c.special 192 c.pc refl (spared_same c.special))); threadptr = refl })
    (λ e. record { special = spared_address c.special _ address (spared_set c.special _ 232 cause refl (spared_set c.special c.special 177 c.pc refl (spared_same c.special))); threadptr = refl })

pub level_apart : (base level : ℕ) → base + level < 209 → holds_marks (base + level) ≡ false
level_apart base level small = false_from_ne_true (holds_marks (base + level)) (λ h. let high = special_high (base + level) h in omega (arith, high, small))

pub keeps_interrupt : (level : ℕ) (c : Control) → level ≤ 5 → Keeps c (after_interrupt level c)
unfolding after_interrupt
keeps_interrupt level c small = by (eqb level 1)
  where
    by : (b : Bool) → Keeps c (record (cond b (after_exception 4 None c) (after_high_level level c)) { waits = false })
    by true = let k = keeps_exception 4 None c in record { special = k.special; threadptr = k.threadptr }
    by false = record {
      special = spared_set c.special _ (192 + level) _ (level_apart 192 level (omega (arith, small))) (spared_set c.special c.special (176 + level) c.pc (level_apart 176 level (omega (arith, small))) (spared_same c.special));
      threadptr = refl;
    }

-- ---- an effect: what it gives to them, and THREADPTR
pub keeps_flow : (flow : Flow) (len : ℕ) (c : Control) → Keeps c (after_flow flow len c)
keeps_flow (Goes target) len c = record { special = spared_same c.special; threadptr = refl }
keeps_flow Falls len c = cond_both (loops_back (special_of c 1) (special_of c 2) c.ps.excm ((c.pc + len) % 2 ^ 32)) _ _ (λ (d : Control). Keeps c d)
    (λ e. record { special = spared_set c.special c.special 2 _ refl (spared_same c.special); threadptr = refl })
    (λ e. record { special = spared_same c.special; threadptr = refl })

abbrev pub with_effect : Effect → Control → Control
with_effect e c = record { pc = c.pc; special = with_sets e.sets c.special; ps = e.ps; threadptr = e.threadptr; waits = e.waits }

pub keeps_effect : (e : Effect) (len : ℕ) (c : Control) → Keeps (with_effect e c) (after_tick (after_effect e len c))
unfolding after_effect
keeps_effect e len c = keeps_tick (with_effect e c) (after_flow e.flow len (with_effect e c)) (keeps_flow e.flow len (with_effect e c))

set_size : (w : Option SpecialWrite) (xs : List ℕ) → length (with_set w xs) ≡ length xs
set_size None xs = refl
set_size (Some w) xs = length-set xs w.number w.value

pub sets_size : (ws : SpecialWrites) (xs : List ℕ) → length (with_sets ws xs) ≡ length xs
sets_size ws xs = set_size ws.2 (with_set ws.1 (with_set ws.0 xs)) ∙ (set_size ws.1 (with_set ws.0 xs) ∙ set_size ws.0 xs)

set_spares : (w : Option SpecialWrite) (xs : List ℕ) (k : ℕ) → Spares k w → get_or (with_set w xs) k 0 ≡ get_or xs k 0
set_spares None xs k h = refl
set_spares (Some w) xs k h = get_or-set_other xs w.number k w.value 0 (λ e. h (sym e))

pub sets_spare : (ws : SpecialWrites) (xs : List ℕ) (k : ℕ) → AllSpare k ws → get_or (with_sets ws xs) k 0 ≡ get_or xs k 0
sets_spare ws xs k h =
    set_spares ws.2 (with_set ws.1 (with_set ws.0 xs)) k h.2
    ∙ (set_spares ws.1 (with_set ws.0 xs) k h.1 ∙ set_spares ws.0 xs k h.0)

pub sets_one : (ws : SpecialWrites) (xs : List ℕ) (k x : ℕ) → ws ≡ (set_to k x, no_set, no_set) → k < length xs → get_or (with_sets ws xs) k 0 ≡ x
sets_one ws xs k x e l = ap (λ w. get_or (with_sets w xs) k 0) e ∙ get_or-set_same xs k x 0 l
