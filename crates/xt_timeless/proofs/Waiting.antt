-- A turn from states that are equal but for the bits of timers in INTERRUPT.
use Rattle.std.proofs.Common.{◌≡◌, ◌≢◌, ℕ, Bool, true, false, eqb, ◌&&◌, ◌||◌, List, slice_index, slice_set, refl, sym, ap, ◌∙◌, subst, ⊎_elim, arith}
use Rattle.std.proofs.lemmas.Bool.{cases_eq, eqb-true, false_from_ne_true, true≢false}
use Rattle.std.proofs.lemmas.List.{ext_get_or, get_or-set_other, get_or-set_same, length-set}
use Rattle.xt_map.proofs.Fetches.{fetched_range}
use Rattle.xt_map.specs.Fetching.{fetch_at}
use Rattle.xt_exec.specs.State.{State}
use Rattle.xt_exec.specs.Turn.{Planned, planned_turn}
use Rattle.xt_timeless.specs.Time.{executes, fetches_time}
use Rattle.xt_timeless.specs.Alike.{AreAlike, Timers, may_differ}
use Rattle.xt_timeless.specs.TimeLaws.{DifferInTimers, TimersWait, with_interrupt}
use Rattle.xt_timeless.proofs.Lists.{alike_interrupt, alike_sym}
use Rattle.xt_timeless.proofs.Turning.{AreExecuted, AreKept, planned_stage}

-- a list that differs in INTERRUPT alone is the other one with its INTERRUPT
only_interrupt : (xs ys : List ℕ) → AreAlike Timers xs ys → ys ≡ slice_set xs 226 (slice_index ys 226)
only_interrupt xs ys a =
    ext_get_or 0 ys (slice_set xs 226 (slice_index ys 226)) (sym a.long ∙ sym (length-set xs 226 (slice_index ys 226)))
    (λ j less. ⊎_elim
    (λ (e : j ≡ 226). subst (λ (k : ℕ). slice_index ys k ≡ slice_index (slice_set xs 226 (slice_index ys 226)) k) (sym e)
    (sym (get_or-set_same xs 226 (slice_index ys 226) 0 (let l = a.long in omega (arith, l, less, e)))))
    (λ (d : j ≢ 226). sym (a.same j (other j d)) ∙ sym (get_or-set_other xs 226 j (slice_index ys 226) 0 d))
    (cases_eq j 226))
  where
    and_false : (b : Bool) → (b && false) ≡ false
    and_false true = refl
    and_false false = refl

    other : (j : ℕ) → j ≢ 226 → may_differ Timers j ≡ false
    other j d = λ i. (false_from_ne_true (eqb j 226) (λ t. d (eqb-true j 226 t)) i && true) || (and_false (eqb j 234 || (eqb j 240 || (eqb j 241 || eqb j 242))) i || and_false (eqb j 12) i)

kept_differs : (p q : Planned) → AreKept Timers p q → DifferInTimers p q
kept_differs p q k =
    let list = k.after.list in
    let put : List ℕ → State = λ l. record p.after { control = record p.after.control { special = l } } in
    record {
      kind = k.kind;
      write = k.write;
      access = k.access;
      awaited = k.awaited;
      interrupt = slice_index list 226;
      others = sym k.after.alike.interrupt;
      after = k.after.is ∙ ap put (only_interrupt p.after.control.special list k.after.alike);
    }

pub timers_wait : TimersWait
timers_wait code s v bytes others same free =
    let a : AreAlike Timers s.control.special (slice_set s.control.special 226 v) =
    alike_sym (slice_set s.control.special 226 v) s.control.special (alike_interrupt s.control.special v refl others) in
    ⊎_elim
    (λ (k : AreKept Timers (planned_turn code s) (planned_turn code (with_interrupt v s))). kept_differs (planned_turn code s) (planned_turn code (with_interrupt v s)) k)
    (λ (k : AreExecuted Timers (planned_turn code s) (planned_turn code (with_interrupt v s)) × (fetches_time (fetch_at code s.control.pc) ≡ true)).
    let g : true ≡ false = sym (λ i. executes (k.0.0 i) && k.1 i) ∙ free in
    absurd (true≢false g))
    (planned_stage code s (slice_set s.control.special 226 v) a (λ i len e. fetched_range code s.control.pc i len bytes e) (sym same))
