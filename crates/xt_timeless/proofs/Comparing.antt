-- A turn from states that are equal but for SCOMPARE1.
use Rattle.std.proofs.Common.{◌≡◌, ◌≢◌, ℕ, zero, suc, Bool, true, false, cond, eqb, nat_lt, ◌&&◌, ◌||◌, None, List, slice_index, slice_set, refl, sym, ap, ◌∙◌, subst, ⊎_elim, arith}
use Rattle.std.proofs.lemmas.Bool.{and_parts, cases_eq, eqb-true, false_from_ne_true, true≢false}
use Rattle.std.proofs.lemmas.List.{ext_get_or, get_or-set_other, get_or-set_same, length-set, set-set, set-get_or}
use Rattle.xt_isa.specs.declared.Insn.TheVariants as insn
use Rattle.xt_isa.specs.declared.system.System.TheVariants as system
use Rattle.xt_isa.specs.declared.system.SpecialName.TheVariants as SpecialName
use Rattle.xt_special.specs.Control.{Control}
use Rattle.xt_special.specs.Interrupts.{pending_level, pending_of}
use Rattle.xt_window.specs.Ring.{visible}
use Rattle.xt_map.specs.Fetching.{Fetched, Fetches, Fails, SpellsNothing, fetch_at}
use Rattle.xt_rows.specs.Operands.{reads, special_reads}
use Rattle.xt_rows.specs.Outcomes.{outcome, outcome_at, system_outcome, value_of}
use Rattle.xt_rows.specs.declared.outcome.Flow.TheVariants.{Falls}
use Rattle.xt_rows.specs.Settling.{Executed, after_effect, after_flow, settled_interrupt, settled_wait, without_access}
use Rattle.xt_special.specs.Access.{value_kept}
use Rattle.xt_exec.specs.State.{State}
use Rattle.xt_exec.specs.Turn.{Planned, fetched_turn, in_window, is_illegal, outcome_turn, overflow, planned_turn, turn_or_overflow, window_check}
use Rattle.xt_timeless.specs.Time.{executes, fetches_compare, fetches_write}
use Rattle.xt_timeless.specs.Alike.{AreAlike, Compare, fetches_difference, may_differ}
use Rattle.xt_timeless.specs.TimeLaws.{CompareIsWritten, CompareWaits, DifferInCompare, with_compare}
use Rattle.xt_timeless.proofs.Keeping.{with_special}
use Rattle.xt_timeless.proofs.Lists.{alike_put, alike_refl}
use Rattle.xt_timeless.proofs.Turning.{AreExecuted, AreKept, planned_stage}

-- ---- lists

pub alike_compare : (xs : List ℕ) (v : ℕ) → AreAlike Compare xs (slice_set xs 12 v)
alike_compare xs v =
    subst (λ (zs : List ℕ). AreAlike Compare zs (slice_set xs 12 v)) (set-get_or xs 12 0)
    (alike_put xs xs 12 (slice_index xs 12) v (λ h. absurd (true≢false h)) (λ e. absurd (omega (arith, e))) (alike_refl xs))

-- a list that differs in SCOMPARE1 alone is the other one with its SCOMPARE1
pub only_compare : (xs ys : List ℕ) → AreAlike Compare xs ys → ys ≡ slice_set xs 12 (slice_index ys 12)
only_compare xs ys a =
    ext_get_or 0 ys (slice_set xs 12 (slice_index ys 12)) (sym a.long ∙ sym (length-set xs 12 (slice_index ys 12)))
    (λ j less. ⊎_elim
    (λ (e : j ≡ 12). subst (λ (k : ℕ). slice_index ys k ≡ slice_index (slice_set xs 12 (slice_index ys 12)) k) (sym e)
    (sym (get_or-set_same xs 12 (slice_index ys 12) 0 (let l = a.long in omega (arith, l, less, e)))))
    (λ (d : j ≢ 12). sym (a.same j (other j d)) ∙ sym (get_or-set_other xs 12 j (slice_index ys 12) 0 d))
    (cases_eq j 12))
  where
    and_false : (b : Bool) → (b && false) ≡ false
    and_false true = refl
    and_false false = refl

    other : (j : ℕ) → j ≢ 12 → may_differ Compare j ≡ false
    other j d = λ i. and_false (eqb j 226) i || (and_false (eqb j 234 || (eqb j 240 || (eqb j 241 || eqb j 242))) i || (false_from_ne_true (eqb j 12) (λ t. d (eqb-true j 12 t)) i && true))

-- ---- a turn that does not read it

same_level : (c : Control) (ys : List ℕ) → AreAlike Compare c.special ys → pending_of c ≡ pending_of (with_special c ys)
same_level c ys a = λ i. pending_level (a.same 226 refl i) (a.same 228 refl i) c.ps

pub compare_differs : (p q : Planned) → AreKept Compare p q → DifferInCompare p q
compare_differs p q k =
    let list = k.after.list in
    let put : List ℕ → State = λ l. record p.after { control = record p.after.control { special = l } } in
    record {
      kind = k.kind;
      write = k.write;
      access = k.access;
      awaited = k.awaited;
      compare = slice_index list 12;
      after = k.after.is ∙ ap put (only_compare p.after.control.special list k.after.alike);
    }

pub compare_waits : CompareWaits
compare_waits code s v free =
    let ys = slice_set s.control.special 12 v in
    let a = alike_compare s.control.special v in
    ⊎_elim
    (λ (k : AreKept Compare (planned_turn code s) (planned_turn code (with_compare v s))). compare_differs (planned_turn code s) (planned_turn code (with_compare v s)) k)
    (λ (k : AreExecuted Compare (planned_turn code s) (planned_turn code (with_compare v s)) × (same (fetch_at code s.control.pc) ≡ true)).
    absurd (true≢false (sym k.1 ∙ is_same (fetch_at code s.control.pc) ∙ free)))
    (planned_stage code s ys a (λ i len e. tt) (same_level s.control ys a))
  where
    same : Fetched → Bool
    same f = fetches_difference Compare f

    is_same : (f : Fetched) → fetches_difference Compare f ≡ fetches_compare f
    is_same (Fetches i len) = refl
    is_same (Fails address) = refl
    is_same SpellsNothing = refl

-- ---- a turn that writes it

module _ (code : ℕ → ℕ) (s : State) (v : ℕ) where
  abbrev t : State
  t = with_compare v s

  Written : Planned → Planned → Type 0
  Written p q = executes q.kind ≡ true → p ≡ q

  outcome_written : (r n len : ℕ) → eqb n 12 ≡ true
      → outcome_turn (outcome_at code (insn.System (system.Special SpecialName.Wsr r n)) (visible s.regs s.base) t.control) len t
      ≡ outcome_turn (outcome_at code (insn.System (system.Special SpecialName.Wsr r n)) (visible s.regs s.base) s.control) len s
  unfolding outcome special_reads system_outcome after_effect
  outcome_written r n len is =
      subst
      (λ (k : ℕ). outcome_turn (outcome_at code (insn.System (system.Special SpecialName.Wsr r k)) (visible s.regs s.base) t.control) len t
      ≡ outcome_turn (outcome_at code (insn.System (system.Special SpecialName.Wsr r k)) (visible s.regs s.base) s.control) len s)
      (sym (eqb-true n 12 is)) here
    where
      here : outcome_turn (outcome_at code (insn.System (system.Special SpecialName.Wsr r 12)) (visible s.regs s.base) t.control) len t
          ≡ outcome_turn (outcome_at code (insn.System (system.Special SpecialName.Wsr r 12)) (visible s.regs s.base) s.control) len s
      here =
          let w = value_kept 12 (value_of (visible s.regs s.base) (reads (insn.System (system.Special SpecialName.Wsr r 12))).0) 0 in
          let after : List ℕ → Planned = λ xs.
          in_window
          (without_access Executed None
          (after_flow Falls len (let c : Control = record { pc = s.control.pc; special = xs; ps = s.control.ps; threadptr = s.control.threadptr; waits = false } in c)))
          s
          in
          ap after (set-set s.control.special 12 v w)

  checked_written : (distance r n len : ℕ) → eqb n 12 ≡ true
      → Written (turn_or_overflow distance code (insn.System (system.Special SpecialName.Wsr r n)) len t) (turn_or_overflow distance code (insn.System (system.Special SpecialName.Wsr r n)) len s)
  unfolding overflow Written
  checked_written zero r n len is e = outcome_written r n len is
  checked_written (suc distance) r n len is e = absurd (true≢false (sym e))

  fetched_written : (f : Fetched) → fetches_write f ≡ true → Written (fetched_turn f code t) (fetched_turn f code s)
  unfolding is_illegal Written
  fetched_written (Fails address) h e = absurd (true≢false (sym h))
  fetched_written SpellsNothing h e = absurd (true≢false (sym h))
  fetched_written (Fetches (insn.System (system.Special SpecialName.Wsr r n)) len) h e = checked_written (window_check (insn.System (system.Special SpecialName.Wsr r n)) s) r n len h e
  fetched_written (Fetches _ len) h e = absurd (true≢false (sym h))

  pub planned_written : (executes (planned_turn code s).kind && fetches_write (fetch_at code s.control.pc)) ≡ true → planned_turn code t ≡ planned_turn code s
  unfolding planned_turn Written
  planned_written h =
      let parts = and_parts (executes (planned_turn code s).kind) (fetches_write f) h in
      ap (λ (l : ℕ). body l t) (sym (same_level s.control (slice_set s.control.special 12 v) (alike_compare s.control.special v)))
      ∙ by_tests parts.1 (nat_lt 0 (pending_of s.control)) s.control.waits parts.0
    where
      f : Fetched
      f = fetch_at code s.control.pc

      choice : Bool → Bool → ℕ → State → Planned
      choice b w l u = cond b (in_window (settled_interrupt l u.control) u) (cond w (in_window (settled_wait u.control) u) (fetched_turn f code u))

      body : ℕ → State → Planned
      body l u = choice (nat_lt 0 l) s.control.waits l u

      by_tests : fetches_write f ≡ true → (b w : Bool) → Written (choice b w (pending_of s.control) t) (choice b w (pending_of s.control) s)
      by_tests g true w e = absurd (true≢false (sym e))
      by_tests g false true e = absurd (true≢false (sym e))
      by_tests g false false e = fetched_written f g e

pub compare_is_written : CompareIsWritten
compare_is_written code s v h = planned_written code s v h
