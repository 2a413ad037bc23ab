-- What turns do to control states that are equal but for time.
use Rattle.std.proofs.Common.{◌≡◌, ◌≢◌, ℕ, ◌+◌, ◌-◌, ◌*◌, ◌%◌, ◌^◌, Bool, true, false, cond, eqb, nat_lt, not, ◌&&◌, Option, Some, None, List, slice_index, slice_set, bit_and, bit_or, refl, sym, ap, ◌∙◌, subst, ⊎_elim, arith}
use Rattle.std.proofs.lemmas.Bool.{cases_eq, eqb-true, false_from_ne_true}
use Rattle.xt_special.specs.declared.ps.Ps.{Ps}
use Rattle.xt_special.specs.declared.writes.SpecialWrite.{SpecialWrite}
use Rattle.xt_special.specs.Control.{Control, special_of, ps_word}
use Rattle.xt_special.specs.Access.{SpecialWrites, changed_by, is_ccompare, no_set, set_to, software_bits, timer_bit, value_kept, with_set, with_sets, without_bits, written_by}
use Rattle.xt_special.specs.Timers.{after_tick, ticked_special}
use Rattle.xt_special.specs.Exceptions.{after_double, after_exception, after_general, with_address}
use Rattle.xt_special.specs.Interrupts.{after_high_level, after_interrupt, current_level, pending_level, pending_of}
use Rattle.xt_special.specs.WindowExceptions.{after_window_exception}
use Rattle.xt_special.specs.Looping.{loops_back}
use Rattle.xt_rows.specs.declared.outcome.Flow.{Flow}
use Rattle.xt_rows.specs.declared.outcome.Flow.TheVariants.{Falls, Goes}
use Rattle.xt_rows.specs.declared.outcome.Effect.{Effect}
use Rattle.xt_rows.specs.Settling.{after_effect, after_flow}
use Rattle.xt_timeless.specs.Time.{timer_bits}
use Rattle.xt_timeless.specs.Alike.{AreAlike, Difference, may_differ}
use Rattle.xt_timeless.proofs.Bits.{or_same, same_level, without_same}
use Rattle.xt_timeless.proofs.Lists.{alike_put, alike_set, both_ticked}

-- a control state with another list of special registers
abbrev pub with_special : Control → List ℕ → Control
with_special c ys = record c { special = ys }

-- the second is the first but for time
pub record IsKept (gap : Difference) (c d : Control) : Type 0 where
  pub list : List ℕ
  pub alike : AreAlike gap c.special list
  pub is : d ≡ with_special c list

pub kept : {gap : Difference} → (c : Control) (ys : List ℕ) → AreAlike gap c.special ys → IsKept gap c (with_special c ys)
kept c ys a = record { list = ys; alike = a; is = refl }

-- ---- the tick

pub kept_tick : {gap : Difference} → (c d : Control) → IsKept gap c d → IsKept gap (after_tick c) (after_tick d)
kept_tick {gap} c d k = record { list = ticked_special k.list; alike = both_ticked gap c.special k.list k.alike; is = ap after_tick k.is }

-- ---- exceptions and interrupts

address_alike : {gap : Difference} → (address : Option ℕ) (xs ys : List ℕ) → AreAlike gap xs ys → AreAlike gap (with_address address xs) (with_address address ys)
address_alike None xs ys a = a
address_alike (Some x) xs ys a = alike_set xs ys 238 x a

module _ {gap : Difference} (c : Control) (ys : List ℕ) (a : AreAlike gap c.special ys) where
  pub kept_exception : (cause : ℕ) (address : Option ℕ) → IsKept gap (after_exception cause address c) (after_exception cause address (with_special c ys))
  unfolding after_exception
  kept_exception cause address = by_test c.ps.excm
    where
      d : Control
      d = with_special c ys

      entered : (epc : ℕ) → AreAlike gap (with_address address (slice_set (slice_set c.special epc c.pc) 232 cause)) (with_address address (slice_set (slice_set ys epc c.pc) 232 cause))
      entered epc = address_alike address _ _ (alike_set (slice_set c.special epc c.pc) (slice_set ys epc c.pc) 232 cause (alike_set c.special ys epc c.pc a))

      by_test : (b : Bool) → IsKept gap (cond b (after_double cause address c) (after_general cause address c)) (cond b (after_double cause address d) (after_general cause address d))
      by_test true =
          let list = with_address address (slice_set (slice_set ys 192 c.pc) 232 cause) in
          let make : ℕ → Control = λ v. record { pc = v + 0x3C0; special = list; ps = c.ps; threadptr = c.threadptr; waits = c.waits } in
          record { list = list; alike = entered 192; is = ap make (sym (a.same 231 refl)) }
      by_test false =
          let list = with_address address (slice_set (slice_set ys 177 c.pc) 232 cause) in
          let make : ℕ → Control = λ v. record { pc = v + cond c.ps.um 0x340 0x300; special = list; ps = record c.ps { excm = true }; threadptr = c.threadptr; waits = c.waits } in
          record { list = list; alike = entered 177; is = ap make (sym (a.same 231 refl)) }

  kept_high : (level : ℕ) → IsKept gap (after_high_level level c) (after_high_level level (with_special c ys))
  kept_high level =
      let list = slice_set (slice_set ys (176 + level) c.pc) (192 + level) (ps_word c.ps) in
      let make : ℕ → Control = λ v. record { pc = v + 0x100 + 0x40 * level; special = list; ps = record c.ps { intlevel = level; excm = true }; threadptr = c.threadptr; waits = c.waits } in
      record {
        list = list;
        alike = alike_set (slice_set c.special (176 + level) c.pc) (slice_set ys (176 + level) c.pc) (192 + level) (ps_word c.ps) (alike_set c.special ys (176 + level) c.pc a);
        is = ap make (sym (a.same 231 refl));
      }

  pub kept_interrupt : (level : ℕ) → IsKept gap (after_interrupt level c) (after_interrupt level (with_special c ys))
  unfolding after_interrupt
  kept_interrupt level = by_test (eqb level 1)
    where
      d : Control
      d = with_special c ys

      woken : (x y : Control) → IsKept gap x y → IsKept gap (record x { waits = false }) (record y { waits = false })
      woken x y k = record { list = k.list; alike = k.alike; is = ap (λ (z : Control). let w : Control = record z { waits = false } in w) k.is }

      by_test : (b : Bool) → IsKept gap (record (cond b (after_exception 4 None c) (after_high_level level c)) { waits = false }) (record (cond b (after_exception 4 None d) (after_high_level level d)) { waits = false })
      by_test true = woken (after_exception 4 None c) (after_exception 4 None d) (kept_exception 4 None)
      by_test false = woken (after_high_level level c) (after_high_level level d) (kept_high level)

  pub kept_window : (base vector : ℕ) → IsKept gap (after_window_exception base vector c) (after_window_exception base vector (with_special c ys))
  kept_window base vector =
      let list = slice_set ys 177 c.pc in
      let make : ℕ → Control = λ v. record { pc = v + 0x40 * vector; special = list; ps = record c.ps { owb = base; excm = true }; threadptr = c.threadptr; waits = c.waits } in
      record { list = list; alike = alike_set c.special ys 177 c.pc a; is = ap make (sym (a.same 231 refl)) }

  -- ---- effects

  kept_falls : (len : ℕ) → IsKept gap (after_flow Falls len c) (after_flow Falls len (with_special c ys))
  kept_falls len = subst (λ (t : Bool). IsKept gap (after_flow Falls len c) (choice t d)) same (by_test (test c))
    where
      d : Control
      d = with_special c ys

      next : ℕ
      next = (c.pc + len) % 2 ^ 32

      test : Control → Bool
      test x = loops_back (special_of x 1) (special_of x 2) c.ps.excm next

      choice : Bool → Control → Control
      choice t x = cond t (record x { pc = special_of x 0; special = slice_set x.special 2 (special_of x 2 - 1) }) (record x { pc = next })

      same : test c ≡ test d
      same = λ i. loops_back (a.same 1 refl i) (a.same 2 refl i) c.ps.excm next

      by_test : (t : Bool) → IsKept gap (choice t c) (choice t d)
      by_test true =
          let list = slice_set ys 2 (slice_index ys 2 - 1) in
          let make : ℕ → Control = λ v. record { pc = v; special = list; ps = c.ps; threadptr = c.threadptr; waits = c.waits } in
          record {
            list = list;
            alike = alike_put c.special ys 2 (slice_index c.special 2 - 1) (slice_index ys 2 - 1) (λ h. ap (λ (v : ℕ). v - 1) (a.same 2 refl)) (λ e. absurd (omega arith)) a;
            is = ap make (sym (a.same 0 refl));
          }
      by_test false = record { list = ys; alike = a; is = refl }

  pub kept_flow : (flow : Flow) (len : ℕ) → IsKept gap (after_flow flow len c) (after_flow flow len (with_special c ys))
  kept_flow Falls len = kept_falls len
  kept_flow (Goes target) len = record { list = ys; alike = a; is = refl }

-- what an effect writes may differ by time
pub kept_effect : {gap : Difference} → (e : Effect) (sets : SpecialWrites) (len : ℕ) (c : Control) (ys : List ℕ) → AreAlike gap (with_sets e.sets c.special) (with_sets sets ys) → IsKept gap (after_effect e len c) (after_effect (record e { sets = sets }) len (with_special c ys))
unfolding after_effect
kept_effect e sets len c ys a =
    kept_flow (record { pc = c.pc; special = with_sets e.sets c.special; ps = e.ps; threadptr = e.threadptr; waits = e.waits }) (with_sets sets ys) a e.flow len

one_alike : {gap : Difference} → (w : Option SpecialWrite) (xs ys : List ℕ) → AreAlike gap xs ys → AreAlike gap (with_set w xs) (with_set w ys)
one_alike None xs ys a = a
one_alike (Some w) xs ys a = alike_set xs ys w.number w.value a

pub sets_alike : {gap : Difference} → (sets : SpecialWrites) (xs ys : List ℕ) → AreAlike gap xs ys → AreAlike gap (with_sets sets xs) (with_sets sets ys)
sets_alike sets xs ys a =
    one_alike sets.2 (with_set sets.1 (with_set sets.0 xs)) (with_set sets.1 (with_set sets.0 ys)) (one_alike sets.1 (with_set sets.0 xs) (with_set sets.0 ys) (one_alike sets.0 xs ys a))

-- ---- writes of special registers, where INTERRUPT differs in the bits of timers

other_value : (n x v w : ℕ) → eqb n 226 ≡ false → eqb n 227 ≡ false → value_kept n x v ≡ value_kept n x w
unfolding value_kept
other_value n x v w p q = rw (p, q) refl

put_interrupt : {gap : Difference} → (x v w : ℕ) (xs ys : List ℕ) → (may_differ gap 226 ≡ false → v ≡ w) → without_bits v timer_bits ≡ without_bits w timer_bits → AreAlike gap xs ys → AreAlike gap (slice_set xs 226 (value_kept 226 x v)) (slice_set ys 226 (value_kept 226 x w))
unfolding value_kept
put_interrupt x v w xs ys f e a = alike_put xs ys 226 (bit_or v (bit_and x software_bits)) (bit_or w (bit_and x software_bits)) (λ h. ap (λ (u : ℕ). bit_or u (bit_and x software_bits)) (f h)) (λ h. or_same v w (bit_and x software_bits) e) a

put_clear : {gap : Difference} → (x v w : ℕ) (xs ys : List ℕ) → (may_differ gap 226 ≡ false → v ≡ w) → without_bits v timer_bits ≡ without_bits w timer_bits → AreAlike gap xs ys → AreAlike gap (slice_set xs 226 (value_kept 227 x v)) (slice_set ys 226 (value_kept 227 x w))
unfolding value_kept
put_clear x v w xs ys f e a = alike_put xs ys 226 (without_bits v (bit_and x software_bits)) (without_bits w (bit_and x software_bits)) (λ h. ap (λ (u : ℕ). without_bits u (bit_and x software_bits)) (f h)) (λ h. without_same v w (bit_and x software_bits) e) a

put_kept : {gap : Difference} → (n x v w : ℕ) (xs ys : List ℕ) → (may_differ gap 226 ≡ false → v ≡ w) → without_bits v timer_bits ≡ without_bits w timer_bits → AreAlike gap xs ys → AreAlike gap (slice_set xs (changed_by n) (value_kept n x v)) (slice_set ys (changed_by n) (value_kept n x w))
put_kept {gap} n x v w xs ys f e a =
    ⊎_elim (λ (is : n ≡ 226). subst P (sym is) (put_interrupt x v w xs ys f e a))
    (λ (not226 : n ≢ 226). ⊎_elim (λ (is : n ≡ 227). subst P (sym is) (put_clear x v w xs ys f e a)) (λ (not227 : n ≢ 227). other not226 not227) (cases_eq n 227)) (cases_eq n 226)
  where
    P : ℕ → Type 0
    P k = AreAlike gap (slice_set xs (changed_by k) (value_kept k x v)) (slice_set ys (changed_by k) (value_kept k x w))

    other : n ≢ 226 → n ≢ 227 → P n
    other p q =
        let no6 = false_from_ne_true (eqb n 226) (λ t. p (eqb-true n 226 t)) in
        let no7 = false_from_ne_true (eqb n 227) (λ t. q (eqb-true n 227 t)) in
        let same = other_value n x v w no6 no7 in
        alike_put xs ys (changed_by n) (value_kept n x v) (value_kept n x w) (λ h. same) (λ h. ap (λ (k : ℕ). without_bits k timer_bits) same) a

pub written_alike : {gap : Difference} → (n x v w : ℕ) (xs ys : List ℕ) → (may_differ gap 226 ≡ false → v ≡ w) → without_bits v timer_bits ≡ without_bits w timer_bits → AreAlike gap xs ys → AreAlike gap (with_sets (written_by n x v) xs) (with_sets (written_by n x w) ys)
written_alike {gap} n x v w xs ys f e a = by_tests (eqb n 230) (is_ccompare n)
  where
    sets : Bool → Bool → ℕ → SpecialWrites
    sets p q u = cond p (no_set, no_set, no_set) (cond q (set_to n x, set_to 226 (without_bits u (timer_bit n)), no_set) (set_to (changed_by n) (value_kept n x u), no_set, no_set))

    by_tests : (p q : Bool) → AreAlike gap (with_sets (sets p q v) xs) (with_sets (sets p q w) ys)
    by_tests true q = a
    by_tests false true =
        alike_put (slice_set xs n x) (slice_set ys n x) 226 (without_bits v (timer_bit n)) (without_bits w (timer_bit n)) (λ h. ap (λ (u : ℕ). without_bits u (timer_bit n)) (f h)) (λ h. without_same v w (timer_bit n) e) (alike_set xs ys n x a)
    by_tests false false = put_kept n x v w xs ys f e a

-- ---- the interrupt that is taken

same_pending : (v w e : ℕ) (ps : Ps) → without_bits v timer_bits ≡ without_bits w timer_bits → bit_and e timer_bits ≡ 0 → pending_level v e ps ≡ pending_level w e ps
unfolding pending_level
same_pending v w e ps same none = λ i. choice (five i) (three i) (one i)
  where
    five : bit_and (bit_and v e) (2 ^ 16) ≡ bit_and (bit_and w e) (2 ^ 16)
    five = same_level v w e (2 ^ 16) 0 same none refl refl

    three : bit_and (bit_and v e) (2 ^ 15 + 2 ^ 29) ≡ bit_and (bit_and w e) (2 ^ 15 + 2 ^ 29)
    three = same_level v w e (2 ^ 15) (2 ^ 29) same none refl refl

    one : bit_and (bit_and v e) (2 ^ 6 + 2 ^ 7) ≡ bit_and (bit_and w e) (2 ^ 6 + 2 ^ 7)
    one = same_level v w e (2 ^ 6) (2 ^ 7) same none refl refl

    choice : ℕ → ℕ → ℕ → ℕ
    choice x y z =
        cond (not (eqb x 0) && nat_lt (current_level ps) 5) 5
        (cond (not (eqb y 0) && nat_lt (current_level ps) 3) 3 (cond (not (eqb z 0) && nat_lt (current_level ps) 1) 1 0))

pub kept_pending : {gap : Difference} → (c : Control) (ys : List ℕ) → AreAlike gap c.special ys → bit_and (special_of c 228) timer_bits ≡ 0 → pending_of c ≡ pending_of (with_special c ys)
kept_pending c ys a none =
    same_pending (slice_index c.special 226) (slice_index ys 226) (slice_index c.special 228) c.ps a.interrupt none
    ∙ ap (λ (e : ℕ). pending_level (slice_index ys 226) e c.ps) (a.same 228 refl)
