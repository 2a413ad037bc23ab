-- What both machines do to PC and the special registers keeps them even.
use Rattle.std.proofs.Common.{◌≡◌, ℕ, ◌+◌, ◌-◌, ◌%◌, ◌^◌, ◌<◌, ◌≢◌, ◌⊎◌, inl, inr, Bool, true, false, ◌||◌, ◌&&◌, not, eqb, List, Option, Some, None, sym, ◌∙◌, refl, arith, ⊎_elim, subst, length, get_or, cond, bit_or}
use Rattle.std.proofs.Math.ListN.{set}
use Rattle.std.proofs.lemmas.Bool.{both_ways, cases_Bool, cases_eq, cases_lt, true≢false, and_cases, and_from, and_left, and_parts, and_right, eq-eqb, eqb-true, false_from_ne_true, ne_eqb, not-false, not-true, not_from_false, not_from_true, or_cases, or_from, or_left, or_parts, or_right}
use Rattle.std.proofs.lemmas.List.{get_or-set_same, get_or-set_other, length-set, get_or_past}
use Rattle.xt_special.specs.Numbers as number
use Rattle.xt_special.specs.Control.{Control, ps_word}
use Rattle.xt_special.specs.Timers.{with_timer, ticked_special, after_tick}
use Rattle.xt_special.specs.Exceptions.{with_address, after_general, after_double, after_exception}
use Rattle.xt_special.specs.Interrupts.{pending_of, after_high_level, after_interrupt, interrupt_cause}
use Rattle.xt_special.specs.Looping.{loops_back}
use Rattle.xt_special.specs.declared.writes.SpecialWrite.{SpecialWrite}
use Rattle.xt_rows.specs.declared.outcome.Flow.{Flow}
use Rattle.xt_rows.specs.declared.outcome.Flow.TheVariants.{Falls, Goes}
use Rattle.xt_rows.specs.declared.outcome.Effect.{Effect}
use Rattle.xt_special.specs.Access.{SpecialWrites, with_set, with_sets}
use Rattle.xt_rows.specs.Settling.{after_flow, after_effect}
use Rattle.xt_frames.specs.Breaches.{lost_of}
use Rattle.xt_simulation.specs.Relation.{Same, Even, can_be_lost}

-- ---- lists
-- an entry that was cleared
pub cleared : {X : Type 0} (xs : List X) (n : ℕ) (d : X) → get_or (set xs n d) n d ≡ d
cleared xs n d = ⊎_elim
    (λ within. get_or-set_same xs n d d within)
    (λ past. get_or_past (set xs n d) n d (let l = length-set xs n d in omega arith))
    (cases_lt n (length xs))

pub set_even : (xs ys : List ℕ) (k v j : ℕ) → length xs ≡ length ys → (j ≢ k → get_or xs j 0 ≡ get_or ys j 0) → get_or (set xs k v) j 0 ≡ get_or (set ys k v) j 0
set_even xs ys k v j len rest =
    ⊎_elim
    (λ same. ⊎_elim
    (λ within. let other : k < length ys = omega arith in rw same (get_or-set_same xs k v 0 within ∙ sym (get_or-set_same ys k v 0 other)))
    (λ past.
    let a = get_or_past (set xs k v) j 0 (let l = length-set xs k v in omega arith) in
    let b = get_or_past (set ys k v) j 0 (let l = length-set ys k v in omega arith) in
    a ∙ sym b)
    (cases_lt k (length xs)))
    (λ other. get_or-set_other xs k j v 0 other ∙ (rest other ∙ sym (get_or-set_other ys k j v 0 other)))
    (cases_eq j k)

pub same_set : {lost : ℕ → Bool} {xs ys : List ℕ} → Same lost xs ys → (k v : ℕ) → Same lost (set xs k v) (set ys k v)
same_set {xs = xs} {ys = ys} s k v = record {
  size = length-set xs k v ∙ (s.size ∙ sym (length-set ys k v));
  only = s.only;
  at = λ j known. set_even xs ys k v j s.size (λ other. s.at j known);
}

-- nothing is lost where EPC1 has what was last written
none_lost : (k : ℕ) → lost_of true k ≡ false
none_lost k = and_right (eqb k 177) false refl

-- EPC1 is a register that can be lost
pub lost_epc1 : (fresh : Bool) (k : ℕ) → lost_of fresh k ≡ true → can_be_lost k ≡ true
lost_epc1 fresh k h = or_left (eqb k 177) _ (and_parts (eqb k 177) (not fresh) h).0

-- a register that cannot be lost
pub not_lost : {lost : ℕ → Bool} {xs ys : List ℕ} → Same lost xs ys → (k : ℕ) → can_be_lost k ≡ false → lost k ≡ false
not_lost {lost = lost} s k sure = false_from_ne_true (lost k) (λ h. both_ways (can_be_lost k) sure (s.only k h))

pub same_at : {lost : ℕ → Bool} {xs ys : List ℕ} → Same lost xs ys → (k : ℕ) → can_be_lost k ≡ false → get_or xs k 0 ≡ get_or ys k 0
same_at s k sure = s.at k (not_lost s k sure)

-- those that are lost, but for the register n
abbrev pub except : ℕ → (ℕ → Bool) → ℕ → Bool
except n lost k = lost k && not (eqb k n)

except_other : (lost : ℕ → Bool) (n k : ℕ) → (k ≢ n) → except n lost k ≡ false → lost k ≡ false
except_other lost n k other h = ⊎_elim (λ a. a) (λ b. absurd (other (eqb-true k n (not-false (eqb k n) b)))) (and_cases (lost k) (not (eqb k n)) h)

-- both machines give the register n one value
pub same_given : {lost : ℕ → Bool} {xs ys : List ℕ} → Same lost xs ys → (n v : ℕ) → Same (except n lost) (set xs n v) (set ys n v)
same_given {lost = lost} {xs = xs} {ys = ys} s n v = record {
  size = length-set xs n v ∙ (s.size ∙ sym (length-set ys n v));
  only = λ k h. s.only k (and_parts (lost k) (not (eqb k n)) h).0;
  at = λ j known. set_even xs ys n v j s.size (λ other. s.at j (except_other lost n j other known));
}

-- where fewer are lost, they are equal also where more are
pub same_now : {lost now : ℕ → Bool} {xs ys : List ℕ} → ((k : ℕ) → now k ≡ true → can_be_lost k ≡ true) → ((k : ℕ) → now k ≡ false → lost k ≡ false) → Same lost xs ys → Same now xs ys
same_now only fewer s = record { size = s.size; only = only; at = λ k known. s.at k (fewer k known) }

same_one : {lost : ℕ → Bool} (w : Option SpecialWrite) {xs ys : List ℕ} → Same lost xs ys → Same lost (with_set w xs) (with_set w ys)
same_one None s = s
same_one (Some w) s = same_set s w.number w.value

pub same_sets : {lost : ℕ → Bool} (ws : SpecialWrites) {xs ys : List ℕ} → Same lost xs ys → Same lost (with_sets ws xs) (with_sets ws ys)
same_sets ws s = same_one ws.2 (same_one ws.1 (same_one ws.0 s))

-- ---- flow
same_loops : {lost : ℕ → Bool} {xs ys : List ℕ} → Same lost xs ys → (next : ℕ) (excm : Bool) → loops_back (get_or xs 1 0) (get_or xs 2 0) excm next ≡ loops_back (get_or ys 1 0) (get_or ys 2 0) excm next
same_loops s next excm = let a = same_at s 1 refl in let b = same_at s 2 refl in rw (a, b) refl

even_if : {lost : ℕ → Bool} (p q : Bool) (a b c d : Control) → p ≡ q → Even lost a c → Even lost b d → Even lost (cond p a b) (cond q c d)
even_if true true a b c d e h k = h
even_if true false a b c d e h k = absurd (true≢false e)
even_if false true a b c d e h k = absurd (true≢false (sym e))
even_if false false a b c d e h k = k

pub even_flow : {lost : ℕ → Bool} (flow : Flow) (len : ℕ) (c d : Control) → Even lost c d → Even lost (after_flow flow len c) (after_flow flow len d)
even_flow (Goes target) len c d e = record { pc = refl; ps = e.ps; threadptr = e.threadptr; waits = e.waits; special = e.special }
even_flow {lost = lost} Falls len c d e =
    let n : (c.pc + len) % 2 ^ 32 ≡ (d.pc + len) % 2 ^ 32 = rw e.pc refl in
    let s0 = same_at e.special 0 refl in
    let s2 = same_at e.special 2 refl in
    let t : get_or c.special 2 0 - 1 ≡ get_or d.special 2 0 - 1 = rw s2 refl in
    even_if
    (loops_back (get_or c.special 1 0) (get_or c.special 2 0) c.ps.excm ((c.pc + len) % 2 ^ 32))
    (loops_back (get_or d.special 1 0) (get_or d.special 2 0) d.ps.excm ((d.pc + len) % 2 ^ 32))
    (record c { pc = get_or c.special 0 0; special = set c.special 2 (get_or c.special 2 0 - 1) })
    (record c { pc = (c.pc + len) % 2 ^ 32 })
    (record d { pc = get_or d.special 0 0; special = set d.special 2 (get_or d.special 2 0 - 1) })
    (record d { pc = (d.pc + len) % 2 ^ 32 })
    (rw (e.pc, e.ps) (same_loops e.special ((d.pc + len) % 2 ^ 32) d.ps.excm))
    (record { pc = s0; ps = e.ps; threadptr = e.threadptr; waits = e.waits; special = rw t (same_set e.special 2 (get_or d.special 2 0 - 1)) })
    (record { pc = n; ps = e.ps; threadptr = e.threadptr; waits = e.waits; special = e.special })

pub effect_even : {lost : ℕ → Bool} (e : Effect) (len : ℕ) (c d : Control) → c.pc ≡ d.pc → Same lost (with_sets e.sets c.special) (with_sets e.sets d.special) → Even lost (after_effect e len c) (after_effect e len d)
unfolding after_effect
effect_even e len c d pc special =
    even_flow e.flow len
    (record { pc = c.pc; special = with_sets e.sets c.special; ps = e.ps; threadptr = e.threadptr; waits = e.waits })
    (record { pc = d.pc; special = with_sets e.sets d.special; ps = e.ps; threadptr = e.threadptr; waits = e.waits })
    (record { pc = pc; ps = refl; threadptr = refl; waits = refl; special = special })

pub even_effect : {lost : ℕ → Bool} (e : Effect) (len : ℕ) (c d : Control) → Even lost c d → Even lost (after_effect e len c) (after_effect e len d)
even_effect e len c d h = effect_even e len c d h.pc (same_sets e.sets h.special)

-- ---- the tick
same_if : {lost : ℕ → Bool} (p q : Bool) (a b c d : List ℕ) → p ≡ q → Same lost a c → Same lost b d → Same lost (cond p a b) (cond q c d)
same_if true true a b c d e h k = h
same_if true false a b c d e h k = absurd (true≢false e)
same_if false true a b c d e h k = absurd (true≢false (sym e))
same_if false false a b c d e h k = k

same_timer : {lost : ℕ → Bool} (xs ys : List ℕ) (timer mask : ℕ) → can_be_lost (number.ccompare timer) ≡ false → Same lost xs ys → Same lost (with_timer timer mask xs) (with_timer timer mask ys)
same_timer xs ys timer mask sure s =
    let a = same_at s (number.ccompare timer) sure in
    let b = same_at s 234 refl in
    let i = same_at s 226 refl in
    same_if (eqb (get_or xs (number.ccompare timer) 0) (get_or xs 234 0)) (eqb (get_or ys (number.ccompare timer) 0) (get_or ys 234 0))
    (set xs 226 (bit_or (get_or xs 226 0) mask)) xs (set ys 226 (bit_or (get_or ys 226 0) mask)) ys
    (rw (a, b) refl)
    (rw i (same_set s 226 (bit_or (get_or ys 226 0) mask)))
    s

abbrev counted : List ℕ → List ℕ
counted xs = set xs 234 ((get_or xs 234 0 + 1) % 2 ^ 32)

same_counted : {lost : ℕ → Bool} (xs ys : List ℕ) → Same lost xs ys → Same lost (counted xs) (counted ys)
same_counted xs ys s = let b = same_at s 234 refl in rw b (same_set s 234 ((get_or ys 234 0 + 1) % 2 ^ 32))

pub same_ticked : {lost : ℕ → Bool} (xs ys : List ℕ) → Same lost xs ys → Same lost (ticked_special xs) (ticked_special ys)
unfolding ticked_special
same_ticked xs ys s =
    same_timer (with_timer 1 (2 ^ 15) (with_timer 0 (2 ^ 6) (counted xs))) (with_timer 1 (2 ^ 15) (with_timer 0 (2 ^ 6) (counted ys))) 2 (2 ^ 16) refl
    (same_timer (with_timer 0 (2 ^ 6) (counted xs)) (with_timer 0 (2 ^ 6) (counted ys)) 1 (2 ^ 15) refl
    (same_timer (counted xs) (counted ys) 0 (2 ^ 6) refl (same_counted xs ys s)))

pub even_ticked : {lost : ℕ → Bool} (c d : Control) → Even lost c d → Even lost (after_tick c) (after_tick d)
even_ticked c d e = record { pc = e.pc; ps = e.ps; threadptr = e.threadptr; waits = e.waits; special = same_ticked c.special d.special e.special }

-- ---- exceptions and interrupts
same_address : {lost : ℕ → Bool} (addr : Option ℕ) (xs ys : List ℕ) → Same lost xs ys → Same lost (with_address addr xs) (with_address addr ys)
same_address None xs ys s = s
same_address (Some a) xs ys s = same_set s 238 a

even_double : {lost : ℕ → Bool} (cause : ℕ) (addr : Option ℕ) (c d : Control) → Even lost c d → Even lost (after_double cause addr c) (after_double cause addr d)
even_double cause addr c d e =
    let v = same_at e.special 231 refl in
    record { pc = (rw v refl); ps = e.ps; threadptr = e.threadptr; waits = e.waits; special = rw e.pc (same_address addr _ _ (same_set (same_set e.special 192 d.pc) 232 cause)) }

even_general : {lost : ℕ → Bool} (cause : ℕ) (addr : Option ℕ) (c d : Control) → Even lost c d → Even (except 177 lost) (after_general cause addr c) (after_general cause addr d)
even_general cause addr c d e =
    let v = same_at e.special 231 refl in
    record { pc = (rw (v, e.ps) refl); ps = (rw e.ps refl); threadptr = e.threadptr; waits = e.waits; special = rw e.pc (same_address addr _ _ (same_set (same_given e.special 177 d.pc) 232 cause)) }

pub even_now : {lost now : ℕ → Bool} {c d : Control} → ((k : ℕ) → now k ≡ true → can_be_lost k ≡ true) → ((k : ℕ) → now k ≡ false → lost k ≡ false) → Even lost c d → Even now c d
even_now only fewer e = record { pc = e.pc; ps = e.ps; threadptr = e.threadptr; waits = e.waits; special = same_now only fewer e.special }

-- the register n is equal, but need not be
pub even_less : {lost : ℕ → Bool} (n : ℕ) {c d : Control} → ((k : ℕ) → lost k ≡ true → can_be_lost k ≡ true) → Even (except n lost) c d → Even lost c d
even_less {lost = lost} n only e = even_now only (λ k h. and_left (lost k) (not (eqb k n)) h) e

pub at_given : (lost : ℕ → Bool) (n : ℕ) {c d : Control} → Even (except n lost) c d → get_or c.special n 0 ≡ get_or d.special n 0
at_given lost n e = e.special.at n (and_right (lost n) (not (eqb n n)) (not_from_true (eqb n n) (eq-eqb n n refl)))

pub even_raise : {lost : ℕ → Bool} (cause : ℕ) (addr : Option ℕ) (c d : Control) → Even lost c d → Even lost (after_exception cause addr c) (after_exception cause addr d)
unfolding after_exception
even_raise cause addr c d e =
    even_if c.ps.excm d.ps.excm (after_double cause addr c) (after_general cause addr c) (after_double cause addr d) (after_general cause addr d)
    (rw e.ps refl) (even_double cause addr c d e) (even_less 177 e.special.only (even_general cause addr c d e))

pub even_raise_epc1 : {lost : ℕ → Bool} (cause : ℕ) (addr : Option ℕ) (c d : Control) → c.ps.excm ≡ false → Even lost c d → Even (except 177 lost) (after_exception cause addr c) (after_exception cause addr d)
unfolding after_exception
even_raise_epc1 cause addr c d low e =
    let other : d.ps.excm ≡ false = rw (← e.ps) low in
    rw (low, other) (even_general cause addr c d e)

abbrev awake : Control → Control
awake c = record c { waits = false }

pub even_awake : {lost : ℕ → Bool} (c d : Control) → Even lost c d → Even lost (awake c) (awake d)
even_awake c d e = record { pc = e.pc; ps = e.ps; threadptr = e.threadptr; waits = refl; special = e.special }

even_level : {lost : ℕ → Bool} (level : ℕ) (c d : Control) → Even lost c d → Even (except (192 + level) (except (176 + level) lost)) (after_high_level level c) (after_high_level level d)
even_level level c d e =
    let v = same_at e.special 231 refl in
    record { pc = (rw v refl); ps = (rw e.ps refl); threadptr = e.threadptr; waits = e.waits; special = rw (e.pc, e.ps) (same_given (same_given e.special (176 + level) d.pc) (192 + level) (ps_word d.ps)) }

even_level_less : {lost : ℕ → Bool} (level : ℕ) {c d : Control} → ((k : ℕ) → lost k ≡ true → can_be_lost k ≡ true) → Even (except (192 + level) (except (176 + level) lost)) c d → Even lost c d
even_level_less {lost = lost} level only e = even_less (176 + level) only (even_less (192 + level) (λ k h. only k (and_parts (lost k) (not (eqb k (176 + level))) h).0) e)

pub even_interrupt : {lost : ℕ → Bool} (level : ℕ) (c d : Control) → Even lost c d → Even lost (after_interrupt level c) (after_interrupt level d)
unfolding after_interrupt
even_interrupt level c d e =
    even_awake (cond (eqb level 1) (after_exception interrupt_cause None c) (after_high_level level c)) (cond (eqb level 1) (after_exception interrupt_cause None d) (after_high_level level d))
    (even_if (eqb level 1) (eqb level 1) (after_exception interrupt_cause None c) (after_high_level level c) (after_exception interrupt_cause None d) (after_high_level level d)
    refl (even_raise interrupt_cause None c d e) (even_level_less level e.special.only (even_level level c d e)))

pub even_interrupt_epc1 : {lost : ℕ → Bool} (level : ℕ) (c d : Control) → (eqb level 1 && not c.ps.excm) ≡ true → Even lost c d → Even (except 177 lost) (after_interrupt level c) (after_interrupt level d)
unfolding after_interrupt
even_interrupt_epc1 level c d both e =
    let p = and_parts (eqb level 1) (not c.ps.excm) both in
    let one = p.0 in
    rw one (even_awake _ _ (even_raise_epc1 interrupt_cause None c d (not-true _ p.1) e))

-- an interrupt above level 1 gives EPC and EPS of its level one value
pub even_interrupt_high : {lost : ℕ → Bool} (level : ℕ) (c d : Control) → eqb level 1 ≡ false → Even lost c d → Even (except (192 + level) (except (176 + level) lost)) (after_interrupt level c) (after_interrupt level d)
unfolding after_interrupt
even_interrupt_high level c d high e = rw high (even_awake (after_high_level level c) (after_high_level level d) (even_level level c d e))

pub same_pending : {lost : ℕ → Bool} (c d : Control) → Even lost c d → pending_of c ≡ pending_of d
same_pending c d e =
    let a = same_at e.special 226 refl in
    let b = same_at e.special 228 refl in
    rw (a, b, e.ps) refl

-- ---- what is lost after a step
-- EPC1, where it is lost, and the registers that the list names
abbrev pub lost_in : Bool → List Bool → ℕ → Bool
lost_in fresh unset k = lost_of fresh k || get_or unset k false

-- a register that has a number again is equal
abbrev pub Numbers : List Bool → List Bool → Control → Control → Type 0
Numbers old new c d = (k : ℕ) → (get_or new k false ≡ get_or old k false) ⊎ ((get_or new k false ≡ false) × (get_or c.special k 0 ≡ get_or d.special k 0))

pub same_numbers : (unset : List Bool) (c d : Control) → Numbers unset unset c d
same_numbers unset c d k = inl refl

still_lost : (fresh : Bool) (old : List Bool) (now : Bool) (new : List Bool) (c d : Control) → Even (lost_in fresh old) c d → Numbers old new c d → (k : ℕ) → lost_in now new k ≡ true → can_be_lost k ≡ true
still_lost fresh old now new c d e n k h = ⊎_elim
    (λ a. lost_epc1 now k a)
    (λ b. ⊎_elim
    (λ q. e.special.only k (or_right (lost_of fresh k) (get_or old k false) (sym q ∙ b)))
    (λ q. absurd (both_ways (get_or new k false) q.0 b))
    (n k))
    (or_cases (lost_of now k) (get_or new k false) h)

-- EPC1 is fresh as before, or equal
epc1_now : (fresh written kept : Bool) (old : List Bool) (c d : Control) → Even (lost_in fresh old) c d → (written ≡ true → get_or c.special 177 0 ≡ get_or d.special 177 0) → (k : ℕ) → lost_of (written || (fresh && kept)) k ≡ false → get_or old k false ≡ false → get_or c.special k 0 ≡ get_or d.special k 0
epc1_now fresh true kept old c d e w k h q = ⊎_elim
    (λ same. rw same (w refl))
    (λ other. e.special.at k (or_from (lost_of fresh k) (get_or old k false) (and_left (eqb k 177) (not fresh) (ne_eqb k 177 other)) q))
    (cases_eq k 177)
epc1_now true false kept old c d e w k h q = e.special.at k (or_from (lost_of true k) (get_or old k false) (none_lost k) q)
epc1_now false false kept old c d e w k h q = e.special.at k (or_from (lost_of false k) (get_or old k false) h q)

pub even_after : (fresh written kept : Bool) (old new : List Bool) (c d : Control) → Even (lost_in fresh old) c d → (written ≡ true → get_or c.special 177 0 ≡ get_or d.special 177 0) → Numbers old new c d → Even (lost_in (written || (fresh && kept)) new) c d
even_after fresh written kept old new c d e w n = record {
  pc = e.pc;
  ps = e.ps;
  threadptr = e.threadptr;
  waits = e.waits;
  special = record {
    size = e.special.size;
    only = still_lost fresh old (written || (fresh && kept)) new c d e n;
    at = λ k known.
        let p = or_parts (lost_of (written || (fresh && kept)) k) (get_or new k false) known in
        ⊎_elim
        (λ q. epc1_now fresh written kept old c d e w k p.0 (sym q ∙ p.1))
        (λ q. q.1)
        (n k);
  };
}

-- ---- the numbers that an interrupt gives
-- one register is set, in both machines
pub numbers_set : (old mid : List Bool) (n : ℕ) (c d : Control) → get_or c.special n 0 ≡ get_or d.special n 0 → Numbers old mid c d → Numbers old (set mid n false) c d
numbers_set old mid n c d given rest k = ⊎_elim
    (λ same. inr (rw same (cleared mid n false), rw same given))
    (λ other.
    let q : get_or (set mid n false) k false ≡ get_or mid k false = get_or-set_other mid n k false false other in
    ⊎_elim (λ r. inl (q ∙ r)) (λ r. inr (q ∙ r.0, r.1)) (rest k))
    (cases_eq k n)

-- of level 1 an interrupt is taken outside exception mode alone
pub interrupt_numbers : {lost : ℕ → Bool} (level : ℕ) (old : List Bool) (c d : Control) → (eqb level 1 ≡ true → c.ps.excm ≡ false) → Even lost c d
    → Numbers old (set (set old (176 + level) false) (192 + level) false) (after_tick (after_interrupt level c)) (after_tick (after_interrupt level d))
interrupt_numbers {lost = lost} level old c d low e =
    let x : Control = after_tick (after_interrupt level c) in
    let y : Control = after_tick (after_interrupt level d) in
    let both : (get_or x.special (176 + level) 0 ≡ get_or y.special (176 + level) 0) × (get_or x.special (192 + level) 0 ≡ get_or y.special (192 + level) 0) = ⊎_elim
    (λ one.
    let is : level ≡ 1 = eqb-true level 1 one in
    let a = at_given lost 177 (even_ticked _ _ (even_interrupt_epc1 level c d (and_from _ _ one (not_from_false _ (low one))) e)) in
    let b = same_at (even_ticked _ _ (even_interrupt level c d e)).special 193 refl in
    (subst (λ n. get_or x.special (176 + n) 0 ≡ get_or y.special (176 + n) 0) (sym is) a, subst (λ n. get_or x.special (192 + n) 0 ≡ get_or y.special (192 + n) 0) (sym is) b))
    (λ high.
    let h = even_ticked _ _ (even_interrupt_high level c d high e) in
    (at_given lost (176 + level) (even_less (192 + level) (λ k z. e.special.only k (and_parts _ _ z).0) h), at_given (except (176 + level) lost) (192 + level) h))
    (cases_Bool (eqb level 1)) in
    numbers_set old (set old (176 + level) false) (192 + level) x y both.1 (numbers_set old old (176 + level) x y both.0 (same_numbers old x y))
