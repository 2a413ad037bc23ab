-- All bits are known of the bytes that were stored.
use Rattle.std.proofs.Common.{◌≡◌, ℕ, zero, suc, ◌+◌, ◌-◌, ◌*◌, ◌^◌, ◌<◌, ◌≤◌, Bool, true, false, not, eqb, leb, ltb, ◌&&◌, ◌||◌, Option, Some, None, refl, sym, ap, ◌∙◌, ⊎_elim, arith, subst}
use Rattle.std.specs.Prelude.{slice_get}
use Rattle.std.proofs.lemmas.Bool.{and_from, and_left, and_parts, and_right, both_ways, cases_Bool, cases_lt, cond-false, cond_both, eq-eqb, false_from_ne_true, le-leb, lt-ltb, not-true, not_from_true, or_cases, or_from, or_parts, or_right}
use Rattle.xt_map.specs.declared.access.Access.{Access}
use Rattle.xt_map.specs.Regions.{is_memory, region_of}
use Rattle.xt_map.specs.Touching.{is_load, is_store, touches}
use Rattle.xt_trace.specs.declared.record.StepRecord.{StepRecord}
use Rattle.xt_frames.specs.Breaches.{some_byte, stores_at}
use Rattle.xt_frames.specs.FirstBreach.{Course, IsJudgedTurn, LeavesByte, Turn, is_judged, phase_before}
use Rattle.xt_uses.specs.declared.discipline.Discipline.{Discipline}
use Rattle.xt_uses.specs.Words.{all_bits, complement}
use Rattle.xt_uses.specs.UseState.{forgets, is_strict_in, opens_unknown, rises_over, stack_pointer}
use Rattle.xt_uses.specs.UseStep.{reply_mask, unknown_bits}
use Rattle.xt_uses.specs.UseBreaches.{is_swap, swaps_unknown}
use Rattle.xt_uses.specs.FirstUse.{HasLeft, History, IsHistory, IsLive, IsMask, IsStored, Opens, gone_at, live_at, opening_mask, stored_byte, use_at}
use Rattle.xt_uses.specs.UseLaws.{IsOrdinary}
use Rattle.xt_uses.proofs.WholeBytes.{stored_whole}
use Rattle.xt_simulation.specs.Knowing.{Knows}
use Rattle.xt_simulation.specs.WrittenFirst.{AreStored, frame_along, is_gone, is_passed, is_saved, is_stored, opens_below, stored_before}
use Rattle.xt_simulation.proofs.Spared.{live_known}

-- ---- bytes that are read
module _ (stored : ℕ → Bool) (bytes : ℕ → ℕ) (told : (a : ℕ) → stored a ≡ true → bytes a ≡ 255) where
  abbrev Covers : ℕ → ℕ → Type 0
  Covers addr n = (a : ℕ) → addr ≤ a → a < addr + n → stored a ≡ true

  bits_known : (n addr : ℕ) → Covers addr n → unknown_bits bytes addr n ≡ 0
  bits_known zero addr h = refl
  bits_known (suc n) addr h =
      let here = told addr (h addr (omega arith) (omega arith)) in
      (λ i. (255 - here i) + 2 ^ 8 * bits_known n (addr + 1) (λ a l u. h a (omega (arith, l)) (omega (arith, u))) i)

  none_differs : (n addr : ℕ) → Covers addr n → some_byte (λ a. not (eqb (bytes a) 255)) addr n ≡ false
  none_differs zero addr h = refl
  none_differs (suc n) addr h =
      let here = told addr (h addr (omega arith) (omega arith)) in
      or_from (not (eqb (bytes addr) 255)) _ (not_from_true _ (eq-eqb (bytes addr) 255 here)) (none_differs n (addr + 1) (λ a l u. h a (omega (arith, l)) (omega (arith, u))))

  covered : (x : Access) → AreStored stored (Some x) → is_store x.kind ≡ false → Covers x.addr x.size
  covered x h n a l u = h n a (and_from (leb x.addr a) (ltb a (x.addr + x.size)) (le-leb x.addr a l) (lt-ltb a (x.addr + x.size) u))

  pub reply_known : (o : Option Access) → AreStored stored o → reply_mask bytes o ≡ all_bits
  reply_known None h = refl
  reply_known (Some x) h = cond_both
      (is_memory (region_of x.addr) && not (is_store x.kind))
      (complement (unknown_bits bytes x.addr x.size))
      all_bits
      (λ n. n ≡ all_bits)
      (λ reads. ap complement (bits_known x.size x.addr (covered x h (not-true (is_store x.kind) (and_parts (is_memory (region_of x.addr)) (not (is_store x.kind)) reads).1))))
      (λ others. refl)

  pub swaps_known : (o : Option Access) → AreStored stored o → swaps_unknown bytes o ≡ false
  swaps_known None h = refl
  swaps_known (Some x) h = ⊎_elim
      (λ stores. and_left (is_swap x) _ (not_from_true _ (or_right (is_load x.kind) (is_store x.kind) stores)))
      (λ n. and_right (is_swap x) _ (none_differs x.size x.addr (covered x h n)))
      (cases_Bool (is_store x.kind))

-- ---- before a turn
module _ (r : Course) (h : History) (a : ℕ) where
  abbrev Along : ℕ → Type 0
  Along p = (core : ℕ) → Knows (frame_along r core p) (h.state core p)

  not_gone : (p : ℕ) → stored_before r (suc p) a ≡ true → is_gone r p a ≡ false
  not_gone p e = not-true (is_gone r p a) (and_parts (not (is_gone r p a)) (is_stored r p (slice_get r.turns p) a || stored_before r p a) e).0

  not_saved : (p : ℕ) → stored_before r p a ≡ true → is_saved r p a ≡ false
  not_saved zero e = (or_parts (is_saved r 0 a) (opens_below r 0 a || opens_below r 1 a) (not-true (is_saved r 0 a || (opens_below r 0 a || opens_below r 1 a)) e)).0
  not_saved (suc p) e =
      let both = or_parts (is_saved r p a || is_saved r (suc p) a) (is_passed r 0 p a || is_passed r 1 p a) (not_gone p e) in
      (or_parts (is_saved r p a) (is_saved r (suc p) a) both.0).1

  live_same : (p : ℕ) → Along p → is_saved r p a ≡ live_at r h p a
  live_same p k = λ i. live_known (k 0) (r.bounds 0).range a i || live_known (k 1) (r.bounds 1).range a i

  -- a turn that does not store it
  no_store : (p : ℕ) → LeavesByte r p a → (o : Option Turn) → slice_get r.turns p ≡ o → is_stored r p o a ≡ false
  no_store p leaves None e = refl
  no_store p leaves (Some t) e = false_from_ne_true _ (λ is.
      let parts = and_parts (is_judged (phase_before r t.core p) t.rec.kind) (stores_at t.rec.access a) is in
      by t.rec.access refl parts.0 parts.1)
    where
      by : (o : Option Access) → t.rec.access ≡ o → is_judged (phase_before r t.core p) t.rec.kind ≡ true → stores_at o a ≡ true → ⊥
      by None made j s = both_ways false refl s
      by (Some x) made j s =
          let parts = and_parts (is_store x.kind) (touches x.addr x.size a) s in
          both_ways (touches x.addr x.size a) (leaves t.core t.rec x (record { turn = e; judged = j }) made parts.0) parts.1

  back : (from p : ℕ) → from ≤ p → ((i : ℕ) → from ≤ i → i < p → LeavesByte r i a) → stored_before r p a ≡ true → stored_before r from a ≡ true
  back from zero l none e = let z : 0 ≡ from = omega (arith, l) in subst (λ n. stored_before r n a ≡ true) z e
  back from (suc p) l none e = ⊎_elim
      (λ u.
      let parts = and_parts (not (is_gone r p a)) (is_stored r p (slice_get r.turns p) a || stored_before r p a) e in
      back from p (omega (arith, u)) (λ i b c. none i b (omega (arith, c)))
      (⊎_elim
      (λ is. absurd (both_ways (is_stored r p (slice_get r.turns p) a) (no_store p (none p (omega (arith, u)) (omega arith)) (slice_get r.turns p) refl) is))
      (λ before. before)
      (or_cases (is_stored r p (slice_get r.turns p) a) (stored_before r p a) parts.1)))
      (λ u. let z : suc p ≡ from = omega (arith, l, u) in subst (λ n. stored_before r n a ≡ true) z e)
      (cases_lt from (suc p))

  not_forgotten : (core p : ℕ) → Along p → Along (suc p) → is_passed r core p a ≡ false → forgets (h.state core p) (h.state core (suc p)) a ≡ false
  not_forgotten core p k n e =
      and_right (is_strict_in (h.state core p)) (rises_over (stack_pointer (h.state core p)) (stack_pointer (h.state core (suc p))) a)
      ((λ i. rises_over (sym (k core).sp i) (sym (n core).sp i) a) ∙ e)

  never_lost : (p : ℕ) → Along p → Along (suc p) → stored_before r (suc p) a ≡ true → (live_at r h p a || gone_at h p a) ≡ false
  never_lost p k n e =
      let both = or_parts (is_saved r p a || is_saved r (suc p) a) (is_passed r 0 p a || is_passed r 1 p a) (not_gone p e) in
      let areas = or_parts (is_saved r p a) (is_saved r (suc p) a) both.0 in
      let passed = or_parts (is_passed r 0 p a) (is_passed r 1 p a) both.1 in
      or_from (live_at r h p a) (gone_at h p a) (sym (live_same p k) ∙ areas.0) (or_from _ _ (not_forgotten 0 p k n passed.0) (not_forgotten 1 p k n passed.1))

  opens_unknown_not : (core : ℕ) → Along 0 → opens_below r core a ≡ false → opens_unknown (r.bounds core).range (h.state core 0) a ≡ false
  opens_unknown_not core k e =
      and_right (is_strict_in (h.state core 0)) (leb (r.bounds core).range.lo a && ltb a (stack_pointer (h.state core 0)))
      (ap (λ n. leb (r.bounds core).range.lo a && ltb a n) (sym (k core).sp) ∙ e)

  opens_known : Along 0 → stored_before r 0 a ≡ true → opening_mask r h a ≡ 255
  opens_known k e =
      let s0 = h.state 0 0 in
      let s1 = h.state 1 0 in
      let all = or_parts (is_saved r 0 a) (opens_below r 0 a || opens_below r 1 a) (not-true (is_saved r 0 a || (opens_below r 0 a || opens_below r 1 a)) e) in
      let both = or_parts (opens_below r 0 a) (opens_below r 1 a) all.1 in
      cond-false (opens_unknown (r.bounds 0).range s0 a || opens_unknown (r.bounds 1).range s1 a) 0 255
      (or_from _ _ (opens_unknown_not 0 k both.0) (opens_unknown_not 1 k both.1))

  module _ (d : Discipline) (p : ℕ) (ordinary : IsOrdinary r) (is : IsHistory d r h) (along : (i : ℕ) → i ≤ p → Along i)
      (stores : (i core : ℕ) (rec : StepRecord) → i < p → IsJudgedTurn r i core rec → (use_at r h i core rec).stored ≡ all_bits) (e : stored_before r p a ≡ true) where
    mask_known : (mask : ℕ) → IsMask r h p a mask → mask ≡ 255
    mask_known mask (IsLive live none) = absurd (both_ways (live_at r h p a) (sym (live_same p (along p (omega arith))) ∙ not_saved p e) live)
    mask_known mask (HasLeft i l was free none z) =
        absurd (both_ways (live_at r h i a || gone_at h i a) (never_lost i (along i (omega (arith, l))) (along (suc i) l) (back (suc i) p l none e)) was)
    mask_known mask (IsStored i l s free kept none) =
        s.bits
        ∙ (ap (λ n. stored_byte n s.access.addr a) (stores i s.core s.rec l s.turn)
        ∙ stored_whole s.access.addr s.access.size a (ordinary.sizes i s.core s.rec s.access s.turn.turn s.made) s.touched)
    mask_known mask (Opens free kept none z) = z ∙ opens_known (along 0 (omega arith)) (back 0 p (omega arith) none e)

    pub byte_known : h.mask p a ≡ 255
    byte_known = mask_known (h.mask p a) (is.masks p a)
