-- A run has one history.
use Rattle.std.proofs.Common.{◌≡◌, ℕ, zero, suc, ◌<◌, ◌≤◌, true, false, cond, ◌==◌, ◌||◌, ◌⊎◌, inl, inr, ⊎_elim, Option, Some, None, refl, sym, ap, ◌∙◌, subst, arith}
use Rattle.std.specs.Prelude.{slice_get}
use Rattle.std.proofs.lemmas.Bool.{cases_Bool, cases_lt, cases_order, both_ways, eq-eqb, eqb-true, or_cases}
use Rattle.std.proofs.lemmas.Option.{none-some, same_Some}
use Rattle.xt_map.specs.declared.access.Access.{Access}
use Rattle.xt_map.specs.Touching.{touches}
use Rattle.xt_trace.specs.declared.record.StepRecord.{StepRecord}
use Rattle.xt_frames.specs.SaveAreas.{is_live}
use Rattle.xt_frames.specs.Verdict.{is_nested}
use Rattle.xt_frames.specs.FirstBreach.{Course, IsJudgedTurn, Turn, is_judged, phase_before, turn_of}
use Rattle.xt_frames.proofs.Prefixes.{before_or_at, same_turn}
use Rattle.xt_uses.specs.UseStep.{UseTurn, use_step}
use Rattle.xt_uses.specs.FirstUse.{History, HasLeft, IsHistory, IsIdle, IsLive, IsMask, IsStored, Opens, StaysFree, StaysKept, StaysUnstored, StoresByte, gone_at, live_at, lost_at, opening_mask, stored_byte, use_at}
use Rattle.xt_uses.specs.Disciplines.{Discipline}
use Rattle.xt_uses.specs.UseState.{forgets, one_opens_unknown}

-- ---- a turn is a judged step of a core, or none
module _ (r : Course) (p core : ℕ) where
  idle_by : (t : Turn) → slice_get r.turns p ≡ Some t → (t.core ≡ core → is_judged (phase_before r core p) t.rec.kind ≡ false) → IsIdle r core p
  idle_by t e apart rec q =
      let same : turn_of core rec ≡ t = same_Some (turn_of core rec) t (sym q.turn ∙ e) in
      let judged : is_judged (phase_before r core p) t.rec.kind ≡ true = subst (λ (x : Turn). is_judged (phase_before r core p) x.rec.kind ≡ true) same q.judged in
      both_ways (is_judged (phase_before r core p) t.rec.kind) (apart (sym (ap (λ (x : Turn). x.core) same))) judged

  pub judged_or_idle : ((rec : StepRecord) × IsJudgedTurn r p core rec) ⊎ IsIdle r core p
  judged_or_idle = by (slice_get r.turns p) refl
    where
      of : (t : Turn) → slice_get r.turns p ≡ Some t → t.core ≡ core → ((rec : StepRecord) × IsJudgedTurn r p core rec) ⊎ IsIdle r core p
      of t e own = ⊎_elim
          (λ j. inl (t.rec, record { turn = e ∙ ap (λ c. Some (turn_of c t.rec)) own; judged = j }))
          (λ n. inr (idle_by t e (λ same. n)))
          (cases_Bool (is_judged (phase_before r core p) t.rec.kind))

      by : (o : Option Turn) → slice_get r.turns p ≡ o → ((rec : StepRecord) × IsJudgedTurn r p core rec) ⊎ IsIdle r core p
      by None e = inr (λ rec q. none-some (turn_of core rec) (sym e ∙ q.turn))
      by (Some t) e = ⊎_elim
          (λ own. of t e (eqb-true t.core core own))
          (λ apart. inr (idle_by t e (λ same. absurd (both_ways (t.core == core) apart (eq-eqb t.core core same)))))
          (cases_Bool (t.core == core))

-- ---- a byte has one mask
module _ (r : Course) (h : History) (p a : ℕ) where
  is_free : (from i : ℕ) → live_at r h i a ≡ true → StaysFree r h from p a → from ≤ i → i ≤ p → ⊥
  is_free from i live free l u = both_ways (live_at r h i a) (free i l u) live

  was_gone : (from i : ℕ) → gone_at h i a ≡ true → StaysKept h from p a → from ≤ i → i < p → ⊥
  was_gone from i gone kept l u = both_ways (gone_at h i a) (kept i l u) gone

  was_lost : (from i : ℕ) → lost_at r h i a ≡ true → StaysFree r h from p a → StaysKept h from p a → from ≤ i → i < p → ⊥
  was_lost from i lost free kept l u = ⊎_elim
      (λ live. is_free from i live free l (omega (arith, u)))
      (λ gone. was_gone from i gone kept l u)
      (or_cases (live_at r h i a) (gone_at h i a) lost)

  was_stored : (from i mask : ℕ) → StoresByte r h i a mask → StaysUnstored r from p a → from ≤ i → i < p → ⊥
  was_stored from i mask s none l u = both_ways (touches s.access.addr s.access.size a) (none i l u s.core s.rec s.access s.turn s.made s.store) s.touched

  same_bits : (i m n : ℕ) → StoresByte r h i a m → StoresByte r h i a n → m ≡ n
  same_bits i m n s t =
      let turn = same_turn r i s.core s.rec s.turn.turn t.core t.rec t.turn.turn in
      let access : s.access ≡ t.access = same_Some s.access t.access (sym s.made ∙ (ap (λ (x : Turn). x.rec.access) turn ∙ t.made)) in
      s.bits
      ∙ (ap (λ (x : Turn). stored_byte (use_at r h i x.core x.rec).stored s.access.addr a) turn
      ∙ (ap (λ (x : Access). stored_byte (use_at r h i t.core t.rec).stored x.addr a) access ∙ sym t.bits))

  -- it left its last live area or was forgotten, and was stored
  left_stored : (i j n : ℕ) → i < p → lost_at r h i a ≡ true → StaysUnstored r (suc i) p a → j < p → StoresByte r h j a n → StaysFree r h j p a → StaysKept h j p a → ⊥
  left_stored i j n l lost none u s free kept = ⊎_elim
      (λ before. was_stored (suc i) j n s none before u)
      (λ behind. was_lost j i lost free kept behind l)
      (cases_lt i j)

  both_stored : (i j m n : ℕ) → i < p → StoresByte r h i a m → StaysUnstored r (suc i) p a → j < p → StoresByte r h j a n → StaysUnstored r (suc j) p a → m ≡ n
  both_stored i j m n l s none u t after = ⊎_elim
      (λ e. same_bits j m n (subst (λ k. StoresByte r h k a m) e s) t)
      (λ apart. ⊎_elim
      (λ before. absurd (was_stored (suc i) j n t none before u))
      (λ behind. absurd (was_stored (suc j) i m s after behind l))
      apart)
      (cases_order i j)

  pub one_mask : (m n : ℕ) → IsMask r h p a m → IsMask r h p a n → m ≡ n
  one_mask m n (IsLive live is) (IsLive other none) = is ∙ sym none
  one_mask m n (IsLive live is) (HasLeft i l was free none e) = absurd (is_free (suc i) p live free l (omega arith))
  one_mask m n (IsLive live is) (IsStored i l s free kept none) = absurd (is_free i p live free (omega (arith, l)) (omega arith))
  one_mask m n (IsLive live is) (Opens free kept none e) = absurd (is_free 0 p live free (omega arith) (omega arith))
  one_mask m n (HasLeft i l was free none e) (IsLive live is) = absurd (is_free (suc i) p live free l (omega arith))
  one_mask m n (HasLeft i l was free none e) (HasLeft j u were since nothing f) = e ∙ sym f
  one_mask m n (HasLeft i l was free none e) (IsStored j u s since kept nothing) = absurd (left_stored i j n l was none u s since kept)
  one_mask m n (HasLeft i l was free none e) (Opens since kept nothing f) = absurd (was_lost 0 i was since kept (omega arith) l)
  one_mask m n (IsStored j u s since kept nothing) (IsLive live is) = absurd (is_free j p live since (omega (arith, u)) (omega arith))
  one_mask m n (IsStored j u s since kept nothing) (HasLeft i l was free none e) = absurd (left_stored i j m l was none u s since kept)
  one_mask m n (IsStored j u s since kept nothing) (IsStored i l t free held none) = both_stored j i m n u s nothing l t none
  one_mask m n (IsStored j u s since kept nothing) (Opens free held none e) = absurd (was_stored 0 j m s none (omega arith) u)
  one_mask m n (Opens free kept none e) (IsLive live is) = absurd (is_free 0 p live free (omega arith) (omega arith))
  one_mask m n (Opens free kept none e) (HasLeft i l was since nothing f) = absurd (was_lost 0 i was free kept (omega arith) l)
  one_mask m n (Opens free kept none e) (IsStored j u s since held nothing) = absurd (was_stored 0 j n s none (omega arith) u)
  one_mask m n (Opens free kept none e) (Opens since held nothing f) = e ∙ sym f

-- ---- two histories: equal states up to turn p, and equal masks before it
pub record Same (h k : History) (p : ℕ) : Type 0 where
  pub states : (i core : ℕ) → i ≤ p → h.state core i ≡ k.state core i
  pub masks : (i : ℕ) → i < p → h.mask i ≡ k.mask i

module _ (r : Course) (h k : History) (p : ℕ) (same : Same h k p) where
  same_live : (i a : ℕ) → i ≤ p → live_at r h i a ≡ live_at r k i a
  same_live i a l = λ j. is_live (r.bounds 0).range (same.states i 0 l j).frame a || is_live (r.bounds 1).range (same.states i 1 l j).frame a

  same_gone : (i a : ℕ) → i < p → gone_at h i a ≡ gone_at k i a
  same_gone i a l = λ j. forgets (same.states i 0 (omega (arith, l)) j) (same.states (suc i) 0 l j) a || forgets (same.states i 1 (omega (arith, l)) j) (same.states (suc i) 1 l j) a

  same_lost : (i a : ℕ) → i < p → lost_at r h i a ≡ lost_at r k i a
  same_lost i a l = λ j. same_live i a (omega (arith, l)) j || same_gone i a l j

  same_kept : (from a : ℕ) → StaysKept h from p a → StaysKept k from p a
  same_kept from a kept i l u = sym (same_gone i a u) ∙ kept i l u

  same_opening : (a : ℕ) → opening_mask r h a ≡ opening_mask r k a
  same_opening a = λ j. cond (one_opens_unknown (r.bounds 0).range (r.bounds 1).range (same.states 0 0 (omega arith) j) (same.states 0 1 (omega arith) j) a) 0 255

  same_use : (i core : ℕ) (rec : StepRecord) → i < p → use_at r h i core rec ≡ use_at r k i core rec
  same_use i core rec l = λ j. use_step r.code (is_nested (phase_before r core i)) rec (same.masks i l j) (same.states i core (omega (arith, l)) j)

  same_free : (from a : ℕ) → StaysFree r h from p a → StaysFree r k from p a
  same_free from a free i l u = sym (same_live i a u) ∙ free i l u

  same_stored : (i a mask : ℕ) → i < p → StoresByte r h i a mask → StoresByte r k i a mask
  same_stored i a mask l s = record {
    core = s.core;
    rec = s.rec;
    access = s.access;
    turn = s.turn;
    made = s.made;
    store = s.store;
    touched = s.touched;
    bits = s.bits ∙ ap (λ (u : UseTurn). stored_byte u.stored s.access.addr a) (same_use i s.core s.rec l);
  }

  same_mask : (a mask : ℕ) → IsMask r h p a mask → IsMask r k p a mask
  same_mask a mask (IsLive live is) = IsLive (sym (same_live p a (omega arith)) ∙ live) is
  same_mask a mask (HasLeft i l was free none e) = HasLeft i l (sym (same_lost i a l) ∙ was) (same_free (suc i) a free) none e
  same_mask a mask (IsStored i l s free kept none) = IsStored i l (same_stored i a mask l s) (same_free i a free) (same_kept i a kept) none
  same_mask a mask (Opens free kept none e) = Opens (same_free 0 a free) (same_kept 0 a kept) none (e ∙ same_opening a)

  module _ (d : Discipline) (x : IsHistory d r h) (y : IsHistory d r k) where
    masks_here : h.mask p ≡ k.mask p
    masks_here = λ j a. one_mask r k p a (h.mask p a) (k.mask p a) (same_mask a (h.mask p a) (x.masks p a)) (y.masks p a) j

    state_judged : (core : ℕ) (rec : StepRecord) → IsJudgedTurn r p core rec → h.state core (suc p) ≡ k.state core (suc p)
    state_judged core rec j =
        x.steps p core rec j
        ∙ ((λ i. (use_step r.code (is_nested (phase_before r core p)) rec (masks_here i) (same.states p core (omega arith) i)).after)
        ∙ sym (y.steps p core rec j))

    state_next : (core : ℕ) → h.state core (suc p) ≡ k.state core (suc p)
    state_next core = ⊎_elim
        (λ j. state_judged core j.0 j.1)
        (λ idle. x.stays p core idle ∙ (same.states p core (omega arith) ∙ sym (y.stays p core idle)))
        (judged_or_idle r p core)

    pub same_next : Same h k (suc p)
    same_next = record {
      states = λ i core l. ⊎_elim (λ u. same.states i core (omega (arith, u))) (λ e. subst (λ n. h.state core n ≡ k.state core n) (sym e) (state_next core)) (before_or_at i (suc p) (omega (arith, l)));
      masks = λ i l. ⊎_elim (λ u. same.masks i u) (λ e. subst (λ n. h.mask n ≡ k.mask n) (sym e) masks_here) (before_or_at i p l);
    }

same_at : (d : Discipline) (r : Course) (h k : History) → IsHistory d r h → IsHistory d r k → (p : ℕ) → Same h k p
same_at d r h k x y zero = record {
  states = λ i core l. subst (λ n. h.state core n ≡ k.state core n) {x = 0} (omega (arith, l)) (x.opens core ∙ sym (y.opens core));
  masks = λ i l. absurd (omega (arith, l));
}
same_at d r h k x y (suc p) = same_next r h k p (same_at d r h k x y p) d x y

pub history_is_one : (d : Discipline) (r : Course) (h k : History) → IsHistory d r h → IsHistory d r k → h ≡ k
history_is_one d r h k x y = λ i. record {
  state = λ core p. (same_at d r h k x y p).states p core (omega arith) i;
  mask = λ p. (same_at d r h k x y (suc p)).masks p (omega arith) i;
}
