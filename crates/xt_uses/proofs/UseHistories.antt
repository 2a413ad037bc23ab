-- A run has a history: the snapshots turn by turn.
use Rattle.std.proofs.Common.{◌≡◌, ℕ, zero, suc, Bool, true, false, ◌==◌, ◌&&◌, ◌||◌, Option, Some, None, refl, sym, ap, ◌∙◌, arith, ⊎_elim, subst, cond, ltb, slice_get}
use Rattle.std.proofs.lemmas.Bool.{and_from, and_left, and_parts, and_right, cases_Bool, both_ways, cond-true, cond-false, eq-eqb, eqb-true, false_from_ne_true, ltb-true, or_from, or_left, or_parts}
use Rattle.std.proofs.lemmas.Option.{none-some}
use Rattle.xt_map.specs.declared.access.Access.{Access}
use Rattle.xt_map.specs.Touching.{is_store, touches}
use Rattle.xt_trace.specs.declared.record.StepRecord.{StepRecord}
use Rattle.xt_frames.specs.Breaches.{stores_at}
use Rattle.xt_frames.specs.FirstBreach.{Course, IsJudgedTurn, IsTurn, LeavesByte, Turn, is_judged, phase_before, turn_of}
use Rattle.xt_frames.proofs.Earlier.{untouched}
use Rattle.xt_frames.proofs.Prefixes.{before_or_at, same_turn}
use Rattle.xt_uses.specs.UseWalk.{mask_stored}
use Rattle.xt_uses.specs.FirstUse.{History, IsHistory, IsIdle, IsMask, IsLive, HasLeft, IsStored, Opens, StaysFree, StaysKept, StaysUnstored, gone_at, live_at, lost_at, stored_byte, use_at}
use Rattle.xt_uses.specs.Disciplines.{Discipline}
use Rattle.xt_uses.specs.UseState.{UseState, forgets, is_strict_in, stack_pointer}
use Rattle.xt_uses.specs.Snapshots.{Snapshot, gone_in, history_of, judged_past, live_in, lost_in, opens_unknown_in, snapshot, states_past, step_in, turn_past}

-- ---- a byte that this turn neither frees nor stores
more_free : (r : Course) (h : History) (from p a : ℕ) → StaysFree r h from p a → live_at r h (suc p) a ≡ false → StaysFree r h from (suc p) a
more_free r h from p a free now i l u = ⊎_elim
    (λ b. free i l (omega (arith, b)))
    (λ e. subst (λ x. live_at r h x a ≡ false) (sym e) now)
    (before_or_at i (suc p) (omega (arith, u)))

more_unstored : (r : Course) (from p a : ℕ) → StaysUnstored r from p a → LeavesByte r p a → StaysUnstored r from (suc p) a
more_unstored r from p a h now i l u = ⊎_elim (λ b. h i l b) (λ e. subst (λ x. LeavesByte r x a) (sym e) now) (before_or_at i p u)

more_kept : (h : History) (from p a : ℕ) → StaysKept h from p a → gone_at h p a ≡ false → StaysKept h from (suc p) a
more_kept h from p a k now i l u = ⊎_elim (λ b. k i l b) (λ e. subst (λ x. gone_at h x a ≡ false) (sym e) now) (before_or_at i p u)

kept : (r : Course) (h : History) (p a m : ℕ) → IsMask r h p a m → live_at r h p a ≡ false → live_at r h (suc p) a ≡ false → gone_at h p a ≡ false → LeavesByte r p a → IsMask r h (suc p) a m
kept r h p a m (IsLive live z) before now gone leaves = absurd (both_ways (live_at r h p a) before live)
kept r h p a m (HasLeft once earlier live free unstored z) before now gone leaves =
    HasLeft once (omega (arith, earlier)) live (more_free r h (suc once) p a free now) (more_unstored r (suc once) p a unstored leaves) z
kept r h p a m (IsStored once earlier stores free held unstored) before now gone leaves =
    IsStored once (omega (arith, earlier)) stores (more_free r h once p a free now) (more_kept h once p a held gone) (more_unstored r (suc once) p a unstored leaves)
kept r h p a m (Opens free held unstored z) before now gone leaves = Opens (more_free r h 0 p a free now) (more_kept h 0 p a held gone) (more_unstored r 0 p a unstored leaves) z

-- a live byte has the mask 0
live_zero : (r : Course) (h : History) (p a m : ℕ) → IsMask r h p a m → live_at r h p a ≡ true → m ≡ 0
live_zero r h p a m (IsLive live z) now = z
live_zero r h p a m (HasLeft once earlier live free unstored z) now = absurd (both_ways (live_at r h p a) (free p (omega (arith, earlier)) (omega arith)) now)
live_zero r h p a m (IsStored once earlier stores free held unstored) now = absurd (both_ways (live_at r h p a) (free p (omega (arith, earlier)) (omega arith)) now)
live_zero r h p a m (Opens free held unstored z) now = absurd (both_ways (live_at r h p a) (free p (omega arith) (omega arith)) now)

-- nothing has become of it
still : (r : Course) (h : History) (p a m : ℕ) → IsMask r h p a m → live_at r h (suc p) a ≡ live_at r h p a → gone_at h p a ≡ false → LeavesByte r p a → IsMask r h (suc p) a m
still r h p a m k same gone leaves = ⊎_elim
    (λ live. IsLive (same ∙ live) (live_zero r h p a m k live))
    (λ free. kept r h p a m k free (same ∙ free) gone leaves)
    (cases_Bool (live_at r h p a))

-- ---- a step that leaves a core as it is forgets nothing
pub forgets_none : (s : UseState) (a : ℕ) → forgets s s a ≡ false
forgets_none s a = and_right (is_strict_in s) _ (and_left (ltb (stack_pointer s) (stack_pointer s)) _ (never_less (stack_pointer s)))
  where
    never_less : (n : ℕ) → ltb n n ≡ false
    never_less n = false_from_ne_true (ltb n n) (λ e. let l = ltb-true n n e in omega (arith, l))

pub gone_none : (s t : ℕ → UseState) (a : ℕ) → s ≡ t → gone_in s t a ≡ false
gone_none s t a e = subst (λ t. gone_in s t a ≡ false) e (or_from _ _ (forgets_none (s 0) a) (forgets_none (s 1) a))

-- ---- a judged step
touched_by : (o : Option Access) (a : ℕ) → stores_at o a ≡ true → (x : Access) × (o ≡ Some x) × (is_store x.kind ≡ true) × (touches x.addr x.size a ≡ true)
touched_by None a e = absurd cc
touched_by (Some x) a e = let p = and_parts (is_store x.kind) (touches x.addr x.size a) e in (x, refl, p.0, p.1)

stored_mask : (stored : ℕ) (o : Option Access) (masks : ℕ → ℕ) (a : ℕ) (x : Access) → o ≡ Some x → (is_store x.kind && touches x.addr x.size a) ≡ true → mask_stored stored o masks a ≡ stored_byte stored x.addr a
stored_mask stored o masks a x e t = ap (λ (y : Option Access). mask_stored stored y masks a) e ∙ cond-true (is_store x.kind && touches x.addr x.size a) _ _ t

unstored_mask : (stored : ℕ) (o : Option Access) (masks : ℕ → ℕ) (a : ℕ) → stores_at o a ≡ false → mask_stored stored o masks a ≡ masks a
unstored_mask stored None masks a e = refl
unstored_mask stored (Some x) masks a e = cond-false (is_store x.kind && touches x.addr x.size a) _ _ e

-- past a judged step, where these are the byte's bits before it and after it
mask_next : (r : Course) (h : History) (p core : ℕ) (rec : StepRecord) (a : ℕ) → IsJudgedTurn r p core rec → IsMask r h p a (h.mask p a) → (now lost : Bool) → live_at r h (suc p) a ≡ now → lost_at r h p a ≡ lost
    → (m : ℕ) → m ≡ cond (now || lost) 0 (mask_stored (use_at r h p core rec).stored rec.access (h.mask p) a) → (stores_at rec.access a ≡ false → LeavesByte r p a) → IsMask r h (suc p) a m
mask_next r h p core rec a judged k true lost live gone m e leaves = IsLive live e
mask_next r h p core rec a judged k false true live gone m e leaves =
    HasLeft p (omega arith) gone (λ i l w. let z : i ≡ suc p = omega (arith, l, w) in subst (λ x. live_at r h x a ≡ false) (sym z) live) (λ i l w. absurd (omega (arith, l, w))) e
mask_next r h p core rec a judged k false false live gone m e leaves = by_store (stores_at rec.access a) refl
  where
    both : (live_at r h p a ≡ false) × (gone_at h p a ≡ false)
    both = or_parts (live_at r h p a) (gone_at h p a) gone

    free : StaysFree r h p (suc p) a
    free i l w = ⊎_elim
        (λ b. let z : i ≡ p = omega (arith, l, b) in subst (λ y. live_at r h y a ≡ false) (sym z) both.0)
        (λ z. subst (λ y. live_at r h y a ≡ false) (sym z) live)
        (before_or_at i (suc p) (omega (arith, w)))

    held : StaysKept h p (suc p) a
    held i l w = let z : i ≡ p = omega (arith, l, w) in subst (λ y. gone_at h y a ≡ false) (sym z) both.1

    by_store : (b : Bool) → stores_at rec.access a ≡ b → IsMask r h (suc p) a m
    by_store true stores =
        let x = touched_by rec.access a stores in
        let stored = (use_at r h p core rec).stored in
        let bits : m ≡ stored_byte stored x.0.addr a = e ∙ stored_mask stored rec.access (h.mask p) a x.0 x.1 (and_from (is_store x.0.kind) (touches x.0.addr x.0.size a) x.2 x.3) in
        IsStored p (omega arith)
        (record { core = core; rec = rec; access = x.0; turn = judged; made = x.1; store = x.2; touched = x.3; bits = bits })
        free
        held
        (λ i l w. absurd (omega (arith, l, w)))
    by_store false none =
        let same : m ≡ h.mask p a = e ∙ unstored_mask (use_at r h p core rec).stored rec.access (h.mask p) a none in
        subst (IsMask r h (suc p) a) (sym same) (kept r h p a (h.mask p a) k both.0 live both.1 (leaves none))

module _ (d : Discipline) (r : Course) where
  abbrev h : History
  h = history_of d r

  module _ (p core : ℕ) (rec : StepRecord) (turn : IsTurn r p core rec) where
    abbrev s : Snapshot
    s = snapshot d r p

    abbrev t : Turn
    t = turn_of core rec

    same_rec : (c : ℕ) (q : StepRecord) → IsTurn r p c q → turn_of core rec ≡ turn_of c q
    same_rec c q u = same_turn r p core rec turn c q u

    pub next_judged : is_judged (phase_before r core p) rec.kind ≡ true → snapshot d r (suc p) ≡ judged_past r p t s
    next_judged j = ap (λ (o : Option Turn). turn_past r p o s) turn ∙ cond-true (is_judged (phase_before r core p) rec.kind) _ _ j

    pub next_handled : is_judged (phase_before r core p) rec.kind ≡ false → snapshot d r (suc p) ≡ s
    next_handled j = ap (λ (o : Option Turn). turn_past r p o s) turn ∙ cond-false (is_judged (phase_before r core p) rec.kind) _ _ j

    -- a judged turn of this number is this one
    no_store : (a : ℕ) → stores_at rec.access a ≡ false → LeavesByte r p a
    no_store a e c q x u at k =
        let same : rec ≡ q = ap (λ (y : Turn). y.rec) (same_rec c q u.turn) in
        untouched q.access x a (subst (λ (y : StepRecord). stores_at y.access a ≡ false) same e) at k

    not_judged : is_judged (phase_before r core p) rec.kind ≡ false → (a : ℕ) → LeavesByte r p a
    not_judged j a c q x u at k =
        let same = same_rec c q u.turn in
        let now : is_judged (phase_before r core p) rec.kind ≡ true = subst (λ (y : Turn). is_judged (phase_before r y.core p) y.rec.kind ≡ true) (sym same) u.judged in
        absurd (both_ways (is_judged (phase_before r core p) rec.kind) j now)

    mask_judged : is_judged (phase_before r core p) rec.kind ≡ true → (a : ℕ) → IsMask r h p a (h.mask p a) → IsMask r h (suc p) a (h.mask (suc p) a)
    mask_judged j a k =
        let after = states_past r p t s in
        let now = live_in r after a in
        let lost = lost_in r s.states after a in
        let next = next_judged j in
        let at : h.mask (suc p) a ≡ cond (now || lost) 0 (mask_stored (step_in r p t s).stored rec.access s.mask a) = ap (λ (x : Snapshot). x.mask a) next in
        let lost_now : lost_at r h p a ≡ lost = ap (λ (x : Snapshot). lost_in r s.states x.states a) next in
        let live_now : live_at r h (suc p) a ≡ now = ap (λ (x : Snapshot). live_in r x.states a) next in
        mask_next r h p core rec a (record { turn = turn; judged = j }) k now lost live_now lost_now (h.mask (suc p) a) at (no_store a)

    mask_handled : is_judged (phase_before r core p) rec.kind ≡ false → (a : ℕ) → IsMask r h p a (h.mask p a) → IsMask r h (suc p) a (h.mask (suc p) a)
    mask_handled j a k =
        let next = next_handled j in
        let same : h.mask (suc p) a ≡ h.mask p a = ap (λ (x : Snapshot). x.mask a) next in
        let live : live_at r h (suc p) a ≡ live_at r h p a = ap (λ (x : Snapshot). live_in r x.states a) next in
        let gone = gone_none (snapshot d r p).states (snapshot d r (suc p)).states a (ap (λ (x : Snapshot). x.states) (sym next)) in
        subst (IsMask r h (suc p) a) (sym same) (still r h p a (h.mask p a) k live gone (not_judged j a))

    pub own_state : is_judged (phase_before r core p) rec.kind ≡ true → h.state core (suc p) ≡ (use_at r h p core rec).after
    own_state j = ap (λ (x : Snapshot). x.states core) (next_judged j) ∙ cond-true (core == core) _ _ (eq-eqb core core refl)

    pub other_state : (c : ℕ) → (core == c) ≡ false → h.state c (suc p) ≡ h.state c p
    other_state c apart = ⊎_elim
        (λ j. ap (λ (x : Snapshot). x.states c) (next_judged j) ∙ cond-false (core == c) _ _ apart)
        (λ j. ap (λ (x : Snapshot). x.states c) (next_handled j))
        (cases_Bool (is_judged (phase_before r core p) rec.kind))

    pub mask_turn : (a : ℕ) → IsMask r h p a (h.mask p a) → IsMask r h (suc p) a (h.mask (suc p) a)
    mask_turn a k = ⊎_elim (λ j. mask_judged j a k) (λ j. mask_handled j a k) (cases_Bool (is_judged (phase_before r core p) rec.kind))

    idle_state : (c : ℕ) → IsIdle r c p → h.state c (suc p) ≡ h.state c p
    idle_state c idle = ⊎_elim
        (λ same. ⊎_elim
        (λ j. absurd (subst (λ x. (q : StepRecord) → IsJudgedTurn r p x q → ⊥) (sym (eqb-true core c same)) idle rec (record { turn = turn; judged = j })))
        (λ j. ap (λ (x : Snapshot). x.states c) (next_handled j))
        (cases_Bool (is_judged (phase_before r core p) rec.kind)))
        (λ apart. other_state c apart)
        (cases_Bool (core == c))

  -- no turn
  next_none : (p : ℕ) → slice_get r.turns p ≡ None → snapshot d r (suc p) ≡ snapshot d r p
  next_none p e = ap (λ (o : Option Turn). turn_past r p o (snapshot d r p)) e

  no_turn : (p c : ℕ) (q : StepRecord) → slice_get r.turns p ≡ None → IsTurn r p c q → ⊥
  no_turn p c q e t = none-some (turn_of c q) (sym e ∙ t)

  mask_past : (o : Option Turn) (p a : ℕ) → slice_get r.turns p ≡ o → IsMask r h p a (h.mask p a) → IsMask r h (suc p) a (h.mask (suc p) a)
  mask_past (Some t) p a e k = mask_turn p t.core t.rec e a k
  mask_past None p a e k =
      let next = next_none p e in
      let same : h.mask (suc p) a ≡ h.mask p a = ap (λ (x : Snapshot). x.mask a) next in
      let live : live_at r h (suc p) a ≡ live_at r h p a = ap (λ (x : Snapshot). live_in r x.states a) next in
      let gone = gone_none (snapshot d r p).states (snapshot d r (suc p)).states a (ap (λ (x : Snapshot). x.states) (sym next)) in
      subst (IsMask r h (suc p) a) (sym same) (still r h p a (h.mask p a) k live gone (λ c q x u at s. absurd (no_turn p c q e u.turn)))

  opening_masks : (a : ℕ) → IsMask r h 0 a (h.mask 0 a)
  opening_masks a =
      let live = live_at r h 0 a in
      let unknown = opens_unknown_in r (snapshot d r 0).states a in
      ⊎_elim
      (λ e. IsLive e (cond-true (live || unknown) 0 255 (or_left live unknown e)))
      (λ e. Opens (λ i l u. let z : i ≡ 0 = omega (arith, u) in subst (λ x. live_at r h x a ≡ false) (sym z) e) (λ i l u. absurd (omega (arith, u))) (λ i l u. absurd (omega (arith, u))) (ap (λ b. cond (b || unknown) 0 255) e))
      (cases_Bool live)

  is_mask : (p a : ℕ) → IsMask r h p a (h.mask p a)
  is_mask zero a = opening_masks a
  is_mask (suc p) a = mask_past (slice_get r.turns p) p a refl (is_mask p a)

  state_past : (o : Option Turn) (p c : ℕ) → slice_get r.turns p ≡ o → IsIdle r c p → h.state c (suc p) ≡ h.state c p
  state_past (Some t) p c e idle = idle_state p t.core t.rec e c idle
  state_past None p c e idle = ap (λ (x : Snapshot). x.states c) (next_none p e)

  pub is_history : IsHistory d r h
  is_history = record {
    opens = λ core. refl;
    steps = λ p core rec j. own_state p core rec j.turn j.judged;
    stays = λ p core idle. state_past (slice_get r.turns p) p core refl idle;
    masks = is_mask;
  }
