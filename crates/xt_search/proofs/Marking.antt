-- Marks of the worlds from which an end can be reached.
use Rattle.std.proofs.Common.{◌≡◌, ℕ, zero, suc, ◌+◌, ◌<◌, ◌≤◌, Bool, true, false, Some, List, [], ◌∷◌, length, slice_get, slice_index_or, slice_set, if◌then◌else◌, refl, ap, ◌∙◌, subst, arith, ◌⊎◌, inl, inr, ⊎_elim}
use Rattle.std.specs.Prelude.{replicate}
use Rattle.std.proofs.Math.ListN.{length-set}
use Rattle.std.proofs.lemmas.List.{length-replicate}
use Rattle.std.proofs.lemmas.Option.{slice_get-get_or}
use Rattle.xt_search.specs.declared.graph.Graph.{Graph}
use Rattle.xt_search.specs.declared.graph.Kept.{Kept}
use Rattle.xt_search.specs.declared.graph.Nexts.{Nexts}
use Rattle.xt_search.specs.Worlds.{IsOrder, Reaches}
use Rattle.xt_search.specs.Graphs.{AreNexts, IsAt, IsGraph, IsNext, IsWhole}
use Rattle.xt_search.specs.Ends.{AreMarks, AreSound, CanEnd, IsSettled, unmarked_count}
use Rattle.xt_search.proofs.Numbers.{at_kept, at_once, at_within}
use Rattle.xt_search.proofs.Endings.{some_at}

-- ---- a list of marks with one mark more

pub set_cases : (bs : List Bool) (at k : ℕ) (b y : Bool) → slice_get (slice_set bs at b) k ≡ Some y → (k ≡ at) ⊎ (slice_get bs k ≡ Some y)
set_cases [] zero k b y e = inr e
set_cases [] (suc at) k b y e = inr e
set_cases (x ∷ bs) zero zero b y e = inl refl
set_cases (x ∷ bs) zero (suc k) b y e = inr e
set_cases (x ∷ bs) (suc at) zero b y e = inr e
set_cases (x ∷ bs) (suc at) (suc k) b y e =
    ⊎_elim (λ (h : k ≡ at). inl (ap suc h)) (λ (h : slice_get bs k ≡ Some y). inr h) (set_cases bs at k b y e)

-- what is read at a place
pub read_as : (bs : List Bool) (i : ℕ) (b : Bool) → i < length bs → slice_index_or bs i false ≡ b → slice_get bs i ≡ Some b
read_as bs i b h e = slice_get-get_or bs i false h ∙ ap Some e

-- the measure of the passes: a pass with no mark more is the last
pub falls : (b : Bool) (new old : ℕ) → new ≤ old → (b ≡ true → new < old) → new + (if b then 1 else 0) < old + 1
falls true new old h f = let l : new < old = f refl in omega arith
falls false new old h f = omega arith

pub falls_from : (b was : Bool) (after new bs cs : List Bool) → after ≡ new → bs ≡ cs → was ≡ true → unmarked_count new ≤ unmarked_count bs → (b ≡ true → unmarked_count new < unmarked_count bs)
    → unmarked_count after + (if b then 1 else 0) < unmarked_count cs + (if was then 1 else 0)
falls_from b true after new bs cs d e w h f =
    let i : unmarked_count bs ≡ unmarked_count cs = ap unmarked_count e in
    let j : unmarked_count after ≡ unmarked_count new = ap unmarked_count d in
    falls b (unmarked_count after) (unmarked_count cs) (omega arith) (λ t. let l : unmarked_count new < unmarked_count bs = f t in omega arith)
falls_from b false after new bs cs d e w h f = absurd cc

-- there are fewer without a mark
pub fewer_unmarked : (bs : List Bool) (at : ℕ) → slice_get bs at ≡ Some false → unmarked_count bs ≡ suc (unmarked_count (slice_set bs at true))
fewer_unmarked [] zero e = absurd cc
fewer_unmarked [] (suc at) e = absurd cc
fewer_unmarked (true ∷ bs) zero e = absurd cc
fewer_unmarked (false ∷ bs) zero e = refl
fewer_unmarked (true ∷ bs) (suc at) e = fewer_unmarked bs at e
fewer_unmarked (false ∷ bs) (suc at) e = ap suc (fewer_unmarked bs at e)

-- nothing is marked at first
pub none_marked : (n k : ℕ) → slice_get (replicate n false) k ≡ Some true → ⊥
none_marked zero zero e = absurd cc
none_marked zero (suc k) e = absurd cc
none_marked (suc n) zero e = absurd cc
none_marked (suc n) (suc k) e = none_marked n k e

-- a marked world is no unmarked one
pub marked_settled : {W : Type 0} (ends : W → Bool) (g : Graph W) (marks : List Bool) (k : ℕ) → slice_get marks k ≡ Some true → IsSettled ends g marks k
marked_settled {W} ends g marks k e = record {
  no_end = λ w f here. absurd (cc (e, f));
  nexts = λ n f at. absurd (cc (e, f));
}

module _ {W : Type 0} (Leads : ℕ → W → W → Type 0) (ends : W → Bool) (g : Graph W) where
  -- an end that can be reached from the next world can be reached
  pub through : (c : ℕ) (w v : W) → c < 2 → Leads c w v → CanEnd Leads ends v → CanEnd Leads ends w
  through c w v small l h = (c ∷ h.0, h.1, (small, h.2), (v, l, h.3), h.4)

  -- a mark more, at a world from which an end can be reached
  pub sound_more : (marks : List Bool) (at : ℕ) → AreSound Leads ends g marks → ((w : W) → IsAt g.kept.items at w → CanEnd Leads ends w) → AreSound Leads ends g (slice_set marks at true)
  sound_more marks at h new = record {
    as_long = length-set marks at true ∙ h.as_long;
    can_end = λ k w e here. ⊎_elim
        (λ (i : k ≡ at). let P : ℕ → Type 0 = λ j. IsAt g.kept.items j w in new w (subst P i here))
        (λ (i : slice_get marks k ≡ Some true). h.can_end k w i here) (set_cases marks at k true true e);
  }

  -- before a world is marked
  pub none_sound : (marks : List Bool) (n : ℕ) → marks ≡ replicate n false → n ≡ length g.kept.items → AreSound Leads ends g marks
  none_sound marks n is long = record {
    as_long = ap length is ∙ length-replicate n false ∙ long;
    can_end = λ k w e here. absurd (none_marked n k (subst (λ (l : List Bool). slice_get l k ≡ Some true) is e));
  }

  -- by one of its next worlds
  pub can_by_next : (marks : List Bool) (c : ℕ) (w : W) (k : ℕ) → c < 2 → AreSound Leads ends g marks → slice_get marks k ≡ Some true → IsNext Leads g.kept.items c w k → CanEnd Leads ends w
  can_by_next marks c w k small h e n = through c w n.0 small n.2 (h.can_end k n.0 e n.1)

  next_stuck : (marks : List Bool) (w : W) (k : ℕ) (c : ℕ) (n : Nexts) → IsGraph Leads g → c < 2 → slice_get g.nexts.items k ≡ Some n → IsAt g.kept.items k w
      → (slice_get marks n.by0 ≡ Some false) × (slice_get marks n.by1 ≡ Some false) → (j : ℕ) × (slice_get marks j ≡ Some false) × IsNext Leads g.kept.items c w j
  next_stuck marks w k zero n is small e here h = (n.by0, h.0, (is.nexts k n w e here).0)
  next_stuck marks w k (suc zero) n is small e here h = (n.by1, h.1, (is.nexts k n w e here).1)
  next_stuck marks w k (suc (suc c)) n is small e here h = absurd (omega arith)

  -- no order leads from an unmarked world to an end
  stuck_from : (marks : List Bool) → IsGraph Leads g → IsWhole g → ((k : ℕ) → k < length g.kept.items → IsSettled ends g marks k)
      → (order : List ℕ) → IsOrder order → (k : ℕ) (w : W) → slice_get marks k ≡ Some false → IsAt g.kept.items k w → (v : W) × Reaches Leads order w v × (ends v ≡ false)
  stuck_from marks is whole settled [] o k w e here = (w, refl, (settled k (at_within g.kept.items k w here)).no_end w e here)
  stuck_from marks is whole settled (c ∷ cs) o k w e here =
      let within : k < length g.kept.items = at_within g.kept.items k w here in
      let n = some_at g.nexts.items k (omega (arith, whole)) in
      let s = next_stuck marks w k c n.0 is o.0 n.1 here ((settled k within).nexts n.0 e n.1) in
      let r = stuck_from marks is whole settled cs o.1 s.0 s.2.0 s.1 s.2.1 in
      (r.0, (s.2.0, s.2.2, r.1), r.2)

  pub settled_marks : (marks : List Bool) → IsGraph Leads g → IsWhole g → AreSound Leads ends g marks → ((k : ℕ) → k < length g.kept.items → IsSettled ends g marks k) → AreMarks Leads ends g marks
  settled_marks marks is whole sound settled = record {
    as_long = sound.as_long;
    can_end = sound.can_end;
    stuck = λ k w e here order o. stuck_from marks is whole settled order o k w e here;
  }

  -- a world that is no end, and whose next worlds are unmarked
  pub settled_by : (marks : List Bool) (at : ℕ) (x : Kept W) (n : Nexts) → slice_get g.kept.items at ≡ Some x → slice_get g.nexts.items at ≡ Some n
      → ends x.world ≡ false → slice_get marks n.by0 ≡ Some false → slice_get marks n.by1 ≡ Some false → IsSettled ends g marks at
  settled_by marks at x n kept next quiet e0 e1 = record {
    no_end = λ w e here. subst (λ (v : W). ends v ≡ false) (at_once g.kept.items at x.world w (at_kept g.kept.items at x kept) here) quiet;
    nexts = λ m e is. let same : n ≡ m = cc (next, is) in
        (subst (λ (k : Nexts). slice_get marks k.by0 ≡ Some false) same e0, subst (λ (k : Nexts). slice_get marks k.by1 ≡ Some false) same e1);
  }

  -- the world that is marked because of the next one
  pub sound_by_next : (marks : List Bool) (at : ℕ) (n : Nexts) (c k : ℕ) → IsGraph Leads g → c < 2 → AreSound Leads ends g marks → slice_get g.nexts.items at ≡ Some n
      → ((w : W) → AreNexts Leads g.kept.items w n → IsNext Leads g.kept.items c w k) → slice_get marks k ≡ Some true → AreSound Leads ends g (slice_set marks at true)
  sound_by_next marks at n c k is small sound next pick marked =
      sound_more marks at sound (λ w here. can_by_next marks c w k small sound marked (pick w (is.nexts at n w next here)))

  -- an end itself
  pub sound_by_end : (marks : List Bool) (at : ℕ) (x : Kept W) → AreSound Leads ends g marks → slice_get g.kept.items at ≡ Some x → ends x.world ≡ true → AreSound Leads ends g (slice_set marks at true)
  sound_by_end marks at x sound kept end =
      sound_more marks at sound (λ w here. ([], w, tt, refl, subst (λ (v : W). ends v ≡ true) (at_once g.kept.items at x.world w (at_kept g.kept.items at x kept) here) end))

  -- the next worlds have marks
  pub within_marks : (marks : List Bool) (at : ℕ) (x : Kept W) (n : Nexts) → IsGraph Leads g → AreSound Leads ends g marks → slice_get g.kept.items at ≡ Some x → slice_get g.nexts.items at ≡ Some n → (n.by0 < length marks) × (n.by1 < length marks)
  within_marks marks at x n is sound kept next =
      let a = is.nexts at n x.world next (at_kept g.kept.items at x kept) in
      let long : length marks ≡ length g.kept.items = sound.as_long in
      let h0 : n.by0 < length g.kept.items = at_within g.kept.items n.by0 a.0.0 a.0.1 in
      let h1 : n.by1 < length g.kept.items = at_within g.kept.items n.by1 a.1.0 a.1.1 in
      (omega arith, omega arith)
