-- The turns of an order of runs.
use Rattle.std.proofs.Common.{append_assoc, ◌≡◌, ℕ, zero, suc, ◌+◌, ◌-◌, ◌<◌, ◌≤◌, Bool, true, false, List, [], ◌∷◌, ◌++◌, Some, length, slice_get, drop, refl, sym, ap, ◌∙◌, subst, arith}
use Rattle.std.specs.Prelude.{if◌then◌else◌}
use Rattle.xt_search.specs.Meetings.{after, onward}
use Rattle.xt_search.specs.Worlds.{IsOrder}
use Rattle.xt_search.proofs.Meeting.{after_append}
use Rattle.xt_exec.specs.Chips.{processor}
use Rattle.xt_exec.specs.State.{State}
use Rattle.xt_outcomes.specs.Nexts.{TurnsFit, next_bars, spot_next}
use Rattle.xt_outcomes.specs.Places.{spot_run, turns_of}
use Rattle.xt_outcomes.specs.Spots.{Spot, side_of}
use Rattle.xt_outcomes.specs.declared.places.Place.{Place}
use Rattle.xt_outcomes.proofs.Covering.{RunsAreFree, free_append}

pub turns_last : (c n : ℕ) → turns_of c (suc n) ≡ turns_of c n ++ c ∷ []
turns_last c zero = refl
turns_last c (suc n) = ap (λ (l : List ℕ). c ∷ l) (turns_last c n)

-- one turn more in a list
pub push_turn : (old list new : List ℕ) (c n : ℕ) → new ≡ list ++ c ∷ [] → list ≡ old ++ turns_of c n → new ≡ old ++ turns_of c (n + 1)
push_turn old list new c n e f =
    let g : n + 1 ≡ suc n = omega arith in
    e ∙ ap (λ (l : List ℕ). l ++ c ∷ []) f ∙ append_assoc old (turns_of c n) (c ∷ []) ∙ ap (λ (l : List ℕ). old ++ l) (sym (turns_last c n) ∙ ap (turns_of c) (sym g))

drop_at : (ms : List ℕ) (at x : ℕ) → slice_get ms at ≡ Some x → drop at ms ≡ x ∷ drop (suc at) ms
drop_at [] zero x h = absurd cc
drop_at [] (suc at) x h = absurd cc
drop_at (y ∷ ys) zero x h = let e : y ≡ x = cc in ap (λ (z : ℕ). z ∷ ys) e
drop_at (y ∷ ys) (suc at) x h = drop_at ys at x h

pub order_at : (ms : List ℕ) (at x : ℕ) → IsOrder ms → slice_get ms at ≡ Some x → x < 2
order_at [] zero x o h = absurd cc
order_at [] (suc at) x o h = absurd cc
order_at (y ∷ ys) zero x o h = let e : y ≡ x = cc in subst (λ (z : ℕ). z < 2) e o.0
order_at (y ∷ ys) (suc at) x o h = order_at ys at x o.1 h

pub drop_all : (ms : List ℕ) (at : ℕ) → length ms ≤ at → drop at ms ≡ []
drop_all [] zero h = refl
drop_all [] (suc at) h = refl
drop_all (y ∷ ys) zero h = absurd (omega arith)
drop_all (y ∷ ys) (suc at) h = drop_all ys at (let g : suc (length ys) ≤ suc at = h in omega arith)

module _ {V : Type 0} where
  -- one run more
  pub run_more : (R : ℕ → V → V) (ms : List ℕ) (at x : ℕ) (u v w : V) → slice_get ms at ≡ Some x → v ≡ R x u → after R (drop at ms) u ≡ w → after R (drop (at + 1) ms) v ≡ w
  run_more R ms at x u v w here e h =
      let g : at + 1 ≡ suc at = omega arith in
      ap (λ (k : ℕ). after R (drop k ms) v) g ∙ ap (after R (drop (suc at) ms)) e
      ∙ sym (ap (λ (l : List ℕ). after R l u) (drop_at ms at x here)) ∙ h

  -- so many turns more
  pub turns_more : (step : ℕ → V → V) (xs ys new : List ℕ) (u v w : V) → new ≡ xs ++ ys → u ≡ after step xs w → v ≡ after step ys u → v ≡ after step new w
  turns_more step xs ys new u v w e f g =
      g ∙ ap (after step ys) f ∙ sym (after_append step xs ys w) ∙ ap (λ (l : List ℕ). after step l w) (sym e)

  pub turn_last : (step : ℕ → V → V) (c n : ℕ) (u v w : V) → u ≡ after step (turns_of c n) w → v ≡ step c u → v ≡ after step (turns_of c (n + 1)) w
  turn_last step c n u v w f g =
      let e : n + 1 ≡ suc n = omega arith in
      turns_more step (turns_of c n) (c ∷ []) (turns_of c (n + 1)) u v w (ap (turns_of c) e ∙ turns_last c n) f g

  -- ---- the loop over turns that meet nothing
  on_choice : (test : V → Bool) (turn : V → V) (n : ℕ) (u : V) (b : Bool) → b ≡ true → (if b then onward test turn n (turn u) else u) ≡ onward test turn n (turn u)
  on_choice test turn n u true e = refl
  on_choice test turn n u false e = absurd cc

  pub onward_on : (test : V → Bool) (turn : V → V) (n made : ℕ) (u v w : V) → made < n → test u ≡ true → v ≡ turn u → w ≡ onward test turn (n - made) u → w ≡ onward test turn (n - (made + 1)) v
  onward_on test turn n made u v w less t e h =
      let k : n - made ≡ suc (n - (made + 1)) = omega arith in
      h ∙ ap (λ (j : ℕ). onward test turn j u) k ∙ on_choice test turn (n - (made + 1)) u (test u) t ∙ ap (onward test turn (n - (made + 1))) (sym e)

  off_choice : (u v : V) (b : Bool) → b ≡ false → (if b then v else u) ≡ u
  off_choice u v true e = absurd cc
  off_choice u v false e = refl

  pub off_at : (test : V → Bool) (turn : V → V) (n : ℕ) (u : V) → test u ≡ false → onward test turn n u ≡ u
  off_at test turn zero u t = refl
  off_at test turn (suc n) u t = off_choice u (onward test turn n (turn u)) (test u) t

  pub onward_off : (test : V → Bool) (turn : V → V) (n : ℕ) (u w : V) → test u ≡ false → w ≡ onward test turn n u → u ≡ w
  onward_off test turn n u w t h = sym (h ∙ off_at test turn n u t)

  pub onward_end : (test : V → Bool) (turn : V → V) (n made : ℕ) (u w : V) → n ≤ made → w ≡ onward test turn (n - made) u → u ≡ w
  onward_end test turn n made u w past h =
      let k : n - made ≡ 0 = omega arith in
      sym (h ∙ ap (λ (j : ℕ). onward test turn j u) k)

  pub onward_start : (test : V → Bool) (turn : V → V) (n : ℕ) (u v : V) → v ≡ turn u → onward test turn n (turn u) ≡ onward test turn (n - 0) v
  onward_start test turn n u v e =
      let k : n - 0 ≡ n = omega arith in
      ap (onward test turn n) (sym e) ∙ ap (λ (j : ℕ). onward test turn j v) (sym k)

-- ---- turns that use no time

module _ (code : ℕ → ℕ) (timed : Bool) (dead : List ℕ) where
  module _ (ps : List Place) (n : ℕ) where
    -- the first of the runs that are left
    pub first_free : (ms : List ℕ) (at x : ℕ) (u : Spot State) → slice_get ms at ≡ Some x → RunsAreFree code timed dead ps n (drop at ms) u → next_bars code timed dead (side_of x u) ≡ false
    first_free ms at x u here h = (subst (λ (l : List ℕ). RunsAreFree code timed dead ps n l u) (drop_at ms at x here) h).0

    -- and those after it
    pub rest_free : (ms : List ℕ) (at x : ℕ) (u v : Spot State) → slice_get ms at ≡ Some x → v ≡ spot_run code timed dead ps n x u → RunsAreFree code timed dead ps n (drop at ms) u → RunsAreFree code timed dead ps n (drop (at + 1) ms) v
    rest_free ms at x u v here e h =
        let g : suc at ≡ at + 1 = omega arith in
        let rest = (subst (λ (l : List ℕ). RunsAreFree code timed dead ps n l u) (drop_at ms at x here) h).1 in
        subst (λ (k : ℕ). RunsAreFree code timed dead ps n (drop k ms) v) g (subst (λ (p : Spot State). RunsAreFree code timed dead ps n (drop (suc at) ms) p) (sym e) rest)

  -- so many turns more
  pub free_more : (xs ys new : List ℕ) (u w : Spot State) → new ≡ xs ++ ys → u ≡ after (spot_next (processor code) timed dead) xs w → TurnsFit code timed dead xs w → TurnsFit code timed dead ys u → TurnsFit code timed dead new w
  free_more xs ys new u w e f h k =
      subst (λ (l : List ℕ). TurnsFit code timed dead l w) (sym e)
      (free_append code timed dead xs ys w h (subst (λ (p : Spot State). TurnsFit code timed dead ys p) f k))

  pub free_last : (c n : ℕ) (u w : Spot State) → u ≡ after (spot_next (processor code) timed dead) (turns_of c n) w → TurnsFit code timed dead (turns_of c n) w → next_bars code timed dead (side_of c u) ≡ false → TurnsFit code timed dead (turns_of c (n + 1)) w
  free_last c n u w f h k =
      let e : n + 1 ≡ suc n = omega arith in
      free_more (turns_of c n) (c ∷ []) (turns_of c (n + 1)) u w (ap (turns_of c) e ∙ turns_last c n) f h (k, tt)
