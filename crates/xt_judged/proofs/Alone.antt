-- A core that goes on alone.
use Rattle.std.proofs.Common.{◌≡◌, ◌≢◌, ℕ, Bool, true, false, eqb, ◌||◌, ◌&&◌, not, Option, Some, None, refl, sym, ap, ◌∙◌, subst, ⊎_elim}
use Rattle.std.specs.Prelude.{◌==◌, is_some, if◌then◌else◌}
use Rattle.std.proofs.lemmas.Bool.{and_parts, cases_eq, eqb-true, true≢false}
use Rattle.xt_exec.specs.Chips.{processor}
use Rattle.xt_frames.specs.Breaches.{Bounds}
use Rattle.xt_outcomes.specs.Spots.{side_of}
use Rattle.xt_judged.specs.Alone.{is_other}
use Rattle.xt_judged.specs.Scenes.{Scene, is_idle, passed, record_of, scene_bars, scene_past, seen_at}
use Rattle.xt_judged.specs.Kept.{goes_on}
use Rattle.xt_judged.proofs.Turned.{bars_idle, no_breach}

false_of : (b : Bool) → not b ≡ true → b ≡ false
false_of true e = absurd (true≢false (sym e))
false_of false e = refl

rest_false : (b x : Bool) → (b || x) ≡ false → x ≡ false
rest_false true x e = absurd (true≢false e)
rest_false false x e = e

first_false : (b x : Bool) → (b || x) ≡ false → b ≡ false
first_false true x e = absurd (true≢false e)
first_false false x e = refl

same_of : (e c : ℕ) (b : Bool) → eqb e c ≡ b → not b ≡ false → e ≡ c
same_of e c true is h = eqb-true e c is
same_of e c false is h = absurd (true≢false h)

other_of : (e d : ℕ) (b : Bool) → eqb e d ≡ b → e ≢ d → not (eqb e d) ≡ true
other_of e d true is isnt = absurd (isnt (eqb-true e d is))
other_of e d false is isnt = ap not is

or_mid : (b x y : Bool) → x ≡ true → (b || (x || y)) ≡ true
or_mid true x y e = refl
or_mid false x y e = ap (λ (z : Bool). z || y) e

waits_by : (c d : ℕ) (b l k : Bool) (o : Option ℕ) → d ≢ c → (b || (is_other c o || l)) ≡ false → is_some o ≡ true → (b || (is_other d o || k)) ≡ true
waits_by c d b l k None isnt h some = absurd (true≢false (sym some))
waits_by c d b l k (Some e) isnt h some =
    let this : e ≡ c = same_of e c (eqb e c) refl (first_false (not (eqb e c)) l (rest_false b (not (eqb e c) || l) h)) in
    or_mid b (not (eqb e d)) k (other_of e d (eqb e d) refl (λ (s : e ≡ d). isnt (sym s ∙ this)))

module _ (code : ℕ → ℕ) (timed : Bool) (c : ℕ) (s : Scene) (on : goes_on code timed c s ≡ true) where
  parts : (not (is_idle c s) ≡ true) × ((is_some s.only && not (scene_bars code timed c s)) ≡ true)
  parts = and_parts (not (is_idle c s)) (is_some s.only && not (scene_bars code timed c s)) on

  more : (is_some s.only ≡ true) × (not (scene_bars code timed c s) ≡ true)
  more = and_parts (is_some s.only) (not (scene_bars code timed c s)) parts.1

  moves : is_idle c s ≡ false
  moves = false_of (is_idle c s) parts.0

  waits : (d : ℕ) → d ≢ c → is_idle d s ≡ true
  waits d isnt = waits_by c d (is_some s.breach) ((side_of c s.spot).left == 0) ((side_of d s.spot).left == 0) s.only isnt moves more.0

  -- the other core makes no turn
  pub others_wait : (b0 b1 : Bounds) (d : ℕ) → d ≢ c → scene_past (processor code) code b0 b1 timed d s ≡ s
  others_wait b0 b1 d isnt =
      let rec = record_of (processor code) d s in
      ap (λ (b : Bool). if b then s else passed (processor code) timed d s rec (seen_at code b0 b1 d s rec)) (waits d isnt)

  pub alone_unbroken : s.breach ≡ None
  alone_unbroken = no_breach c s moves

  pub alone_free : (d : ℕ) → scene_bars code timed d s ≡ false
  alone_free d = ⊎_elim
      (λ (e : d ≡ c). subst (λ (x : ℕ). scene_bars code timed x s ≡ false) (sym e) (false_of (scene_bars code timed c s) more.1))
      (λ (isnt : d ≢ c). sym (bars_idle code timed d s (waits d isnt)))
      (cases_eq d c)
