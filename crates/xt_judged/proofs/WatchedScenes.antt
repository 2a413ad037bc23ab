-- Where the judges of both cores go on in every order, the judge of both sees no breach.
use Rattle.std.proofs.Common.{◌≡◌, ℕ, zero, suc, ◌<◌, Bool, true, false, cond, not, ◌&&◌, ◌||◌, None, List, [], ◌∷◌, ◌++◌, ne_eqb, refl, sym, ap, ◌∙◌, subst, arith}
use Rattle.std.specs.Prelude.{◌==◌}
use Rattle.std.proofs.lemmas.Bool.{true≢false}
use Rattle.xt_trace.specs.declared.record.StepRecord.{StepRecord}
use Rattle.xt_trace.specs.Chip.{Chip}
use Rattle.xt_exec.specs.Chips.{processor}
use Rattle.xt_exec.specs.State.{State}
use Rattle.xt_frames.specs.SaveAreas.{is_live}
use Rattle.xt_frames.specs.Breaches.{Bounds}
use Rattle.xt_frames.specs.Judging.{Standing, Seen, Handled, Judges, Breaks, seen_record}
use Rattle.xt_outcomes.specs.Spots.{Spot, side_bars, side_of, spot_past}
use Rattle.xt_outcomes.specs.declared.places.Place.{Place}
use Rattle.xt_search.specs.Meetings.{after}
use Rattle.xt_search.specs.Worlds.{IsOrder}
use Rattle.xt_search.proofs.Meeting.{after_append}
use Rattle.xt_judged.specs.Alone.{only_after}
use Rattle.xt_judged.specs.OwnJudges.{Watched, goes, is_over, is_within, judge_past, own_in, record_in, turned, watched_bars, watched_past}
use Rattle.xt_judged.specs.Scenes.{Scene, is_idle, passed, record_of, scene_bars, scene_past, scenes_after, seen_at, standing_of, with_standing}
use Rattle.xt_judged.specs.Timeless.{frame_uses_time}
use Rattle.xt_judged.proofs.Every.{orders_more, scenes_are}
use Rattle.xt_judged.proofs.OneJudge.{IsSound, is_calm, next_is, stale_past, standing_past}
use Rattle.xt_judged.proofs.Turned.{has_left}
use Rattle.xt_judged.proofs.WatchedTurns.{AllGo, step_made}
use Rattle.xt_judged.proofs.Within.{In, live_in}

-- what is known past a record that shows no breach
calm_is : (P : Chip State) (timed : Bool) (c : ℕ) (z : Scene) (rec : StepRecord) (s : Seen) → is_calm s ≡ true
    → (st : Standing) → st ≡ (standing_of c z) → passed P timed c z rec s
    ≡ record (with_standing c (standing_past s st) z) { spot = spot_past P timed c z.spot; stale = stale_past s z.stale; only = only_after c rec.access }
calm_is P timed zero z rec (Handled su) h st e = refl
calm_is P timed zero z rec (Judges su stale) h st e = refl
calm_is P timed zero z rec (Breaks kind) h st e = absurd (true≢false (sym h))
calm_is P timed (suc c) z rec (Handled su) h st e = refl
calm_is P timed (suc c) z rec (Judges su stale) h st e = refl
calm_is P timed (suc c) z rec (Breaks kind) h st e = absurd (true≢false (sym h))

module _ (code : ℕ → ℕ) (timed : Bool) (ps : List Place) (b0 b1 : Bounds) (apart : (a : ℕ) → In b0.range a → In b1.range a → ⊥) where
  abbrev step : ℕ → Watched → Watched
  step c v = watched_past (processor code) code b0.range b1.range timed c v

  abbrev pass : ℕ → Scene → Scene
  pass c z = scene_past (processor code) code b0 b1 timed c z

  -- the scene stands for both cores and their judges
  pub record IsOf (z : Scene) (v : Watched) : Type 0 where
    pub spot : z.spot ≡ v.spot
    pub unbroken : z.breach ≡ None
    pub standing0 : z.standing0 ≡ v.judge0.standing
    pub standing1 : z.standing1 ≡ v.judge1.standing
    pub bounds0 : v.judge0.bounds ≡ b0
    pub bounds1 : v.judge1.bounds ≡ b1
    pub stale : (a : ℕ) → z.stale a ≡ (v.judge0.stale a || v.judge1.stale a)
    pub sound0 : IsSound b1.range v.judge0
    pub sound1 : IsSound b0.range v.judge1

  or_swap : (x y : Bool) → (x || y) ≡ (y || x)
  or_swap true true = refl
  or_swap true false = refl
  or_swap false true = refl
  or_swap false false = refl

  moves : (c : ℕ) (z : Scene) → is_idle c z ≡ false → pass c z ≡ passed (processor code) timed c z (record_of (processor code) c z) (seen_at code b0 b1 c z (record_of (processor code) c z))
  moves c z e =
      let x = passed (processor code) timed c z (record_of (processor code) c z) (seen_at code b0 b1 c z (record_of (processor code) c z)) in
      ap (λ (b : Bool). let s : Scene = cond b z x in s) e

  -- ---- core 0

  module _ (z : Scene) (v : Watched) (is : IsOf z v) where
    pub next0 : is_idle 0 z ≡ false → is_over (own_in 0 v) ≡ false → AllGo code timed ps b0.range b1.range (step 0 v) → IsOf (pass 0 z) (step 0 v)
    next0 idle on go =
        let rec = record_in (processor code) 0 v.spot in
        let same : record_of (processor code) 0 z ≡ rec = ap (λ (s : Spot State). record_in (processor code) 0 s) is.spot in
        let made = turned (processor code) code b0.range b1.range timed 0 v in
        let there : step 0 v ≡ made = step_made code timed ps b0.range b1.range 0 v on in
        let going : goes (judge_past code b1.range 0 v.judge0 rec).fate ≡ true = (subst (AllGo code timed ps b0.range b1.range) there go).0 in
        let theirs : (a : ℕ) → is_live b1.range v.judge1.standing.frame a ≡ true → In b1.range a = λ a t.
        live_in b1.range v.judge1.standing.frame a (subst (λ (b : Bounds). is_within b.range v.judge1.standing.frame ≡ true) is.bounds1 is.sound1.within) t in
        let left : (a : ℕ) → v.judge1.stale a ≡ true → In b1.range a = λ a t. subst (λ (b : Bounds). In b.range a) is.bounds1 (is.sound1.inside a t) in
        let dead : (a : ℕ) → v.judge1.stale a ≡ true → is_live b1.range v.judge1.standing.frame a ≡ false = λ a t.
        subst (λ (b : Bounds). is_live b.range v.judge1.standing.frame a ≡ false) is.bounds1 (is.sound1.dead a t) in
        let n = next_is code b1.range 0 v.judge0 is.sound0 (is_live b1.range v.judge1.standing.frame) v.judge1.stale z.stale rec theirs left dead is.stale going in
        let seen : seen_at code b0 b1 0 z (record_of (processor code) 0 z) ≡ seen_record code v.judge0.bounds v.judge0.standing (is_live b1.range v.judge1.standing.frame) z.stale rec =
        λ i. seen_record code (sym is.bounds0 i) (is.standing0 i) (is_live b1.range (is.standing1 i).frame) z.stale (same i) in
        let s = seen_record code v.judge0.bounds v.judge0.standing (is_live b1.range v.judge1.standing.frame) z.stale rec in
        let new : Scene = record (with_standing 0 (standing_past s v.judge0.standing) z) { spot = spot_past (processor code) timed 0 z.spot; stale = stale_past s z.stale; only = only_after 0 rec.access } in
        let past : pass 0 z ≡ new =
        moves 0 z idle ∙ (λ i. passed (processor code) timed 0 z (same i) (seen i)) ∙ calm_is (processor code) timed 0 z rec s n.calm v.judge0.standing (sym is.standing0) in
        let here : IsOf new made = record {
          spot = ap (spot_past (processor code) timed 0) is.spot;
          unbroken = is.unbroken;
          standing0 = n.standing;
          standing1 = is.standing1;
          bounds0 = n.bounds ∙ is.bounds0;
          bounds1 = is.bounds1;
          stale = n.bytes;
          sound0 = n.sound;
          sound1 = is.sound1;
        } in
        subst (λ (x : Scene). IsOf x (step 0 v)) (sym past) (subst (IsOf new) (sym there) here)

    pub next1 : is_idle 1 z ≡ false → is_over (own_in 1 v) ≡ false → AllGo code timed ps b0.range b1.range (step 1 v) → IsOf (pass 1 z) (step 1 v)
    next1 idle on go =
        let rec = record_in (processor code) 1 v.spot in
        let same : record_of (processor code) 1 z ≡ rec = ap (λ (s : Spot State). record_in (processor code) 1 s) is.spot in
        let made = turned (processor code) code b0.range b1.range timed 1 v in
        let there : step 1 v ≡ made = step_made code timed ps b0.range b1.range 1 v on in
        let going : goes (judge_past code b0.range 1 v.judge1 rec).fate ≡ true = (subst (AllGo code timed ps b0.range b1.range) there go).1 in
        let theirs : (a : ℕ) → is_live b0.range v.judge0.standing.frame a ≡ true → In b0.range a = λ a t.
        live_in b0.range v.judge0.standing.frame a (subst (λ (b : Bounds). is_within b.range v.judge0.standing.frame ≡ true) is.bounds0 is.sound0.within) t in
        let left : (a : ℕ) → v.judge0.stale a ≡ true → In b0.range a = λ a t. subst (λ (b : Bounds). In b.range a) is.bounds0 (is.sound0.inside a t) in
        let dead : (a : ℕ) → v.judge0.stale a ≡ true → is_live b0.range v.judge0.standing.frame a ≡ false = λ a t.
        subst (λ (b : Bounds). is_live b.range v.judge0.standing.frame a ≡ false) is.bounds0 (is.sound0.dead a t) in
        let n = next_is code b0.range 1 v.judge1 is.sound1 (is_live b0.range v.judge0.standing.frame) v.judge0.stale z.stale rec theirs left dead
        (λ a. is.stale a ∙ or_swap (v.judge0.stale a) (v.judge1.stale a)) going in
        let seen : seen_at code b0 b1 1 z (record_of (processor code) 1 z) ≡ seen_record code v.judge1.bounds v.judge1.standing (is_live b0.range v.judge0.standing.frame) z.stale rec =
        λ i. seen_record code (sym is.bounds1 i) (is.standing1 i) (is_live b0.range (is.standing0 i).frame) z.stale (same i) in
        let s = seen_record code v.judge1.bounds v.judge1.standing (is_live b0.range v.judge0.standing.frame) z.stale rec in
        let new : Scene = record (with_standing 1 (standing_past s v.judge1.standing) z) { spot = spot_past (processor code) timed 1 z.spot; stale = stale_past s z.stale; only = only_after 1 rec.access } in
        let past : pass 1 z ≡ new =
        moves 1 z idle ∙ (λ i. passed (processor code) timed 1 z (same i) (seen i)) ∙ calm_is (processor code) timed 1 z rec s n.calm v.judge1.standing (sym is.standing1) in
        let after1 = judge_past code b0.range 1 v.judge1 rec in
        let here : IsOf new made = record {
          spot = ap (spot_past (processor code) timed 1) is.spot;
          unbroken = is.unbroken;
          standing0 = is.standing0;
          standing1 = n.standing;
          bounds0 = is.bounds0;
          bounds1 = n.bounds ∙ is.bounds1;
          stale = λ a. n.bytes a ∙ or_swap (after1.stale a) (v.judge0.stale a);
          sound0 = is.sound0;
          sound1 = n.sound;
        } in
        subst (λ (x : Scene). IsOf x (step 1 v)) (sym past) (subst (IsOf new) (sym there) here)

    -- ---- a core that makes a turn

    left_of : (c : ℕ) → is_idle c z ≡ false → ((side_of c v.spot).left == 0) ≡ false
    left_of c idle = by_left (side_of c v.spot).left (subst (λ (s : Spot State). 0 < (side_of c s).left) is.spot (has_left c z idle))
      where
        by_left : (n : ℕ) → 0 < n → (n == 0) ≡ false
        by_left zero less = absurd (omega (arith, less))
        by_left (suc n) less = ne_eqb (suc n) 0 (λ (e : suc n ≡ 0). omega (arith, e))

    on_of : (c : ℕ) → c < 2 → AllGo code timed ps b0.range b1.range v → is_idle c z ≡ false → is_over (own_in c v) ≡ false
    on_of zero small go idle = λ i. not (go.0 i) || left_of 0 idle i
    on_of (suc zero) small go idle = λ i. not (go.1 i) || left_of 1 idle i
    on_of (suc (suc c)) small go idle = absurd (omega (arith, small))

    pub next_of_both : (c : ℕ) → c < 2 → is_idle c z ≡ false → AllGo code timed ps b0.range b1.range v → AllGo code timed ps b0.range b1.range (step c v) → IsOf (pass c z) (step c v)
    next_of_both zero small idle before go = next0 idle (on_of 0 small before idle) go
    next_of_both (suc zero) small idle before go = next1 idle (on_of 1 small before idle) go
    next_of_both (suc (suc c)) small idle before go = absurd (omega (arith, small))

    -- ---- time

    bars_of : (c : ℕ) → c < 2 → AllGo code timed ps b0.range b1.range v → watched_bars code timed (own_in c v) ≡ false → scene_bars code timed c z ≡ false
    bars_of c small go free = by_idle (is_idle c z) refl
      where
        used : Bool
        used = side_bars code timed (side_of c z.spot) || (not timed && frame_uses_time code (standing_of c z).frame)

        own_used : Bool
        own_used = side_bars code timed (own_in c v).side || (not timed && frame_uses_time code (own_in c v).judge.standing.frame)

        same : (d : ℕ) → d < 2 → (let x = side_bars code timed (side_of d z.spot) || (not timed && frame_uses_time code (standing_of d z).frame) in x)
            ≡ (let y = side_bars code timed (own_in d v).side || (not timed && frame_uses_time code (own_in d v).judge.standing.frame) in y)
        same zero less = λ i. side_bars code timed (is.spot i).side0 || (not timed && frame_uses_time code (is.standing0 i).frame)
        same (suc zero) less = λ i. side_bars code timed (is.spot i).side1 || (not timed && frame_uses_time code (is.standing1 i).frame)
        same (suc (suc d)) less = absurd (omega (arith, less))

        by_idle : (b : Bool) → is_idle c z ≡ b → scene_bars code timed c z ≡ false
        by_idle true e = ap (λ (b : Bool). not b && used) e
        by_idle false e =
            let on = on_of c small go e in
            ap (λ (b : Bool). not b && used) e ∙ same c small ∙ sym (ap (λ (b : Bool). not b && own_used) on) ∙ free

  -- ---- orders

  module _ (opening : Scene) (first : Watched) (begins : IsOf opening first) (all_go : (order : List ℕ) → IsOrder order → AllGo code timed ps b0.range b1.range (after step order first))
      (all_free : (order : List ℕ) (c : ℕ) → IsOrder order → c < 2 → watched_bars code timed (own_in c (after step order first)) ≡ false) where
    -- the scene stands for what some order leads to
    record IsMet (z : Scene) : Type 0 where
      order : List ℕ
      is_order : IsOrder order
      is : IsOf z (after step order first)

    follow : (cs : List ℕ) (z : Scene) → IsOrder cs → IsMet z → IsMet (after pass cs z)
    follow [] z o h = h
    follow (c ∷ cs) z o h = follow cs (pass c z) o.1 (by_idle (is_idle c z) refl)
      where
        by_idle : (b : Bool) → is_idle c z ≡ b → IsMet (pass c z)
        by_idle true e =
            let x = passed (processor code) timed c z (record_of (processor code) c z) (seen_at code b0 b1 c z (record_of (processor code) c z)) in
            let stays : pass c z ≡ z = ap (λ (b : Bool). let s : Scene = cond b z x in s) e in
            subst IsMet (sym stays) h
        by_idle false e =
            let order = h.order ++ c ∷ [] in
            let is_order = orders_more h.order (c ∷ []) h.is_order (o.0, tt) in
            let there : after step order first ≡ step c (after step h.order first) = after_append step h.order (c ∷ []) first in
            let go = subst (AllGo code timed ps b0.range b1.range) there (all_go order is_order) in
            let next = next_of_both z (after step h.order first) h.is c o.0 e (all_go h.order h.is_order) go in
            record { order = order; is_order = is_order; is = subst (IsOf (pass c z)) (sym there) next }

    met : (order : List ℕ) → IsOrder order → IsMet (scenes_after (processor code) code b0 b1 timed order opening)
    met order o = subst IsMet (sym (scenes_are code timed b0 b1 order opening)) (follow order opening o (record { order = []; is_order = tt; is = begins }))

    pub none_breaks : (order : List ℕ) → IsOrder order → (scenes_after (processor code) code b0 b1 timed order opening).breach ≡ None
    none_breaks order o = (met order o).is.unbroken

    pub none_bars : (order : List ℕ) (c : ℕ) → IsOrder order → c < 2 → scene_bars code timed c (scenes_after (processor code) code b0 b1 timed order opening) ≡ false
    none_bars order c o small =
        let h = met order o in
        bars_of (scenes_after (processor code) code b0 b1 timed order opening) (after step h.order first) h.is c small (all_go h.order h.is_order) (all_free h.order c h.is_order small)
