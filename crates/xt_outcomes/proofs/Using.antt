-- The turn before which a search without time had to end uses time.
use Rattle.std.proofs.Common.{◌≡◌, ℕ, zero, suc, ◌<◌, ◌≤◌, Bool, true, false, cond, eqb, not, ◌&&◌, List, [], ◌∷◌, ◌++◌, refl, sym, ap, ◌∙◌, subst, arith}
use Rattle.std.proofs.lemmas.Bool.{true≢false}
use Rattle.xt_image.specs.declared.image.Image.{Image}
use Rattle.xt_search.specs.declared.graph.Barred.{Barred}
use Rattle.xt_search.specs.declared.graph.Graph.{Graph}
use Rattle.xt_search.specs.Graphs.{IsAt, IsGraph, OpensWith}
use Rattle.xt_search.specs.Worlds.{IsOrder, Reaches}
use Rattle.xt_search.proofs.Endings.{some_at}
use Rattle.xt_search.proofs.Numbers.{at_kept, at_once, at_within}
use Rattle.xt_trace.specs.declared.options.Options.{Options}
use Rattle.xt_trace.specs.Traces.{has_stopped}
use Rattle.xt_trace.specs.Worlds.{Core, World}
use Rattle.xt_map.specs.Code.{AreBytes}
use Rattle.xt_exec.specs.Chips.{processor}
use Rattle.xt_exec.specs.State.{State}
use Rattle.xt_core.specs.Runs.{code_of, memory_of, opening_of}
use Rattle.xt_timeless.specs.TimeLaws.{core_of}
use Rattle.xt_timeless.specs.Time.{uses_time, without_time}
use Rattle.xt_timeless.proofs.Turning.{uses_alike}
use Rattle.xt_outcomes.specs.Dead.{fits, spot_forgotten}
use Rattle.xt_outcomes.specs.Ended.{TimeIsUsed}
use Rattle.xt_outcomes.specs.KeptWorlds.{Leads, spot_of}
use Rattle.xt_outcomes.specs.Orders.{world_after}
use Rattle.xt_outcomes.specs.Outcomes.{core_ended}
use Rattle.xt_outcomes.specs.Searched.{IsSearch}
use Rattle.xt_outcomes.specs.Spots.{Spot, side_bars, side_in, side_of, spot_in}
use Rattle.xt_outcomes.specs.declared.found.Search.{Search}
use Rattle.xt_outcomes.specs.declared.world.World.{World as KeptWorld}
use Rattle.xt_outcomes.proofs.Continuing.{reaches_append}
use Rattle.xt_outcomes.proofs.Covering.{order_more}
use Rattle.xt_outcomes.proofs.Finding.{reached}
use Rattle.xt_outcomes.proofs.Forgetting.{used_forgetting}

-- ---- an order leads to each kept world

module _ {W : Type 0} (L : ℕ → W → W → Type 0) (g : Graph W) (is : IsGraph L g) (opening : W) (opens : OpensWith g opening) where
  pub ordered : (n k : ℕ) → k ≤ n → (w : W) → IsAt g.kept.items k w → (order : List ℕ) × IsOrder order × Reaches L order opening w
  ordered n zero less w at = ([], tt, at_once g.kept.items 0 opening w opens at)
  ordered zero (suc k) less w at = absurd (omega arith)
  ordered (suc n) (suc k) less w at =
      let ks = g.kept.items in
      let x = some_at ks (suc k) (at_within ks (suc k) w at) in
      let f = is.found (suc k) x.0 x.1 in
      let before : x.0.from ≤ k = f.1 in
      let r = ordered n x.0.from (omega arith) f.0 f.3 in
      let same : x.0.world ≡ w = at_once ks (suc k) x.0.world w (at_kept ks (suc k) x.0 x.1) at in (
        r.0 ++ x.0.core ∷ [],
        order_more r.0 (x.0.core ∷ []) r.1 (f.2, tt),
        reaches_append L r.0 (x.0.core ∷ []) opening f.0 w r.2 (w, subst (L x.0.core f.0) same f.4, refl),
      )

-- ---- what is seen of the turn

side_used : (code : ℕ → ℕ) → AreBytes code → (k : Core State) → side_bars code false (side_in false k) ≡ true → (has_stopped k.records ≡ false) × (uses_time code k.state ≡ true)
side_used code bytes k h = by_test (has_stopped k.records) refl
  where
    test : Bool → Bool
    test b = not (eqb (cond b 0 1) 0) && uses_time code (without_time k.state)

    by_test : (b : Bool) → has_stopped k.records ≡ b → (has_stopped k.records ≡ false) × (uses_time code k.state ≡ true)
    by_test true e = absurd (true≢false (sym h ∙ ap test e))
    by_test false e = (e, uses_alike code bytes k.state ∙ sym (ap test e) ∙ h)

used : (code : ℕ → ℕ) → AreBytes code → (timed : Bool) (c : ℕ) (w : World State) → side_bars code timed (side_of c (spot_in timed w)) ≡ true
    → (timed ≡ false) × (core_ended timed (core_of c w) ≡ false) × (uses_time code (core_of c w).state ≡ true)
used code bytes true c w h = absurd (true≢false (sym h))
used code bytes false zero w h = let u = side_used code bytes w.core0 h in (refl, u.0, u.1)
used code bytes false (suc c) w h = let u = side_used code bytes w.core1 h in (refl, u.0, u.1)

pc_same : (timed : Bool) (c : ℕ) (w : World State) → (side_of c (spot_in timed w)).state.control.pc ≡ (core_of c w).state.control.pc
pc_same true zero w = refl
pc_same true (suc c) w = refl
pc_same false zero w = refl
pc_same false (suc c) w = refl

pc_forgotten : (ms : List ℕ) (c : ℕ) (q : Spot State) → (side_of c (spot_forgotten ms q)).state.control.pc ≡ (side_of c q).state.control.pc
pc_forgotten ms zero q = refl
pc_forgotten ms (suc c) q = refl

pub time_used : (image : Image) (o : Options) (s : Search) → IsSearch image o s → (b : Barred) (pc : ℕ) (w : KeptWorld) → IsAt s.graph.kept.items b.from w → b.core < 2
    → side_bars (code_of image) s.machine.timed (side_of b.core (spot_of (memory_of image o) w)) ≡ true → fits (code_of image) s.machine.dead.masks.items (side_of b.core (spot_of (memory_of image o) w)).state ≡ true
    → pc ≡ (side_of b.core (spot_of (memory_of image o) w)).state.control.pc → TimeIsUsed (code_of image) s.machine.timed (opening_of image o) b.core pc
time_used image o s h b pc w there core bars fit at =
    let code = code_of image in
    let timed = s.machine.timed in
    let ms = s.machine.dead.masks.items in
    let r = ordered (Leads code timed ms s.machine.places.list.items s.machine.most_local (memory_of image o)) s.graph h.graph h.first.0 h.first.1 b.from b.from (omega arith) w there in
    let t = reached image o s h r.0 w r.1 r.2 in
    let after = world_after (processor code) timed (opening_of image o) t.0 in
    let e = t.2 in
    let kept = spot_in timed after in
    let u = used code h.bytes timed b.core after
    (used_forgetting code ms timed b.core kept
    (ap (λ (p : Spot State). side_bars code timed (side_of b.core p)) (sym e) ∙ bars)
    (ap (λ (p : Spot State). fits code ms (side_of b.core p).state) (sym e) ∙ fit))
    in
    record {
      order = t.0;
      is_order = t.1;
      is_core = core;
      untimed = u.0;
      going = u.1;
      at = sym (at ∙ ap (λ (p : Spot State). (side_of b.core p).state.control.pc) e ∙ pc_forgotten ms b.core kept ∙ pc_same timed b.core after);
      uses = u.2;
    }
