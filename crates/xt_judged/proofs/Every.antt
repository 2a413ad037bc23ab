-- The scene after an order of turns, where a search keeps the scene after each order of stretches.
use Rattle.std.proofs.Common.{◌≡◌, ℕ, zero, suc, ◌<◌, Bool, true, false, Option, Some, None, List, [], ◌∷◌, ◌++◌, refl, sym, ap, ◌∙◌, subst, ◌≢◌, inl, inr}
use Rattle.std.specs.Prelude.{is_some, option_map}
use Rattle.std.proofs.lemmas.Bool.{true≢false}
use Rattle.xt_map.specs.declared.contents.MemoryContents.{MemoryContents}
use Rattle.xt_map.specs.declared.segment.Segment.{Segment}
use Rattle.xt_map.specs.Memory.{constant_byte}
use Rattle.xt_image.specs.declared.image.Image.{Image}
use Rattle.xt_trace.specs.declared.options.Options.{Options}
use Rattle.xt_map.specs.Code.{AreBytes}
use Rattle.xt_exec.specs.Chips.{processor}
use Rattle.xt_core.specs.Runs.{code_of, memory_of}
use Rattle.xt_search.specs.declared.graph.Graph.{Graph}
use Rattle.xt_search.specs.Graphs.{HasAll, OpensWith}
use Rattle.xt_search.specs.Meetings.{after, run}
use Rattle.xt_search.proofs.Meeting.{after_append}
use Rattle.xt_frames.specs.Breaches.{Bounds}
use Rattle.xt_discipline.specs.Verdicts.{are_checked, opened0, opened1}
use Rattle.xt_search.specs.Worlds.{IsOrder, Reaches}
use Rattle.xt_outcomes.specs.Places.{turns_of}
use Rattle.xt_judged.specs.Laws.{AllAreWholeWhereNoSceneBreaks}
use Rattle.xt_judged.specs.Orders.{first_scene, scene_after}
use Rattle.xt_judged.specs.Runs.{AllAreWhole}
use Rattle.xt_judged.specs.Scenes.{Scene, scene_bars, scene_past, scenes_after}
use Rattle.xt_judged.specs.declared.scene.Scene as kept
use Rattle.xt_judged.specs.declared.scene.Shown.{Shown}
use Rattle.xt_judged.specs.Kept.{IsFirst, Leads, ShowsNone, bounds0, bounds1, goes_on, scene_of, stretch, told_of}
use Rattle.xt_judged.proofs.Alone.{alone_free, alone_unbroken, others_wait}
use Rattle.xt_judged.proofs.Stretches.{IsCovered, covers_orders}

-- for the same code and the same opening memory, timed or not
pub carried : (F : (ℕ → ℕ) → Bool → MemoryContents → Type 0) (xs ys : List Segment) (a b : Bool) (m n : MemoryContents) → xs ≡ ys → a ≡ b → m ≡ n
    → F (constant_byte xs) a m → F (constant_byte ys) b n
carried F xs ys a b m n e f g h =
    subst (F (constant_byte ys) b) g (subst (λ (t : Bool). F (constant_byte ys) t m) f (subst (λ (l : List Segment). F (constant_byte l) a m) e h))

pub reaches_last : {W : Type 0} (L : ℕ → W → W → Type 0) (cs : List ℕ) (c : ℕ) (v w : W) → Reaches L (cs ++ c ∷ []) v w → (u : W) × Reaches L cs v u × L c u w
reaches_last {W} L [] c v w h = (v, refl, subst (λ (x : W). L c v x) h.2 h.1)
reaches_last {W} L (d ∷ ds) c v w h =
    let r = reaches_last L ds c h.0 w h.2 in
    (r.0, (h.0, h.1, r.1), r.2)

module _ (code : ℕ → ℕ) (timed : Bool) where
  pub scenes_are : (b0 b1 : Bounds) (order : List ℕ) (s : Scene) → scenes_after (processor code) code b0 b1 timed order s ≡ after (scene_past (processor code) code b0 b1 timed) order s
  scenes_are b0 b1 [] s = refl
  scenes_are b0 b1 (c ∷ cs) s = scenes_are b0 b1 cs (scene_past (processor code) code b0 b1 timed c s)

  reached : (n : ℕ) (m : MemoryContents) (order : List ℕ) (v w : kept.Scene) → Reaches (Leads code timed n m) order v w
      → scene_of m w ≡ after (stretch code (bounds0 v) (bounds1 v) timed n) order (scene_of m v)
  reached n m [] v w h = ap (scene_of m) (sym h)
  reached n m (c ∷ cs) v w h = reached n m cs h.0 w h.2 ∙ (λ i. after (stretch code (h.1.same0 i) (h.1.same1 i) timed n) cs (h.1.turns i))

pub not_some : (b : Option Shown) (r : Bool) → r ≡ is_some b → r ≡ false → b ≡ None
not_some None r e f = refl
not_some (Some s) r e f = absurd (true≢false (sym e ∙ f))

no_breach : (b : Option Shown) → b ≡ None → option_map told_of b ≡ None
no_breach b e = ap (option_map told_of) e

abbrev pub step_of : Image → Options → (timed : Bool) → ℕ → Scene → Scene
step_of image o timed c s = scene_past (processor (code_of image)) (code_of image) (opened0 image o).bounds (opened1 o).bounds timed c s

abbrev pub stretches_of : Image → Options → (timed : Bool) → ℕ → ℕ → Scene → Scene
stretches_of image o timed n c s = stretch (code_of image) (opened0 image o).bounds (opened1 o).bounds timed n c s

pub orders_more : (xs ys : List ℕ) → IsOrder xs → IsOrder ys → IsOrder (xs ++ ys)
orders_more [] ys is more = more
orders_more (x ∷ xs) ys is more = (is.0, orders_more xs ys is.1 more)

pub same_cores : (c n : ℕ) → c < 2 → IsOrder (turns_of c n)
same_cores c zero small = tt
same_cores c (suc n) small = (small, same_cores c n small)

-- where the graph begins with the scene in which the image's runs open
module _ (image : Image) (o : Options) (timed : Bool) (n : ℕ) (g : Graph kept.Scene) (w : kept.Scene) (opens : IsFirst image o timed w) (first : OpensWith g w) where
  abbrev Turns : ℕ → kept.Scene → kept.Scene → Type 0
  Turns c v u = Leads (code_of image) timed n (memory_of image o) c v u

  abbrev step : ℕ → Scene → Scene
  step c s = step_of image o timed c s

  abbrev stretches : ℕ → Scene → Scene
  stretches c s = stretches_of image o timed n c s

  pub after_runs : (runs : List ℕ) (u : kept.Scene) → Reaches Turns runs w u → scene_of (memory_of image o) u ≡ after stretches runs (first_scene image o timed)
  after_runs runs u r =
      reached (code_of image) timed n (memory_of image o) runs w u r
      ∙ (λ i. after (stretch (code_of image) (opens.judged0 i) (opens.judged1 i) timed n) runs (opens.scene i))

  module _ (all : HasAll Turns g) (none : ShowsNone (λ (v : kept.Scene). v.breach) g) where
    abbrev IsKept : Scene → Type 0
    IsKept z = (runs : List ℕ) × IsOrder runs × (z ≡ after stretches runs (first_scene image o timed))

    next_kept : (c : ℕ) (z : Scene) → c < 2 → IsKept z → IsKept (run step (goes_on (code_of image) timed) n c z)
    next_kept c z small k = (
      k.0 ++ c ∷ [],
      orders_more k.0 (c ∷ []) k.1 (small, tt),
      ap (stretches c) k.2 ∙ sym (after_append stretches k.0 (c ∷ []) (first_scene image o timed)),
    )

    kept_unbroken : (z : Scene) → IsKept z → z.breach ≡ None
    kept_unbroken z k =
        let h = all w first k.0 k.1 in
        ap (λ (x : Scene). x.breach) (k.2 ∙ sym (after_runs k.0 h.1 h.3)) ∙ no_breach h.1.breach (none h.0 h.1 h.2)

    kept_free : (z : Scene) → IsKept z → (c : ℕ) → c < 2 → scene_bars (code_of image) timed c z ≡ false
    kept_free z k c small =
        let h = all w first (k.0 ++ c ∷ []) (orders_more k.0 (c ∷ []) k.1 (small, tt)) in
        let r = reaches_last Turns k.0 c w h.1 h.3 in
        subst (λ (x : Scene). scene_bars (code_of image) timed c x ≡ false) (after_runs k.0 r.0 r.1 ∙ sym k.2) r.2.free

    alone : (c d : ℕ) (z : Scene) → d ≢ c → goes_on (code_of image) timed c z ≡ true → step d z ≡ z
    alone c d z isnt on = others_wait (code_of image) timed c z on (opened0 image o).bounds (opened1 o).bounds d isnt

    abbrev IsReached : Scene → Type 0
    IsReached z = IsCovered step (goes_on (code_of image) timed) alone n IsKept next_kept z

    all_reached : (order : List ℕ) → IsOrder order → IsReached (scene_after image o timed order)
    all_reached order is =
        subst IsReached (sym (scenes_are (code_of image) timed (opened0 image o).bounds (opened1 o).bounds order (first_scene image o timed)))
        (covers_orders step (goes_on (code_of image) timed) alone n IsKept next_kept order (first_scene image o timed) is (inl ([], tt, refl)))

    reached_unbroken : (z : Scene) → IsReached z → z.breach ≡ None
    reached_unbroken z (inl k) = kept_unbroken z k
    reached_unbroken z (inr x) = alone_unbroken (code_of image) timed x.core z x.goes_on

    reached_free : (z : Scene) → IsReached z → (c : ℕ) → c < 2 → scene_bars (code_of image) timed c z ≡ false
    reached_free z (inl k) c small = kept_free z k c small
    reached_free z (inr x) c small = alone_free (code_of image) timed x.core z x.goes_on c

    pub all_whole : AllAreWholeWhereNoSceneBreaks → AreBytes (code_of image) → are_checked image o ≡ true → AllAreWhole image o timed
    all_whole law bytes checked =
        law image o timed bytes checked (λ order is. reached_unbroken (scene_after image o timed order) (all_reached order is))
        (λ order c is small. reached_free (scene_after image o timed order) (all_reached order is) c small)
