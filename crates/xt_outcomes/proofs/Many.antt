-- A search that keeps so many worlds has found orders that lead to as many states.
use Rattle.std.proofs.Common.{◌≡◌, ℕ, ◌<◌, ◌≤◌, List, [], ◌∷◌, length, sym, ap, ◌∙◌, subst, arith}
use Rattle.xt_map.specs.declared.contents.MemoryContents.{MemoryContents}
use Rattle.xt_image.specs.declared.image.Image.{Image}
use Rattle.xt_search.specs.Graphs.{IsAt}
use Rattle.xt_search.specs.Worlds.{IsOrder, Reaches}
use Rattle.xt_search.proofs.Endings.{some_at}
use Rattle.xt_search.proofs.Numbers.{at_kept}
use Rattle.xt_search.specs.Changed.{IsLean}
use Rattle.xt_search.proofs.Leaning.{lean_same}
use Rattle.xt_trace.specs.declared.options.Options.{Options}
use Rattle.xt_exec.specs.State.{State}
use Rattle.xt_core.specs.Runs.{code_of, memory_of, opening_of}
use Rattle.xt_outcomes.specs.Dead.{spot_forgotten}
use Rattle.xt_outcomes.specs.KeptWorlds.{Leads, spot_of}
use Rattle.xt_outcomes.specs.Marks.{IsSameWorld}
use Rattle.xt_outcomes.specs.Searched.{IsSearch, kept_after}
use Rattle.xt_outcomes.specs.Spots.{Spot}
use Rattle.xt_outcomes.specs.States.{LeadToMany}
use Rattle.xt_outcomes.specs.declared.found.Search.{Search}
use Rattle.xt_outcomes.specs.declared.world.World.{World}
use Rattle.xt_outcomes.proofs.CodeBytes.{memory_sizes}
use Rattle.xt_outcomes.proofs.Finding.{reached}
use Rattle.xt_outcomes.proofs.Using.{ordered}

module _ (image : Image) (o : Options) (s : Search) (h : IsSearch image o s) where
  abbrev L : ℕ → World → World → Type 0
  L = Leads (code_of image) s.machine.timed s.machine.dead.masks.items s.machine.places.list.items s.machine.most_local (memory_of image o)

  abbrev m : MemoryContents
  m = memory_of image o

  lean_on : (runs : List ℕ) (v w : World) → Reaches L runs v w → IsLean m v.changes.value → IsLean m w.changes.value
  lean_on [] v w e l = subst (λ (x : World). IsLean m x.changes.value) e l
  lean_on (c ∷ cs) v w r l = lean_on cs r.0 w r.2 (r.1.2 l)

  -- an order that leads to a kept world, which holds only bytes that differ from the opening's
  pub found : (k : ℕ) (w : World) → IsAt s.graph.kept.items k w
      → (order : List ℕ) × IsOrder order × (spot_of m w ≡ kept_after image o s order) × IsLean m w.changes.value
  found k w at =
      let r = ordered L s.graph h.graph h.first.0 h.first.1 k k (omega arith) w at in
      let t = reached image o s h r.0 w r.1 r.2 in
      (t.0, t.1, t.2, lean_on r.0 h.first.0 w r.2 h.first.3)

  -- kept worlds that stand for one state are the same
  same_world : (v w : World) → spot_of m v ≡ spot_of m w → IsLean m v.changes.value → IsLean m w.changes.value → IsSameWorld v w
  same_world v w e a b = (
    ap (λ (p : Spot State). p.side0) e,
    ap (λ (p : Spot State). p.side1) e,
    lean_same m v.changes.value w.changes.value (memory_sizes image o) a b (ap (λ (p : Spot State). p.memory) e),
  )

  world_at : (k : ℕ) → k < length s.graph.kept.items → (w : World) × IsAt s.graph.kept.items k w
  world_at k less = let x = some_at s.graph.kept.items k less in (x.0.world, at_kept s.graph.kept.items k x.0 x.1)

  pub many_found : (most : ℕ) → most ≤ length s.graph.kept.items → LeadToMany (code_of image) s.machine.timed (opening_of image o) most
  many_found most full =
      let at : (k : ℕ) → k < most → (w : World) × IsAt s.graph.kept.items k w = λ k less. world_at k (omega arith) in
      let to = λ (k : ℕ) (less : k < most). found k (at k less).0 (at k less).1 in
      record {
        order = λ k less. (to k less).0;
        is_order = λ k less. (to k less).1;
        differ = λ j k a b less e.
            h.distinct j k (at j a).0 (at k b).0 less (at j a).1 (at k b).1
            (same_world (at j a).0 (at k b).0 ((to j a).2 ∙ ap (spot_forgotten s.machine.dead.masks.items) e ∙ sym (to k b).2) (to j a).3 (to k b).3);
      }
