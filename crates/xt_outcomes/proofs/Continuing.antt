-- Orders that stay stuck, and orders that can be continued.
use Rattle.std.proofs.Common.{append_assoc, ◌≡◌, ℕ, zero, suc, ◌<◌, Bool, true, false, List, [], ◌∷◌, ◌++◌, length, Some, slice_get, refl, sym, ap, ◌∙◌, subst, arith}
use Rattle.xt_map.specs.Memory.{HasSizes, constant_byte}
use Rattle.xt_image.specs.declared.image.Image.{Image}
use Rattle.xt_search.specs.declared.graph.Kept.{Kept}
use Rattle.xt_search.specs.Ends.{AreMarks}
use Rattle.xt_search.specs.Graphs.{IsAt}
use Rattle.xt_search.specs.Meetings.{after}
use Rattle.xt_search.specs.Worlds.{IsOrder, Reaches}
use Rattle.xt_search.proofs.Numbers.{at_within}
use Rattle.xt_search.proofs.Meeting.{after_append}
use Rattle.xt_trace.specs.declared.options.Options.{Options}
use Rattle.xt_trace.specs.Chip.{Chip}
use Rattle.xt_trace.specs.Runs.{Opening, world_at_start}
use Rattle.xt_trace.specs.Worlds.{World, advance, give}
use Rattle.xt_exec.specs.Chips.{processor}
use Rattle.xt_exec.specs.State.{State}
use Rattle.xt_core.specs.Runs.{code_of, memory_of, opening_of}
use Rattle.xt_outcomes.specs.Endings.{has_ended}
use Rattle.xt_outcomes.specs.KeptWorlds.{Leads, spot_of}
use Rattle.xt_outcomes.specs.Nexts.{spot_next}
use Rattle.xt_outcomes.specs.Orders.{given_turns, with_turns, world_after}
use Rattle.xt_outcomes.specs.Outcomes.{CanAllEnd, IsStuck, have_ended}
use Rattle.xt_outcomes.specs.Searched.{IsComplete, IsFoundBy, IsSearch, kept_after}
use Rattle.xt_outcomes.specs.Spots.{Spot}
use Rattle.xt_outcomes.specs.declared.found.Search.{Search}
use Rattle.xt_outcomes.specs.declared.world.World.{World as KeptWorld}
use Rattle.xt_outcomes.proofs.CodeBytes.{memory_sizes}
use Rattle.xt_outcomes.proofs.Commuted.{past_sizes}
use Rattle.xt_outcomes.proofs.Covering.{order_more, runs_reach, stuck_turns}
use Rattle.xt_outcomes.proofs.Finding.{all_turned, carried, ended_same, first_spot, meets_orders, told_kept}

-- ---- any list of numbers as an order of two cores

abbrev as_order : List ℕ → List ℕ
as_order [] = []
as_order (zero ∷ cs) = 0 ∷ as_order cs
as_order (suc c ∷ cs) = 1 ∷ as_order cs

is_order : (cs : List ℕ) → IsOrder (as_order cs)
is_order [] = tt
is_order (zero ∷ cs) = (omega arith, is_order cs)
is_order (suc c ∷ cs) = (omega arith, is_order cs)

as_long : (cs : List ℕ) → length (as_order cs) ≡ length cs
as_long [] = refl
as_long (zero ∷ cs) = ap suc (as_long cs)
as_long (suc c ∷ cs) = ap suc (as_long cs)

same_more : (P : Chip State) (cs : List ℕ) (w : World State) → advance P (as_order cs) w ≡ advance P cs w
same_more P [] w = refl
same_more P (zero ∷ cs) w = same_more P cs (give P 0 w)
same_more P (suc c ∷ cs) w = same_more P cs (give P 1 w)

same_advance : (P : Chip State) (order more : List ℕ) (w : World State) → advance P (order ++ as_order more) w ≡ advance P (order ++ more) w
same_advance P [] more w = same_more P more w
same_advance P (c ∷ cs) more w = same_advance P cs more (give P c w)

long_more : (order more : List ℕ) → length (order ++ as_order more) ≡ length (order ++ more)
long_more [] more = as_long more
long_more (c ∷ cs) more = ap suc (long_more cs more)

same_given : (timed : Bool) (o : Opening State) (order more : List ℕ) → given_turns timed o (order ++ as_order more) ≡ given_turns timed o (order ++ more)
same_given true o order more = refl
same_given false o order more = ap (with_turns o) (long_more order more)

same_world : (P : Chip State) (timed : Bool) (o : Opening State) (order more : List ℕ) → world_after P timed o (order ++ as_order more) ≡ world_after P timed o (order ++ more)
same_world P timed o order more =
    same_advance P order more (world_at_start (given_turns timed o (order ++ as_order more))) ∙ ap (λ (q : Opening State). advance P (order ++ more) (world_at_start q)) (same_given timed o order more)

-- ---- one order after another

pub reaches_append : {W : Type 0} (L : ℕ → W → W → Type 0) (xs ys : List ℕ) (u v w : W) → Reaches L xs u v → Reaches L ys v w → Reaches L (xs ++ ys) u w
reaches_append {W} L [] ys u v w h k = subst (λ (x : W). Reaches L ys x w) (sym h) k
reaches_append {W} L (c ∷ cs) ys u v w h k = (h.0, h.1, reaches_append L cs ys h.0 v w h.2 k)

-- ---- what is kept

pub there : (ks : List (Kept KeptWorld)) (k : ℕ) → k < length ks → (w : KeptWorld) × IsAt ks k w
there [] k h = absurd (omega arith)
there (x ∷ ks) zero h = (x.world, refl)
there (x ∷ ks) (suc k) h = there ks k (let g : suc k < suc (length ks) = h in omega arith)

module _ (image : Image) (o : Options) (s : Search) (h : IsSearch image o s) (complete : IsComplete s) where
  -- both have ended after the order, what comes first after it, and the turns then
  after_both : (order turns : List ℕ) (w : KeptWorld) → IsOrder order → IsOrder turns → spot_of (memory_of image o) w ≡ kept_after image o s order
      → after (spot_next (processor (code_of image)) s.machine.timed s.machine.dead.masks.items) turns (spot_of (memory_of image o) w) ≡ kept_after image o s (order ++ turns)
  after_both order turns w is more e =
      let step = spot_next (processor (code_of image)) s.machine.timed s.machine.dead.masks.items in
      ap (after step turns) (e ∙ sym (all_turned image o s h complete order is))
      ∙ sym (after_append step order turns (first_spot image o s h))
      ∙ all_turned image o s h complete (order ++ turns) (order_more order turns is more)

  after_sizes : (order : List ℕ) (p : Spot State) → HasSizes p.memory → HasSizes (after (spot_next (processor (code_of image)) s.machine.timed s.machine.dead.masks.items) order p).memory
  after_sizes [] p z = z
  after_sizes (c ∷ cs) p z = after_sizes cs (spot_next (processor (code_of image)) s.machine.timed s.machine.dead.masks.items c p) (past_sizes (code_of image) s.machine.timed s.machine.dead.masks.items c p z)

  module _ (marks : List Bool)
      (are : AreMarks (Leads (constant_byte s.machine.code) s.machine.timed s.machine.dead.masks.items s.machine.places.list.items s.machine.most_local s.machine.opening.contents) (λ w. has_ended (spot_of (memory_of image o) w)) s.graph marks) where
    marked : AreMarks (Leads (code_of image) s.machine.timed s.machine.dead.masks.items s.machine.places.list.items s.machine.most_local (memory_of image o)) (λ w. has_ended (spot_of (memory_of image o) w)) s.graph marks
    marked =
        carried (λ k n. AreMarks (Leads k s.machine.timed s.machine.dead.masks.items s.machine.places.list.items s.machine.most_local n) (λ w. has_ended (spot_of (memory_of image o) w)) s.graph marks)
        s.machine.code image.segments s.machine.opening.contents (memory_of image o) h.code h.opening are

    pub all_can_end : ((k : ℕ) → k < length marks → slice_get marks k ≡ Some true) → CanAllEnd (processor (code_of image)) s.machine.timed (opening_of image o)
    all_can_end all = λ order is.
        let P = processor (code_of image) in
        let oo = opening_of image o in
        let timed = s.machine.timed in
        let met = meets_orders image o s h complete order is in
        let r = met.kept in
        let long : length marks ≡ length s.graph.kept.items = marked.as_long in
        let less : r.0 < length s.graph.kept.items = at_within s.graph.kept.items r.0 r.1 r.2 in
        let c = marked.can_end r.0 r.1 (all r.0 (omega arith)) r.2 in
        let t = runs_reach (code_of image) timed s.machine.dead.masks.items s.machine.places.list.items s.machine.most_local (memory_of image o) c.0 r.1 c.1 c.2 c.3 in
        let e = after_both (order ++ met.more) t.turns r.1 (order_more order met.more is met.is_order) t.is_order r.3 in
        let f : have_ended timed (world_after P timed oo ((order ++ met.more) ++ t.turns)) ≡ true =
        sym (ended_same timed (world_after P timed oo ((order ++ met.more) ++ t.turns))) ∙ ap has_ended (sym (t.same ∙ e)) ∙ c.4
        in (
          met.more ++ t.turns,
          order_more met.more t.turns met.is_order t.is_order,
          ap (λ (l : List ℕ). have_ended timed (world_after P timed oo l)) (sym (append_assoc order met.more t.turns)) ∙ f,
        )

    pub is_stuck : (order : List ℕ) (k : ℕ) → IsOrder order → k < length marks → slice_get marks k ≡ Some false → IsFoundBy image o s order k
        → IsStuck (processor (code_of image)) s.machine.timed (opening_of image o) order
    is_stuck order k is less unmarked found = λ more.
        let P = processor (code_of image) in
        let oo = opening_of image o in
        let m = memory_of image o in
        let timed = s.machine.timed in
        let long : length marks ≡ length s.graph.kept.items = marked.as_long in
        let w = there s.graph.kept.items k (omega arith) in
        let e = found w.0 w.1 in
        let z : HasSizes (spot_of m w.0).memory =
        subst (λ (p : Spot State). HasSizes p.memory) (all_turned image o s h complete order is ∙ sym e) (after_sizes order (first_spot image o s h) (memory_sizes image o))
        in
        let st = stuck_turns (code_of image) timed s.machine.dead.masks.items s.machine.places.list.items s.machine.most_local m s.graph h.graph complete.whole (told_kept image o s h complete.allowed)
        k w.0 z w.1 (marked.stuck k w.0 unmarked w.1) (as_order more) (is_order more)
        in
        let f = after_both order (as_order more) w.0 is (is_order more) e in
        ap (have_ended timed) (sym (same_world P timed oo order more))
        ∙ sym (ended_same timed (world_after P timed oo (order ++ as_order more))) ∙ ap has_ended (sym f) ∙ st
