-- The next turns of both cores after an order, from a run that has turns enough to make them.
use Rattle.std.proofs.Common.{◌≡◌, ℕ, zero, suc, ◌+◌, ◌-◌, ◌<◌, ◌≤◌, Bool, true, false, Option, Some, None, List, [], ◌∷◌, length, get_or, refl, sym, ap, ◌∙◌, arith, ne_eqb}
use Rattle.std.specs.Prelude.{◌==◌, if◌then◌else◌}
use Rattle.xt_map.specs.declared.access.Access.{Access}
use Rattle.xt_map.specs.declared.contents.MemoryContents.{MemoryContents}
use Rattle.xt_map.specs.declared.segment.Segment.{Segment}
use Rattle.xt_map.specs.Memory.{constant_byte}
use Rattle.xt_map.specs.Serving.{reply_to}
use Rattle.xt_image.specs.declared.image.Image.{Image}
use Rattle.xt_trace.specs.declared.options.Options.{Options}
use Rattle.xt_trace.specs.Runs.{Opening, world_at_start}
use Rattle.xt_trace.specs.Traces.{has_stopped}
use Rattle.xt_trace.specs.Worlds.{Core, Line, World, advance, answer}
use Rattle.xt_exec.specs.Chips.{processor}
use Rattle.xt_exec.specs.State.{State}
use Rattle.xt_exec.specs.Turn.{demand, turn}
use Rattle.xt_core.specs.Runs.{code_of, memory_of}
use Rattle.xt_search.specs.Worlds.{IsOrder}
use Rattle.xt_timeless.specs.TimeLaws.{HasTurns}
use Rattle.xt_outcomes.specs.Beyond.{IsSameButForTurns}
use Rattle.xt_outcomes.specs.KeptWorlds.{spot_of}
use Rattle.xt_outcomes.specs.NextRaces.{IsNextRace, next_access}
use Rattle.xt_outcomes.specs.NextTurns.{AreNextTurns, IsNextTurn}
use Rattle.xt_outcomes.specs.Orders.{with_turns, world_after}
use Rattle.xt_outcomes.specs.Spots.{Side, side_in, spot_after, spot_in}
use Rattle.xt_outcomes.specs.declared.nexts.NextTurn.{NextTurn}
use Rattle.xt_outcomes.specs.declared.world.World.{World as KeptWorld}
use Rattle.xt_outcomes.proofs.Beyond.{turns_beyond}
use Rattle.xt_outcomes.proofs.Counted.{Counts}
use Rattle.xt_outcomes.proofs.Spotted.{spot_advanced}

-- each number of an order is one of a core
pub core_of_order : (order : List ℕ) (i : ℕ) → IsOrder order → i < length order → get_or order i 0 < 2
core_of_order [] i is within = absurd (omega (arith, within))
core_of_order (c ∷ cs) zero is within = is.0
core_of_order (c ∷ cs) (suc i) is within = core_of_order cs i is.1 (omega (arith, within))

-- ---- the access of a core's next turn

asks_when : (b : Bool) (d : Option Access) (a : Access) → (if b then None else d) ≡ Some a → (b ≡ false) × (d ≡ Some a)
asks_when true d a h = absurd cc
asks_when false d a h = (refl, h)

none_left : (n : ℕ) → (n == 0) ≡ false → 0 < n
none_left zero h = absurd cc
none_left (suc n) h = omega arith

module _ (code : ℕ → ℕ) where
  -- of a core that has a turn left
  pub has_left : (k : Core State) (a : Access) → next_access code true k ≡ Some a → 0 < k.left
  has_left k a h = none_left k.left (asks_when (k.left == 0) (demand code k.state) a h).0

  demands : (k : Core State) (a : Access) → next_access code true k ≡ Some a → demand code k.state ≡ Some a
  demands k a h = (asks_when (k.left == 0) (demand code k.state) a h).1

  -- the same access is made with a turn more than the order asks for
  looks : (k l : Core State) (a : Access) → IsSameButForTurns l k → HasTurns 1 l → next_access code false k ≡ Some a → next_access code true l ≡ Some a
  looks k l a same turns h =
      let g = asks_when (has_stopped k.records) (demand code k.state) a h in
      let going : has_stopped l.records ≡ false = ap has_stopped same.records ∙ g.0 in
      let left : 1 ≤ l.left = turns.1 going in
      let some : (l.left == 0) ≡ false = ne_eqb l.left 0 (λ (e : l.left ≡ 0). omega arith) in
      ap (λ (b : Bool). if b then None else demand code l.state) some ∙ ap (demand code) same.state ∙ g.1

  same_turn : (k l : Core State) (b d : Line) (t : NextTurn) → IsSameButForTurns l k → d ≡ b → IsNextTurn code l d t → IsNextTurn code k b t
  same_turn k l b d t same e h =
      let st = same.state in
      record {
        turn = h.turn ∙ ap length same.records;
        step = h.step ∙ (λ i. (turn code (st i) (answer (demand code (st i)) (e i).memory)).0);
      }

  -- ---- in place of the run of an order, one with a turn more of each core

  module _ (o : Opening State) (order : List ℕ) where
    abbrev pub looked : World State
    looked = advance (processor code) order (world_at_start (with_turns o (length order + 1)))

    pub asks0 : (a b : Access) → IsNextRace code false (world_after (processor code) false o order) a b → next_access code true looked.core0 ≡ Some a
    asks0 a b h =
        let w = turns_beyond (processor code) o order 1 in
        looks (world_after (processor code) false o order).core0 looked.core0 a w.0.core0 w.1.0 h.next0

    pub asks1 : (a b : Access) → IsNextRace code false (world_after (processor code) false o order) a b → next_access code true looked.core1 ≡ Some b
    asks1 a b h =
        let w = turns_beyond (processor code) o order 1 in
        looks (world_after (processor code) false o order).core1 looked.core1 b w.0.core1 w.1.1 h.next1

    pub same_turns : (t u : NextTurn) → AreNextTurns code looked t u → AreNextTurns code (world_after (processor code) false o order) t u
    same_turns t u h =
        let w = turns_beyond (processor code) o order 1 in
        let v = world_after (processor code) false o order in
        record {
          turn0 = same_turn v.core0 looked.core0 v.line looked.line t w.0.core0 w.0.line h.turn0;
          turn1 = same_turn v.core1 looked.core1 v.line looked.line u w.0.core1 w.0.line h.turn1;
        }

  -- ---- from what is kept of the world

  pub left_within : (total : ℕ) (k : Core State) (a : Access) (s : Side State) → next_access code true k ≡ Some a → Counts total k → s ≡ side_in true k → s.left ≤ total
  left_within total k a s asks counts e =
      let all : length k.records + k.left ≡ total = counts (has_left k a asks) in
      let same : s.left ≡ k.left = ap (λ (x : Side State). x.left) e in
      omega arith

  pub turn_is : (total : ℕ) (k : Core State) (b : Line) (a : Access) (s : Side State) (m : MemoryContents) (t : NextTurn) → next_access code true k ≡ Some a → Counts total k → s ≡ side_in true k → m ≡ b.memory
      → t.turn ≡ total - s.left → t.step ≡ (turn code s.state (reply_to m a)).0 → IsNextTurn code k b t
  turn_is total k b a s m t asks counts e f count step =
      let all : length k.records + k.left ≡ total = counts (has_left k a asks) in
      let made : total - k.left ≡ length k.records = omega (arith, all) in
      record {
        turn = count ∙ ap (λ (x : Side State). total - x.left) e ∙ made;
        step = step ∙ (λ i. (turn code (e i).state (reply_to (f i) a)).0) ∙ ap (λ (d : Option Access). (turn code k.state (answer d b.memory)).0) (sym (demands k a asks));
      }

-- what is kept of the world after an order
pub arrives : (image : Image) (o : Options) (segments : List Segment) (m : MemoryContents) (timed : Bool) (order : List ℕ) (v w : KeptWorld) (oo : Opening State)
    → segments ≡ image.segments → m ≡ memory_of image o → timed ≡ true → spot_of (memory_of image o) v ≡ spot_in true (world_at_start oo)
    → spot_of m w ≡ spot_after (processor (constant_byte segments)) timed order (spot_of m v) → spot_of m w ≡ spot_in true (advance (processor (code_of image)) order (world_at_start oo))
arrives image o segments m timed order v w oo code memory is opens by =
    by ∙ (λ i. spot_after (processor (constant_byte (code i))) (is i) order (spot_of (memory i) v))
    ∙ ap (spot_after (processor (code_of image)) true order) opens ∙ sym (spot_advanced (processor (code_of image)) order (world_at_start oo))
