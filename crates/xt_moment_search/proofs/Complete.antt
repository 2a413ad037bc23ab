-- After a search that came to its end each order with moments ends in a listed outcome.
use Rattle.std.proofs.Common.{◌≡◌, ℕ, zero, suc, ◌+◌, ◌-◌, ◌<◌, true, false, ◌&&◌, Option, Some, List, []}
use Rattle.std.proofs.Common.{◌∷◌, ◌++◌, length, slice_get, refl, sym, ap, ◌∙◌, subst, ⊎_elim, arith}
use Rattle.std.specs.Prelude.{slice_index}
use Rattle.std.specs.List.{All, AllByRecursion, Contains}
use Rattle.std.proofs.lemmas.Bool.{cases_Bool, cases_lt, cond-false, cond-true}
use Rattle.std.proofs.lemmas.List.{get_or-replicate, get_or_past, length-replicate}
use Rattle.std.proofs.lemmas.List.Elements.{recursion_from_All}
use Rattle.xt_map.specs.declared.regions.Region.{Region}
use Rattle.xt_map.specs.declared.regions.Region.TheVariants.{RtcFastData, Dram, RtcSlow}
use Rattle.xt_map.specs.declared.contents.MemoryContents.{MemoryContents}
use Rattle.xt_map.specs.declared.segment.Segment.{Segment}
use Rattle.xt_map.specs.Memory.{HasSizes, byte_at, byte_in, cleared_memory, constant_byte, dram_first}
use Rattle.xt_map.specs.Memory.{dram_size, opening_memory, rtc_fast_data_first, rtc_fast_data_size}
use Rattle.xt_map.specs.Memory.{rtc_slow_first, rtc_slow_size, zeros}
use Rattle.xt_map.specs.Regions.{region_of}
use Rattle.xt_map.specs.Touching.{IsMemory}
use Rattle.xt_map.proofs.Stored.{cleared_has_sizes}
use Rattle.xt_image.specs.declared.image.Image.{Image}
use Rattle.xt_image.specs.ImageParts.{FitsImage, FitsSegment}
use Rattle.xt_trace.specs.declared.options.Options.{Options}
use Rattle.xt_search.specs.Changed.{ChangesState, contents_of}
use Rattle.xt_core.specs.Runs.{code_of, memory_of, opening_at, opening_of, stack_words}
use Rattle.xt_exec.specs.TurnLaws.{IsShaped}
use Rattle.xt_search.specs.declared.graph.Graph.{Graph}
use Rattle.xt_search.specs.Graphs.{IsAt, IsGraph, IsWhole, OpensWith}
use Rattle.xt_simulation.specs.Opening.{AreSmall, range_of}
use Rattle.xt_simulation.proofs.Opened.{opening_is_memory}
use Rattle.xt_simulation.specs.SecretWorlds.{Learned}
use Rattle.xt_use_walk.specs.MaskedBytes.{is_byte}
use Rattle.xt_moments.specs.Moments.{IsMove, MomentCore, MomentWorld, opening_core, opening_world, world_past}
use Rattle.xt_moments.specs.Outcomes.{CanAllEnd, HasAllOutcomes, IsStuck, MomentOutcome}
use Rattle.xt_moments.specs.Outcomes.{have_stopped, outcome_in}
use Rattle.xt_moments.specs.declared.moves.Move.{Move}
use Rattle.xt_bus.proofs.Opening.{opening_sends_none}
use Rattle.xt_moments.specs.WorldLaws.{AreAlike, AreKnown, IsShapedWorld, opening_learned}
use Rattle.xt_moments.proofs.OneOutcome.{alike_at_start, words_same}
use Rattle.xt_moment_search.specs.Covering.{Covers, LedIn, learned_in, standing}
use Rattle.xt_moment_search.specs.KnownCores.{core_of, known_byte}
use Rattle.xt_moment_search.specs.Listed.{AreListed}
use Rattle.xt_moment_search.specs.Opened.{IsGroundOf, IsOpen}
use Rattle.xt_moment_search.specs.Stuckness.{Ends, IsStuckAnswer, IsStuckOrder, has_ended}
use Rattle.xt_moment_search.specs.Told.{IsStuckOf, outcomes_in}
use Rattle.xt_moment_search.specs.declared.stuck.Stuck.{Stuck}
use Rattle.xt_moment_search.specs.declared.stuck.Stuck.TheVariants as stuck
use Rattle.xt_moment_search.specs.declared.found.Found.{Found}
use Rattle.xt_moment_search.specs.declared.ground.Ground.{Ground}
use Rattle.xt_moment_search.specs.declared.worlds.World.{World}
use Rattle.xt_moment_search.proofs.Closed.{stands_for_all}
use Rattle.xt_moment_search.proofs.Ended.{past_append, turns_are_moves}
use Rattle.std.proofs.lemmas.List.Elements.{All-append}
use Rattle.xt_moments.specs.Awaiting.{turns_in}
use Rattle.xt_moments.proofs.Awaited.{after_turns, once_stopped}

-- ---- a memory of zeros

zero_at : (n k : ℕ) → slice_index (zeros n) k ≡ 0
unfolding zeros
zero_at n k = ⊎_elim (λ less. get_or-replicate n k 0 0 less)
    (λ more. get_or_past (zeros n) k 0
    (let l : length (zeros n) ≡ n = length-replicate n 0 in omega (arith, l, more)))
    (cases_lt k n)

zero_in : (r : Option Region) (a : ℕ) → byte_in r cleared_memory a ≡ 0
unfolding cleared_memory
zero_in (Some RtcFastData) a = zero_at rtc_fast_data_size (a - rtc_fast_data_first)
zero_in (Some Dram) a = zero_at dram_size (a - dram_first)
zero_in (Some RtcSlow) a = zero_at rtc_slow_size (a - rtc_slow_first)
zero_in _ a = refl

abbrev none : ChangesState
none = record { bytes = []; sent = [] }

with_none : (r : Option Region) (m : MemoryContents) (a : ℕ) → byte_in r (contents_of m none) a
    ≡ byte_in r m a
with_none (Some RtcFastData) m a = refl
with_none (Some Dram) m a = refl
with_none (Some RtcSlow) m a = refl
with_none _ m a = refl

zero_byte : (a : ℕ) → byte_at (contents_of (opening_memory [] []) none) a ≡ 0
unfolding byte_at opening_memory
zero_byte a = with_none (region_of a) cleared_memory a ∙ zero_in (region_of a) a

zero_sizes : HasSizes (contents_of (opening_memory [] []) none)
unfolding opening_memory
zero_sizes = let s = cleared_has_sizes in record {
  rtc_fast_data = s.rtc_fast_data;
  dram = s.dram;
  rtc_slow = s.rtc_slow;
}

zero_memory : IsMemory (contents_of (opening_memory [] []) none)
zero_memory = record { sizes = zero_sizes; small = λ a. let z = zero_byte a in omega (arith, z) }

all_known : (a : ℕ) → known_byte (opening_memory [] []) none a ≡ 255
all_known a = ⊎_elim
    (λ is. cond-true (is_byte a) (255 - byte_at (contents_of (opening_memory [] []) none) a) 255 is
    ∙ ap (λ (n : ℕ). 255 - n) (zero_byte a))
    (λ no. cond-false (is_byte a) (255 - byte_at (contents_of (opening_memory [] []) none) a) 255
    no)
    (cases_Bool (is_byte a))

-- ---- what an image opens with

nothing_changed : (m : MemoryContents) → m.sent ≡ [] → contents_of m none ≡ m
nothing_changed m e = ap (λ (l : List ℕ). let n : MemoryContents = record m { sent = l } in n) (sym e)

opens : (image : Image) (o : Options) (a b : MomentCore) (k : ChangesState)
    → a ≡ opening_core (opening_at 0 image.entry o) → b ≡ opening_core (opening_at 1 o.entry1 o)
    → k ≡ none
    → ◌≡◌ {A = MomentWorld}
    (record { core0 = a; core1 = b; memory = contents_of (memory_of image o) k })
    (opening_world (opening_of image o))
opens image o a b k e f g =
    let m = memory_of image o in
    let make : MomentCore → MomentCore → MemoryContents → MomentWorld =
    λ x y n. record { core0 = x; core1 = y; memory = n } in
    (λ i. make (e i) (f i) (contents_of m (g i)))
    ∙ ap (make (opening_core (opening_at 0 image.entry o)) (opening_core (opening_at 1 o.entry1 o)))
    (nothing_changed m (opening_sends_none image.segments (stack_words o)))

bytes_small : (bytes : List ℕ) → AllByRecursion (λ b. b < 256) bytes → (k : ℕ)
    → slice_index bytes k < 256
bytes_small [] all k = omega arith
bytes_small (b ∷ bytes) all zero = all.0
bytes_small (b ∷ bytes) all (suc k) = bytes_small bytes all.1 k

segments_small : (segments : List Segment) → AllByRecursion FitsSegment segments → AreSmall segments
segments_small [] all = tt
segments_small (s ∷ rest) all = (
  bytes_small s.bytes (recursion_from_All (λ b. b < 256) s.bytes (all.0).bytes),
  segments_small rest all.1,
)

module _ (image : Image) (o : Options) (fits : FitsImage image) (g : Ground)
    (ground : IsGroundOf image o g) (w : World) (begun : IsOpen image o w) where
  memory_is : IsMemory (memory_of image o)
  memory_is = opening_is_memory image.segments (range_of o.stack0) (range_of o.stack1)
      (segments_small image.segments
      (recursion_from_All FitsSegment image.segments fits.segments))

  abbrev start : MomentWorld
  start = opening_world (opening_of image o)

  shaped : IsShapedWorld start
  shaped = record {
    core0 = subst IsShaped (ap (λ (k : MomentCore). k.state) begun.core0) begun.shaped0;
    core1 = subst IsShaped (ap (λ (k : MomentCore). k.state) begun.core1) begun.shaped1;
    memory = memory_is;
  }

  stands : standing g.opening.contents w ≡ start
  stands =
      ap (λ (m : MemoryContents). standing m w) ground.opening
      ∙ opens image o (core_of w.side0.value) (core_of w.side1.value) w.held.value begun.core0
      begun.core1 begun.held

  learnt : learned_in g.cleared.contents w ≡ opening_learned
  learnt = λ i. record {
    core0 = begun.masks0 i;
    core1 = begun.masks1 i;
    bytes = λ a. ((λ j. known_byte (ground.cleared j) (begun.hidden j) a) ∙ all_known a) i;
  }

  pub covers_start : Covers g.opening.contents g.cleared.contents w start
  covers_start = record {
    alike = subst (λ (l : Learned). AreAlike l (standing g.opening.contents w) start) (sym learnt)
        (subst (λ (v : MomentWorld). AreAlike opening_learned v start) (sym stands)
        (alike_at_start start shaped));
    hidden = subst IsMemory (sym (λ j. contents_of (ground.cleared j) (begun.hidden j))) zero_memory;
  }

-- ---- what comes out

outcome_same : (k : Learned) (s u : MomentWorld) (addresses : List ℕ) → AreAlike k s u
    → AreKnown k.bytes addresses → outcome_in addresses s ≡ outcome_in addresses u
outcome_same k s u addresses h known =
    let words = words_same k.bytes s.memory u.memory h.shaped.memory h.other.memory h.agree.memory
    addresses known in
    let make : List ℕ → ℕ → ℕ → List ℕ → MomentOutcome =
    λ sent a b w. record { sent = sent; pc0 = a; pc1 = b; words = w } in
    λ i. make (h.agree.memory.sent i) (h.agree.core0.state.pc i) (h.agree.core1.state.pc i)
    (words i)

-- if both cores have stopped after an order, its outcome is listed
abbrev IsTold : List Found → List ℕ → (ℕ → ℕ) → List Move → MomentWorld → (ℕ → ℕ) → Type 0
IsTold xs addresses counts order start code =
    have_stopped (world_past code counts order start) ≡ true
    → Contains (outcomes_in xs) (outcome_in addresses (world_past code counts order start))

-- it can be continued until they have
abbrev IsContinued : (ℕ → ℕ) → List Move → MomentWorld → (ℕ → ℕ) → Type 0
IsContinued counts order start code =
    (more : List Move) × All IsMove more
    × (have_stopped (world_past code counts (order ++ more) start) ≡ true)

pub has_all : (image : Image) (o : Options) (addresses : List ℕ) (g : Ground) (graph : Graph World)
    (w : World) (xs : List Found) → FitsImage image → IsGroundOf image o g → IsOpen image o w
    → IsGraph (LedIn g) graph → IsWhole graph → OpensWith graph w
    → AreListed g.opening.contents g.cleared.contents addresses xs graph.kept.items
    → HasAllOutcomes (code_of image) (opening_of image o) addresses (outcomes_in xs)
has_all image o addresses g graph w xs fits ground begun is whole begins listed counts order small
    moves =
    subst (IsTold xs addresses counts order (opening_world (opening_of image o)))
    (ap constant_byte ground.code) told
  where
    told : IsTold xs addresses counts order (opening_world (opening_of image o))
        (constant_byte g.code)
    told ended =
        let start = opening_world (opening_of image o) in
        let s = stands_for_all g g.bytes graph is whole (λ k. Unit {0}) (λ k n here q. (tt, tt))
        order counts small moves
        (record { at = 0; world = w; kept = (begins, tt); none = begun.passed }) [] start
        (covers_start image o fits g ground w begun) in
        let v = s.here.world in
        let covers = once_stopped (constant_byte g.code) g.bytes
        (Covers g.opening.contents g.cleared.contents v) s.turns
        (world_past (constant_byte g.code) counts order start) ended s.awaits in
        let h = covers.alike in
        let stopped : (v.side0.value.stopped && v.side1.value.stopped) ≡ true =
        (λ i. h.agree.core0.stopped i && h.agree.core1.stopped i) ∙ ended in
        let l = listed s.here.at v s.here.kept.0 stopped in
        subst (λ (x : MomentOutcome). Contains (outcomes_in xs) x)
        (outcome_same (learned_in g.cleared.contents v) (standing g.opening.contents v)
        (world_past (constant_byte g.code) counts order start) addresses h l.0) l.1

-- ---- orders that can be continued, and orders that cannot

module _ (image : Image) (o : Options) (g : Ground) (graph : Graph World) (w : World)
    (fits : FitsImage image) (ground : IsGroundOf image o g) (begun : IsOpen image o w)
    (is : IsGraph (LedIn g) graph) (begins : OpensWith graph w) where
  abbrev from : MomentWorld
  from = opening_world (opening_of image o)

  abbrev code : ℕ → ℕ
  code = constant_byte g.code

  same_end : (v : World) (u : MomentWorld) → Covers g.opening.contents g.cleared.contents v u
      → have_stopped u ≡ has_ended v
  same_end v u c = sym (λ i. c.alike.agree.core0.stopped i && c.alike.agree.core1.stopped i)

  pub all_can_end : IsWhole graph → ((k : ℕ) (v : World) → IsAt graph.kept.items k v → v.passed ≡ 0 → Ends g v)
      → CanAllEnd (code_of image) (opening_of image o)
  all_can_end whole ends counts order small moves =
      subst (IsContinued counts order from) (ap constant_byte ground.code) can
    where
      can : IsContinued counts order from code
      can =
          let s = stands_for_all g g.bytes graph is whole (λ k. Unit {0}) (λ k n here q. (tt, tt))
          order counts small moves
          (record { at = 0; world = w; kept = (begins, tt); none = begun.passed }) [] from
          (covers_start image o fits g ground w begun) in
          let u = world_past code counts order from in
          let ts = turns_in s.turns in
          let later : ℕ → ℕ = λ n. counts (length order + n) in
          let there = after_turns code g.bytes
          (Covers g.opening.contents g.cleared.contents s.here.world) s.turns u later
          (λ n. small (length order + n)) s.awaits in
          let e = ends s.here.at s.here.world s.here.kept.0 s.here.none in
          let c = e.leads (λ n. later (length ts + n)) (λ n. small (length order + (length ts + n)))
          (world_past code later ts u) there in (
            ts ++ e.moves,
            All-append IsMove ts e.moves (turns_are_moves g s.turns) e.are_moves,
            ap have_stopped (past_append code counts order (ts ++ e.moves) from
                ∙ past_append code later ts e.moves u)
                ∙ (same_end e.end _ c ∙ e.ended),
          )

  pub stuck_stays : IsWhole graph → (order : List Move) → IsStuckOrder g graph order
      → IsStuck (code_of image) (opening_of image o) order
  stuck_stays whole order h counts more small moves =
      subst (λ (c : ℕ → ℕ). have_stopped (world_past c counts (order ++ more) from) ≡ false)
      (ap constant_byte ground.code) never
    where
      never : have_stopped (world_past code counts (order ++ more) from) ≡ false
      never =
          let v = h.unmarked in
          let c = h.leads w v.world begins v.kept counts small from
          (covers_start image o fits g ground w begun) in
          let later : ℕ → ℕ = λ n. counts (length order + n) in
          let s = stands_for_all g g.bytes graph is whole (λ k. slice_get h.marks k ≡ Some false)
          (λ k n here q. (h.settled k q).nexts n q here) more later
          (λ n. small (length order + n)) moves
          (record { at = h.number; world = v.world; kept = (v.kept, v.unmarked); none = v.passed })
          [] (world_past code counts order from) c in
          let u = world_past code later more (world_past code counts order from) in
          let going = (h.settled s.here.at s.here.kept.1).no_end s.here.world s.here.kept.1
          s.here.kept.0 in
          ap have_stopped (past_append code counts order more from)
          ∙ ⊎_elim
          (λ (ended : have_stopped u ≡ true).
          let covers = once_stopped code g.bytes
          (Covers g.opening.contents g.cleared.contents s.here.world) s.turns u ended s.awaits in
          same_end s.here.world u covers ∙ going)
          (λ (not_yet : have_stopped u ≡ false). not_yet)
          (cases_Bool (have_stopped u))

  pub stuck_told : (s : Stuck) → IsStuckAnswer g graph s
      → IsStuckOf (code_of image) (opening_of image o) s
  stuck_told stuck.Never h = all_can_end h.0 h.1
  stuck_told (stuck.Order order) h = (h.1.are_moves, stuck_stays h.0 order.items h.1)
  stuck_told stuck.Unknown h = tt
