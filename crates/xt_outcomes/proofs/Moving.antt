-- A core that makes its turns apart from the world that it began in.
use Rattle.std.proofs.Common.{◌≡◌, ℕ, zero, suc, Bool, List, refl, ap, ◌∙◌}
use Rattle.xt_map.specs.declared.contents.MemoryContents.{MemoryContents}
use Rattle.xt_trace.specs.Chip.{Chip}
use Rattle.xt_exec.specs.State.{State}
use Rattle.xt_search.specs.Changed.{ChangesState, contents_of}
use Rattle.xt_outcomes.specs.KeptWorlds.{moved_spot, spot_of}
use Rattle.xt_outcomes.specs.Nexts.{side_next, spot_next}
use Rattle.xt_outcomes.specs.declared.world.World.{World}
use Rattle.xt_outcomes.specs.Spots.{Side, Spot, memory_given, side_given, side_of, spot_past}

-- what stands for a world, from its parts
pub parts_are : (m : MemoryContents) (w : World) (s t : Side State) (x : ChangesState) → s ≡ w.side0.value → t ≡ w.side1.value → x ≡ w.changes.value
    → record { side0 = s; side1 = t; memory = contents_of m x } ≡ spot_of m w
parts_are m w s t x e f g = λ i. record { side0 = e i; side1 = f i; memory = contents_of m (g i) }

pub moved_side : (c : ℕ) (s : Side State) (m : MemoryContents) (p : Spot State) → side_of c (moved_spot c s m p) ≡ s
moved_side zero s m p = refl
moved_side (suc c) s m p = refl

pub not_moved : (c : ℕ) (p : Spot State) → moved_spot c (side_of c p) p.memory p ≡ p
not_moved zero p = refl
not_moved (suc c) p = refl

module _ (P : Chip State) (timed : Bool) (c : ℕ) (p : Spot State) where
  step_moved : (d : ℕ) (s : Side State) (m : MemoryContents) → moved_spot d (side_given P timed s.left s m) (memory_given P s.left s.state m) p ≡ spot_past P timed d (moved_spot d s m p)
  step_moved zero s m = refl
  step_moved (suc d) s m = refl

  -- one turn more
  pub moved_on : (s t : Side State) (m n : MemoryContents) → t ≡ side_given P timed s.left s m → n ≡ memory_given P s.left s.state m → moved_spot c t n p ≡ spot_past P timed c (moved_spot c s m p)
  moved_on s t m n e f = (λ i. moved_spot c (e i) (f i) p) ∙ step_moved c s m

  -- the first turn
  pub moved_first : (s t : Side State) (m n : MemoryContents) → s ≡ side_of c p → m ≡ p.memory → t ≡ side_given P timed s.left s m → n ≡ memory_given P s.left s.state m → moved_spot c t n p ≡ spot_past P timed c p
  moved_first s t m n a b e f = moved_on s t m n e f ∙ ap (spot_past P timed c) ((λ i. moved_spot c (a i) (b i) p) ∙ not_moved c p)

-- and without dead registers
module _ (P : Chip State) (timed : Bool) (ms : List ℕ) (c : ℕ) (p : Spot State) where
  next_moved : (d : ℕ) (s : Side State) (m : MemoryContents) → moved_spot d (side_next P timed ms s.left s m) (memory_given P s.left s.state m) p ≡ spot_next P timed ms d (moved_spot d s m p)
  next_moved zero s m = refl
  next_moved (suc d) s m = refl

  pub next_on : (s t : Side State) (m n : MemoryContents) → t ≡ side_next P timed ms s.left s m → n ≡ memory_given P s.left s.state m → moved_spot c t n p ≡ spot_next P timed ms c (moved_spot c s m p)
  next_on s t m n e f = (λ i. moved_spot c (e i) (f i) p) ∙ next_moved c s m

  pub next_first : (s t : Side State) (m n : MemoryContents) → s ≡ side_of c p → m ≡ p.memory → t ≡ side_next P timed ms s.left s m → n ≡ memory_given P s.left s.state m → moved_spot c t n p ≡ spot_next P timed ms c p
  next_first s t m n a b e f = next_on s t m n e f ∙ ap (spot_next P timed ms c) ((λ i. moved_spot c (a i) (b i) p) ∙ not_moved c p)
