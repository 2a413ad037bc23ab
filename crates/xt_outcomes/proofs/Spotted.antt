-- What a search keeps of a world goes on by itself.
use Rattle.std.proofs.Common.{◌≡◌, ℕ, zero, suc, Bool, true, Option, Some, None, List, [], ◌∷◌, refl, ap, ◌∙◌}
use Rattle.xt_map.specs.declared.access.Access.{Access}
use Rattle.xt_map.specs.declared.contents.MemoryContents.{MemoryContents}
use Rattle.xt_trace.specs.Chip.{Chip}
use Rattle.xt_trace.specs.Worlds.{Core, Line, World, advance, answer, core_given, core_past, give, left_past, line_given, line_past, memory_left}
use Rattle.xt_trace.proofs.Short.{stopped_push}
use Rattle.xt_exec.specs.State.{State}
use Rattle.xt_outcomes.specs.Spots.{Side, Spot, memory_given, side_given, side_in, side_past, spot_after, spot_in, spot_past}

module _ (P : Chip State) where
  side_turned : (k : Core State) (n reply : ℕ) → side_in true (core_past P k n reply) ≡ side_past P true (side_in true k) n reply
  side_turned k n reply =
      let t = P.turn k.state reply in
      let make : Bool → Side State = λ b. record { state = t.1; left = left_past t.0 n; stopped = b } in
      ap make (stopped_push k.records t.0)

  side_of_given : (n : ℕ) (k : Core State) (b : Line) → side_in true (core_given P n k b) ≡ side_given P true n (side_in true k) b.memory
  side_of_given zero k b = refl
  side_of_given (suc n) k b = side_turned k n (answer (P.demand k.state) b.memory)

  memory_past_line : (c : ℕ) (d : Option Access) (b : Line) → (line_past c d b).memory ≡ memory_left d b.memory
  memory_past_line c None b = refl
  memory_past_line c (Some a) b = refl

  memory_of_given : (c n : ℕ) (k : Core State) (b : Line) → (line_given P c n k b).memory ≡ memory_given P n k.state b.memory
  memory_of_given c zero k b = refl
  memory_of_given c (suc n) k b = memory_past_line c (P.demand k.state) b

  pub spot_given : (c : ℕ) (w : World State) → spot_in true (give P c w) ≡ spot_past P true c (spot_in true w)
  spot_given zero w =
      let make : Side State → MemoryContents → Spot State = λ s m. record { side0 = s; side1 = side_in true w.core1; memory = m } in
      ap (λ (s : Side State). make s (line_given P 0 w.core0.left w.core0 w.line).memory) (side_of_given w.core0.left w.core0 w.line)
      ∙ ap (make (side_given P true w.core0.left (side_in true w.core0) w.line.memory)) (memory_of_given 0 w.core0.left w.core0 w.line)
  spot_given (suc c) w =
      let make : Side State → MemoryContents → Spot State = λ s m. record { side0 = side_in true w.core0; side1 = s; memory = m } in
      ap (λ (s : Side State). make s (line_given P 1 w.core1.left w.core1 w.line).memory) (side_of_given w.core1.left w.core1 w.line)
      ∙ ap (make (side_given P true w.core1.left (side_in true w.core1) w.line.memory)) (memory_of_given 1 w.core1.left w.core1 w.line)

  pub spot_advanced : (order : List ℕ) (w : World State) → spot_in true (advance P order w) ≡ spot_after P true order (spot_in true w)
  spot_advanced [] w = refl
  spot_advanced (c ∷ cs) w = spot_advanced cs (give P c w) ∙ ap (spot_after P true cs) (spot_given c w)
