-- A core that has a turn left has made all others of its turns.
use Rattle.std.proofs.Common.{◌≡◌, ℕ, zero, suc, ◌+◌, ◌<◌, Bool, true, false, List, [], ◌∷◌, ◌++◌, length, refl, ap, ◌∙◌, arith, length-append}
use Rattle.std.specs.Prelude.{if◌then◌else◌}
use Rattle.xt_trace.specs.Calls.{is_stop}
use Rattle.xt_trace.specs.Chip.{Chip}
use Rattle.xt_trace.specs.Runs.{Opening, world_at_start}
use Rattle.xt_trace.specs.Worlds.{Core, Line, World, advance, answer, core_given, core_past, give, left_past}

-- of so many turns
abbrev pub Counts : {S : Type 0} → ℕ → Core S → Type 0
Counts total k = 0 < k.left → length k.records + k.left ≡ total

-- the turns that are left after one, which does not stop
goes_on : (stops : Bool) (made n total : ℕ) → made + suc n ≡ total → 0 < (if stops then 0 else n) → made + 1 + (if stops then 0 else n) ≡ total
goes_on true made n total all left = absurd (omega (arith, left))
goes_on false made n total all left = omega (arith, all)

module _ {S : Type 0} (P : Chip S) where
  counts_past : (total n reply : ℕ) (k : Core S) → length k.records + suc n ≡ total → Counts total (core_past P k n reply)
  counts_past total n reply k all left =
      let t = (P.turn k.state reply).0 in
      let longer : length (k.records ++ t ∷ []) ≡ length k.records + 1 = length-append k.records (t ∷ []) in
      ap (λ (m : ℕ). m + left_past t n) longer ∙ goes_on (is_stop t.kind) (length k.records) n total all left

  counts_given : (total n : ℕ) (k : Core S) (b : Line) → k.left ≡ n → Counts total k → Counts total (core_given P n k b)
  counts_given total zero k b is counts = counts
  counts_given total (suc n) k b is counts =
      let left : 0 < k.left = omega (arith, is) in
      let all : length k.records + suc n ≡ total = let c : length k.records + k.left ≡ total = counts left in omega (arith, c, is) in
      counts_past total n (answer (P.demand k.state) b.memory) k all

  counts_after : (order : List ℕ) (total0 total1 : ℕ) (w : World S) → Counts total0 w.core0 → Counts total1 w.core1
      → Counts total0 (advance P order w).core0 × Counts total1 (advance P order w).core1
  counts_after [] total0 total1 w counts0 counts1 = (counts0, counts1)
  counts_after (zero ∷ cs) total0 total1 w counts0 counts1 =
      counts_after cs total0 total1 (give P 0 w) (counts_given total0 w.core0.left w.core0 w.line refl counts0) counts1
  counts_after (suc c ∷ cs) total0 total1 w counts0 counts1 =
      counts_after cs total0 total1 (give P (suc c) w) counts0 (counts_given total1 w.core1.left w.core1 w.line refl counts1)

  pub counts_opened : (o : Opening S) (order : List ℕ) → Counts o.turns0 (advance P order (world_at_start o)).core0 × Counts o.turns1 (advance P order (world_at_start o)).core1
  counts_opened o order = counts_after order o.turns0 o.turns1 (world_at_start o) (λ left. omega arith) (λ left. omega arith)
