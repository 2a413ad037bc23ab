-- One turn of a core beside the other.
use Rattle.std.proofs.Common.{◌≡◌, ℕ, zero, suc, ◌-◌, ◌<◌, Option, Some, None, List, [], ◌∷◌, ◌++◌, refl, sym, ap, ◌∙◌, arith}
use Rattle.xt_map.specs.declared.access.Access.{Access}
use Rattle.xt_map.specs.declared.access.Entry.{Entry}
use Rattle.xt_map.specs.declared.contents.MemoryContents.{MemoryContents}
use Rattle.xt_map.specs.Serving.{memory_past, reply_to}
use Rattle.xt_trace.specs.Chip.{Chip}
use Rattle.xt_trace.specs.Short.{ShortWorld, short_advance, short_give, short_given, short_line, short_past}
use Rattle.xt_trace.specs.Worlds.{Line, entry, line_past, answer}
use Rattle.xt_exec.specs.Chips.{processor}
use Rattle.xt_exec.specs.Turn.{demand}
use Rattle.xt_core.specs.Cores.{CoreState, core_after_turn}
use Rattle.xt_record.specs.Walking.{beside, line_at}

pub advance_append : {S : Type 0} (P : Chip S) (xs ys : List ℕ) (w : ShortWorld S) → short_advance P (xs ++ ys) w ≡ short_advance P ys (short_advance P xs w)
advance_append P [] ys w = refl
advance_append P (x ∷ xs) ys w = advance_append P xs ys (short_give P x w)

-- what a turn is where the core has one left and asks for this
give_zero : {S : Type 0} (P : Chip S) (w : ShortWorld S) (n : ℕ) (d : Option Access) → w.core0.left ≡ suc n → P.demand w.core0.state ≡ d
    → ◌≡◌ {A = ShortWorld S} (short_give P 0 w) (record { line = line_past 0 d w.line; core0 = short_past P w.core0 n (answer d w.line.memory); core1 = w.core1 })
give_zero {S = S} P w n d left asks =
    let at : ℕ → ShortWorld S = λ l. record { line = short_line P 0 l w.core0.state w.line; core0 = short_given P l w.core0 w.line; core1 = w.core1 } in
    let from : Option Access → ShortWorld S = λ x. record { line = line_past 0 x w.line; core0 = short_past P w.core0 n (answer x w.line.memory); core1 = w.core1 } in
    ap at left ∙ ap from asks

give_one : {S : Type 0} (P : Chip S) (c : ℕ) (w : ShortWorld S) (n : ℕ) (d : Option Access) → w.core1.left ≡ suc n → P.demand w.core1.state ≡ d
    → ◌≡◌ {A = ShortWorld S} (short_give P (suc c) w) (record { line = line_past 1 d w.line; core0 = w.core0; core1 = short_past P w.core1 n (answer d w.line.memory) })
give_one {S = S} P c w n d left asks =
    let at : ℕ → ShortWorld S = λ l. record { line = short_line P 1 l w.core1.state w.line; core0 = w.core0; core1 = short_given P l w.core1 w.line } in
    let from : Option Access → ShortWorld S = λ x. record { line = line_past 1 x w.line; core0 = w.core0; core1 = short_past P w.core1 n (answer x w.line.memory) } in
    ap at left ∙ ap from asks

pub local_turn : (code : ℕ → ℕ) (number : ℕ) (own other : CoreState) (b : Line) → 0 < own.left → demand code own.state ≡ None
    → beside number (core_after_turn code 0 own) other b ≡ short_give (processor code) number (beside number own other b)
local_turn code zero own other b some asks = sym (give_zero (processor code) (beside 0 own other b) (own.left - 1) None (omega arith) asks)
local_turn code (suc c) own other b some asks = sym (give_one (processor code) c (beside (suc c) own other b) (own.left - 1) None (omega arith) asks)

pub call_turn : (code : ℕ → ℕ) (number : ℕ) (own other : CoreState) (m : MemoryContents) (h : List Entry) (a : Access) → number < 2 → 0 < own.left → demand code own.state ≡ Some a
    → beside number (core_after_turn code (reply_to m a) own) other (line_at (memory_past m a) (h ++ entry number a (reply_to m a) ∷ []))
    ≡ short_give (processor code) number (beside number own other (line_at m h))
call_turn code zero own other m h a lt some asks = sym (give_zero (processor code) (beside 0 own other (line_at m h)) (own.left - 1) (Some a) (omega arith) asks)
call_turn code (suc zero) own other m h a lt some asks = sym (give_one (processor code) 0 (beside 1 own other (line_at m h)) (own.left - 1) (Some a) (omega arith) asks)
call_turn code (suc (suc c)) own other m h a lt some asks = absurd (omega arith)
