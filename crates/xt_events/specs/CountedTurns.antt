-- Carries a proof; nothing that a reader must believe.
-- Counting turns one by one.
use Rattle.std.specs.Prelude.{◌≡◌, ℕ, suc, ◌<◌, Bool, ◌==◌, ◌&&◌, ◌||◌, if◌then◌else◌}
use Rattle.std.specs.Prelude.{Option, Some, None, List, [], ◌∷◌, ◌++◌}
use Rattle.std.specs.Option.{unwrap_or}
use Rattle.xt_trace.specs.declared.record.StepKind.{StepKind}
use Rattle.xt_events.specs.declared.tally.Tally.{Tally}
use Rattle.xt_events.specs.declared.turn.Turn.{Turn}
use Rattle.xt_events.specs.Counts.{AreCounts, goes_to, is_executed, is_raised, target_at}
use Rattle.xt_events.specs.CountsText.{lines_text}

-- nothing so far at an instruction with this target
abbrev pub empty_tally : Option ℕ → Tally
empty_tally target = record { executed = 0; raised = 0; target = target; taken = 0 }

abbrev pub more : Bool → ℕ → ℕ
more b n = if b then suc n else n

-- one turn there more
abbrev pub tally_with_turn : Turn → Tally → Tally
tally_with_turn t y = record {
  executed = more (is_executed t.kind) y.executed;
  raised = more (is_raised t.kind) y.raised;
  target = y.target;
  taken = more (is_executed t.kind && goes_to y.target t.next) y.taken;
}

abbrev pub is_counted : StepKind → Bool
is_counted kind = is_executed kind || is_raised kind

-- what is counted at an address, past one turn more
abbrev pub tally_after_turn : (ℕ → ℕ) → ℕ → Turn → Option Tally → Option Tally
tally_after_turn code a t o =
    if t.pc == a && is_counted t.kind
    then Some (tally_with_turn t (unwrap_or o (empty_tally (target_at code a)))) else o

-- past many
abbrev pub past : (ℕ → ℕ) → ℕ → Option Tally → List Turn → Option Tally
past code a o [] = o
past code a o (t ∷ ts) = past code a (tally_after_turn code a t o) ts

-- each number is below n
abbrev pub IsSmall : ℕ → Option Tally → Type 0
IsSmall n None = Unit {0}
IsSmall n (Some y) = (y.executed < n) × (y.raised < n) × (y.taken < n)

-- the lines of these turns were appended
pub record AreAppended
    (core : ℕ) (code : ℕ → ℕ) (ts : List Turn) (old new : List ℕ) : Type 0 where
  pub entries : List (ℕ × Tally)
  pub are : AreCounts code ts entries
  pub new_is : new ≡ old ++ lines_text core entries
