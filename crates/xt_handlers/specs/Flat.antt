-- Carries a proof; nothing that a reader must believe.
-- The checker's flat symbols and what they stand for.
use Rattle.std.specs.Prelude.{◌≡◌, ℕ, true, Some, List, length, map}
use Rattle.xt_handlers.specs.Symbols.{Symbol, Init, Load, Word, Effect}
use Rattle.xt_handlers.specs.Needs.{callee_sp, link, wanted_stores, still_wanted, are_named}
use Rattle.xt_handlers.specs.Needs.{marked_stores}
use Rattle.xt_handlers.specs.Needs.{IsSpoiled}
use Rattle.xt_handlers.specs.declared.stretch.Side.{Side}
use Rattle.std.specs.Bool.{MatchBool}
use Rattle.xt_handlers.specs.declared.Evaluation.{Evaluation}
use Rattle.xt_handlers.specs.declared.Mark.{Mark}
use Rattle.xt_handlers.specs.declared.Mark.TheVariants.{Initial, FrameWord, Link, Extra}

abbrev pub symbol_of : Side → ℕ → Mark → Symbol
symbol_of side n (Initial i) = Init i
symbol_of side n (FrameWord back) = Load (callee_sp n) back
symbol_of side n Link = link side n
symbol_of side n (Extra back) = Load (link side n) back

abbrev pub symbols_of : Side → ℕ → List Mark → List Symbol
symbols_of side n marks = map (symbol_of side n) marks

-- the flat state stands for the effect so far
pub record Follows (side : Side) (n : ℕ) (v : Evaluation) (e : Effect) : Type 0 where
  pub marks : length v.marks ≡ 16
  pub flags : length v.wanted ≡ 12
  pub regs : e.regs ≡ symbols_of side n v.marks
  pub stores : still_wanted e.stores (wanted_stores side n) ≡ Some (marked_stores n 0 v.wanted)
  pub loads : are_named side n e.loads ≡ true

abbrev pub Tracks : Side → ℕ → Evaluation → Effect → Type 0
Tracks side n v e = MatchBool v.spoiled (IsSpoiled side n e) (Follows side n v e)

abbrev pub word_at : Side → ℕ → Mark → ℕ → Word
word_at side n base back = record { base = symbol_of side n base; back = back }
