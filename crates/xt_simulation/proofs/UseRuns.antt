-- The judged records of a walk before the first breach of uses are a run of the machine of uses.
use Rattle.std.proofs.Common.{◌≡◌, ℕ, suc, ◌<◌, ◌≤◌, Option, Some, None, List, length, slice_get, sym, ap, ◌∙◌, arith, subst}
use Rattle.std.proofs.lemmas.Option.{slice_get_within}
use Rattle.xt_map.specs.declared.contents.MemoryContents.{MemoryContents}
use Rattle.xt_map.specs.History.{memory_after}
use Rattle.xt_trace.specs.declared.record.StepRecord.{StepRecord}
use Rattle.xt_trace.specs.Worlds as worlds
use Rattle.xt_trace.specs.Walks.{IsWalk}
use Rattle.xt_exec.specs.State.{State}
use Rattle.xt_exec.specs.Chips.{processor}
use Rattle.xt_frames.specs.declared.kinds.Breach.{Breach}
use Rattle.xt_frames.specs.FirstBreach.{Course, IsJudgedTurn, IsTurn, Turn, entries_before, turn_of, turns}
use Rattle.xt_simulation.specs.Steps.{record_now}
use Rattle.xt_uses.specs.declared.discipline.Discipline.{Discipline}
use Rattle.xt_uses.specs.FirstUse.{History, IsFirstUse, IsHistory}
use Rattle.xt_uses.specs.UseLaws.{FitsStep, IsUseRun}
use Rattle.xt_simulation.proofs.Before.{Before, Grounds}
use Rattle.xt_simulation.proofs.BeforeTurn.{before_fits0, before_fits1, before_turn0, before_turn1}
use Rattle.xt_simulation.proofs.UseTaken.{Keeps0, Keeps1, Takes, Takes0, Takes1, holds_at, stands_at, turn_taken}

use_end : (r : Course) (h : History) (q : ℕ) (found : Option Breach) → IsFirstUse r h q found → q ≤ length r.turns
use_end r h q None x = let end = x.here in omega (arith, end)
use_end r h q (Some b) x = let there = slice_get_within r.turns q (turn_of b.core x.here.rec) x.here.turn in omega (arith, there)

module _ (r : Course) (cores : List ℕ) (w : worlds.World State) (xs ys : List StepRecord) (walk : IsWalk (processor r.code) cores w xs ys) (same : r.turns ≡ turns cores xs ys) (opening : MemoryContents) where
  module _ (h : History) (g : Grounds r h) (begins : Before r h 0 w.line.memory opening w.core0.state w.core1.state) (q : ℕ) (found : Option Breach) (first : IsFirstUse r h q found) where
    abbrev Here : ℕ → MemoryContents → State → State → Type 0
    Here p m s t = Before r h p m (memory_after opening (entries_before r p)) s t

    abbrev place : ℕ → worlds.World State
    place p = stands_at r.code cores w p

    in_course : (p core : ℕ) (rec : StepRecord) → slice_get (turns cores xs ys) p ≡ Some (turn_of core rec) → IsTurn r p core rec
    in_course p core rec e = ap (λ (ts : List Turn). slice_get ts p) same ∙ e

    keeps0 : Keeps0 r.code cores w xs ys walk Here q
    keeps0 p m s t less turn before =
        let own = in_course p 0 (record_now r.code m s) turn in
        before_turn0 r h g opening p m s t before own (first.before p 0 (record_now r.code m s) less own)

    keeps1 : Keeps1 r.code cores w xs ys walk Here q
    keeps1 p m s t less turn before =
        let own = in_course p 1 (record_now r.code m t) turn in
        before_turn1 r h g opening p m s t before own (first.before p 1 (record_now r.code m t) less own)

    fits_here : (p core : ℕ) (rec : StepRecord) → p < q → IsJudgedTurn r p core rec → Here p (place p).line.memory (place p).core0.state (place p).core1.state → Takes r.code (place p) (place (suc p)) core rec → FitsStep r h opening p core rec
    fits_here p core rec less judged before (Takes0 c e m s t) =
        let now = record_now r.code (place p).line.memory (place p).core0.state in
        let mine : IsJudgedTurn r p 0 now = subst (λ k. IsJudgedTurn r p k now) c (subst (IsJudgedTurn r p core) e judged) in
        let fits : FitsStep r h opening p 0 now = before_fits0 r h g opening p (place p).line.memory (place p).core0.state (place p).core1.state before mine (first.before p 0 now less mine.turn) in
        subst (FitsStep r h opening p core) (sym e) (subst (λ k. FitsStep r h opening p k now) (sym c) fits)
    fits_here p core rec less judged before (Takes1 c e m s t) =
        let now = record_now r.code (place p).line.memory (place p).core1.state in
        let mine : IsJudgedTurn r p 1 now = subst (λ k. IsJudgedTurn r p k now) c (subst (IsJudgedTurn r p core) e judged) in
        let fits : FitsStep r h opening p 1 now = before_fits1 r h g opening p (place p).line.memory (place p).core0.state (place p).core1.state before mine (first.before p 1 now less mine.turn) in
        subst (FitsStep r h opening p core) (sym e) (subst (λ k. FitsStep r h opening p k now) (sym c) fits)

    use_fits : (p core : ℕ) (rec : StepRecord) → p < q → IsJudgedTurn r p core rec → FitsStep r h opening p core rec
    use_fits p core rec less judged =
        let most : q ≤ length (turns cores xs ys) = subst (λ (ts : List Turn). q ≤ length ts) same (use_end r h q found first) in
        let before = holds_at r.code cores w xs ys walk Here q most begins keeps0 keeps1 p (omega (arith, less)) in
        let turn : slice_get (turns cores xs ys) p ≡ Some (turn_of core rec) = sym (ap (λ (ts : List Turn). slice_get ts p) same) ∙ judged.turn in
        fits_here p core rec less judged before (turn_taken r.code p cores w xs ys core rec walk turn)

  pub use_run : ((d : Discipline) (h : History) → IsHistory d r h → Grounds r h) → ((d : Discipline) (h : History) → IsHistory d r h → Before r h 0 w.line.memory opening w.core0.state w.core1.state) → IsUseRun r opening
  use_run grounds begins d h q found history first p core rec less judged = use_fits h (grounds d h history) (begins d h history) q found first p core rec less judged
