-- What is asked of each run that is judged holds of the processor's: states keep their shape and memory its bytes, so that records tell words.
use Rattle.std.proofs.Common.{◌≡◌, ℕ, suc, Some, List, slice_get, sym, ap, ◌∙◌, arith, subst}
use Rattle.std.proofs.lemmas.Option.{slice_get_within}
use Rattle.xt_map.specs.declared.contents.MemoryContents.{MemoryContents}
use Rattle.xt_map.specs.Touching.{IsMemory}
use Rattle.xt_map.proofs.Alike.{size_small}
use Rattle.xt_trace.specs.declared.record.StepRecord.{StepRecord}
use Rattle.xt_trace.specs.Worlds as worlds
use Rattle.xt_trace.specs.Walks.{IsWalk}
use Rattle.xt_map.specs.Code.{AreBytes}
use Rattle.xt_exec.specs.State.{State}
use Rattle.xt_exec.specs.TurnLaws.{IsShaped}
use Rattle.xt_exec.specs.Turn.{demand}
use Rattle.xt_exec.specs.Chips.{processor}
use Rattle.xt_frames.specs.FirstBreach.{Course, IsTurn, Turn, turn_of, turns}
use Rattle.xt_simulation.proofs.Judges.{shaped_now}
use Rattle.xt_simulation.proofs.Memories.{step_memory}
use Rattle.xt_uses.specs.UseLaws.{IsOpening, IsOrdinary, TellsWords}
use Rattle.xt_simulation.proofs.UseTaken.{Keeps0, Keeps1, Takes, Takes0, Takes1, holds_at, stands_at, turn_taken}
use Rattle.xt_simulation.proofs.WordsTold.{ToldWords, stored_small, told_now}

-- both states have their shape, and memory is of bytes
pub record AreShaped (m : MemoryContents) (s t : State) : Type 0 where
  pub first : IsShaped s
  pub second : IsShaped t
  pub real : IsMemory m

module _ (r : Course) (bytes : AreBytes r.code) (cores : List ℕ) (w : worlds.World State) (xs ys : List StepRecord) (walk : IsWalk (processor r.code) cores w xs ys) (same : r.turns ≡ turns cores xs ys) (begins : AreShaped w.line.memory w.core0.state w.core1.state) where
  abbrev Shaped : ℕ → MemoryContents → State → State → Type 0
  Shaped p m s t = AreShaped m s t

  keeps0 : (q : ℕ) → Keeps0 r.code cores w xs ys walk Shaped q
  keeps0 q p m s t less turn h = record { first = shaped_now r.code m s bytes h.first h.real; second = h.second; real = step_memory m (demand r.code s) h.real }

  keeps1 : (q : ℕ) → Keeps1 r.code cores w xs ys walk Shaped q
  keeps1 q p m s t less turn h = record { first = h.first; second = shaped_now r.code m t bytes h.second h.real; real = step_memory m (demand r.code t) h.real }

  abbrev place : ℕ → worlds.World State
  place p = stands_at r.code cores w p

  told_by : (p core : ℕ) (rec : StepRecord) → AreShaped (place p).line.memory (place p).core0.state (place p).core1.state → Takes r.code (place p) (place (suc p)) core rec → ToldWords rec
  told_by p core rec h (Takes0 c e m s t) = subst ToldWords (sym e) (told_now r.code bytes (place p).line.memory h.real (place p).core0.state h.first)
  told_by p core rec h (Takes1 c e m s t) = subst ToldWords (sym e) (told_now r.code bytes (place p).line.memory h.real (place p).core1.state h.second)

  pub told_at : (p core : ℕ) (rec : StepRecord) → IsTurn r p core rec → ToldWords rec
  told_at p core rec is =
      let turn : slice_get (turns cores xs ys) p ≡ Some (turn_of core rec) = sym (ap (λ (ts : List Turn). slice_get ts p) same) ∙ is in
      let there = slice_get_within (turns cores xs ys) p (turn_of core rec) turn in
      let h = holds_at r.code cores w xs ys walk Shaped p (omega (arith, there)) begins (keeps0 p) (keeps1 p) p (omega arith) in
      told_by p core rec h (turn_taken r.code p cores w xs ys core rec walk turn)

  pub is_ordinary : ((core : ℕ) → IsOpening (r.opening core)) → IsOrdinary r
  is_ordinary opens = record {
    code = bytes;
    opens = opens;
    inputs = λ p core rec is. let t = told_at p core rec is in (t.ccount, t.interrupt, t.reply);
    sizes = λ p core rec a is e. size_small a ((told_at p core rec is).served a e);
  }

  pub tells_words : TellsWords r
  tells_words = record {
    writes = λ p core rec w is e. (told_at p core rec is).write w e;
    stores = λ p core rec a v is e k. stored_small a v ((told_at p core rec is).served a e) k;
    served = λ p core rec a is e. (told_at p core rec is).served a e;
  }
