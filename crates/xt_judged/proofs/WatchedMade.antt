-- A turn of a core with its judge, from its parts.
use Rattle.std.proofs.Common.{◌≡◌, ℕ, zero, suc, Bool, true, false, not, ◌&&◌, ◌||◌, List, refl, sym, ap, ◌∙◌, arith}
use Rattle.std.specs.Prelude.{◌==◌, ◌<◌}
use Rattle.std.proofs.lemmas.Bool.{or_parts, true≢false}
use Rattle.xt_map.specs.declared.contents.MemoryContents.{MemoryContents}
use Rattle.xt_trace.specs.declared.record.StepRecord.{StepRecord}
use Rattle.xt_trace.specs.Worlds.{answer}
use Rattle.xt_exec.specs.Chips.{processor}
use Rattle.xt_exec.specs.State.{State}
use Rattle.xt_exec.specs.Turn.{demand, turn}
use Rattle.xt_frames.specs.Frames.{FrameState}
use Rattle.xt_outcomes.specs.Places.{is_own_access}
use Rattle.xt_outcomes.specs.SpotRaces.{next_of}
use Rattle.xt_outcomes.specs.Spots.{Side, Spot, side_bars, side_of}
use Rattle.xt_outcomes.specs.declared.places.Place.{Place}
use Rattle.xt_judged.specs.OwnJudges.{Judge, Own, Watched, goes, is_alone, is_over, record_in, uses_time, watched_bars, with_judge}
use Rattle.xt_judged.specs.Timeless.{frame_uses_time}
use Rattle.xt_judged.specs.WatchedKept.{judge_of, watched_of}
use Rattle.xt_judged.specs.declared.watched.Watched as kept

-- the record of the turn, from the core and memory before it
pub record_made : (code : ℕ → ℕ) (c : ℕ) (p : Spot State) (x : Side State) (n : MemoryContents) (rec : StepRecord) → x ≡ side_of c p → n ≡ p.memory
    → rec ≡ (turn code x.state (answer (demand code x.state) n)).0 → rec ≡ record_in (processor code) c p
record_made code c p x n rec e f g = g ∙ (λ i. (turn code (e i).state (answer (demand code (e i).state) (f i))).0)

-- a core that is not over has a turn left
pub some_left : (o : Own) → is_over o ≡ false → 0 < o.side.left
some_left o e = by_left o.side.left (or_parts (not (goes o.judge.fate)) (o.side.left == 0) e).1
  where
    by_left : (n : ℕ) → (n == 0) ≡ false → 0 < n
    by_left zero h = absurd (true≢false h)
    by_left (suc n) h = omega arith

-- core 1 has come so far
pub moved_one : (m : MemoryContents) (v : kept.Watched) (c : ℕ) (j : Judge) (p : Spot State) → 0 < c → (let w : Watched = record { spot = p; judge0 = judge_of v.judge0.value; judge1 = j } in w) ≡ with_judge c j p (watched_of m v)
moved_one m v zero j p h = absurd (omega (arith, h))
moved_one m v (suc c) j p h = refl

-- ---- turns that use time

module _ (code : ℕ → ℕ) (timed : Bool) (s : Side State) (f : FrameState) where
  pub used_side : side_bars code timed s ≡ true → true ≡ uses_time code timed s f
  used_side e = sym (ap (λ (b : Bool). b || (not timed && frame_uses_time code f)) e)

  pub used_frame : (b : Bool) → side_bars code timed s ≡ false → b ≡ (not timed && frame_uses_time code f) → b ≡ uses_time code timed s f
  used_frame b e g = g ∙ sym (ap (λ (t : Bool). t || (not timed && frame_uses_time code f)) e)

module _ (code : ℕ → ℕ) (timed : Bool) (o : Own) where
  -- of a core that makes a turn
  pub bars_are : is_over o ≡ false → watched_bars code timed o ≡ uses_time code timed o.side o.judge.standing.frame
  bars_are e = ap (λ (b : Bool). not b && uses_time code timed o.side o.judge.standing.frame) e

  pub alone_is : (ps : List Place) (c : ℕ) → is_over o ≡ false → uses_time code timed o.side o.judge.standing.frame ≡ false → is_own_access ps c (next_of code o.side) ≡ true → is_alone code timed ps c o ≡ true
  alone_is ps c e f g = λ i. not (e i) && (not ((bars_are e ∙ f) i) && g i)
