-- A judge past a record of its core, without the registers that are dead there.
use Rattle.std.proofs.Common.{◌≡◌, ◌<◌, ℕ, Bool, true, false, not, ◌&&◌, ◌⊎◌, None, List, length, sym, ap, ◌∙◌, subst}
use Rattle.xt_map.specs.Fetching.{fetch_at}
use Rattle.xt_trace.specs.declared.record.StepRecord.{StepRecord}
use Rattle.xt_frames.specs.Nesting.{current}
use Rattle.xt_frames.specs.SaveAreas.{Range}
use Rattle.xt_frames.specs.Walked.{Walked}
use Rattle.xt_timeless.specs.Time.{fetches_compare}
use Rattle.xt_outcomes.specs.Dead.{dead_at, has_compare}
use Rattle.xt_judged.specs.Forgotten.{IsCompareFit, IsFewerJudge, IsOuter, IsRevived, StandsPast}
use Rattle.xt_judged.specs.OwnJudges.{Judge, goes, judge_past}
use Rattle.xt_judged.specs.Past.{IsOnStack}
use Rattle.xt_judged.specs.WatchedKept.{judge_at}
use Rattle.xt_judged.specs.declared.watched.Running.{Running}
use Rattle.xt_judged.proofs.Compared.{without_compare}
use Rattle.xt_judged.proofs.CompareSteps.{compare_kept, place_is}
use Rattle.xt_judged.proofs.FewerOrders.{less_stands}

-- it stands for the same judges, if SCOMPARE1 that was dead is written or still dead
pub gone_stands : (code : ℕ → ℕ) (other : Range) (core : ℕ) (rec : StepRecord) (ms : List ℕ) (pc : ℕ) (v w : Walked) (r j : Running) (new : Judge) (from : ℕ) (before writes after : Bool)
    → 0 < length ms → IsOuter r.phase rec → judge_at w j ≡ judge_past code other core (judge_at v r) rec → (goes j.fate ≡ true → IsOnStack v × IsOnStack w)
    → IsCompareFit code ms rec pc → from ≡ (current v.state).control.pc
    → (has_compare (dead_at ms from) ≡ true → (from ≡ rec.pc) ⊎ (fetches_compare (fetch_at code from) ≡ false))
    → (writes ≡ true → IsRevived ms v.state rec from pc)
    → before ≡ has_compare (dead_at ms from) → after ≡ has_compare (dead_at ms (current w.state).control.pc)
    → (before && (not writes && not after)) ≡ false
    → new.fate ≡ j.fate
    → (w.state.nested ≡ None → IsFewerJudge new (judge_at w j) ⊎ (IsFewerJudge new (without_compare (judge_at w j)) × (after ≡ true)))
    → StandsPast code ms other core rec (judge_at v r) new
gone_stands code other core rec ms pc v w r j new from before writes after some outer is stacks fit at reads revives here there kept same fewer =
    less_stands code other core rec ms (judge_at v r) (judge_at w j) new some outer is stacks same
    (λ plain. moved (there ∙ ap (λ (n : ℕ). has_compare (dead_at ms n)) (place_is w.state plain)) (fewer plain))
    (compare_kept code ms rec pc fit v.state w.state from writes at reads revives ((λ i. sym here i && (not writes && not (sym there i))) ∙ kept))
  where
    moved : after ≡ has_compare (dead_at ms w.state.control.pc)
        → IsFewerJudge new (judge_at w j) ⊎ (IsFewerJudge new (without_compare (judge_at w j)) × (after ≡ true))
        → IsFewerJudge new (judge_at w j) ⊎ (IsFewerJudge new (without_compare (judge_at w j)) × (has_compare (dead_at ms w.state.control.pc) ≡ true))
    moved e h = subst (λ (b : Bool). IsFewerJudge new (judge_at w j) ⊎ (IsFewerJudge new (without_compare (judge_at w j)) × (b ≡ true))) e h
