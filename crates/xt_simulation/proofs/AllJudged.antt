-- Where the judge's walk shows no breach, what it has judged is all that is judged of both traces.
use Rattle.std.proofs.Common.{◌≡◌, ℕ, zero, suc, List, [], ◌∷◌, length, take, None, Option, sym, ap, ◌∙◌, subst}
use Rattle.std.proofs.Math.Seq.{take-length}
use Rattle.xt_trace.specs.declared.record.StepRecord.{StepRecord}
use Rattle.xt_trace.specs.Chip.{Chip}
use Rattle.xt_trace.specs.Worlds.{World, give}
use Rattle.xt_trace.specs.Runs.{world_at_start, schedule_of}
use Rattle.xt_trace.specs.Walks.{IsWalk, next_record}
use Rattle.xt_trace.proofs.Walks.{own_walk}
use Rattle.xt_exec.specs.Chips.{processor}
use Rattle.xt_frames.specs.declared.kinds.Breach.{Breach}
use Rattle.xt_frames.specs.FirstBreach.{Course, EndsIn, IsJudgement, by_core, judged_before, judged_of, records_before, records_of, turns}
use Rattle.xt_frames.specs.declared.kinds.HandlerPhase.TheVariants.{Outside}
use Rattle.xt_frames.proofs.FirstBreach.{walk_finds}
use Rattle.xt_simulation.specs.Opening.{bounds0, bounds1, frame0, frame1}
use Rattle.xt_simulation.specs.Headline.{RunsAreAllJudged, judged_in, opening_of}

-- ---- a walk takes all records
module _ {S : Type 0} (P : Chip S) where
  all_of_0 : (cs : List ℕ) (w : World S) (xs ys : List StepRecord) → IsWalk P cs w xs ys → records_of 0 (turns cs xs ys) ≡ xs
  all_of_0 [] w xs ys (no_xs, no_ys) = sym no_xs
  all_of_0 (zero ∷ cs) w xs ys (rest, is, left, more) =
      subst (λ zs. records_of 0 (turns (zero ∷ cs) zs ys) ≡ zs) (sym is) (ap (λ zs. next_record P w.core0 w.line ∷ zs) (all_of_0 cs (give P 0 w) rest ys more))
  all_of_0 (suc c ∷ cs) w xs ys (rest, is, left, more) =
      subst (λ zs. records_of 0 (turns (suc c ∷ cs) xs zs) ≡ xs) (sym is) (all_of_0 cs (give P 1 w) xs rest more)

  all_of_1 : (cs : List ℕ) (w : World S) (xs ys : List StepRecord) → IsWalk P cs w xs ys → records_of 1 (turns cs xs ys) ≡ ys
  all_of_1 [] w xs ys (no_xs, no_ys) = sym no_ys
  all_of_1 (zero ∷ cs) w xs ys (rest, is, left, more) =
      subst (λ zs. records_of 1 (turns (zero ∷ cs) zs ys) ≡ ys) (sym is) (all_of_1 cs (give P 0 w) rest ys more)
  all_of_1 (suc c ∷ cs) w xs ys (rest, is, left, more) =
      subst (λ zs. records_of 1 (turns (suc c ∷ cs) xs zs) ≡ zs) (sym is) (ap (λ zs. next_record P w.core1 w.line ∷ zs) (all_of_1 cs (give P 1 w) xs rest more))

-- ---- at the end of all turns
judged_at_end : (r : Course) (core p : ℕ) (zs : List StepRecord) → p ≡ length r.turns → records_of core r.turns ≡ zs → judged_before r core p ≡ judged_of r.code Outside zs
unfolding judged_before records_before
judged_at_end r core p zs e all =
    ap (judged_of r.code Outside) (ap (λ n. records_of core (take n r.turns)) e ∙ (ap (records_of core) (take-length r.turns) ∙ all))

ended : (r : Course) (p : ℕ) (o : Option Breach) → o ≡ None → EndsIn r p o → p ≡ length r.turns
ended r p o is h = subst (EndsIn r p) is h

pub runs_are_all_judged : RunsAreAllJudged
runs_are_all_judged o code turns0 turns1 r run none =
    let opening = opening_of o turns0 turns1 in
    let cores = schedule_of r in
    let xs = r.trace0.records in
    let ys = r.trace1.records in
    let walk = own_walk (processor code) opening r run in
    let course : Course = record { code = code; bounds = by_core (bounds0 o) (bounds1 o); opening = by_core (frame0 o) (frame1 o); turns = turns cores xs ys } in
    let j : IsJudgement course (judged_in o code cores xs ys) = walk_finds code (bounds0 o) (bounds1 o) cores xs ys (frame0 o) (frame1 o) in
    let last = ended course j.place (judged_in o code cores xs ys).breach none j.first.here in (
      j.judged0 ∙ judged_at_end course 0 j.place xs last (all_of_0 (processor code) cores (world_at_start opening) xs ys walk),
      j.judged1 ∙ judged_at_end course 1 j.place ys last (all_of_1 (processor code) cores (world_at_start opening) xs ys walk),
    )
