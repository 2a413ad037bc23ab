-- The verdict on a run is its first breach.
use Rattle.std.proofs.Common.{◌≡◌, ℕ, zero, suc, ◌+◌, ◌<◌, ◌≤◌, Bool, true, false, Option, Some, None, List, [], ◌∷◌, length, eq-eqb, refl, sym, ap, ◌∙◌, subst, arith}
use Rattle.std.specs.Prelude.{◌↔◌, option_map, slice_get}
use Rattle.std.proofs.lemmas.Bool.{eqb-true, true≢false}
use Rattle.xt_image.specs.declared.image.Image.{Image}
use Rattle.xt_trace.specs.declared.options.Options.{Options}
use Rattle.xt_trace.specs.declared.run.Run.{Run}
use Rattle.xt_search.specs.Worlds.{IsOrder}
use Rattle.xt_core.specs.Runs.{IsRunOf, code_of, records_of}
use Rattle.xt_trace.specs.declared.record.StepRecord.{StepRecord}
use Rattle.xt_trace.specs.Validity.{IsValid}
use Rattle.xt_frames.specs.Breaches.{Bounds}
use Rattle.xt_frames.specs.declared.kinds.Breach.{Breach}
use Rattle.xt_frames.specs.declared.kinds.Judged.TheVariants as judged
use Rattle.xt_frames.specs.FirstBreach.{IsFirstBreach, IsJudgement}
use Rattle.xt_frames.specs.Judging.{Seen, Handled, Judges, Breaks}
use Rattle.xt_frames.specs.Verdict.{Judgement, Known, judgement, passed_0, passed_1, past_handled_0, past_handled_1, past_judged_0, past_judged_1, opening_known, seen_0, seen_1, verdict, verdict_on}
use Rattle.xt_frames.proofs.FirstBreach.{walk_finds}
use Rattle.xt_discipline.specs.Schedules.{schedule_in}
use Rattle.xt_discipline.specs.Verdicts.{are_checked, course_of, judged_of, judgement_in, opened0, opened1}
use Rattle.xt_judged.specs.OrderFrames.{HasTurnsOf, IsRealBreach, has_pc, run_of_order, turns_in}
use Rattle.xt_judged.specs.Runs.{IsVerdictOf}
use Rattle.xt_judged.specs.declared.frames.OrderBreach.{OrderBreach}

same_found : (a b : Option Breach) → verdict_on a ≡ verdict_on b → a ≡ b
same_found None None e = refl
same_found None (Some b) e = absurd cc
same_found (Some a) None e = absurd cc
same_found (Some a) (Some b) e = let i : a ≡ b = cc in ap Some i

is_judged : (found : Option Breach) → judged.Unchecked ≡ verdict_on found → ⊥
is_judged None e = cc
is_judged (Some b) e = cc

found_is : (checked : Bool) (j : Judgement) (found : Option Breach) → verdict checked j ≡ verdict_on found → j.breach ≡ found
found_is true j found e = same_found j.breach found e
found_is false j found e = absurd (is_judged found e)

pub verdict_is : (image : Image) (r : Run) (found : Option Breach) → IsRunOf image r → judged_of image r ≡ verdict_on found → IsVerdictOf image r found
verdict_is image r found is e =
    let xs = (records_of 0 image r).records in
    let ys = (records_of 1 image r).records in
    let walk : IsJudgement (course_of image r) (judgement_in image r xs ys) =
    walk_finds (code_of image) (opened0 image r.options).bounds (opened1 r.options).bounds (schedule_in r) xs ys (opened0 image r.options).state (opened1 r.options).state in
    let breach : (judgement_in image r xs ys).breach ≡ found = found_is (are_checked image r.options) (judgement_in image r xs ys) found e in
    record {
      run = is;
      verdict = e;
      first = (walk.place, subst (λ (x : Option Breach). IsFirstBreach (course_of image r) walk.place x) breach walk.first);
    }

pub real_is : (image : Image) (o : Options) (timed : Bool) (b : OrderBreach) (r : Run) (step : ℕ) → IsOrder b.order.items → HasTurnsOf timed o b.order.items → IsRunOf image r → r ≡ run_of_order image o b.order.items
    → judged_of image r ≡ judged.Broken (record { core = b.core; step = step; kind = b.kind })
    → option_map (λ z. z.pc) (slice_get (records_of b.core image r).records step) ≡ Some b.pc → IsRealBreach image o timed b
real_is image o timed b r step order given is e verdict address = record {
  is_order = order;
  given = given;
  step = step;
  verdict = subst (λ (x : Run). IsVerdictOf image x (Some (record { core = b.core; step = step; kind = b.kind }))) e (verdict_is image r (Some (record { core = b.core; step = step; kind = b.kind })) is verdict);
  address = subst (λ (x : Run). option_map (λ z. z.pc) (slice_get (records_of b.core image x).records step) ≡ Some b.pc) e address;
}

-- ---- a breach is one of core 0 or 1

module _ (b : Breach) where
  found_by_0 : (s : Seen) (k : Known) (x : StepRecord) (rest : Known → Judgement) → ((n : Known) → (rest n).breach ≡ Some b → b.core < 2) → (passed_0 s k x rest).breach ≡ Some b → b.core < 2
  found_by_0 (Handled st) k x rest h e = h (past_handled_0 st k) e
  found_by_0 (Judges st stale) k x rest h e = h (past_judged_0 st stale x k) e
  found_by_0 (Breaks kind) k x rest h e =
      let found : Breach = record { core = 0; step = k.steps0; kind = kind } in
      let same : found ≡ b = cc in
      let core : 0 ≡ b.core = ap (λ (y : Breach). y.core) same in
      omega (arith, core)

  found_by_1 : (s : Seen) (k : Known) (x : StepRecord) (rest : Known → Judgement) → ((n : Known) → (rest n).breach ≡ Some b → b.core < 2) → (passed_1 s k x rest).breach ≡ Some b → b.core < 2
  found_by_1 (Handled st) k x rest h e = h (past_handled_1 st k) e
  found_by_1 (Judges st stale) k x rest h e = h (past_judged_1 st stale x k) e
  found_by_1 (Breaks kind) k x rest h e =
      let found : Breach = record { core = 1; step = k.steps1; kind = kind } in
      let same : found ≡ b = cc in
      let core : 1 ≡ b.core = ap (λ (y : Breach). y.core) same in
      omega (arith, core)

  breach_core : (code : ℕ → ℕ) (b0 b1 : Bounds) (cores : List ℕ) (xs ys : List StepRecord) (k : Known) → (judgement code b0 b1 cores xs ys k).breach ≡ Some b → b.core < 2
  breach_core code b0 b1 [] xs ys k e = absurd cc
  breach_core code b0 b1 (zero ∷ cores) [] ys k e = absurd cc
  breach_core code b0 b1 (zero ∷ cores) (x ∷ xs) ys k e =
      found_by_0 (seen_0 code b0 b1 k x) k x (λ n. judgement code b0 b1 cores xs ys n) (λ n h. breach_core code b0 b1 cores xs ys n h) e
  breach_core code b0 b1 (suc c ∷ cores) xs [] k e = absurd cc
  breach_core code b0 b1 (suc c ∷ cores) xs (y ∷ ys) k e =
      found_by_1 (seen_1 code b0 b1 k y) k y (λ n. judgement code b0 b1 cores xs ys n) (λ n h. breach_core code b0 b1 cores xs ys n h) e

pub judged_core : (image : Image) (r : Run) (found : Breach) → judged.Broken found ≡ judged_of image r → found.core < 2
judged_core image r found e =
    let xs = (records_of 0 image r).records in
    let ys = (records_of 1 image r).records in
    breach_core found (code_of image) (opened0 image r.options).bounds (opened1 r.options).bounds (schedule_in r) xs ys
    (opening_known (opened0 image r.options).state (opened1 r.options).state)
    (found_is (are_checked image r.options) (judgement_in image r xs ys) (Some found) (sym e))

-- ---- both ways

pub never : {P : Type 0} → (P → ⊥) → (false ≡ true) ↔ P
never isnt = (λ e. absurd (true≢false (sym e)), λ p. absurd (isnt p))

-- an order has a turn of core 0 or 1 each
turns_sum : (order : List ℕ) → IsOrder order → turns_in 0 order + turns_in 1 order ≡ length order
turns_sum [] h = refl
turns_sum (zero ∷ cs) h = let e = turns_sum cs h.1 in omega (arith, e)
turns_sum (suc zero ∷ cs) h = let e = turns_sum cs h.1 in omega (arith, e)
turns_sum (suc (suc c) ∷ cs) h = let l : suc (suc c) < 2 = h.0 in absurd (omega (arith, l))

few : (timed : Bool) (o : Options) (order : List ℕ) → IsValid o → HasTurnsOf timed o order → (turns_in 0 order ≤ 4000000) × (turns_in 1 order ≤ 4000000)
few true o order v h =
    let a = h.0 in
    let b = h.1 in
    let c = v.turns0 in
    let d = v.turns1 in
    (omega (arith, a, c), omega (arith, b, d))
few false o order v h = h

pub too_long : (image : Image) (o : Options) (timed : Bool) (b : OrderBreach) → IsValid o → 8000000 < length b.order.items → IsRealBreach image o timed b → ⊥
too_long image o timed b v long real =
    let s = turns_sum b.order.items real.is_order in
    let f = few timed o b.order.items v real.given in
    let x = f.0 in
    let y = f.1 in
    omega (arith, s, x, y, long)

pub own_valid : (timed : Bool) (o : Options) (order : List ℕ) (n m : ℕ) → IsValid o → n ≡ turns_in 0 order → m ≡ turns_in 1 order → HasTurnsOf timed o order → IsValid (record o { turns0 = n; turns1 = m })
own_valid timed o order n m v e f h =
    let g = few timed o order v h in
    let x = g.0 in
    let y = g.1 in
    record { turns0 = omega (arith, e, x); turns1 = omega (arith, f, y); entry1 = v.entry1; vecbase = v.vecbase; stack0 = v.stack0; stack1 = v.stack1 }

pub other_verdict : (image : Image) (o : Options) (timed : Bool) (b : OrderBreach) (r : Run) → r ≡ run_of_order image o b.order.items
    → ((step : ℕ) → judged_of image r ≡ judged.Broken (record { core = b.core; step = step; kind = b.kind }) → ⊥) → IsRealBreach image o timed b → ⊥
other_verdict image o timed b r e isnt real =
    isnt real.step (subst (λ (x : Run). judged_of image x ≡ judged.Broken (record { core = b.core; step = real.step; kind = b.kind })) (sym e) real.verdict.verdict)

pub other_place : (image : Image) (o : Options) (timed : Bool) (b : OrderBreach) (r : Run) (found : Breach) (is : Bool) → r ≡ run_of_order image o b.order.items → judged_of image r ≡ judged.Broken found
    → is ≡ false → (found.core ≡ b.core → found.kind ≡ b.kind → is ≡ true) → IsRealBreach image o timed b → ⊥
other_place image o timed b r found is e verdict isnt same real = other_verdict image o timed b r e (λ step h.
    let there : Breach = record { core = b.core; step = step; kind = b.kind } in
    let both : found ≡ there = let f : judged.Broken found ≡ judged.Broken there = sym verdict ∙ h in cc in
    true≢false (sym (same (ap (λ (x : Breach). x.core) both) (ap (λ (x : Breach). x.kind) both)) ∙ isnt)) real

pc_of : (pc : ℕ) (x : Option StepRecord) → has_pc pc x ≡ true → option_map (λ z. z.pc) x ≡ Some pc
pc_of pc None h = absurd (true≢false (sym h))
pc_of pc (Some r) h = ap Some (eqb-true r.pc pc h)

has_of : (pc : ℕ) (x : Option StepRecord) → option_map (λ z. z.pc) x ≡ Some pc → has_pc pc x ≡ true
has_of pc None h = absurd cc
has_of pc (Some r) h = let e : r.pc ≡ pc = cc in eq-eqb r.pc pc e

-- the run's breach has this kind and core
pub real_both : (image : Image) (o : Options) (timed : Bool) (b : OrderBreach) (r : Run) (found : Breach) (is : Bool) → IsOrder b.order.items → HasTurnsOf timed o b.order.items → IsRunOf image r
    → r ≡ run_of_order image o b.order.items → judged_of image r ≡ judged.Broken found → found.core ≡ b.core → found.kind ≡ b.kind
    → is ≡ has_pc b.pc (slice_get (records_of found.core image r).records found.step) → (is ≡ true) ↔ IsRealBreach image o timed b
real_both image o timed b r found is order given run e verdict core kind at =
    let here : is ≡ has_pc b.pc (slice_get (records_of b.core image r).records found.step) =
    at ∙ ap (λ (c : ℕ). has_pc b.pc (slice_get (records_of c image r).records found.step)) core in
    let same : judged_of image r ≡ judged.Broken (record { core = b.core; step = found.step; kind = b.kind }) =
    verdict ∙ (λ i. judged.Broken (record { core = core i; step = found.step; kind = kind i })) in (
      λ t. real_is image o timed b r found.step order given run e same (pc_of b.pc (slice_get (records_of b.core image r).records found.step) (sym here ∙ t)),
      λ real.
          let there : Breach = record { core = b.core; step = real.step; kind = b.kind } in
          let own : judged_of image r ≡ judged.Broken there = subst (λ (x : Run). judged_of image x ≡ judged.Broken there) (sym e) real.verdict.verdict in
          let both : found ≡ there = let f : judged.Broken found ≡ judged.Broken there = sym verdict ∙ own in cc in
          let step : found.step ≡ real.step = ap (λ (x : Breach). x.step) both in
          let address = subst (λ (x : Run). option_map (λ z. z.pc) (slice_get (records_of b.core image x).records real.step) ≡ Some b.pc) (sym e) real.address in
          here ∙ ap (λ (n : ℕ). has_pc b.pc (slice_get (records_of b.core image r).records n)) step ∙ has_of b.pc (slice_get (records_of b.core image r).records real.step) address,
    )
