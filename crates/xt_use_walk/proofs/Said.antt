-- What the walk finds is what is said of the run.
use Rattle.std.proofs.Common.{◌≡◌, ℕ, zero, suc, ◌+◌, ◌<◌, true, Option, Some, None, List, length, slice_get, refl, sym, ◌∙◌, ap, subst, arith}
use Rattle.std.proofs.lemmas.Option.{same_Some}
use Rattle.xt_map.specs.declared.segment.Segment.{Segment}
use Rattle.xt_map.specs.Memory.{constant_byte}
use Rattle.xt_image.specs.declared.image.Image.{Image}
use Rattle.xt_trace.specs.declared.record.StepRecord.{StepRecord}
use Rattle.xt_trace.specs.declared.run.Run.{Run}
use Rattle.xt_frames.specs.declared.kinds.Breach.{Breach}
use Rattle.xt_frames.specs.Breaches.{Bounds}
use Rattle.xt_frames.specs.Frames.{FrameState}
use Rattle.xt_frames.specs.FirstBreach.{Course, IsTurn, records_before, turns}
use Rattle.xt_frames.specs.Walked.{opening_walked}
use Rattle.xt_discipline.specs.Ended.{records_left}
use Rattle.xt_discipline.specs.Schedules.{schedule_in}
use Rattle.xt_discipline.specs.Verdicts.{course_in}
use Rattle.xt_uses.specs.declared.discipline.Discipline.{Discipline}
use Rattle.xt_uses.specs.FirstUse.{IsFirstUse, IsUse, IsVerdict}
use Rattle.xt_uses.specs.Lacks.{lacks_before}
use Rattle.xt_uses.specs.UseWalk.{IsUseJudgement, UseJudgement, opening_use_known, use_judgement}
use Rattle.xt_uses.proofs.UseFirst.{walk_finds}
use Rattle.xt_use_walk.specs.declared.walk.FirstUse.{FirstUse}
use Rattle.xt_use_walk.specs.declared.walk.Uses.{Uses}
use Rattle.xt_use_walk.specs.declared.walk.Uses.TheVariants.{Unchecked, Whole, Broken}
use Rattle.xt_use_walk.specs.Verdicts.{IsBroken, IsSaid, IsUsesOf}
use Rattle.xt_use_walk.specs.Walks.{IsOpened, IsShown, IsTold, IsWhole, Walk, standing_in}
use Rattle.xt_use_walk.proofs.Numbered.{record_at}

-- ---- no breach
said_whole : (d : Discipline) (r : Course) (j : UseJudgement) (n m : ℕ) → IsUseJudgement d r j → IsWhole j n m → IsVerdict d r None n m
said_whole d r j n m u w = record {
  history = u.history;
  is_history = u.is_history;
  place = u.place;
  first = subst (λ (o : Option Breach). IsFirstUse r u.history u.place o) w.none u.finds;
  counts0 = w.counts0 ∙ u.carried0;
  counts1 = w.counts1 ∙ u.carried1;
}

-- ---- a breach
no_steps : (d : Discipline) (core : ℕ) (b0 b1 : Bounds) (f0 f1 : FrameState) → (standing_in core (opening_use_known d b0 b1 f0 f1)).steps ≡ 0
no_steps d zero b0 b1 f0 f1 = refl
no_steps d (suc core) b0 b1 f0 f1 = refl

state_at : (d : Discipline) (core : ℕ) (r : Course) (j : UseJudgement) (u : IsUseJudgement d r j) → core < 2 → (standing_in core j.known).state ≡ u.history.state core u.place
state_at d zero r j u two = sym u.state0
state_at d (suc zero) r j u two = sym u.state1
state_at d (suc (suc core)) r j u two = absurd (omega (arith, two))

said_broken : (d : Discipline) (r : Course) (b0 b1 : Bounds) (f0 f1 : FrameState) (cs : List ℕ) (xs ys : List StepRecord) (j : UseJudgement) (first : FirstUse) → r.turns ≡ turns cs xs ys → IsUseJudgement d r j
    → IsShown r.code j (opening_use_known d b0 b1 f0 f1) xs ys first → IsBroken d r first
said_broken d r b0 b1 f0 f1 cs xs ys j first turns_are u s =
    let b = first.breach in
    let k = opening_use_known d b0 b1 f0 f1 in
    let found : IsFirstUse r u.history u.place (Some b) = subst (λ (o : Option Breach). IsFirstUse r u.history u.place o) s.found u.finds in
    let shows : IsUse r u.history u.place b = found.here in
    let zero_steps : (standing_in b.core k).steps ≡ 0 = no_steps d b.core b0 b1 f0 f1 in
    let number : b.step ≡ (standing_in b.core k).steps + s.count = s.number in
    let counted : b.step ≡ length (records_before r b.core u.place) = shows.number in
    let same_count : s.count ≡ length (records_before r b.core u.place) = omega (arith, zero_steps, number, counted) in
    let at : slice_get (records_left b.core xs ys) (length (records_before r b.core u.place)) ≡ Some shows.rec = record_at r cs xs ys u.place b.core shows.rec turns_are s.core shows.turn in
    let same : shows.rec ≡ first.rec = same_Some shows.rec first.rec (sym at ∙ (ap (slice_get (records_left b.core xs ys)) (sym same_count) ∙ s.taken)) in
    record {
      history = u.history;
      is_history = u.is_history;
      place = u.place;
      is_first = found;
      turn = subst (IsTurn r u.place b.core) same shows.turn;
      lacks = s.lacks ∙ ap (lacks_before r.code first.rec) (state_at d b.core r j u s.core);
    }

said : (d : Discipline) (r : Course) (b0 b1 : Bounds) (f0 f1 : FrameState) (cs : List ℕ) (xs ys : List StepRecord) (j : UseJudgement) (uses : Uses) → r.turns ≡ turns cs xs ys → IsUseJudgement d r j
    → IsTold r.code j (opening_use_known d b0 b1 f0 f1) xs ys uses → IsSaid d r uses
said d r b0 b1 f0 f1 cs xs ys j Unchecked is u t = absurd t
said d r b0 b1 f0 f1 cs xs ys j (Whole n m) is u t = said_whole d r j n m u t
said d r b0 b1 f0 f1 cs xs ys j (Broken first) is u t = said_broken d r b0 b1 f0 f1 cs xs ys j first is u t

-- ---- in the words of the image and its run
pub uses_are : (d : Discipline) (w : Walk) (code : List Segment) (image : Image) (r : Run) (xs ys : List StepRecord) (uses : Uses) → IsOpened d w code image.entry r.options → code ≡ image.segments
    → IsTold (constant_byte w.code)
    (use_judgement (constant_byte w.code) (opening_walked 0 image.entry r.options).bounds (opening_walked 1 r.options.entry1 r.options).bounds (schedule_in r) xs ys (opening_use_known d (opening_walked 0 image.entry r.options).bounds (opening_walked 1 r.options.entry1 r.options).bounds (opening_walked 0 image.entry r.options).state (opening_walked 1 r.options.entry1 r.options).state))
    (opening_use_known d (opening_walked 0 image.entry r.options).bounds (opening_walked 1 r.options.entry1 r.options).bounds (opening_walked 0 image.entry r.options).state (opening_walked 1 r.options.entry1 r.options).state) xs ys uses
    → IsUsesOf d true (course_in image r xs ys) uses
uses_are d w code image r xs ys uses o code_is told =
    let a = opening_walked 0 image.entry r.options in
    let b = opening_walked 1 r.options.entry1 r.options in
    let k = opening_use_known d a.bounds b.bounds a.state b.state in
    let T : List Segment → Type 0 = λ s. IsTold (constant_byte s) (use_judgement (constant_byte s) a.bounds b.bounds (schedule_in r) xs ys k) k xs ys uses in
    let c = course_in image r xs ys in
    let j = use_judgement (constant_byte image.segments) a.bounds b.bounds (schedule_in r) xs ys k in
    let found : IsUseJudgement d c j = walk_finds d (constant_byte image.segments) a.bounds b.bounds (schedule_in r) xs ys a.state b.state in
    said d c a.bounds b.bounds a.state b.state (schedule_in r) xs ys j uses refl found (subst T (o.code_is ∙ code_is) told)
