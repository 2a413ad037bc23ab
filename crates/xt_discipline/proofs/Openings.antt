-- The walk as it begins knows what the definition of the verdict knows there.
use Rattle.std.proofs.Common.{◌≡◌, ℕ, ◌-◌, ◌≤◌, Bool, true, false, List, length, refl, sym, ◌∙◌, ap, subst, arith}
use Rattle.std.proofs.lemmas.Bool.{cond-true}
use Rattle.xt_map.specs.declared.segment.Segment.{Segment}
use Rattle.xt_map.specs.Memory.{constant_byte}
use Rattle.xt_map.specs.Touching.{touches}
use Rattle.xt_image.specs.declared.image.Image.{Image}
use Rattle.xt_trace.specs.declared.options.Options.{Options}
use Rattle.xt_trace.specs.declared.record.StepRecord.{StepRecord}
use Rattle.xt_trace.specs.declared.run.Run.{Run}
use Rattle.xt_trace.specs.Validity.{IsValid}
use Rattle.xt_frames.specs.declared.kinds.Judged.{Judged}
use Rattle.xt_frames.specs.declared.kinds.Judged.TheVariants.{Unchecked}
use Rattle.xt_frames.specs.Verdict.{Judgement, judgement, opening_known, verdict, verdict_on}
use Rattle.xt_frames.specs.Judging.{opening_standing}
use Rattle.xt_frames.specs.Walked.{Walked, opening_walked, stack_of}
use Rattle.xt_discipline.specs.declared.side.Side.{Side}
use Rattle.xt_frames.specs.declared.kinds.HandlerPhase.TheVariants.{Outside}
use Rattle.xt_discipline.specs.declared.walk.Walk.{Walk}
use Rattle.xt_discipline.specs.ByteMarks.{AreOpened, KnowsOf}
use Rattle.xt_discipline.specs.Sides.{live_in}
use Rattle.xt_discipline.specs.Walks.{IsKnown, IsOpened}
use Rattle.xt_discipline.specs.Schedules.{schedule_in}
use Rattle.xt_discipline.specs.Verdicts.{judgement_in}
use Rattle.xt_discipline.proofs.Opens.{live_opened, stack_valid}

abbrev pub side_at : ℕ → ℕ → Walked → Side
side_at core hi frames = record { core = core; hi = hi; frames = frames; phase = Outside; steps = 0 }

nothing_less : (n : ℕ) → 0 ≤ n
nothing_less n = omega arith

known_opened : (core pc hi : ℕ) (o : Options) → IsValid o → hi ≡ (stack_of core o).hi
    → IsKnown (side_at core hi (opening_walked core pc o)) core (opening_walked core pc o).bounds (opening_standing (opening_walked core pc o).state) 0
known_opened core pc hi o v e =
    let s = stack_valid core o v in
    record {
      side = record { core_is = refl; end_is = sym e; low = s.low; high = s.high; past = nothing_less 0 };
      core_is = refl;
      bounds_are = refl;
      standing_is = refl;
      steps_are = refl;
    }

live_at : (core pc a : ℕ) (o : Options) → live_in (opening_walked core pc o) a ≡ touches ((stack_of core o).hi - 76) 4 a
live_at core pc a o = live_opened (stack_of core o).lo (stack_of core o).hi a (opening_walked core pc o).state refl

pub opens : (w : Walk) (code : List Segment) (entry : ℕ) (o : Options) → IsValid o → w.code ≡ code
    → w.side0 ≡ side_at 0 o.stack0.hi (opening_walked 0 entry o) → w.side1 ≡ side_at 1 o.stack1.hi (opening_walked 1 o.entry1 o)
    → length w.marks.items ≡ 0x52000 → AreOpened w.marks.items o.stack0.hi o.stack1.hi → IsOpened w code entry o
opens w code entry o v code_is zero one len k =
    let S0 : Side → Type 0 = λ s. IsKnown s 0 (opening_walked 0 entry o).bounds (opening_standing (opening_walked 0 entry o).state) 0 in
    let S1 : Side → Type 0 = λ s. IsKnown s 1 (opening_walked 1 o.entry1 o).bounds (opening_standing (opening_walked 1 o.entry1 o).state) 0 in
    let M : Side → Side → Type 0 = λ s t. KnowsOf 0 w.marks.items (live_in s.frames) (live_in t.frames) (λ a. false) in
    let T : Side → Type 0 = λ t. M (side_at 0 o.stack0.hi (opening_walked 0 entry o)) t in
    let marks : M (side_at 0 o.stack0.hi (opening_walked 0 entry o)) (side_at 1 o.stack1.hi (opening_walked 1 o.entry1 o)) = record {
      own_is = λ a. k.own_is a ∙ sym (live_at 0 entry a o);
      others_is = λ a. k.others_is a ∙ sym (live_at 1 o.entry1 a o);
      stale_is = k.stale_is;
      fresh = λ a e. refl;
    } in
    let half : M (side_at 0 o.stack0.hi (opening_walked 0 entry o)) w.side1 = subst T (sym one) marks in
    let all : M w.side0 w.side1 = subst (λ (s : Side). M s w.side1) (sym zero) half in
    record {
      code_is = code_is;
      steps0 = ap (λ (s : Side). s.steps) zero;
      steps1 = ap (λ (s : Side). s.steps) one;
      knows = record {
        zero = subst S0 (sym zero) (known_opened 0 entry o.stack0.hi o v refl);
        one = subst S1 (sym one) (known_opened 1 o.entry1 o.stack1.hi o v refl);
        len = len;
        marks = all;
      };
    }

-- ---- what is judged, in the words of the image and its run
pub judged_is : (w : Walk) (code : List Segment) (image : Image) (r : Run) (cores : List ℕ) (xs ys : List StepRecord) (j : Judged) (good : Bool) → good ≡ true → IsOpened w code image.entry r.options
    → code ≡ image.segments → cores ≡ schedule_in r
    → j ≡ verdict_on (judgement (constant_byte w.code) (opening_walked 0 image.entry r.options).bounds (opening_walked 1 r.options.entry1 r.options).bounds cores xs ys (opening_known (opening_walked 0 image.entry r.options).state (opening_walked 1 r.options.entry1 r.options).state)).breach
    → j ≡ verdict good (judgement_in image r xs ys)
judged_is w code image r cores xs ys j good e o code_is cores_is h =
    let J : List Segment → List ℕ → Judgement = λ c cs. judgement (constant_byte c) (opening_walked 0 image.entry r.options).bounds (opening_walked 1 r.options.entry1 r.options).bounds cs xs ys (opening_known (opening_walked 0 image.entry r.options).state (opening_walked 1 r.options.entry1 r.options).state) in
    h ∙ (ap (λ (c : List Segment). verdict_on (J c cores).breach) (o.code_is ∙ code_is) ∙ (ap (λ (cs : List ℕ). verdict_on (J image.segments cs).breach) cores_is
    ∙ sym (cond-true good (verdict_on (judgement_in image r xs ys).breach) Unchecked e)))
