-- A run of an image is framed.
use Rattle.std.proofs.Common.{◌≡◌, ◌<◌, ℕ, true, None, zero, suc, List, [], ◌∷◌, arith, refl, ap, sym, ◌∙◌, subst}
use Rattle.std.specs.Prelude.{slice_index}
use Rattle.std.specs.List.{AllByRecursion}
use Rattle.std.proofs.lemmas.List.Elements.{recursion_from_All}
use Rattle.std.proofs.lemmas.Bool.{and_parts}
use Rattle.xt_map.specs.declared.segment.Segment.{Segment}
use Rattle.xt_trace.specs.declared.run.Run.{Run}
use Rattle.xt_image.specs.declared.image.Image.{Image}
use Rattle.xt_image.specs.ImageParts.{FitsSegment}
use Rattle.xt_core.specs.Runs.{IsRunOf, code_of}
use Rattle.xt_handlers.specs.declared.stretch.HandlerVerdict.{HandlerVerdict}
use Rattle.xt_handlers.specs.declared.stretch.HandlerVerdict.TheVariants.{Yes, No}
use Rattle.xt_handlers.specs.declared.stretch.Side.TheVariants.{Overflow, Underflow}
use Rattle.xt_handlers.specs.Vectors.{Handlers, verdict_of}
use Rattle.xt_handlers.specs.CheckAnswers.{handlers_of}
use Rattle.xt_frames.specs.Verdict.{Judgement}
use Rattle.xt_discipline.specs.Verdicts.{are_yes, is_yes, judgement_of}
use Rattle.xt_simulation.specs.Opening.{AreSmall, IsRunnable}
use Rattle.xt_simulation.specs.Headline as headline
use Rattle.xt_simulation.specs.Headline.{AreFrames, IsRunOfImage}
use Rattle.xt_simulation.proofs.Images.{six_suffice, windows_are_frames, stretches_of_images, images_are_all_judged}
use Rattle.xt_report.specs.Framed.{AreTyped, RunsAreFramed, opening, short_of}
use Rattle.xt_report.proofs.Judging.{judgement_is}

bytes_small : (bytes : List ℕ) → AllByRecursion (λ b. b < 256) bytes → (k : ℕ) → slice_index bytes k < 256
bytes_small [] all k = omega arith
bytes_small (b ∷ bytes) all zero = all.0
bytes_small (b ∷ bytes) all (suc k) = bytes_small bytes all.1 k

segments_small : (segments : List Segment) → AllByRecursion FitsSegment segments → AreSmall segments
segments_small [] all = tt
segments_small (s ∷ rest) all = (bytes_small s.bytes (recursion_from_All (λ b. b < 256) s.bytes (all.0).bytes), segments_small rest all.1)

-- its options are valid, and all numbers are in the ranges of their types
pub runnable : (image : Image) (r : Run) → AreTyped image r → IsRunOf image r → IsRunnable image.segments image.entry r.options
runnable image r t h = record {
  valid = h.valid;
  vecbase = t.vecbase;
  entry0 = t.image_fits.entry;
  entry1 = t.entry1;
  bytes = segments_small image.segments (recursion_from_All FitsSegment image.segments t.image_fits.segments);
}

pub run_by : (image : Image) (r : Run) → IsRunOf image r → IsRunOfImage image.segments image.entry r.options (short_of image r)
run_by image r h = record { legal = h.legal; cores = h.cores; trace0 = refl; trace1 = refl; calls0 = h.calls0; calls1 = h.calls1 }

yes_is : (v : HandlerVerdict) → is_yes v ≡ true → v ≡ Yes
yes_is Yes h = refl
yes_is (No offset) h = absurd cc

-- six answers `yes` are the premise of the headline
pub passes : (code : ℕ → ℕ) (vecbase : ℕ) → are_yes (handlers_of code vecbase) ≡ true → Handlers code vecbase
unfolding handlers_of
passes code vecbase h =
    let a = and_parts (is_yes (verdict_of code vecbase Overflow 1)) _ h in
    let b = and_parts (is_yes (verdict_of code vecbase Underflow 1)) _ a.1 in
    let c = and_parts (is_yes (verdict_of code vecbase Overflow 2)) _ b.1 in
    let d = and_parts (is_yes (verdict_of code vecbase Underflow 2)) _ c.1 in
    let e = and_parts (is_yes (verdict_of code vecbase Overflow 3)) _ d.1 in
    six_suffice code vecbase (record { of4 = yes_is _ a.0; uf4 = yes_is _ b.0; of8 = yes_is _ c.0; uf8 = yes_is _ d.0; of12 = yes_is _ e.0; uf12 = yes_is _ e.1 })

pub runs_are_framed : RunsAreFramed
runs_are_framed image r t h six apart =
    let handlers = passes (code_of image) r.options.vecbase six in
    let given = runnable image r t h in
    let run = run_by image r h in
    let same = judgement_is image r h in
    let all = images_are_all_judged image.segments image.entry r.options (short_of image r) run in
    let none_so : (judgement_of image r).breach ≡ None → (headline.judgement_of image.segments image.entry r.options (short_of image r)).breach ≡ None =
    λ none. ap (λ (j : Judgement). j.breach) (sym same) ∙ none in (
      record {
        frames = subst (AreFrames (opening image r) (code_of image)) (sym same) (windows_are_frames image.segments image.entry r.options (short_of image r) given handlers apart run);
        all0 = λ none. ap (λ (j : Judgement). j.known.judged0) same ∙ (all (none_so none)).0;
        all1 = λ none. ap (λ (j : Judgement). j.known.judged1) same ∙ (all (none_so none)).1;
      },
      stretches_of_images image.segments image.entry r.options (short_of image r) given handlers apart run,
    )
