-- What is so of the uses of a run, in the words of an image and its run.
use Rattle.std.proofs.Common.{◌≡◌, ◌<◌, ℕ, Bool, true, false, Option, Some, None, zero, suc, List, [], ◌∷◌, length, arith, refl, ap, sym, ◌∙◌, subst}
use Rattle.std.proofs.lemmas.Option.{none-some}
use Rattle.xt_map.specs.declared.contents.MemoryContents.{MemoryContents}
use Rattle.xt_trace.specs.declared.run.Run.{Run}
use Rattle.xt_image.specs.declared.image.Image.{Image}
use Rattle.xt_image.specs.ImageParts.{FitsImage, FitsSegment}
use Rattle.xt_rows.specs.RowLaws.{IsWord}
use Rattle.xt_core.specs.Runs.{IsRunOf, code_of, records_of}
use Rattle.xt_frames.specs.declared.kinds.Breach.{Breach}
use Rattle.xt_frames.specs.FirstBreach.{Course, IsFirstBreach, by_core, turns}
use Rattle.xt_handlers.specs.declared.stretch.Side.TheVariants.{Overflow, Underflow}
use Rattle.xt_handlers.specs.declared.Handlers as declared
use Rattle.xt_handlers.specs.CheckAnswers.{handlers_of}
use Rattle.xt_discipline.specs.Verdicts.{are_checked, are_yes, course_of, opened0, opened1}
use Rattle.xt_simulation.specs.Opening.{AreSmall, IsRunnable, memory_of}
use Rattle.xt_uses.specs.FirstUse.{History, IsFirstUse, IsHistory}
use Rattle.xt_uses.specs.UseLaws.{IsUseRun}
use Rattle.xt_use_walk.specs.declared.walk.Uses.{Uses}
use Rattle.xt_use_walk.specs.declared.walk.Uses.TheVariants.{Unchecked, Whole, Broken}
use Rattle.xt_use_walk.specs.Verdicts.{IsSaid, IsUsesOf, UsesAreOne}
use Rattle.xt_uses.specs.declared.discipline.Discipline.{Discipline}
use Rattle.xt_uses.specs.declared.discipline.Discipline.TheVariants.{Lenient}
use Rattle.xt_simulation.specs.UseRunLaws as laws
use Rattle.xt_simulation.specs.UseRunLaws.{UsesAreSo, UsesOfRunsAreLater}
use Rattle.xt_simulation.specs.FillingLaws.{RunsAreDecided}
use Rattle.xt_report.specs.Framed.{opening, short_of}
use Rattle.xt_report.proofs.Framing.{passes, run_by, runnable}
use Rattle.xt_report.proofs.Judging.{schedule_is}
use Rattle.xt_report.specs.Held.{AreDecided, AreSo, AreUsesLater, AreUsesSo, IsLater, IsOnly}

-- ---- a run of an image with what is kept of its records

course_is : (image : Image) (r : Run) → IsRunOf image r → laws.course_of image.segments image.entry r.options (short_of image r) ≡ course_of image r
course_is image r h =
    let o = r.options in
    let C : List ℕ → Course = λ s. record {
      code = code_of image;
      bounds = by_core (opened0 image o).bounds (opened1 o).bounds;
      opening = by_core (opened0 image o).state (opened1 o).state;
      turns = turns s (records_of 0 image r).records (records_of 1 image r).records;
    } in
    ap C (sym (schedule_is image r h))

-- what was judged over these answers for the handlers
pub uses_are : (d : Discipline) (image : Image) (r : Run) (handlers : declared.Handlers) (uses : Uses) → handlers ≡ handlers_of (code_of image) r.options.vecbase
    → IsUsesOf d (are_yes handlers) (course_of image r) uses → IsUsesOf d (are_checked image r.options) (course_of image r) uses
uses_are d image r handlers uses answers = subst (λ (x : declared.Handlers). IsUsesOf d (are_yes x) (course_of image r) uses) answers

-- ---- the laws

-- what is not known decides nothing, before the first breach of any history
abbrev Decides : Discipline → Course → Type 0
Decides d c = (h : History) (q : ℕ) (found : Option Breach) → IsHistory d c h → IsFirstUse c h q found → AreDecided d c h q

-- where the breach of an answer stands, or the run ends
said_so : (d : Discipline) (c : Course) (opening : MemoryContents) (uses : Uses) → IsSaid d c uses → IsUseRun c opening → Decides d c → AreSo d c opening uses
said_so d c opening Unchecked said fits decides = absurd said
said_so d c opening (Whole n m) said fits decides = record {
  history = said.history;
  is_history = said.is_history;
  place = said.place;
  is_first = said.first;
  fits = fits;
  decided = decides said.history said.place None said.is_history said.first;
}
said_so d c opening (Broken first) said fits decides = record {
  history = said.history;
  is_history = said.is_history;
  place = said.place;
  is_first = said.is_first;
  fits = fits;
  decided = decides said.history said.place (Some first.breach) said.is_history said.is_first;
}

said_of : (d : Discipline) (checked : Bool) (c : Course) (uses : Uses) → checked ≡ true → IsUsesOf d checked c uses → IsSaid d c uses
said_of d true c uses e said = said
said_of d false c uses e said = absurd cc

pub are_so : (d : Discipline) (image : Image) (r : Run) (uses : Uses) → UsesAreSo → RunsAreDecided → FitsImage image → IsWord r.options.vecbase → IsWord r.options.entry1 → IsRunOf image r → IsUsesOf d (are_checked image r.options) (course_of image r) uses → AreUsesSo d image r uses
are_so d image r uses law decided fits vecbase entry1 h of checked apart =
    let o = r.options in
    let short = short_of image r in
    let run = run_by image r h in
    let runs = runnable image r (record { image_fits = fits; vecbase = vecbase; entry1 = entry1 }) h in
    let handlers = passes (code_of image) o.vecbase checked in
    let so = law image.segments image.entry o short runs handlers apart run in
    let decides : Decides d (laws.course_of image.segments image.entry o short) =
    λ history q found is first n p core rec. decided image.segments image.entry o short runs handlers apart run d history n q found is first p core rec in
    said_so d (course_of image r) (memory_of (opening image r)) uses (said_of d (are_checked image r.options) (course_of image r) uses checked of)
    (subst (λ (c : Course). IsUseRun c (memory_of (opening image r))) (course_is image r h) so)
    (subst (Decides d) (course_is image r h) decides)

whole_said : (c : Course) (uses : Uses) → IsLater c → IsSaid Lenient c uses → (p : ℕ) → IsFirstBreach c p None → uses ≡ Whole 0 0
whole_said c Unchecked later said p first = absurd said
whole_said c (Whole n m) later said p first =
    let both = (later said.history p said.place None None said.is_history first said.first).1 refl in
    let a = said.counts0 ∙ both.1 in
    let b = said.counts1 ∙ both.2 in
    λ i. Whole (a i) (b i)
whole_said c (Broken named) later said p first =
    absurd (none-some named.breach (sym ((later said.history p said.place None (Some named.breach) said.is_history first said.is_first).1 refl).0))

pub are_later : (d : Discipline) (image : Image) (r : Run) (uses : Uses) → UsesOfRunsAreLater → FitsImage image → IsWord r.options.vecbase → IsWord r.options.entry1 → IsRunOf image r → IsUsesOf d (are_checked image r.options) (course_of image r) uses → AreUsesLater d image r uses
are_later d image r uses law fits vecbase entry1 h of =
    let later : IsLater (course_of image r) = subst IsLater (course_is image r h) (law image.segments image.entry r.options (short_of image r) (runnable image r (record { image_fits = fits; vecbase = vecbase; entry1 = entry1 }) h) (run_by image r h)) in
    record {
      later = later;
      whole = λ lenient checked. whole_said (course_of image r) uses later (subst (λ (x : Discipline). IsSaid x (course_of image r) uses) lenient (said_of d (are_checked image r.options) (course_of image r) uses checked of));
    }

pub is_only : (d : Discipline) (image : Image) (r : Run) (uses : Uses) → UsesAreOne → IsUsesOf d (are_checked image r.options) (course_of image r) uses → IsOnly d image r uses
is_only d image r uses law of other said = law d (are_checked image r.options) (course_of image r) other uses said of
