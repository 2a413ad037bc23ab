-- The profile of a core, from what was counted up to the cut.
use Rattle.std.proofs.Common.{◌≡◌, ℕ, suc, ◌+◌, ◌-◌, ◌≤◌, List, [], ◌∷◌, length, drop, take, refl, sym, ap, ap₂, subst, ◌∙◌, arith}
use Rattle.std.proofs.lemmas.List.{append-nil, length-append, length-drop, take-append-drop}
use Rattle.xt_map.specs.declared.segment.Segment.{Segment}
use Rattle.xt_map.specs.Memory.{constant_byte}
use Rattle.xt_image.specs.declared.image.Image.{Image}
use Rattle.xt_trace.specs.declared.record.StepRecord.{StepRecord}
use Rattle.xt_trace.specs.declared.run.Run.{Run}
use Rattle.xt_frames.specs.Breaches.{Bounds}
use Rattle.xt_frames.specs.Frames.{FrameState}
use Rattle.xt_frames.specs.declared.kinds.HandlerPhase.{HandlerPhase}
use Rattle.xt_frames.specs.declared.kinds.HandlerPhase.TheVariants.{Outside}
use Rattle.xt_frames.specs.HandlerSteps.{phase_after}
use Rattle.xt_discipline.specs.Phases.{step_phase}
use Rattle.xt_frames.specs.Verdict.{Known, Judgement, judgement, opening_known}
use Rattle.xt_frames.specs.Walked.{opening_walked}
use Rattle.xt_discipline.specs.declared.walk.Walk.{Walk}
use Rattle.xt_discipline.specs.Verdicts.{judgement_of}
use Rattle.xt_discipline.specs.Schedules.{schedule_in}
use Rattle.xt_discipline.specs.Walks.{IsOpened}
use Rattle.xt_core.specs.Runs.{IsRunOf, code_of, entry_of}
use Rattle.xt_profile.specs.declared.counting.AtCut.{AtCut}
use Rattle.xt_profile.specs.declared.profiles.CoreProfile.{CoreProfile}
use Rattle.xt_profile.specs.declared.profiles.CoreTurns.{CoreTurns}
use Rattle.xt_profile.specs.declared.tally.Tally.{Tally}
use Rattle.xt_profile.specs.Steps.{Step, frame_after, step_of, steps_from}
use Rattle.xt_profile.specs.Keys.{Start, handlers, keys}
use Rattle.xt_profile.specs.Counts.{lines, total}
use Rattle.xt_profile.specs.Profiled.{CoreAddsUp, core_profile, count_before_cut, records, steps, turns_past}
use Rattle.xt_profile.specs.CountedSteps.{IsTally, Origin, profile_of_steps, from_here, origin}
use Rattle.xt_profile.specs.Follows.{AreCut, Follows, IsCut}
use Rattle.xt_profile.specs.Cuts.{AreAtCut, AreFresh, IsAtCut}
use Rattle.xt_profile.proofs.Cutting.{cut0_is, cut1_is}
use Rattle.xt_profile.proofs.Following.{core_begins}
use Rattle.xt_profile.proofs.Putting.{total_is}
use Rattle.xt_profile.proofs.Telling.{front_is, keys_count, steps_whole, steps_within, turns}

-- ---- as both cores open
stays : (n : ℕ) → n ≡ n + 0
stays n = omega arith

abbrev pub from : ℕ → ℕ → Origin
from d pc = origin pc d []

pub follows_none : (d : ℕ) (w : Walk) (segments : List Segment) (image : Image) (r : Run) (cs : List ℕ) (xs ys : List StepRecord) (t0 t1 : Tally) → IsOpened w segments image.entry r.options → IsTally (from d image.entry) [] t0 → IsTally (from d r.options.entry1) [] t1
    → Follows (constant_byte w.code) (opening_walked 0 image.entry r.options).bounds (opening_walked 1 r.options.entry1 r.options).bounds (opening_known (opening_walked 0 image.entry r.options).state (opening_walked 1 r.options.entry1 r.options).state) cs (from d image.entry) (from d r.options.entry1) xs ys w 0 xs ys t0 t1
follows_none d w segments image r cs xs ys t0 t1 o h0 h1 =
    let a = opening_walked 0 image.entry r.options in
    let b = opening_walked 1 r.options.entry1 r.options in
    let k = opening_known a.state b.state in
    record {
      reach = record { known = k; knows = o.knows; steps = stays (k.steps0 + k.steps1); code_is = refl; judged = refl };
      past0 = [];
      past1 = [];
      core0 = core_begins (constant_byte w.code) a.state xs k.standing0 refl refl refl;
      core1 = core_begins (constant_byte w.code) b.state ys k.standing1 refl refl refl;
      tally0 = h0;
      tally1 = h1;
    }

-- ---- the sum
one_on : (a b : ℕ) → suc a + b ≡ a + suc b
one_on a b = omega arith

no_more : (n : ℕ) → n + 0 ≡ n
no_more n = omega arith

steps_length : (code : ℕ → ℕ) (m : HandlerPhase) (f : FrameState) (past : List Step) (xs : List StepRecord) → length (steps_from code m f past xs) ≡ length past + length xs
steps_length code m f past [] = sym (no_more (length past))
steps_length code m f past (x ∷ xs) =
    let phase = step_phase m x.kind in
    let g = frame_after code phase x f in
    steps_length code (phase_after code m x) g (step_of phase x f g ∷ past) xs ∙ one_on (length past) (length xs)

sum_is : (t k h s n l a c : ℕ) → t ≡ k → k + h ≡ s → s ≡ n → n + a ≡ l → c ≡ l → t + h + a ≡ c
sum_is t k h s n l a c e f g i j = omega (arith, e, f, g, i, j)

both_parts : (n : ℕ) (xs : List StepRecord) → length (take n xs) + length (drop n xs) ≡ length xs
both_parts n xs = sym (length-append (take n xs) (drop n xs)) ∙ ap (λ (l : List StepRecord). length l) (take-append-drop n xs)

none_first : (n : ℕ) → 0 + n ≡ n
none_first n = omega arith

pub adds_up : (core d : ℕ) (image : Image) (r : Run) (count : ℕ) (p : CoreProfile) → p ≡ core_profile core d image r → count ≡ length (records core image r) → CoreAddsUp p count
adds_up core d image r count p e is =
    let o = (from d (entry_of core image r.options)).start in
    let all = steps core image r in
    let n = count_before_cut core image r in
    let xs = records core image r in
    let f = (opening_walked core (entry_of core image r.options) r.options).state in
    subst (λ (q : CoreProfile). CoreAddsUp q count) (sym e)
    (sum_is (total (lines (keys o all))) (length (keys o all)) (handlers all) (length all) (length (take n xs)) (length xs) (length (drop n xs)) count (total_is (keys o all)) (keys_count o all)
    (steps_length (code_of image) Outside f [] (take n xs) ∙ none_first (length (take n xs))) (both_parts n xs) is)

-- ---- a core's profile
-- the steps that were counted, in the words of the definition
past_is : (core : ℕ) (image : Image) (r : Run) (code : ℕ → ℕ) (f : FrameState) (xs : List StepRecord) (n : ℕ) (o : Origin) (t : Tally) → code ≡ code_of image → xs ≡ records core image r → f ≡ (opening_walked core (entry_of core image r.options) r.options).state
    → n ≡ count_before_cut core image r → (h : IsCut code f xs n o t) → h.past ≡ steps core image r
past_is core image r code f xs n o t code_is xs_is f_is n_is h =
    let S : (ℕ → ℕ) → FrameState → List StepRecord → ℕ → List Step = λ c g ys m. steps_from c Outside g [] (take m ys) in
    let opening = (opening_walked core (entry_of core image r.options) r.options).state in
    sym h.steps_are
    ∙ (ap (λ (c : ℕ → ℕ). S c f xs n) code_is
    ∙ (ap (λ (g : FrameState). S (code_of image) g xs n) f_is
    ∙ (ap (λ (ys : List StepRecord). S (code_of image) opening ys n) xs_is
    ∙ ap (λ (m : ℕ). S (code_of image) opening (records core image r) m) n_is)))

-- where none came first, all are counted
turns_whole : (start : Start) (past : List Step) → turns_past start [] past ≡ turns (lines (keys start past)) (handlers past)
turns_whole start past =
    ap₂ (λ (ks : List (List ℕ)) (q : List Step). turns (lines ks) (handlers q)) (front_is (keys start past) [] (keys start past) (sym (append-nil (keys start past)))) (front_is past [] past (sym (append-nil past)))

abbrev with_after : CoreTurns → ℕ → CoreProfile
with_after t a = record { lines = t.lines; handlers = t.handlers; after = a }

le_is : (c s n l m : ℕ) → c ≡ s → s ≡ n → n ≤ l → l ≡ m → c ≤ m
le_is c s n l m e f g h = omega (arith, e, f, g, h)

-- a core at the cut
at_cut_is : (core d : ℕ) (image : Image) (r : Run) (code : ℕ → ℕ) (f : FrameState) (xs : List StepRecord) (n count : ℕ) (t : Tally) (c : AtCut) → code ≡ code_of image → xs ≡ records core image r → f ≡ (opening_walked core (entry_of core image r.options) r.options).state
    → n ≡ count_before_cut core image r → count ≡ length (records core image r) → IsCut code f xs n (from d (entry_of core image r.options)) t
    → ((o : Origin) (past : List Step) → IsTally o past t → c.profile ≡ profile_of_steps o past (count - t.steps)) → c.cut ≡ t.steps → ((o : Origin) (past : List Step) → IsTally o past t → IsTally (from_here o past) past c.tally) → c.tally.steps ≡ 0
    → IsAtCut core d image r count c
at_cut_is core d image r code f xs n count t c code_is xs_is f_is n_is count_is h profile cut_eq goes none =
    let o = from d (entry_of core image r.options) in
    let all = records core image r in
    let p = past_is core image r code f xs n o t code_is xs_is f_is n_is h in
    let steps_is : t.steps ≡ n = steps_whole o h.past t refl h.tally.counted ∙ h.count_is in
    let after : count - t.steps ≡ length (drop (count_before_cut core image r) all) = ap₂ (λ (a b : ℕ). a - b) count_is (steps_is ∙ n_is) ∙ sym (length-drop (count_before_cut core image r) all) in
    let whole : c.profile ≡ core_profile core d image r = profile o h.past h.tally
    ∙ (ap₂ (λ (q : List Step) (a : ℕ). profile_of_steps o q a) p after ∙ ap (λ (y : CoreTurns). with_after y (length (drop (count_before_cut core image r) all))) (turns_whole o.start (steps core image r))) in
    record {
      profile_is = whole;
      adds_up = adds_up core d image r count c.profile whole count_is;
      cut_is = cut_eq ∙ (steps_is ∙ n_is);
      within = le_is c.cut t.steps n (length xs) (length all) cut_eq steps_is h.within (ap (λ (l : List StepRecord). length l) xs_is);
      tally = subst (λ (q : List Step). IsTally (from_here o q) q c.tally) p (goes o h.past h.tally);
      none = none;
    }

-- the judge's walk over the run, as the definition has it
abbrev judged : Image → Run → Judgement
judged image r = judgement_of image r

-- what comes of records, read over these constants
abbrev pub Cut : ℕ → List Segment → Image → Run → List StepRecord → List StepRecord → Tally → Tally
    → Type 0
Cut d s image r xs ys t0 t1 =
    let a = opening_walked 0 image.entry r.options in
    let b = opening_walked 1 r.options.entry1 r.options in
    let k = opening_known a.state b.state in
    AreCut (constant_byte s) k (from d image.entry) (from d r.options.entry1) xs ys
    (judgement (constant_byte s) a.bounds b.bounds (schedule_in r) xs ys k) t0 t1

pub settled : (d : ℕ) (s : List Segment) (image : Image) (r : Run) (xs ys : List StepRecord)
    (t0 t1 : Tally) → s ≡ image.segments → xs ≡ records 0 image r → ys ≡ records 1 image r
    → Cut d s image r xs ys t0 t1 → AreAtCut d image r t0 t1
settled d s image r xs ys t0 t1 s_is xs_is ys_is h =
    subst (λ (us : List Segment). Cut d us image r (records 0 image r) (records 1 image r) t0 t1) s_is
    (subst (λ (us : List StepRecord). Cut d s image r us (records 1 image r) t0 t1) xs_is
    (subst (λ (us : List StepRecord). Cut d s image r xs us t0 t1) ys_is h))

pub zero_is : (d : ℕ) (image : Image) (r : Run) (t0 t1 : Tally) (c : AtCut) → IsRunOf image r
    → AreAtCut d image r t0 t1
    → ((o : Origin) (past : List Step) → IsTally o past t0
    → c.profile ≡ profile_of_steps o past (r.trace0.count - t0.steps))
    → c.cut ≡ t0.steps
    → ((o : Origin) (past : List Step) → IsTally o past t0 → IsTally (from_here o past) past c.tally)
    → c.tally.steps ≡ 0 → IsAtCut 0 d image r r.trace0.count c
zero_is d image r t0 t1 c run h profile cut_eq goes none =
    at_cut_is 0 d image r (code_of image) (opening_walked 0 image.entry r.options).state
    (records 0 image r) (judged image r).known.steps0 r.trace0.count t0 c refl refl refl
    (cut0_is image r) run.trace0.count_is h.core0 profile cut_eq goes none

pub one_is : (d : ℕ) (image : Image) (r : Run) (t0 t1 : Tally) (c : AtCut) → IsRunOf image r
    → AreAtCut d image r t0 t1
    → ((o : Origin) (past : List Step) → IsTally o past t1
    → c.profile ≡ profile_of_steps o past (r.trace1.count - t1.steps))
    → c.cut ≡ t1.steps
    → ((o : Origin) (past : List Step) → IsTally o past t1 → IsTally (from_here o past) past c.tally)
    → c.tally.steps ≡ 0 → IsAtCut 1 d image r r.trace1.count c
one_is d image r t0 t1 c run h profile cut_eq goes none =
    at_cut_is 1 d image r (code_of image) (opening_walked 1 r.options.entry1 r.options).state
    (records 1 image r) (judged image r).known.steps1 r.trace1.count t1 c refl refl refl
    (cut1_is image r) run.trace1.count_is h.core1 profile cut_eq goes none

-- the steps that were counted are no more than all
steps_le : (s p n l c : ℕ) → s ≤ p → p ≡ n → n ≤ l → c ≡ l → s ≤ c
steps_le s p n l c e f g h = omega (arith, e, f, g, h)

pub zero_within : (d : ℕ) (image : Image) (r : Run) (t0 t1 : Tally) → IsRunOf image r
    → AreAtCut d image r t0 t1 → t0.steps ≤ r.trace0.count
zero_within d image r t0 t1 run h =
    let past = h.core0.past in
    steps_le t0.steps (length past) (judged image r).known.steps0 (length (records 0 image r))
    r.trace0.count (steps_within (from d image.entry) past t0 h.core0.tally.counted)
    h.core0.count_is h.core0.within run.trace0.count_is

pub one_within : (d : ℕ) (image : Image) (r : Run) (t0 t1 : Tally) → IsRunOf image r
    → AreAtCut d image r t0 t1 → t1.steps ≤ r.trace1.count
one_within d image r t0 t1 run h =
    let past = h.core1.past in
    steps_le t1.steps (length past) (judged image r).known.steps1 (length (records 1 image r))
    r.trace1.count (steps_within (from d r.options.entry1) past t1 h.core1.tally.counted)
    h.core1.count_is h.core1.within run.trace1.count_is

-- what is known at the cut, from what a walk from the opening ensures
pub cut_is : (d : ℕ) (w : Walk) (image : Image) (r : Run) (xs ys : List StepRecord)
    (t0 t1 u0 u1 : Tally) → IsOpened w image.segments image.entry r.options
    → xs ≡ records 0 image r → ys ≡ records 1 image r → AreFresh d image r t0 t1
    → ((b0 b1 : Bounds) (k : Known) (e0 e1 : Origin)
    → Follows (constant_byte w.code) b0 b1 k (schedule_in r) e0 e1 xs ys w 0 xs ys t0 t1
    → AreCut (constant_byte w.code) k e0 e1 xs ys
    (judgement (constant_byte w.code) b0 b1 (schedule_in r) xs ys k) u0 u1)
    → AreAtCut d image r u0 u1
cut_is d w image r xs ys t0 t1 u0 u1 o xs_is ys_is h walked =
    let a = opening_walked 0 image.entry r.options in
    let b = opening_walked 1 r.options.entry1 r.options in
    settled d w.code image r xs ys u0 u1 o.code_is xs_is ys_is
    (walked a.bounds b.bounds (opening_known a.state b.state) (from d image.entry)
    (from d r.options.entry1)
    (follows_none d w image.segments image r (schedule_in r) xs ys t0 t1 o h.0 h.1))
