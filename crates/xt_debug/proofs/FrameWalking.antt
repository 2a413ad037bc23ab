-- The walk of the judge at one position after another is what is known there.
use Rattle.std.proofs.Common.{◌≡◌, ℕ, zero, suc, ◌+◌, ◌<◌, Bool, true, false, Option, Some, None, Result, Ok, Err, List, [], ◌∷◌, ◌++◌, length, take, get_or, slice_get, refl, sym, ap, ◌∙◌, subst, arith, append_assoc, append-nil, ◌^◌, if◌then◌else◌}
use Rattle.std.proofs.lemmas.List.{take_more}
use Rattle.std.proofs.lemmas.Option.{slice_get-get_or}
use Rattle.xt_map.specs.Memory.{constant_byte}
use Rattle.xt_trace.specs.declared.record.StepRecord.{StepRecord}
use Rattle.xt_trace.specs.declared.run.Run.{Run}
use Rattle.xt_image.specs.declared.image.Image.{Image}
use Rattle.xt_core.specs.Positions.{schedule_in}
use Rattle.xt_core.specs.Runs.{IsRunOf, code_of, records_of}
use Rattle.xt_handlers.specs.CheckAnswers.{handlers_of}
use Rattle.xt_frames.specs.declared.kinds.Breach.{Breach}
use Rattle.xt_frames.specs.declared.kinds.Judged.{Judged}
use Rattle.xt_frames.specs.declared.kinds.Judged.TheVariants.{Whole, Broken, Unchecked}
use Rattle.xt_frames.specs.Breaches.{Bounds}
use Rattle.xt_frames.specs.Verdict.{Known, Judgement, judgement, opening_known, verdict_on}
use Rattle.xt_discipline.specs.declared.side.Side.{Side}
use Rattle.xt_discipline.specs.declared.walk.Walk.{Walk}
use Rattle.xt_discipline.specs.Before.{known_before, known_in, known_on}
use Rattle.xt_discipline.specs.Ended.{HasEnded, records_left}
use Rattle.xt_discipline.specs.Places.{IsThere, Stands, frames_in}
use Rattle.xt_discipline.specs.Verdicts.{are_yes, opened0, opened1}
use Rattle.xt_discipline.specs.Walks.{IsKnown, IsOpened, IsTurned, Knows}
use Rattle.xt_events.proofs.Following.{ends}
use Rattle.xt_debug.specs.declared.frame_walk.Course.{Course}
use Rattle.xt_debug.specs.declared.frame_walk.Course.TheVariants.{GoesOn, Ended, Lost}
use Rattle.xt_debug.specs.Depths.{known_at}
use Rattle.xt_map.specs.declared.segment.Segment.{Segment}
use Rattle.xt_handlers.specs.declared.Handlers.{Handlers}
use Rattle.xt_debug.specs.FrameWalks.{HasStopped, IsOn, IsTurnOf, StandsAt, IsAtPosition, course_of, is_lost, judged_along, known_along, opening_course}
use Rattle.xt_debug.specs.declared.frame_walk.FrameWalk.TheInside.{Inside}
use Rattle.xt_debug.specs.Calls.{stack_end}
use Rattle.xt_debug.specs.Depths.{frame_at}
use Rattle.xt_debug.proofs.Knowing.{There, no_frame, the_end, the_frame}

-- ---- one turn more

-- a position with a core is one of the schedule
pub core_inside : (l : List ℕ) (p core : ℕ) → slice_get l p ≡ Some core → p < length l
core_inside [] p core is = absurd cc
core_inside (c ∷ l) zero core is = omega arith
core_inside (c ∷ l) (suc p) core is = let lt : p < length l = core_inside l p core is in omega (arith, lt)

one_turn_on : (l : List ℕ) (p core : ℕ) (cores : List ℕ) → p < length l → slice_get l p ≡ Some core → take (p + 1) l ++ cores ≡ take p l ++ (core ∷ cores)
one_turn_on l p core cores lt is =
    let both : ◌≡◌ {A = Option ℕ} (Some (get_or l p 0)) (Some core) = sym (slice_get-get_or l p 0 lt) ∙ is in
    let here : get_or l p 0 ≡ core = cc in
    ap (λ (xs : List ℕ). xs ++ cores) (take_more l p 0 lt ∙ ap (λ (c : ℕ). take p l ++ c ∷ []) here)
    ∙ append_assoc (take p l) (core ∷ []) cores

judged_on : (image : Image) (r : Run) (p core : ℕ) (cores : List ℕ) → IsTurnOf image r p core
    → judged_along image r (take (p + 1) (schedule_in r) ++ cores) ≡ judged_along image r (take p (schedule_in r) ++ (core ∷ cores))
judged_on image r p core cores t = ap (judged_along image r) (one_turn_on (schedule_in r) p core cores t.inside t.is)

-- ---- where no record of the core is left
ended_is : (code : ℕ → ℕ) (b0 b1 : Bounds) (core : ℕ) (cs : List ℕ) (xs ys : List StepRecord) (k : Known) → records_left core xs ys ≡ [] → judgement code b0 b1 (core ∷ cs) xs ys k ≡ record { known = k; breach = None }
ended_is code b0 b1 zero cs xs ys k e = ap (λ (l : List StepRecord). judgement code b0 b1 (0 ∷ cs) l ys k) e
ended_is code b0 b1 (suc core) cs xs ys k e = ap (λ (l : List StepRecord). judgement code b0 b1 (suc core ∷ cs) xs l k) e

stands_still : (w new : Walk) (b0 b1 : Bounds) (k : Known) (core : ℕ) (xs ys : List StepRecord) → HasEnded core w new xs ys → Knows w b0 b1 k → Stands new b0 b1 k
stands_still w new b0 b1 k core xs ys h known =
    let Z : Side → Type 0 = λ s. IsKnown s 0 b0 k.standing0 k.steps0 in
    let O : Side → Type 0 = λ s. IsKnown s 1 b1 k.standing1 k.steps1 in
    record { zero = subst Z (sym h.same0) known.zero; one = subst O (sym h.same1) known.one }

-- ---- where a breach came
abbrev IsBroken : Judged → Type 0
IsBroken (Broken b) = Unit {0}
IsBroken _ = ⊥

abbrev IsUnchecked : Judged → Type 0
IsUnchecked Unchecked = Unit {0}
IsUnchecked _ = ⊥

none_known : (checked : Bool) (k : Known) (found : Option Breach) (b : Breach) → Broken b ≡ verdict_on found → (if checked then known_on k found else None) ≡ None
none_known false k found b e = refl
none_known true k None b e = absurd (subst IsBroken e tt)
none_known true k (Some x) b e = refl

never_unchecked : (found : Option Breach) → Unchecked ≡ verdict_on found → ⊥
never_unchecked None e = subst IsUnchecked e tt
never_unchecked (Some x) e = subst IsUnchecked e tt

-- ---- how it goes on
same_code : (w new : Walk) (image : Image) (r : Run) (p core : ℕ) (xs ys xs2 ys2 : List StepRecord) (out : Result Unit Judged) (h : IsOn w image r p xs ys)
    → IsTurned (constant_byte w.code) (opened0 image r.options).bounds (opened1 r.options).bounds core h.known xs ys new xs2 ys2 out
    → IsTurned (code_of image) (opened0 image r.options).bounds (opened1 r.options).bounds core h.known xs ys new xs2 ys2 out
same_code w new image r p core xs ys xs2 ys2 out h t =
    let F : (ℕ → ℕ) → Type 0 = λ f. IsTurned f (opened0 image r.options).bounds (opened1 r.options).bounds core h.known xs ys new xs2 ys2 out in
    subst F h.code_is t

stands_by : (w new : Walk) (image : Image) (r : Run) (p core : ℕ) (xs ys xs2 ys2 : List StepRecord) (out : Result Unit Judged) → IsTurnOf image r p core → (h : IsOn w image r p xs ys)
    → IsTurned (code_of image) (opened0 image r.options).bounds (opened1 r.options).bounds core h.known xs ys new xs2 ys2 out → (out ≡ Err Whole → HasEnded core w new xs ys)
    → StandsAt (course_of out) new image r (p + 1) xs2 ys2
stands_by w new image r p core xs ys xs2 ys2 (Ok u) turn h t ended =
    let n = t.0 in
    let sum : n.steps0 + n.steps1 ≡ suc (h.known.steps0 + h.known.steps1) = t.2 in
    let was : h.known.steps0 + h.known.steps1 ≡ p = h.steps in
    record {
      checked = h.checked;
      known = n;
      knows = t.1;
      steps = omega (arith, sum, was);
      code_is = t.3;
      judged = λ cores. judged_on image r p core cores turn ∙ (h.judged (core ∷ cores) ∙ t.4 cores);
    }
stands_by w new image r p core xs ys xs2 ys2 (Err Whole) turn h t ended =
    let e = ended refl in
    record {
      checked = h.checked;
      known = h.known;
      stands = stands_still w new (opened0 image r.options).bounds (opened1 r.options).bounds h.known core xs ys e h.knows;
      judged = λ cores. judged_on image r p core cores turn ∙ (h.judged (core ∷ cores) ∙ ended_is (code_of image) (opened0 image r.options).bounds (opened1 r.options).bounds core cores xs ys h.known e.none_left);
    }
stands_by w new image r p core xs ys xs2 ys2 (Err (Broken b)) turn h t ended =
    let checked = are_yes (handlers_of (code_of image) r.options.vecbase) in
    λ cores. let j = judgement (code_of image) (opened0 image r.options).bounds (opened1 r.options).bounds (core ∷ cores) xs ys h.known in
    ap (known_before checked) (judged_on image r p core cores turn ∙ h.judged (core ∷ cores)) ∙ none_known checked j.known j.breach b (t cores)
stands_by w new image r p core xs ys xs2 ys2 (Err Unchecked) turn h t ended =
    absurd (never_unchecked (judgement (code_of image) (opened0 image r.options).bounds (opened1 r.options).bounds (core ∷ []) xs ys h.known).breach (t []))

pub stands_after : (w new : Walk) (image : Image) (r : Run) (p core : ℕ) (xs ys xs2 ys2 : List StepRecord) (out : Result Unit Judged) (course : Course) → course ≡ course_of out → IsTurnOf image r p core → (h : IsOn w image r p xs ys)
    → IsTurned (constant_byte w.code) (opened0 image r.options).bounds (opened1 r.options).bounds core h.known xs ys new xs2 ys2 out → (out ≡ Err Whole → HasEnded core w new xs ys)
    → StandsAt course new image r (p + 1) xs2 ys2
stands_after w new image r p core xs ys xs2 ys2 out course is turn h t ended =
    let C : Course → Type 0 = λ c. StandsAt c new image r (p + 1) xs2 ys2 in
    subst C (sym is) (stands_by w new image r p core xs ys xs2 ys2 out turn h (same_code w new image r p core xs ys xs2 ys2 out h t) ended)

pub ended_after : (w : Walk) (image : Image) (r : Run) (p core : ℕ) → IsTurnOf image r p core → HasStopped w image r p → HasStopped w image r (p + 1)
ended_after w image r p core turn h = record {
  checked = h.checked;
  known = h.known;
  stands = h.stands;
  judged = λ cores. judged_on image r p core cores turn ∙ h.judged (core ∷ cores);
}

pub lost_after : (image : Image) (r : Run) (p core : ℕ) → IsTurnOf image r p core → ((cores : List ℕ) → known_along image r (take p (schedule_in r) ++ cores) ≡ None)
    → (cores : List ℕ) → known_along image r (take (p + 1) (schedule_in r) ++ cores) ≡ None
lost_after image r p core turn h cores =
    ap (known_before (are_yes (handlers_of (code_of image) r.options.vecbase))) (judged_on image r p core cores turn) ∙ h (core ∷ cores)

-- there is room for one turn more
pub room_on : (w : Walk) (image : Image) (r : Run) (p core : ℕ) (xs ys : List StepRecord) → IsTurnOf image r p core → IsOn w image r p xs ys → w.side0.steps + w.side1.steps + 1 < 2 ^ 32
room_on w image r p core xs ys turn h =
    let s0 : w.side0.steps ≡ h.known.steps0 = h.knows.zero.steps_are in
    let s1 : w.side1.steps ≡ h.known.steps1 = h.knows.one.steps_are in
    let was : h.known.steps0 + h.known.steps1 ≡ p = h.steps in
    omega (arith, s0, s1, was, turn.inside, turn.short)

-- the next turn, whose core the schedule names
pub turn_of : (image : Image) (r : Run) (p core : ℕ) → IsRunOf image r → slice_get (schedule_in r) p ≡ Some core → IsTurnOf image r p core
turn_of image r p core h is =
    let e = ends image r h in
    record { is = is; inside = core_inside (schedule_in r) p core is; short = omega (arith, e.0, e.1) }

-- ---- what is known at the position
along_is : (image : Image) (r : Run) (p : ℕ) → known_at image r p ≡ known_along image r (take p (schedule_in r) ++ [])
along_is image r p = ap (known_along image r) (sym (append-nil (take p (schedule_in r))))

known_one : (checked : Bool) (j : Judgement) (k : Known) → checked ≡ true → j ≡ record { known = k; breach = None } → known_before checked j ≡ Some k
known_one checked j k yes_checked is = ap (λ (b : Bool). known_before b j) yes_checked ∙ ap (λ (v : Judgement). known_in v) is

there_by : (w : Walk) (image : Image) (r : Run) (p : ℕ) (k : Known) → are_yes (handlers_of (code_of image) r.options.vecbase) ≡ true → judged_along image r (take p (schedule_in r) ++ []) ≡ record { known = k; breach = None }
    → Stands w (opened0 image r.options).bounds (opened1 r.options).bounds k → There image r p (Some w)
there_by w image r p k checked j s =
    let F : Option Known → Type 0 = λ o. IsThere (Some w) (opened0 image r.options).bounds (opened1 r.options).bounds o in
    let is : known_at image r p ≡ Some k =
    along_is image r p ∙ known_one (are_yes (handlers_of (code_of image) r.options.vecbase)) (judged_along image r (take p (schedule_in r) ++ [])) k checked j in
    subst F (sym is) s

pub there_where : (course : Course) (w : Walk) (image : Image) (r : Run) (p : ℕ) (xs ys : List StepRecord) → is_lost course ≡ false → StandsAt course w image r p xs ys → There image r p (Some w)
there_where GoesOn w image r p xs ys e h = there_by w image r p h.known h.checked (h.judged []) (record { zero = h.knows.zero; one = h.knows.one })
there_where Ended w image r p xs ys e h = there_by w image r p h.known h.checked (h.judged []) h.stands
there_where Lost w image r p xs ys e h = absurd cc

pub nothing_where : (course : Course) (w : Walk) (image : Image) (r : Run) (p : ℕ) (xs ys : List StepRecord) → is_lost course ≡ true → StandsAt course w image r p xs ys → There image r p None
nothing_where GoesOn w image r p xs ys e h = absurd cc
nothing_where Ended w image r p xs ys e h = absurd cc
nothing_where Lost w image r p xs ys e h =
    let F : Option Known → Type 0 = λ o. IsThere None (opened0 image r.options).bounds (opened1 r.options).bounds o in
    subst F (sym (along_is image r p ∙ h [])) tt

-- ---- by how the walk goes on
pub goes_on : (w : Walk) (image : Image) (r : Run) (p : ℕ) (xs ys : List StepRecord) (course : Course) → course ≡ GoesOn → StandsAt course w image r p xs ys → IsOn w image r p xs ys
goes_on w image r p xs ys course is h = subst (λ (c : Course). StandsAt c w image r p xs ys) is h

pub stopped : (w : Walk) (image : Image) (r : Run) (p core : ℕ) (xs ys xs2 ys2 : List StepRecord) (course new : Course) → course ≡ Ended → new ≡ Ended → IsTurnOf image r p core → StandsAt course w image r p xs ys → StandsAt new w image r (p + 1) xs2 ys2
stopped w image r p core xs ys xs2 ys2 course new is new_is turn h =
    subst (λ (c : Course). StandsAt c w image r (p + 1) xs2 ys2) (sym new_is) (ended_after w image r p core turn (subst (λ (c : Course). StandsAt c w image r p xs ys) is h))

pub stays_lost : (w : Walk) (image : Image) (r : Run) (p core : ℕ) (xs ys xs2 ys2 : List StepRecord) (course new : Course) → course ≡ Lost → new ≡ Lost → IsTurnOf image r p core → StandsAt course w image r p xs ys → StandsAt new w image r (p + 1) xs2 ys2
stays_lost w image r p core xs ys xs2 ys2 course new is new_is turn h =
    subst (λ (c : Course). StandsAt c w image r (p + 1) xs2 ys2) (sym new_is) (lost_after image r p core turn (subst (λ (c : Course). StandsAt c w image r p xs ys) is h))

-- ---- as it begins
begins_by : (w : Walk) (image : Image) (r : Run) (code : List Segment) (yes_all : Bool) → are_yes (handlers_of (code_of image) r.options.vecbase) ≡ yes_all → IsOpened w code image.entry r.options → code ≡ image.segments
    → StandsAt (opening_course yes_all) w image r 0 (records_of 0 image r).records (records_of 1 image r).records
begins_by w image r code true e o same = record {
  checked = e;
  known = opening_known (opened0 image r.options).state (opened1 r.options).state;
  knows = o.knows;
  steps = refl;
  code_is = ap constant_byte (o.code_is ∙ same);
  judged = λ cores. refl;
}
begins_by w image r code false e o same = λ cores. ap (λ (b : Bool). known_before b (judged_along image r cores)) e

pub begins : (w : Walk) (image : Image) (r : Run) (code : List Segment) (h : Handlers) (yes_all : Bool) (course : Course) (xs ys : List StepRecord) → course ≡ opening_course yes_all → yes_all ≡ are_yes h → h ≡ handlers_of (code_of image) r.options.vecbase
    → IsOpened w code image.entry r.options → code ≡ image.segments → xs ≡ (records_of 0 image r).records → ys ≡ (records_of 1 image r).records → StandsAt course w image r 0 xs ys
begins w image r code h yes_all course xs ys course_is all_is h_is o same xs_is ys_is =
    let F : Course → Type 0 = λ c. StandsAt c w image r 0 xs ys in
    let X : List StepRecord → Type 0 = λ l. StandsAt (opening_course yes_all) w image r 0 l ys in
    let Y : List StepRecord → Type 0 = λ l. StandsAt (opening_course yes_all) w image r 0 (records_of 0 image r).records l in
    let e : are_yes (handlers_of (code_of image) r.options.vecbase) ≡ yes_all = sym (all_is ∙ ap are_yes h_is) in
    subst F (sym course_is) (subst X (sym xs_is) (subst Y (sym ys_is) (begins_by w image r code yes_all e o same)))

-- ---- by the fields
pub next_turn : (t : Inside) (core : ℕ) (xs : List ℕ) (o : Option ℕ) → IsAtPosition t → xs ≡ t.schedule → o ≡ slice_get xs t.position → o ≡ Some core → IsTurnOf t.image.now t.run.now t.position core
next_turn t core xs o h xs_is o_is is =
    turn_of t.image.now t.run.now t.position core h.run_is (ap (λ (l : List ℕ). slice_get l t.position) (sym (xs_is ∙ h.schedule_is)) ∙ (sym o_is ∙ is))

pub no_frame_now : (t : Inside) (core : ℕ) → IsAtPosition t → is_lost t.course ≡ true → frame_at t.image.now t.run.now core t.position ≡ None
no_frame_now t core h lost =
    no_frame t.image.now t.run.now core t.position None refl (nothing_where t.course t.walk t.image.now t.run.now t.position t.records0 t.records1 lost h.stands)

there_now : (t : Inside) → IsAtPosition t → is_lost t.course ≡ false → There t.image.now t.run.now t.position (Some t.walk)
there_now t h lost = there_where t.course t.walk t.image.now t.run.now t.position t.records0 t.records1 lost h.stands

pub frame_now : (t : Inside) (core : ℕ) → IsAtPosition t → is_lost t.course ≡ false → frame_at t.image.now t.run.now core t.position ≡ Some (frames_in core t.walk).state
frame_now t core h lost = the_frame t.image.now t.run.now core t.position (Some t.walk) t.walk refl (there_now t h lost)

pub end_now : (t : Inside) (core : ℕ) → IsAtPosition t → is_lost t.course ≡ false → (frames_in core t.walk).bounds.range.hi ≡ stack_end core t.run.now
end_now t core h lost = the_end t.image.now t.run.now core t.position (Some t.walk) t.walk refl (there_now t h lost)
