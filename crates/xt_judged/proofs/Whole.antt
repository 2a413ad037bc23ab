-- No run shows a breach where no scene does.
use Rattle.std.proofs.Common.{◌≡◌, ℕ, ◌<◌, Bool, true, false, None, List, [], ◌∷◌, ◌++◌, length, refl, sym, ap, ◌∙◌, subst}
use Rattle.std.proofs.lemmas.Bool.{true≢false}
use Rattle.xt_trace.specs.Chip.{Chip}
use Rattle.xt_trace.specs.Calls.{calls_in}
use Rattle.xt_image.specs.declared.image.Image.{Image}
use Rattle.xt_trace.specs.declared.options.Options.{Options}
use Rattle.xt_trace.specs.declared.run.Run.{Run}
use Rattle.xt_trace.specs.Runs as chips
use Rattle.xt_trace.specs.Runs.{IsRunOf, Opening, world_at_start, schedule_of}
use Rattle.xt_trace.specs.Schedule.{cores_of, places_from, schedule, schedule_in}
use Rattle.xt_trace.specs.Short.{short_run, short_trace}
use Rattle.xt_trace.specs.Traces.{Traced}
use Rattle.xt_trace.proofs.Short.{HasPlaces, run_has_places}
use Rattle.xt_trace.proofs.Walks.{own_walk}
use Rattle.xt_map.specs.Code.{AreBytes}
use Rattle.xt_exec.specs.Chips.{processor}
use Rattle.xt_exec.specs.State.{State}
use Rattle.xt_frames.specs.Breaches.{Bounds}
use Rattle.xt_frames.specs.Frames.{FrameState}
use Rattle.xt_frames.specs.Judging.{opening_standing}
use Rattle.xt_frames.specs.Verdict.{Judgement, judgement, opening_known, verdict, verdict_on}
use Rattle.xt_core.specs.Runs as core
use Rattle.xt_core.specs.Runs.{code_of, opening_of, records_of}
use Rattle.xt_discipline.specs.Verdicts.{are_checked, judgement_of, opened0, opened1}
use Rattle.xt_search.specs.Worlds.{IsOrder}
use Rattle.xt_timeless.proofs.Lists.{alike_refl}
use Rattle.xt_outcomes.specs.Spots.{spot_in}
use Rattle.xt_judged.specs.Laws.{AllAreWholeWhereNoSceneBreaks}
use Rattle.xt_judged.specs.Scenes.{Scene, opening_scene, scene_bars, scene_past, scenes_after}
use Rattle.xt_judged.specs.Runs.{IsVerdictOf}
use Rattle.xt_judged.proofs.Verdicts.{verdict_is}
use Rattle.xt_judged.proofs.Clocked as clocked
use Rattle.xt_timeless.specs.Alike.{Clocks}
use Rattle.xt_judged.proofs.Sight.{IsKeptStanding}
use Rattle.xt_judged.proofs.Timed as timed
use Rattle.xt_judged.proofs.Walking.{ones_are, walked}

with_one : (cs : List ℕ) (c : ℕ) → IsOrder cs → c < 2 → IsOrder (cs ++ c ∷ [])
with_one [] c h less = (less, tt)
with_one (d ∷ cs) c h less = (h.0, with_one cs c h.1 less)

one_more : (P : Chip State) (code : ℕ → ℕ) (b0 b1 : Bounds) (with_time : Bool) (cs : List ℕ) (c : ℕ) (z : Scene)
    → scenes_after P code b0 b1 with_time (cs ++ c ∷ []) z ≡ scene_past P code b0 b1 with_time c (scenes_after P code b0 b1 with_time cs z)
one_more P code b0 b1 with_time [] c z = refl
one_more P code b0 b1 with_time (d ∷ cs) c z = one_more P code b0 b1 with_time cs c (scene_past P code b0 b1 with_time d z)

-- what a run keeps of its accesses
placed : (P : Chip State) (o : Opening State) (r : chips.Run State) → IsRunOf P o r → HasPlaces P o (short_run r)
placed P o r is = run_has_places P o (short_run r) (record {
  legal = is.legal;
  cores = is.cores;
  trace0 = ap short_trace is.trace0;
  trace1 = ap short_trace is.trace1;
  calls0 = is.calls0 ∙ ap (λ (t : Traced State). calls_in t.records) is.trace0;
  calls1 = is.calls1 ∙ ap (λ (t : Traced State). calls_in t.records) is.trace1;
})

-- the scenes that orders lead to
module _ (P : Chip State) (code : ℕ → ℕ) (b0 b1 : Bounds) (with_time : Bool) (opening : Scene) where
  abbrev pub Led : Scene → Type 0
  Led z = (order : List ℕ) × IsOrder order × (scenes_after P code b0 b1 with_time order opening ≡ z)

  pub led_on : (c : ℕ) (z : Scene) → c < 2 → Led z → Led (scene_past P code b0 b1 with_time c z)
  led_on c z less h = (h.0 ++ c ∷ [], with_one h.0 c h.1 less, one_more P code b0 b1 with_time h.0 c opening ∙ ap (scene_past P code b0 b1 with_time c) h.2)

-- where the turns of no order show the judge a breach, though a core that has made a turn without an
-- access goes on alone up to its next access, no run of the opening shows one in its own schedule
abbrev NoneBreaksWhereNoSceneDoes : Type 0
NoneBreaksWhereNoSceneDoes =
    (P : Chip State) (code : ℕ → ℕ) (b0 b1 : Bounds) (f0 f1 : FrameState) (o : Opening State)
    (r : chips.Run State)
    → ((order : List ℕ) → IsOrder order
    → (scenes_after P code b0 b1 true order
    (opening_scene f0 f1 (spot_in true (world_at_start o)))).breach
    ≡ None)
    → IsRunOf P o r
    → (judgement code b0 b1 (schedule_of r) r.trace0.records r.trace1.records
    (opening_known f0 f1)).breach
    ≡ None

none_breaks : NoneBreaksWhereNoSceneDoes
none_breaks P code b0 b1 f0 f1 o r free is =
    let opening = opening_scene f0 f1 (spot_in true (world_at_start o)) in
    let R = Led P code b0 b1 true opening in
    let safe : (z : Scene) → R z → z.breach ≡ None = λ z h. ap (λ (y : Scene). y.breach) (sym h.2) ∙ free h.0 h.1 in
    let closed = led_on P code b0 b1 true opening in
    walked P code b0 b1 (λ (z : Scene). z.only) (timed.On P code b0 b1 R safe closed) (timed.OnOne P code b0 b1 R safe closed) (timed.turn0 P code b0 b1 R safe closed)
    (timed.turn1 P code b0 b1 R safe closed) (timed.turn_one P code b0 b1 R safe closed) (timed.one_of P code b0 b1 R safe closed)
    (cores_of r.history) 0 (places_from 0 r.trace0.records) (length r.trace0.records) 0 (places_from 0 r.trace1.records) (length r.trace1.records)
    (world_at_start o) (opening_known f0 f1) opening r.trace0.records r.trace1.records refl refl ((placed P o r is).calls1 ∙ ones_are r.history is.cores)
    (record { spot = refl; standing0 = refl; standing1 = refl; stale = refl; reached = ([], tt, refl) }) refl (own_walk P o r is)

opens_so : (f : FrameState) → IsKeptStanding Clocks (opening_standing f) (opening_standing f)
opens_so f = record { frame = record { list = f.control.special; alike = alike_refl f.control.special; is = refl }; fresh = refl; phase = refl }

-- the same where time belongs to no scene, whatever turns the cores have, where no turn uses time
abbrev NoneBreaksWithoutTime : Type 0
NoneBreaksWithoutTime =
    (code : ℕ → ℕ) (b0 b1 : Bounds) (f0 f1 : FrameState) (o : Opening State) (n m : ℕ)
    (r : chips.Run State)
    → AreBytes code
    → ((order : List ℕ) → IsOrder order
    → (scenes_after (processor code) code b0 b1 false order
    (opening_scene f0 f1 (spot_in false (world_at_start o)))).breach
    ≡ None)
    → ((order : List ℕ) (c : ℕ) → IsOrder order → c < 2
    → scene_bars code false c (scenes_after (processor code) code b0 b1 false order
    (opening_scene f0 f1 (spot_in false (world_at_start o))))
    ≡ false)
    → IsRunOf (processor code) (record o { turns0 = n; turns1 = m }) r
    → (judgement code b0 b1 (schedule_of r) r.trace0.records r.trace1.records
    (opening_known f0 f1)).breach
    ≡ None

none_breaks_untimed : NoneBreaksWithoutTime
none_breaks_untimed code b0 b1 f0 f1 o n m r bytes free unused is =
    let P = processor code in
    let given : Opening State = record o { turns0 = n; turns1 = m } in
    let opening = opening_scene f0 f1 (spot_in false (world_at_start o)) in
    let R = Led P code b0 b1 false opening in
    let safe : (z : Scene) → R z → z.breach ≡ None = λ z h. ap (λ (y : Scene). y.breach) (sym h.2) ∙ free h.0 h.1 in
    let closed = led_on P code b0 b1 false opening in
    let idle : (c : ℕ) (z : Scene) → c < 2 → R z → scene_bars code false c z ≡ false = λ c z less h. ap (scene_bars code false c) (sym h.2) ∙ unused h.0 c h.1 less in
    walked P code b0 b1 (λ (z : Scene). z.only) (clocked.On code bytes b0 b1 R safe closed idle) (clocked.OnOne code bytes b0 b1 R safe closed idle) (clocked.turn0 code bytes b0 b1 R safe closed idle)
    (clocked.turn1 code bytes b0 b1 R safe closed idle) (clocked.turn_one code bytes b0 b1 R safe closed idle) (clocked.one_of code bytes b0 b1 R safe closed idle)
    (cores_of r.history) 0 (places_from 0 r.trace0.records) (length r.trace0.records) 0 (places_from 0 r.trace1.records) (length r.trace1.records)
    (world_at_start given) (opening_known f0 f1) opening r.trace0.records r.trace1.records refl refl ((placed P given r is).calls1 ∙ ones_are r.history is.cores)
    (record {
      spot = refl;
      ends0 = λ h. absurd (true≢false (sym h));
      ends1 = λ h. absurd (true≢false (sym h));
      standing0 = opens_so f0;
      standing1 = opens_so f1;
      stale = refl;
      reached = ([], tt, refl);
    }) refl (own_walk P given r is)

-- ---- runs of an image

-- a run with its records
abbrev recorded : Image → Run → chips.Run State
recorded image r = record { history = r.history; trace0 = records_of 0 image r; trace1 = records_of 1 image r }

is_recorded : (image : Image) (r : Run) → core.IsRunOf image r → IsRunOf (processor (code_of image)) (opening_of image r.options) (recorded image r)
is_recorded image r is = record { legal = is.legal; cores = is.cores; trace0 = refl; trace1 = refl; calls0 = is.calls0; calls1 = is.calls1 }

-- the judge's walk over it, as these options open both cores
abbrev walk_by : Image → Run → Options → Judgement
walk_by image r o =
    let s = recorded image r in
    judgement (code_of image) (opened0 image o).bounds (opened1 o).bounds (schedule_of s) s.trace0.records s.trace1.records (opening_known (opened0 image o).state (opened1 o).state)

walk_is : (image : Image) (r : Run) → core.IsRunOf image r → walk_by image r r.options ≡ judgement_of image r
walk_is image r is =
    let o = r.options in
    let J : List ℕ → Judgement = λ s. judgement (code_of image) (opened0 image o).bounds (opened1 o).bounds s (records_of 0 image r).records (records_of 1 image r).records (opening_known (opened0 image o).state (opened1 o).state) in
    let own : schedule_of (recorded image r) ≡ schedule_in r =
    λ i. schedule (cores_of r.history) (sym is.trace0.places_are i) (sym is.trace0.count_is i) (sym is.trace1.places_are i) (sym is.trace1.count_is i) in
    ap J own

whole_of : (image : Image) (r : Run) → core.IsRunOf image r → are_checked image r.options ≡ true → (walk_by image r r.options).breach ≡ None → IsVerdictOf image r None
whole_of image r is checked none =
    let breach : (judgement_of image r).breach ≡ None = ap (λ (j : Judgement). j.breach) (sym (walk_is image r is)) ∙ none in
    verdict_is image r None is (ap (λ (b : Bool). verdict b (judgement_of image r)) checked ∙ ap verdict_on breach)

pub all_are_whole : AllAreWholeWhereNoSceneBreaks
all_are_whole image o true bytes checked free idle r is given =
    let run = subst (λ (p : Options). IsRunOf (processor (code_of image)) (opening_of image p) (recorded image r)) given (is_recorded image r is) in
    let none = none_breaks (processor (code_of image)) (code_of image) (opened0 image o).bounds (opened1 o).bounds (opened0 image o).state (opened1 o).state (opening_of image o) (recorded image r) free run in
    whole_of image r is (ap (are_checked image) given ∙ checked) (subst (λ (p : Options). (walk_by image r p).breach ≡ None) (sym given) none)
all_are_whole image o false bytes checked free idle r is given =
    let n = r.options.turns0 in
    let m = r.options.turns1 in
    let run = subst (λ (p : Options). IsRunOf (processor (code_of image)) (opening_of image p) (recorded image r)) given (is_recorded image r is) in
    let none =
    none_breaks_untimed (code_of image) (opened0 image o).bounds (opened1 o).bounds (opened0 image o).state (opened1 o).state (opening_of image o) n m (recorded image r) bytes free idle run in
    whole_of image r is (ap (are_checked image) given ∙ checked) (subst (λ (p : Options). (walk_by image r p).breach ≡ None) (sym given) none)
