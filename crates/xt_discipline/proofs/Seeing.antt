-- A record of a core, as the definition of the verdict sees it.
use Rattle.std.proofs.Common.{◌≡◌, ℕ, suc, ◌+◌, ◌≤◌, ◌==◌, Bool, true, false, ◌&&◌, ◌||◌, Option, None, Result, Ok, Err, List, length, refl, sym, ◌∙◌, ap, subst, arith}
use Rattle.std.proofs.lemmas.Bool.{eq-eqb}
use Rattle.xt_map.specs.declared.access.Access.{Access}
use Rattle.xt_trace.specs.declared.record.StepRecord.{StepRecord}
use Rattle.xt_frames.specs.declared.kinds.Breach.{Breach}
use Rattle.xt_frames.specs.declared.kinds.BreachKind.{BreachKind}
use Rattle.xt_frames.specs.Frames.{Frame, FrameState}
use Rattle.xt_frames.specs.SaveAreas.{is_live}
use Rattle.xt_frames.specs.Breaches.{Bounds, breach_of, stale_after, stores_at}
use Rattle.xt_frames.specs.Stacks.{Moves, Stays, Calls, Stack}
use Rattle.xt_frames.specs.Stacks as moves
use Rattle.xt_frames.specs.declared.kinds.HandlerPhase.{HandlerPhase}
use Rattle.xt_frames.specs.HandlerSteps.{phase_after}
use Rattle.xt_frames.specs.Judging.{Standing, Seen, seen_record, seen_step, fresh_on, step_on}
use Rattle.std.specs.Prelude.{IfOk}
use Rattle.xt_frames.specs.Walked.{IsBreach, IsJudged, Walked, found_in, fresh_before, walked_past}
use Rattle.xt_discipline.specs.declared.bytes.Held.{Held}
use Rattle.xt_discipline.specs.declared.side.Areas.{Areas}
use Rattle.xt_discipline.specs.declared.roles.Role.{Role}
use Rattle.xt_discipline.specs.declared.side.Side.{Side}
use Rattle.xt_discipline.specs.declared.bytes.Change.TheVariants.{Stored}
use Rattle.xt_discipline.specs.ByteMarks.{AreChanged, KnowsOf, either}
use Rattle.xt_discipline.specs.Phases.{role_of}
use Rattle.xt_discipline.specs.Sides.{IsCallOf, IsFollowed, IsPast, IsSeen, IsSide, live_in, standing_of}
use Rattle.xt_discipline.proofs.Moved.{known_moves}
use Rattle.xt_discipline.proofs.ByRole.{seen_as, seen_is}

pub at_last : (x : Bool) (n : ℕ) → (x && (n == n)) ≡ x
at_last true n = eq-eqb n n refl
at_last false n = refl

pub le_same : (a : ℕ) → a ≤ a
le_same a = omega arith

pub next_is : (n : ℕ) → n + 1 ≡ suc n
next_is n = omega arith

abbrev standing : FrameState → Bool → HandlerPhase → Standing
standing f fresh phase = record { frame = f; fresh = fresh; phase = phase }

pub breach_is : (b : Breach) (core step : ℕ) → b.core ≡ core → b.step ≡ step → b ≡ record { core = core; step = step; kind = b.kind }
breach_is b core step e f =
    let at : ℕ → ℕ → Breach = λ c s. record { core = c; step = s; kind = b.kind } in
    ap (λ (c : ℕ). at c b.step) e ∙ ap (λ (s : ℕ). at core s) f

-- what the definition sees in a record, by what it is
pub role_seen : (old new : Side) (marks : List Held) (others stale : ℕ → Bool) (code : ℕ → ℕ) (rec : StepRecord) (role : Role) (r : Result Unit Breach) → role ≡ role_of old.phase rec.kind
    → IsSeen old new marks others stale (seen_as code old.frames.bounds (standing_of old) others stale rec role) r
    → IsSeen old new marks others stale (seen_record code old.frames.bounds (standing_of old) others stale rec) r
role_seen old new marks others stale code rec role r e seen =
    subst (λ (x : Seen). IsSeen old new marks others stale x r) (sym (seen_is code old.frames.bounds (standing_of old) others stale rec role e)) seen

abbrev pub found_by : Side → (ℕ → Bool) → (ℕ → Bool) → (ℕ → ℕ) → Bool → StepRecord → Option BreachKind
found_by old others stale code nested rec = breach_of old.frames.bounds (fresh_before old.frames old.steps) code (either (live_in old.frames) others) stale nested rec old.frames.state

-- ---- judged records
-- a judged step that shows no breach
pub judged_past : (old new : Side) (frames : Walked) (marks : List Held) (others stale : ℕ → Bool) (code : ℕ → ℕ) (rec : StepRecord) (found : Option BreachKind) (u : Unit) (nested : Bool) (next_phase : HandlerPhase)
    → next_phase ≡ phase_after code old.phase rec → IsSide old → found ≡ None → frames ≡ walked_past old.frames code old.steps nested rec → new ≡ record old { frames = frames; phase = next_phase; steps = old.steps + 1 }
    → KnowsOf old.core marks (is_live old.frames.bounds.range frames.state) others (stale_after (λ a. is_live old.frames.bounds.range frames.state a || others a) (λ a. live_in old.frames a || others a) stale rec.access)
    → IsSeen old new marks others stale (seen_step found code old.frames.bounds (standing_of old) others stale nested rec) (Ok u)
judged_past old new frames marks others stale code rec found u nested next_phase h k none is made known =
    let r = old.frames.bounds.range in
    let f = old.frames.state in
    let after = (step_on code nested rec f).after in
    let fresh = fresh_on (fresh_before old.frames old.steps) code nested rec f in
    let st = standing after fresh (phase_after code old.phase rec) in
    let next = record old { frames = walked_past old.frames code old.steps nested rec; phase = next_phase; steps = old.steps + 1 } in
    let made_is : new ≡ next = made ∙ ap (λ (w : Walked). record old { frames = w; phase = next_phase; steps = old.steps + 1 }) is in
    let bytes : (ℕ → Bool) = stale_after (λ a. is_live r after a || others a) (λ a. live_in old.frames a || others a) stale rec.access in
    let K : FrameState → Type 0 = λ s. KnowsOf old.core marks (is_live r s) others (stale_after (λ a. is_live r s a || others a) (λ a. live_in old.frames a || others a) stale rec.access) in
    let P : Side → Type 0 = λ n. IsPast old n marks others bytes st in
    let there : P next = record {
      side = record { core_is = k.core_is; end_is = k.end_is; low = k.low; high = k.high; past = le_same (old.steps + 1) };
      core_is = refl;
      bounds_are = refl;
      steps_are = next_is old.steps;
      standing_is = ap (λ (b : Bool). standing after b next_phase) (at_last fresh (old.steps + 1)) ∙ ap (λ (m : HandlerPhase). standing after fresh m) h;
      marks_are = subst K (ap (λ (w : Walked). w.state) is) known;
    } in
    subst (λ (o : Option BreachKind). IsSeen old new marks others stale (seen_step o code old.frames.bounds (standing_of old) others stale nested rec) (Ok u)) (sym none) (subst P (sym made_is) there)

-- and one that shows one
pub judged_breaks : (old new : Side) (marks : List Held) (others stale : ℕ → Bool) (code : ℕ → ℕ) (nested : Bool) (rec : StepRecord) (found : Option BreachKind) (b : Breach)
    → IsSide old → IsBreach found old.frames old.steps b
    → IsSeen old new marks others stale (seen_step found code old.frames.bounds (standing_of old) others stale nested rec) (Err b)
judged_breaks old new marks others stale code nested rec found b k breach =
    let r : Result Unit Breach = Err b in
    subst (λ (o : Option BreachKind). IsSeen old new marks others stale (seen_step o code old.frames.bounds (standing_of old) others stale nested rec) r) (sym breach.0)
    (breach_is b old.core old.steps (breach.1 ∙ k.core_is) breach.2)

-- the marks past a judged step that shows no breach
pub judged_marks : (s : Side) (frames : Walked) (m : Moves s.frames.state frames.state) (old mid new : List Held) (others stale : ℕ → Bool) (access : Option Access)
    → IsSide s → frames.bounds ≡ s.frames.bounds → length mid ≡ 0x52000
    → Stack s.frames.bounds.range.lo s.frames.bounds.range.hi s.frames.state.seen s.frames.state.frames
    → Stack frames.bounds.range.lo frames.bounds.range.hi frames.state.seen frames.state.frames
    → KnowsOf s.core old (live_in s.frames) others stale → AreChanged Stored (stores_at access) old mid → IsFollowed s.core s.hi s.frames.state frames.state m mid new
    → KnowsOf s.core new (is_live s.frames.bounds.range frames.state) others (stale_after (λ a. is_live s.frames.bounds.range frames.state a || others a) (λ a. live_in s.frames a || others a) stale access)
judged_marks s frames m old mid new others stale access k same len was now known stored followed =
    let r = s.frames.bounds.range in
    let B : Bounds → Type 0 = λ b. Stack b.range.lo b.range.hi frames.state.seen frames.state.frames in
    let F : ℕ → Type 0 = λ hi. IsFollowed s.core hi s.frames.state frames.state m mid new in
    known_moves s.core r s.frames.state frames.state m old mid new others stale access k.low k.high len was (subst B same now) known stored (subst F (sym k.end_is) followed)

-- ---- the answer of the frame machine
pub past_where : (w new : Walked) (code : ℕ → ℕ) (index : ℕ) (nested : Bool) (rec : StepRecord) (found : Option BreachKind) (r : Result Unit Breach) (u : Unit) → r ≡ Ok u → IsJudged found w code index nested rec r new
    → (found ≡ None) × (new ≡ walked_past w code index nested rec)
past_where w new code index nested rec found r u e j = subst (λ (x : Result Unit Breach). IsJudged found w code index nested rec x new) e j

pub breach_where : (w new : Walked) (code : ℕ → ℕ) (index : ℕ) (nested : Bool) (rec : StepRecord) (found : Option BreachKind) (r : Result Unit Breach) (b : Breach) → r ≡ Err b → IsJudged found w code index nested rec r new
    → IsBreach found w index b
breach_where w new code index nested rec found r b e j =
    let out : Result Unit Breach = Err b in
    let at : IsJudged found w code index nested rec out new = subst (λ (x : Result Unit Breach). IsJudged found w code index nested rec x new) e j in
    at.0

pub moves_where : (g f : FrameState) (r : Result Unit Breach) (u : Unit) → r ≡ Ok u → IfOk r (λ (v : Unit). Moves g f) → Moves g f
moves_where g f r u e m = subst (λ (x : Result Unit Breach). IfOk x (λ (v : Unit). Moves g f)) e m

pub side_past : (s : Side) (frames : Walked) (code : ℕ → ℕ) (nested : Bool) (rec : StepRecord) (next : HandlerPhase) → IsSide s → frames ≡ walked_past s.frames code s.steps nested rec → IsSide (record s { frames = frames; phase = next; steps = s.steps + 1 })
side_past s frames code nested rec next k is =
    let P : Walked → Type 0 = λ w. IsSide (record s { frames = w; phase = next; steps = s.steps + 1 }) in
    let there : P (walked_past s.frames code s.steps nested rec) = record { core_is = k.core_is; end_is = k.end_is; low = k.low; high = k.high; past = le_same (s.steps + 1) } in
    subst P (sym is) there

-- a step that stays in its frame changes no marks
longer : (n : ℕ) → suc n ≡ n → ⊥
longer n e = omega arith

pub followed_still : (core hi : ℕ) (g u : FrameState) (m : Moves g u) (marks : List Held) → u.frames ≡ g.frames → IsFollowed core hi g u m marks marks
followed_still core hi g u (Stays e s) marks h = refl
followed_still core hi g u (Calls f e s) marks h = absurd (longer (length g.frames) (ap (λ (fs : List Frame). length fs) (sym e ∙ h)))
followed_still core hi g u (moves.Leaves f e s) marks h = absurd (longer (length u.frames) (ap (λ (fs : List Frame). length fs) (sym e ∙ sym h)))

-- what a frame state that the quick judge has left as it was says of the one before
pub judged_still : (s : Side) (w new : Walked) (code : ℕ → ℕ) (nested : Bool) (rec : StepRecord) (live stale : ℕ → Bool) (r : Result Unit Breach) → w ≡ s.frames
    → IsJudged (found_in w code live stale s.steps nested rec) w code s.steps nested rec r new → IsJudged (found_in s.frames code live stale s.steps nested rec) s.frames code s.steps nested rec r new
judged_still s w new code nested rec live stale r same judged = subst (λ (x : Walked). IsJudged (found_in x code live stale s.steps nested rec) x code s.steps nested rec r new) same judged

pub moves_still : (s : Side) (w new : Walked) (r : Result Unit Breach) → w ≡ s.frames → IfOk r (λ (u : Unit). Moves w.state new.state) → IfOk r (λ (u : Unit). Moves s.frames.state new.state)
moves_still s w new r same moves = subst (λ (x : Walked). IfOk r (λ (u : Unit). Moves x.state new.state)) same moves

pub call_still : (s : Side) (w : Walked) (call : Option Areas) → w ≡ s.frames → IsCallOf call s.hi w.state → IsCallOf call s.hi s.frames.state
call_still s w call same is = subst (λ (x : Walked). IsCallOf call s.hi x.state) same is
