-- Where the steps of a core stand in the schedule of a run, from each position.
use Rattle.std.proofs.Common.{◌≡◌, ℕ, zero, suc, ◌+◌, ◌<◌, ◌≤◌, Bool, Option, Some, List, ◌∷◌, length, drop, get_or, refl, sym, ap, ◌∙◌, subst, arith}
use Rattle.std.specs.Prelude.{if◌then◌else◌, slice_get}
use Rattle.std.proofs.lemmas.Bool.{lt-ltb, le-ltb}
use Rattle.std.proofs.lemmas.List.{drop_more}
use Rattle.std.proofs.lemmas.Option.{slice_get-get_or}
use Rattle.xt_trace.specs.declared.run.Run.{Run}
use Rattle.xt_image.specs.declared.image.Image.{Image}
use Rattle.xt_core.specs.Positions.{schedule_in}
use Rattle.xt_core.specs.Runs.{IsRunOf}
use Rattle.xt_replay.specs.Places.{place_behind, place_of, position_of, trace_in}
use Rattle.xt_replay.specs.Shown.{shown_at, step_in}
use Rattle.xt_replay.specs.Stands.{Comes, Stand}
use Rattle.xt_replay.proofs.Standing.{Step, Steps, at_position, next_step, schedule_long, steps0, steps1}

own_head : (core k : ℕ) (t : List ℕ) → core < 2 → place_of core (suc k) (core ∷ t) ≡ suc (place_of core k t)
own_head zero k t lt = refl
own_head (suc zero) k t lt = refl
own_head (suc (suc core)) k t lt = absurd (omega arith)

own_first : (core : ℕ) (t : List ℕ) → core < 2 → place_of core 0 (core ∷ t) ≡ 0
own_first zero t lt = refl
own_first (suc zero) t lt = refl
own_first (suc (suc core)) t lt = absurd (omega arith)

other_head0 : (k : ℕ) (t : List ℕ) → place_of 0 k (1 ∷ t) ≡ suc (place_of 0 k t)
other_head0 zero t = refl
other_head0 (suc k) t = refl

other_head1 : (k : ℕ) (t : List ℕ) → place_of 1 k (0 ∷ t) ≡ suc (place_of 1 k t)
other_head1 zero t = refl
other_head1 (suc k) t = refl

-- ---- how many steps each core has made

abbrev pub steps_at : ℕ → Image → Run → ℕ → ℕ
steps_at core image r p = step_in core (shown_at image r p)

own_step : (image : Image) (r : Run) (p core : ℕ) → core < 2 → Steps image r p core → steps_at core image r (p + 1) ≡ steps_at core image r p + 1
own_step image r p zero lt s = ap (λ (x : Stand). x.side0.step) s.on
own_step image r p (suc zero) lt s = ap (λ (x : Stand). x.side1.step) s.on
own_step image r p (suc (suc core)) lt s = absurd (omega arith)

other_step0 : (image : Image) (r : Run) (p : ℕ) → Steps image r p 1 → steps_at 0 image r (p + 1) ≡ steps_at 0 image r p
other_step0 image r p s = ap (λ (x : Stand). x.side0.step) s.on

other_step1 : (image : Image) (r : Run) (p : ℕ) → Steps image r p 0 → steps_at 1 image r (p + 1) ≡ steps_at 1 image r p
other_step1 image r p s = ap (λ (x : Stand). x.side1.step) s.on

-- no core makes more steps than its trace has, and where one has some left the schedule has
pub record Counts (image : Image) (r : Run) (p core : ℕ) : Type 0 where
  pub most : steps_at core image r p ≤ (trace_in core r).count
  pub more : steps_at core image r p < (trace_in core r).count → p < length (schedule_in r)

pub counts : (image : Image) (r : Run) → IsRunOf image r → (p core : ℕ) → core < 2 → p ≤ length (schedule_in r) → Counts image r p core
counts image r h p zero lt le =
    let a = at_position image r h p le in
    let all = schedule_long image r h in
    record { most = omega (arith, a.count0, h.trace0.count_is); more = λ few. omega (arith, few, all, a.sum, a.count0, a.count1, h.trace0.count_is, h.trace1.count_is) }
counts image r h p (suc zero) lt le =
    let a = at_position image r h p le in
    let all = schedule_long image r h in
    record { most = omega (arith, a.count1, h.trace1.count_is); more = λ few. omega (arith, few, all, a.sum, a.count0, a.count1, h.trace0.count_is, h.trace1.count_is) }
counts image r h p (suc (suc core)) lt le = absurd (omega arith)

-- ---- the places from a position on

Placed : (image : Image) (r : Run) (p core : ℕ) → Type 0
Placed image r p core = (k : ℕ) → place_of core (steps_at core image r p + k) (schedule_in r) ≡ p + place_of core k (drop p (schedule_in r))

placed_start : (image : Image) (r : Run) (core : ℕ) → core < 2 → Placed image r 0 core
unfolding Placed
placed_start image r zero lt k = ap (λ (n : ℕ). place_of 0 n (schedule_in r)) (let e : 0 + k ≡ k = omega arith in e) ∙ (let e : place_of 0 k (schedule_in r) ≡ 0 + place_of 0 k (schedule_in r) = omega arith in e)
placed_start image r (suc zero) lt k = ap (λ (n : ℕ). place_of 1 n (schedule_in r)) (let e : 0 + k ≡ k = omega arith in e) ∙ (let e : place_of 1 k (schedule_in r) ≡ 0 + place_of 1 k (schedule_in r) = omega arith in e)
placed_start image r (suc (suc core)) lt k = absurd (omega arith)

-- the step is of this core
placed_own : (image : Image) (r : Run) (p core : ℕ) → core < 2 → p < length (schedule_in r) → Steps image r p core → Placed image r p core → Placed image r (p + 1) core
unfolding Placed
placed_own image r p core two lt s h k =
    let l = schedule_in r in
    let t = drop (p + 1) l in
    let here : drop p l ≡ core ∷ t = drop_more l p 0 lt ∙ ap (λ (c : ℕ). c ∷ t) s.here in
    ap (λ (n : ℕ). place_of core n l) (let e : steps_at core image r (p + 1) + k ≡ steps_at core image r p + suc k = omega (arith, own_step image r p core two s) in e)
    ∙ h (suc k) ∙ ap (λ (q : List ℕ). p + place_of core (suc k) q) here ∙ ap (λ (n : ℕ). p + n) (own_head core k t two)
    ∙ (let e : p + suc (place_of core k t) ≡ (p + 1) + place_of core k t = omega arith in e)

-- the step is of the other core
placed_other0 : (image : Image) (r : Run) (p : ℕ) → p < length (schedule_in r) → Steps image r p 1 → Placed image r p 0 → Placed image r (p + 1) 0
unfolding Placed
placed_other0 image r p lt s h k =
    let l = schedule_in r in
    let t = drop (p + 1) l in
    let here : drop p l ≡ 1 ∷ t = drop_more l p 0 lt ∙ ap (λ (c : ℕ). c ∷ t) s.here in
    ap (λ (n : ℕ). place_of 0 (n + k) l) (other_step0 image r p s)
    ∙ h k ∙ ap (λ (q : List ℕ). p + place_of 0 k q) here ∙ ap (λ (n : ℕ). p + n) (other_head0 k t)
    ∙ (let e : p + suc (place_of 0 k t) ≡ (p + 1) + place_of 0 k t = omega arith in e)

placed_other1 : (image : Image) (r : Run) (p : ℕ) → p < length (schedule_in r) → Steps image r p 0 → Placed image r p 1 → Placed image r (p + 1) 1
unfolding Placed
placed_other1 image r p lt s h k =
    let l = schedule_in r in
    let t = drop (p + 1) l in
    let here : drop p l ≡ 0 ∷ t = drop_more l p 0 lt ∙ ap (λ (c : ℕ). c ∷ t) s.here in
    ap (λ (n : ℕ). place_of 1 (n + k) l) (other_step1 image r p s)
    ∙ h k ∙ ap (λ (q : List ℕ). p + place_of 1 k q) here ∙ ap (λ (n : ℕ). p + n) (other_head1 k t)
    ∙ (let e : p + suc (place_of 1 k t) ≡ (p + 1) + place_of 1 k t = omega arith in e)

placed_more : (image : Image) (r : Run) (p core : ℕ) → core < 2 → p < length (schedule_in r) → Step image r p → Placed image r p core → Placed image r (p + 1) core
placed_more image r p zero two lt (steps0 s) h = placed_own image r p 0 two lt s h
placed_more image r p zero two lt (steps1 s) h = placed_other0 image r p lt s h
placed_more image r p (suc zero) two lt (steps0 s) h = placed_other1 image r p lt s h
placed_more image r p (suc zero) two lt (steps1 s) h = placed_own image r p 1 two lt s h
placed_more image r p (suc (suc core)) two lt s h = absurd (omega arith)

placed_at : (image : Image) (r : Run) → IsRunOf image r → (core : ℕ) → core < 2 → (p : ℕ) → p ≤ length (schedule_in r) → Placed image r p core
placed_at image r h core two zero le = placed_start image r core two
placed_at image r h core two (suc p) le =
    let F : ℕ → Type 0 = λ q. Placed image r q core in
    subst F (let e : p + 1 ≡ suc p = omega arith in e)
    (placed_more image r p core two (omega arith) (next_step image r h p (omega arith)) (placed_at image r h core two p (omega arith)))

-- the core's next step is the next one of all
own_place : (image : Image) (r : Run) → IsRunOf image r → (core : ℕ) → core < 2 → (p : ℕ) → p < length (schedule_in r) → Steps image r p core
    → place_of core (steps_at core image r p) (schedule_in r) ≡ p
unfolding Placed
own_place image r h core two p lt s =
    let l = schedule_in r in
    let t = drop (p + 1) l in
    let here : drop p l ≡ core ∷ t = drop_more l p 0 lt ∙ ap (λ (c : ℕ). c ∷ t) s.here in
    let le : p ≤ length l = omega arith in
    ap (λ (n : ℕ). place_of core n l) (let e : steps_at core image r p ≡ steps_at core image r p + 0 = omega arith in e)
    ∙ placed_at image r h core two p le 0 ∙ ap (λ (q : List ℕ). p + place_of core 0 q) here ∙ ap (λ (n : ℕ). p + n) (own_first core t two)
    ∙ (let e : p + 0 ≡ p = omega arith in e)

-- ---- coming to a step

position_before : (core step : ℕ) (r : Run) → step < (trace_in core r).count → position_of core step r ≡ place_of core step (schedule_in r)
position_before core step r lt =
    ap (λ (b : Bool). if b then place_of core step (schedule_in r) else place_behind core step (schedule_in r)) (lt-ltb step (trace_in core r).count lt)

position_behind : (core step : ℕ) (r : Run) → (trace_in core r).count ≤ step → position_of core step r ≡ place_behind core step (schedule_in r)
position_behind core step r le =
    ap (λ (b : Bool). if b then place_of core step (schedule_in r) else place_behind core step (schedule_in r)) (le-ltb step (trace_in core r).count le)

-- after the last step
pub here_behind : (image : Image) (r : Run) (p core step : ℕ) → Comes image r core step p → step ≡ (trace_in core r).count → steps_at core image r p ≡ step
    → p ≡ position_of core step r
here_behind image r p core step c end made = c.behind end made ∙ sym (position_behind core step r (omega arith))

-- before a step
pub here_before : (image : Image) (r : Run) → IsRunOf image r → (p core step : ℕ) → core < 2 → p ≤ length (schedule_in r) → step < (trace_in core r).count → steps_at core image r p ≡ step
    → ((p < length (schedule_in r)) → Steps image r p core) → p ≡ position_of core step r
here_before image r h p core step two le few made next =
    let lt : p < length (schedule_in r) = (counts image r h p core two le).more (omega arith) in
    sym (own_place image r h core two p lt (next lt)) ∙ ap (λ (n : ℕ). place_of core n (schedule_in r)) made ∙ sym (position_before core step r few)

behind_next : (l : List ℕ) (core step made p : ℕ) → step ≡ made + 1 → place_of core made l ≡ p → p + 1 ≡ place_behind core step l
behind_next l core zero made p e here = absurd (omega arith)
behind_next l core (suc k) made p e here =
    let same : made ≡ k = omega arith in
    (let q : p + 1 ≡ suc p = omega arith in q) ∙ ap suc (sym here ∙ ap (λ (n : ℕ). place_of core n l) same)

pub comes_own : (image : Image) (r : Run) → IsRunOf image r → (p core step : ℕ) → core < 2 → p < length (schedule_in r) → Steps image r p core
    → steps_at core image r p < step → Comes image r core step (p + 1)
comes_own image r h p core step two lt s few =
    let more = own_step image r p core two s in
    record {
      most = omega (arith, more);
      behind = λ end made. behind_next (schedule_in r) core step (steps_at core image r p) p (omega (arith, more)) (own_place image r h core two p lt s);
    }

comes_other : (image : Image) (r : Run) (p core step : ℕ) → steps_at core image r (p + 1) ≡ steps_at core image r p
    → (step ≡ (trace_in core r).count → steps_at core image r p ≡ step → ⊥) → Comes image r core step p → Comes image r core step (p + 1)
comes_other image r p core step same not_yet c =
    record { most = omega (arith, same, c.most); behind = λ end made. absurd (not_yet end (sym same ∙ made)) }

pub comes_on : (image : Image) (r : Run) → IsRunOf image r → (p core step : ℕ) → core < 2 → p < length (schedule_in r) → Step image r p
    → (Steps image r p core → steps_at core image r p ≡ step → ⊥) → (step ≡ (trace_in core r).count → steps_at core image r p ≡ step → ⊥)
    → Comes image r core step p → Comes image r core step (p + 1)
comes_on image r h p zero step two lt (steps0 s) not_next not_yet c =
    comes_own image r h p 0 step two lt s (let ne : steps_at 0 image r p ≡ step → ⊥ = not_next s in omega (arith, ne, c.most))
comes_on image r h p zero step two lt (steps1 s) not_next not_yet c = comes_other image r p 0 step (other_step0 image r p s) not_yet c
comes_on image r h p (suc zero) step two lt (steps0 s) not_next not_yet c = comes_other image r p 1 step (other_step1 image r p s) not_yet c
comes_on image r h p (suc zero) step two lt (steps1 s) not_next not_yet c =
    comes_own image r h p 1 step two lt s (let ne : steps_at 1 image r p ≡ step → ⊥ = not_next s in omega (arith, ne, c.most))
comes_on image r h p (suc (suc core)) step two lt s not_next not_yet c = absurd (omega arith)

-- ---- whether it is there

pub some_is : (a b : ℕ) → ◌≡◌ {A = Option ℕ} (Some a) (Some b) → a ≡ b
some_is a b e = cc

behind_none : (l : List ℕ) (core step : ℕ) → 0 ≡ step → 0 ≡ place_behind core step l
behind_none l core zero e = refl
behind_none l core (suc k) e = absurd (omega (arith, e))

-- what the schedule has at a position
named_by : (image : Image) (r : Run) (p core : ℕ) → p < length (schedule_in r) → slice_get (schedule_in r) p ≡ Some core → Step image r p → Steps image r p core
named_by image r p core lt e (steps0 s) =
    let F : ℕ → Type 0 = λ c. Steps image r p c in
    let some : ◌≡◌ {A = Option ℕ} (Some (get_or (schedule_in r) p 0)) (Some core) = sym (slice_get-get_or (schedule_in r) p 0 lt) ∙ e in
    subst F (sym s.here ∙ some_is (get_or (schedule_in r) p 0) core some) s
named_by image r p core lt e (steps1 s) =
    let F : ℕ → Type 0 = λ c. Steps image r p c in
    let some : ◌≡◌ {A = Option ℕ} (Some (get_or (schedule_in r) p 0)) (Some core) = sym (slice_get-get_or (schedule_in r) p 0 lt) ∙ e in
    subst F (sym s.here ∙ some_is (get_or (schedule_in r) p 0) core some) s

has_core : (image : Image) (r : Run) (p core : ℕ) → p < length (schedule_in r) → Steps image r p core → slice_get (schedule_in r) p ≡ Some core
has_core image r p core lt s = slice_get-get_or (schedule_in r) p 0 lt ∙ ap (λ (c : ℕ). let x : Option ℕ = Some c in x) s.here

-- it stands before the step
pub stands_before : (image : Image) (r : Run) → IsRunOf image r → (p core step : ℕ) → core < 2 → p ≤ length (schedule_in r) → step ≤ (trace_in core r).count
    → ((trace_in core r).count ≡ step → ⊥) → steps_at core image r p ≡ step → slice_get (schedule_in r) p ≡ Some core → p ≡ position_of core step r
stands_before image r h p core step two le most ne made e =
    here_before image r h p core step two le (omega (arith, most, ne)) made (λ lt. named_by image r p core lt e (next_step image r h p lt))

pub record GoesOn (image : Image) (r : Run) (p core step : ℕ) : Type 0 where
  pub more : p < length (schedule_in r)
  pub on : Comes image r core step (p + 1)

-- the core has made fewer steps
pub fewer_steps : (image : Image) (r : Run) → IsRunOf image r → (p core step : ℕ) → core < 2 → p ≤ length (schedule_in r) → step ≤ (trace_in core r).count
    → Comes image r core step p → (steps_at core image r p ≡ step → ⊥) → GoesOn image r p core step
fewer_steps image r h p core step two le most c ne =
    let few : steps_at core image r p ≤ step = c.most in
    let lt : p < length (schedule_in r) = (counts image r h p core two le).more (omega (arith, few, ne, most)) in
    record { more = lt; on = comes_on image r h p core step two lt (next_step image r h p lt) (λ s e. ne e) (λ end e. ne e) c }

-- another core's step is next
pub other_next : (image : Image) (r : Run) → IsRunOf image r → (p core step : ℕ) → core < 2 → p ≤ length (schedule_in r) → step ≤ (trace_in core r).count
    → Comes image r core step p → ((trace_in core r).count ≡ step → ⊥) → (slice_get (schedule_in r) p ≡ Some core → ⊥) → GoesOn image r p core step
other_next image r h p core step two le most c ne other =
    let few : steps_at core image r p ≤ step = c.most in
    let lt : p < length (schedule_in r) = (counts image r h p core two le).more (omega (arith, few, ne, most)) in
    record {
      more = lt;
      on = comes_on image r h p core step two lt (next_step image r h p lt) (λ s e. other (has_core image r p core lt s)) (λ end e. ne (sym end)) c;
    }

-- every position is before the step, at the start
pub comes_at_start : (image : Image) (r : Run) (core step : ℕ) → core < 2 → Comes image r core step 0
comes_at_start image r zero step two = record { most = omega arith; behind = λ end made. behind_none (schedule_in r) 0 step made }
comes_at_start image r (suc zero) step two = record { most = omega arith; behind = λ end made. behind_none (schedule_in r) 1 step made }
comes_at_start image r (suc (suc core)) step two = absurd (omega arith)
