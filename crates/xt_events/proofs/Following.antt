-- The turn at a position, and the records and lines that follow it.
use Rattle.std.proofs.Common.{◌≡◌, ℕ, zero, suc, ◌+◌, ◌-◌, ◌<◌, ◌≤◌, inl, inr, min, Option, Some, Result, Ok, Err, List, [], ◌∷◌, length, drop, get_or, refl, sym, ap, ◌∙◌, subst, arith}
use Rattle.std.specs.Prelude.{nat_le, slice_get}
use Rattle.std.specs.Option.{option_map_or}
use Rattle.std.specs.Result.{MatchResult}
use Rattle.std.proofs.lemmas.Bool.{cases_Bool}
use Rattle.std.proofs.lemmas.Bool.Decides.{nat_tests}
use Rattle.std.proofs.lemmas.Option.{slice_get-get_or}
use Rattle.xt_trace.specs.declared.record.StepRecord.{StepRecord}
use Rattle.xt_trace.specs.declared.run.Run.{Run}
use Rattle.xt_trace.specs.Left.{first_of, rest_of}
use Rattle.xt_image.specs.declared.image.Image.{Image}
use Rattle.xt_core.specs.Positions.{schedule_in}
use Rattle.xt_core.specs.Runs.{IsRunOf, code_of, records_of}
use Rattle.xt_map.specs.declared.segment.Segment.{Segment}
use Rattle.xt_map.specs.Memory.{constant_byte}
use Rattle.xt_replay.specs.Shown.{IsNextTurn, ReplayState, shown_at, step_in}
use Rattle.xt_replay.specs.Shown as shown
use Rattle.xt_replay.specs.Stands.{Stand}
use Rattle.xt_replay.proofs.Standing.{Step, Steps, bounds, next_step, schedule_long, steps0, steps1}
use Rattle.xt_events.specs.declared.filter.Filter.{Filter}
use Rattle.xt_events.specs.declared.told.TurnLine.{TurnLine}
use Rattle.xt_events.specs.declared.turn_lines.TurnLines.TheInside.{Inside}
use Rattle.xt_events.specs.Left.{IsAtPosition, state_of}
use Rattle.xt_events.specs.Lines.{LinesState, filtered_between, kept_text, line_at, lines_from, lines_in, told_at, told_text}

-- ---- the first of the records that are left

pub first_left : (k : ℕ) (xs : List StepRecord) → first_of (drop k xs) ≡ slice_get xs k
first_left zero [] = refl
first_left zero (x ∷ xs) = refl
first_left (suc k) [] = refl
first_left (suc k) (x ∷ xs) = first_left k xs

pub rest_left : (k : ℕ) (xs : List StepRecord) → rest_of (drop k xs) ≡ drop (suc k) xs
rest_left zero [] = refl
rest_left zero (x ∷ xs) = refl
rest_left (suc k) [] = refl
rest_left (suc k) (x ∷ xs) = rest_left k xs

pub rest_past : (k : ℕ) (xs : List StepRecord) → rest_of (drop k xs) ≡ drop (k + 1) xs
rest_past k xs = rest_left k xs ∙ ap (λ (n : ℕ). drop n xs) (let e : suc k ≡ k + 1 = omega arith in e)

-- ---- the core of the next turn

-- one core makes the turn, and the other none
pub record Own (image : Image) (r : Run) (p : ℕ) : Type 0 where
  pub zero_on : step_in 0 (shown_at image r (p + 1)) ≡ suc (step_in 0 (shown_at image r p))
  pub one_same : step_in 1 (shown_at image r (p + 1)) ≡ step_in 1 (shown_at image r p)

pub record Other (image : Image) (r : Run) (p : ℕ) : Type 0 where
  pub zero_same : step_in 0 (shown_at image r (p + 1)) ≡ step_in 0 (shown_at image r p)
  pub one_on : step_in 1 (shown_at image r (p + 1)) ≡ suc (step_in 1 (shown_at image r p))

pub data Made (image : Image) (r : Run) (p c : ℕ) : Type 0 where
  made0 : c ≡ 0 → Own image r p → Made image r p c
  made1 : c ≡ 1 → Other image r p → Made image r p c

named : (l : List ℕ) (p c d : ℕ) → p < length l → slice_get l p ≡ Some c → get_or l p 0 ≡ d → c ≡ d
named l p c d lt is here =
    let both : ◌≡◌ {A = Option ℕ} (Some c) (Some d) = sym is ∙ slice_get-get_or l p 0 lt ∙ ap (λ (n : ℕ). let x : Option ℕ = Some n in x) here in cc

pub own : (image : Image) (r : Run) (p : ℕ) → Steps image r p 0 → Own image r p
own image r p s = record {
  zero_on = ap (λ (x : Stand). x.side0.step) s.on ∙ (let e : step_in 0 (shown_at image r p) + 1 ≡ suc (step_in 0 (shown_at image r p)) = omega arith in e);
  one_same = ap (λ (x : Stand). x.side1.step) s.on;
}

pub other : (image : Image) (r : Run) (p : ℕ) → Steps image r p 1 → Other image r p
other image r p s = record {
  zero_same = ap (λ (x : Stand). x.side0.step) s.on;
  one_on = ap (λ (x : Stand). x.side1.step) s.on ∙ (let e : step_in 1 (shown_at image r p) + 1 ≡ suc (step_in 1 (shown_at image r p)) = omega arith in e);
}

made_by : (image : Image) (r : Run) (p c : ℕ) → p < length (schedule_in r) → slice_get (schedule_in r) p ≡ Some c → Step image r p → Made image r p c
made_by image r p c lt is (steps0 s) = made0 (named (schedule_in r) p c 0 lt is s.here) (own image r p s)
made_by image r p c lt is (steps1 s) = made1 (named (schedule_in r) p c 1 lt is s.here) (other image r p s)

pub made : (image : Image) (r : Run) (p c : ℕ) → IsRunOf image r → p < length (schedule_in r) → slice_get (schedule_in r) p ≡ Some c → Made image r p c
made image r p c h lt is = made_by image r p c lt is (next_step image r h p lt)

two_by : (image : Image) (r : Run) (p c : ℕ) → Made image r p c → c < 2
two_by image r p c (made0 is s) = omega (arith, is)
two_by image r p c (made1 is s) = omega (arith, is)

pub two_cores : (image : Image) (r : Run) (p c : ℕ) → IsRunOf image r → p < length (schedule_in r) → slice_get (schedule_in r) p ≡ Some c → c < 2
two_cores image r p c h lt is = two_by image r p c (made image r p c h lt is)

-- a position that the run has is reached
pub sought : {E : Type 0} (old new : ReplayState) (p n : ℕ) (r : Result Unit E) → MatchResult r (λ _. (p ≤ n) × (new ≡ shown.replay_at old p)) (λ _. (n < p) × (new ≡ old)) → p ≤ n
    → new ≡ shown.replay_at old p
sought old new p n (Ok u) h le = h.1
sought old new p n (Err e) h le = let beyond : n < p = h.0 in absurd (omega (arith, beyond, le))

-- ---- the line of the next turn

pub next_there : (s : ReplayState) (o : Option (ℕ × StepRecord)) (core : ℕ) (x : StepRecord) → o ≡ Some (core, x) → IsNextTurn o s → IsNextTurn (Some (core, x)) s
next_there s o core x is next = let F : Option (ℕ × StepRecord) → Type 0 = λ q. IsNextTurn q s in subst F is next

pub line_is : (f : Filter) (image : Image) (r : Run) (p core : ℕ) (x : StepRecord) (told : TurnLine) (segments : List Segment) → slice_get (schedule_in r) p ≡ Some core
    → slice_get (records_of core image r).records (step_in core (shown_at image r p)) ≡ Some x → told ≡ told_at image r p core → segments ≡ image.segments
    → kept_text (constant_byte segments) f told x ≡ line_at f image r p
line_is f image r p core x told segments core_is turn_is told_is code_is =
    let t = told_at image r p core in
    let code = code_of image in
    ap (λ (s : List Segment). kept_text (constant_byte s) f told x) code_is
    ∙ ap (λ (u : TurnLine). kept_text code f u x) told_is
    ∙ sym (ap (λ (o : Option StepRecord). option_map_or (kept_text code f t) o []) turn_is)
    ∙ sym (ap (λ (o : Option ℕ). option_map_or (λ (c : ℕ). told_text code f (told_at image r p c)) o []) core_is)

-- ---- the lines that are left

pub lines_long : (f : Filter) (image : Image) (r : Run) (p n : ℕ) → length (lines_from f image r p n) ≡ n
lines_long f image r p zero = refl
lines_long f image r p (suc n) = ap suc (lines_long f image r (suc p) n)

pub none_left : (s : LinesState) → s.end ≤ s.position → lines_in s ≡ []
none_left s le = ap (lines_from s.filter s.image s.run s.position) (let e : s.end - s.position ≡ 0 = omega (arith, le) in e)

-- one turn later
pub kept : (t : Inside) (q : ReplayState) → IsAtPosition t → q ≡ shown.replay_at t.replay (t.replay.position + 1) → IsAtPosition (record t { replay = q })
kept t q h there =
    let F : ReplayState → Type 0 = λ s. IsAtPosition (record t { replay = s }) in
    subst F (sym there) (record { run_is = h.run_is; end_is = h.end_is })

pub some_left : (t : Inside) (s : LinesState) (q : ReplayState) (text : List ℕ) → state_of t ≡ s → t.replay.position < t.end → q ≡ shown.replay_at t.replay (t.replay.position + 1)
    → text ≡ line_at t.filter t.replay.image t.replay.run t.replay.position → lines_in s ≡ text ∷ lines_in (state_of (record t { replay = q }))
some_left t s q text seen more there text_is =
    let r = t.replay in
    let rest = t.end - (r.position + 1) in
    let long : t.end - r.position ≡ suc rest = omega (arith, more) in
    let next : suc r.position ≡ r.position + 1 = omega arith in
    sym (ap lines_in seen)
    ∙ ap (lines_from t.filter r.image r.run r.position) long
    ∙ ap (λ (l : List ℕ). l ∷ lines_from t.filter r.image r.run (suc r.position) rest) (sym text_is)
    ∙ ap (λ (p : ℕ). text ∷ lines_from t.filter r.image r.run p rest) next
    ∙ sym (ap (λ (x : ReplayState). text ∷ lines_in (state_of (record t { replay = x }))) there)

-- from where the lines begin
pub lines_start : (f : Filter) (image : Image) (r : Run) (from to end start : ℕ) → end ≡ min to (length (schedule_in r)) → start ≡ min from end
    → lines_from f image r start (end - start) ≡ filtered_between f image r from to
unfolding filtered_between
lines_start f image r from to end start e s = elim (cases_Bool (nat_le from end)) [
  | inl is ↦
      let le : from ≤ end = grind (arith, nat_tests) in
      let same : start ≡ from = omega (arith, s, le) in
      ap (λ (k : ℕ). lines_from f image r k (end - k)) same ∙ ap (λ (n : ℕ). lines_from f image r from (n - from)) e
  | inr is ↦
      let lt : end < from = grind (arith, nat_tests) in
      let none : end - start ≡ 0 = omega (arith, s, lt) in
      let past : min to (length (schedule_in r)) - from ≡ 0 = omega (arith, e, lt) in
      ap (lines_from f image r start) none ∙ sym (ap (lines_from f image r from) past)
]

-- ---- as the lines are made

-- how long the schedule is, and that this fits a number of 32 bits
pub ends : (image : Image) (r : Run) → IsRunOf image r → (r.trace0.count + r.trace1.count ≡ length (schedule_in r)) × (r.trace0.count + r.trace1.count ≤ 8000000)
ends image r h = let most = bounds image r h in (sym (schedule_long image r h), omega (arith, most.count0, most.count1))

-- the first position is one of the run
pub start_there : {E : Type 0} (image : Image) (r : Run) (old new : ReplayState) (from to end start : ℕ) (q : Result Unit E) → IsRunOf image r → old.run ≡ r
    → end ≡ min to (r.trace0.count + r.trace1.count) → start ≡ min from end
    → MatchResult q (λ _. (start ≤ length (schedule_in old.run)) × (new ≡ shown.replay_at old start)) (λ _. (length (schedule_in old.run) < start) × (new ≡ old))
    → new ≡ shown.replay_at old start
start_there image r old new from to end start q h is e s found =
    let F : Run → Type 0 = λ x. start ≤ length (schedule_in x) in
    let le : start ≤ length (schedule_in r) = omega (arith, e, s, (ends image r h).0) in
    sought old new start (length (schedule_in old.run)) q found (subst F (sym is) le)

pub opened : (f : Filter) (image : Image) (r : Run) (s : ReplayState) (start end : ℕ) → IsRunOf image r → s ≡ record { image = image; run = r; position = start }
    → end ≤ length (schedule_in r) → IsAtPosition (record { replay = s; filter = f; end = end })
opened f image r s start end h there end_is =
    let F : ReplayState → Type 0 = λ q. IsAtPosition (record { replay = q; filter = f; end = end }) in
    subst F (sym there) (record { run_is = h; end_is = end_is })
