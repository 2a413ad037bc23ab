-- The turns of a run one by one: what is before a turn, and before the next.
use Rattle.std.proofs.Common.{◌≡◌, ℕ, zero, suc, ◌<◌, ◌≤◌, Bool, true, false, ◌==◌, if◌then◌else◌, List, [], ◌∷◌, ◌++◌, Some, sym, ap, ◌∙◌, refl, arith, inl, inr, ⊎_elim, ◌⊎◌, append-nil, length, take, drop, slice_get}
use Rattle.std.proofs.lemmas.Bool.{cond-true, cond-false, cases_lt, eq-eqb}
use Rattle.std.proofs.lemmas.List.{length-drop, length_push}
use Rattle.std.proofs.lemmas.Option.{none-some, same_Some}
use Rattle.xt_trace.specs.declared.record.StepRecord.{StepRecord}
use Rattle.xt_frames.specs.Frames.{FrameState}
use Rattle.xt_frames.specs.declared.kinds.HandlerPhase.{HandlerPhase}
use Rattle.xt_frames.specs.declared.kinds.HandlerPhase.TheVariants.{Outside}
use Rattle.xt_frames.specs.HandlerSteps.{phase_after}
use Rattle.xt_frames.specs.Judging.{step_on}
use Rattle.xt_frames.specs.Verdict.{is_nested, entry_of}
use Rattle.xt_frames.specs.FirstBreach.{Course, IsTurn, Turn, entries_before, entries_in, frame_before, frames_past, is_judged, judged_before, judged_of, phase_before, phases, records_before, records_of, step_at, turn_of}

-- ---- lists
take_get : {X : Type 0} (ts : List X) (p : ℕ) (t : X) → slice_get ts p ≡ Some t → take (suc p) ts ≡ take p ts ++ t ∷ []
take_get [] p t e = absurd (none-some t e)
take_get (x ∷ xs) zero t e = ap (λ y. y ∷ []) (same_Some x t e)
take_get (x ∷ xs) (suc p) t e = ap (λ ys. x ∷ ys) (take_get xs p t e)

pub drop_get : {X : Type 0} (p : ℕ) (ts : List X) (t : X) (rest : List X) → drop p ts ≡ t ∷ rest → slice_get ts p ≡ Some t
drop_get zero [] t rest e = cc
drop_get zero (x ∷ xs) t rest e = cc
drop_get (suc p) [] t rest e = cc
drop_get (suc p) (x ∷ xs) t rest e = drop_get p xs t rest e

pub drop_rest : {X : Type 0} (p : ℕ) (ts : List X) (t : X) (rest : List X) → drop p ts ≡ t ∷ rest → drop (suc p) ts ≡ rest
drop_rest zero [] t rest e = cc
drop_rest zero (x ∷ xs) t rest e = cc
drop_rest (suc p) [] t rest e = cc
drop_rest (suc p) (x ∷ xs) t rest e = drop_rest p xs t rest e

pub drop_none : {X : Type 0} (p : ℕ) (ts : List X) → drop p ts ≡ [] → length ts ≤ p
drop_none p ts e =
    let l = length-drop p ts in
    let z : length (drop p ts) ≡ 0 = ap length e in
    omega (arith, l, z)

pub before_or_at : (i p : ℕ) → i < suc p → (i < p) ⊎ (i ≡ p)
before_or_at i p h = ⊎_elim (λ l. inl l) (λ g. inr (omega (arith, g, h))) (cases_lt i p)

pick : {X : Type 0} (b : Bool) (x y : X) (ms ns : List X) → ms ≡ ns ++ y ∷ [] → (if b then x ∷ ms else ms) ≡ (if b then x ∷ ns else ns) ++ y ∷ []
pick true x y ms ns e = ap (λ l. x ∷ l) e
pick false x y ms ns e = e

-- ---- one record more
records_own : (core : ℕ) (ts : List Turn) (rec : StepRecord) → records_of core (ts ++ turn_of core rec ∷ []) ≡ records_of core ts ++ rec ∷ []
records_own core [] rec = cond-true (core == core) (rec ∷ []) [] (eq-eqb core core refl)
records_own core (t ∷ ts) rec = pick (t.core == core) t.rec rec (records_of core (ts ++ turn_of core rec ∷ [])) (records_of core ts) (records_own core ts rec)

records_other : (core c : ℕ) (ts : List Turn) (rec : StepRecord) → (c == core) ≡ false → records_of core (ts ++ turn_of c rec ∷ []) ≡ records_of core ts
records_other core c [] rec e = cond-false (c == core) (rec ∷ []) [] e
records_other core c (t ∷ ts) rec e = ap (λ l. if t.core == core then t.rec ∷ l else l) (records_other core c ts rec e)

phases_push : (code : ℕ → ℕ) (phase : HandlerPhase) (rs : List StepRecord) (rec : StepRecord) → phases code phase (rs ++ rec ∷ []) ≡ phase_after code (phases code phase rs) rec
phases_push code phase [] rec = refl
phases_push code phase (r ∷ rs) rec = phases_push code (phase_after code phase r) rs rec

judged_push : (code : ℕ → ℕ) (phase : HandlerPhase) (rs : List StepRecord) (rec : StepRecord) → is_judged (phases code phase rs) rec.kind ≡ true → judged_of code phase (rs ++ rec ∷ []) ≡ judged_of code phase rs ++ (is_nested (phases code phase rs), rec) ∷ []
judged_push code phase [] rec e = cond-true {A = List (Bool × StepRecord)} (is_judged phase rec.kind) ((is_nested phase, rec) ∷ []) [] e
judged_push code phase (r ∷ rs) rec e =
    let next = phase_after code phase r in
    pick {X = Bool × StepRecord} (is_judged phase r.kind) (is_nested phase, r) (is_nested (phases code next rs), rec) (judged_of code next (rs ++ rec ∷ [])) (judged_of code next rs) (judged_push code next rs rec e)

skipped_push : (code : ℕ → ℕ) (phase : HandlerPhase) (rs : List StepRecord) (rec : StepRecord) → is_judged (phases code phase rs) rec.kind ≡ false → judged_of code phase (rs ++ rec ∷ []) ≡ judged_of code phase rs
skipped_push code phase [] rec e = cond-false {A = List (Bool × StepRecord)} (is_judged phase rec.kind) ((is_nested phase, rec) ∷ []) [] e
skipped_push code phase (r ∷ rs) rec e = ap (λ (l : List (Bool × StepRecord)). if is_judged phase r.kind then (is_nested phase, r) ∷ l else l) (skipped_push code (phase_after code phase r) rs rec e)

frames_push : (code : ℕ → ℕ) (f : FrameState) (js : List (Bool × StepRecord)) (j : Bool × StepRecord) → frames_past code f (js ++ j ∷ []) ≡ (step_on code j.0 j.1 (frames_past code f js)).after
frames_push code f [] j = refl
frames_push code f (q ∷ js) j = frames_push code (step_on code q.0 q.1 f).after js j

-- ---- one turn more
module _ (r : Course) (p core : ℕ) (rec : StepRecord) (turn : IsTurn r p core rec) where
  own_records : records_before r core (suc p) ≡ records_before r core p ++ rec ∷ []
  unfolding records_before
  own_records = ap (records_of core) (take_get r.turns p (turn_of core rec) turn) ∙ records_own core (take p r.turns) rec

  pub own_count : suc (length (records_before r core p)) ≡ length (records_before r core (suc p))
  own_count =
      let l = length_push (records_before r core p) rec in
      let e = ap length own_records in
      omega (arith, l, e)

  pub own_phase : phase_before r core (suc p) ≡ phase_after r.code (phase_before r core p) rec
  unfolding phase_before
  own_phase = ap (phases r.code Outside) own_records ∙ phases_push r.code Outside (records_before r core p) rec

  pub own_judged : is_judged (phase_before r core p) rec.kind ≡ true → judged_before r core (suc p) ≡ judged_before r core p ++ (is_nested (phase_before r core p), rec) ∷ []
  unfolding judged_before phase_before
  own_judged e = ap (judged_of r.code Outside) own_records ∙ judged_push r.code Outside (records_before r core p) rec e

  pub own_skipped : is_judged (phase_before r core p) rec.kind ≡ false → judged_before r core (suc p) ≡ judged_before r core p
  unfolding judged_before phase_before
  own_skipped e = ap (judged_of r.code Outside) own_records ∙ skipped_push r.code Outside (records_before r core p) rec e

  pub own_frame : is_judged (phase_before r core p) rec.kind ≡ true → frame_before r core (suc p) ≡ (step_at r p core rec).after
  unfolding frame_before
  own_frame e = ap (frames_past r.code (r.opening core)) (own_judged e) ∙ frames_push r.code (r.opening core) (judged_before r core p) (is_nested (phase_before r core p), rec)

  pub kept_frame : is_judged (phase_before r core p) rec.kind ≡ false → frame_before r core (suc p) ≡ frame_before r core p
  unfolding frame_before
  kept_frame e = ap (frames_past r.code (r.opening core)) (own_skipped e)

  pub own_entries : is_judged (phase_before r core p) rec.kind ≡ true → entries_before r (suc p) ≡ entries_before r p ++ entry_of core rec.access rec.reply
  own_entries e = ap (λ t. entries_before r p ++ entries_in r p t) turn ∙ ap (λ es. entries_before r p ++ es) (cond-true (is_judged (phase_before r core p) rec.kind) (entry_of core rec.access rec.reply) [] e)

  pub kept_entries : is_judged (phase_before r core p) rec.kind ≡ false → entries_before r (suc p) ≡ entries_before r p
  kept_entries e = ap (λ t. entries_before r p ++ entries_in r p t) turn ∙ (ap (λ es. entries_before r p ++ es) (cond-false (is_judged (phase_before r core p) rec.kind) (entry_of core rec.access rec.reply) [] e) ∙ append-nil (entries_before r p))

  -- ---- of the other core
  pub other_records : (other : ℕ) → (core == other) ≡ false → records_before r other (suc p) ≡ records_before r other p
  unfolding records_before
  other_records other e = ap (records_of other) (take_get r.turns p (turn_of core rec) turn) ∙ records_other other core (take p r.turns) rec e

  pub other_phase : (other : ℕ) → (core == other) ≡ false → phase_before r other (suc p) ≡ phase_before r other p
  unfolding phase_before
  other_phase other e = ap (phases r.code Outside) (other_records other e)

  pub other_judged : (other : ℕ) → (core == other) ≡ false → judged_before r other (suc p) ≡ judged_before r other p
  unfolding judged_before
  other_judged other e = ap (judged_of r.code Outside) (other_records other e)

  pub other_frame : (other : ℕ) → (core == other) ≡ false → frame_before r other (suc p) ≡ frame_before r other p
  unfolding frame_before
  other_frame other e = ap (frames_past r.code (r.opening other)) (other_judged other e)

  -- ---- the turn itself
  pub same_turn : (c : ℕ) (q : StepRecord) → IsTurn r p c q → turn_of core rec ≡ turn_of c q
  same_turn c q t = same_Some (turn_of core rec) (turn_of c q) (sym turn ∙ t)
