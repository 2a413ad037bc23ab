-- A record of a core, as the definition of the walk sees it.
use Rattle.std.proofs.Common.{◌≡◌, ℕ, suc, ◌+◌, ◌≤◌, Bool, true, false, ◌&&◌, ◌||◌, cond, Option, None, Result, Ok, Err, refl, sym, ◌∙◌, ap, subst, arith}
use Rattle.std.specs.Prelude.{IfSome, OnOk}
use Rattle.xt_map.specs.Regions.{is_mapped}
use Rattle.xt_trace.specs.declared.record.StepRecord.{StepRecord}
use Rattle.xt_frames.specs.declared.kinds.BreachKind.{BreachKind}
use Rattle.xt_frames.specs.Breaches.{Bounds}
use Rattle.xt_frames.specs.Frames.{FrameState}
use Rattle.xt_frames.specs.SaveAreas.{is_live}
use Rattle.xt_frames.specs.declared.kinds.HandlerPhase.{HandlerPhase}
use Rattle.xt_frames.specs.declared.kinds.HandlerPhase.TheVariants.{Outside, InHandler, Nested}
use Rattle.xt_frames.specs.HandlerSteps.{is_window, phase_after}
use Rattle.xt_frames.specs.Nesting.{is_nesting}
use Rattle.xt_discipline.specs.declared.roles.Role.{Role}
use Rattle.xt_discipline.specs.declared.roles.Role.TheVariants.{Own, Entry, HandlerStep, NestedStep}
use Rattle.xt_discipline.specs.Phases.{role_of}
use Rattle.xt_discipline.specs.ByteMarks.{Agrees, either, held_at}
use Rattle.xt_discipline.proofs.ByRole.{chosen}
use Rattle.xt_discipline.proofs.Seeing.{at_last, breach_is, le_same, next_is}
use Rattle.xt_uses.specs.declared.testing.Touched.{Touched}
use Rattle.xt_uses.specs.declared.told.Used.{Used}
use Rattle.xt_uses.specs.declared.told.JudgeError.{JudgeError}
use Rattle.xt_uses.specs.declared.told.JudgeError.TheVariants.{Breaks, NoMemory}
use Rattle.xt_uses.specs.UseBreaches.{use_breach, window_use}
use Rattle.xt_uses.specs.UseParts.{IsTouched, IsUseJudged, IsUsed, UseMoves, UseWalked, fresh_at, fresh_use, use_past}
use Rattle.xt_uses.specs.Disciplines.{is_strict}
use Rattle.xt_uses.specs.UseState.{UseState, forgets, rises_over, stack_pointer}
use Rattle.xt_uses.proofs.Constant.{step_same}
use Rattle.xt_uses.specs.UseStep.{carries, use_step}
use Rattle.xt_uses.specs.UseWalk.{UseHandled, UseSeen, UseStanding, count_of, handled_past, live_with, lost_with, mask_stored, masks_after, use_seen, use_seen_in, use_seen_judged, use_seen_step, use_seen_window}
use Rattle.xt_use_walk.specs.declared.side.Bytes.{Bytes}
use Rattle.xt_use_walk.specs.declared.side.Side.{Side}
use Rattle.xt_use_walk.specs.MaskedBytes.{KnowsBytes, mask_at, without}
use Rattle.xt_use_walk.specs.Sides.{IsFollowed, IsUsePast, IsUseSeen, IsUseSide, forgets_byte, live_in, standing_of}
use Rattle.xt_use_walk.proofs.Following.{knows_same, saves_told}
use Rattle.xt_use_walk.proofs.Served.{reply_same, swaps_same}

abbrev standing : UseState → Bool → HandlerPhase → ℕ → ℕ → UseStanding
standing state fresh phase steps carried = record { state = state; fresh = fresh; phase = phase; steps = steps; carried = carried }

counted_more : (a b n : ℕ) → a ≤ b → n ≤ 1 → a + n ≤ b + 1
counted_more a b n h k = omega arith

-- what the definition sees in a record, by what it is
abbrev pub seen_as : (ℕ → ℕ) → Bounds → UseStanding → (ℕ → Bool) → (ℕ → ℕ) → StepRecord → Role → UseSeen
seen_as code b st others masks rec Own = use_seen_judged code b st others masks false rec
seen_as code b st others masks rec Entry = use_seen_window (window_use code rec st.state) code st rec
seen_as code b st others masks rec HandlerStep = UseHandled (handled_past code st rec)
seen_as code b st others masks rec NestedStep = use_seen_judged code b st others masks true rec

seen_in_role : (code : ℕ → ℕ) (b : Bounds) (st : UseStanding) (others : ℕ → Bool) (masks : ℕ → ℕ) (rec : StepRecord) (p : HandlerPhase) → use_seen_in p code b st others masks rec ≡ seen_as code b st others masks rec (role_of p rec.kind)
seen_in_role code b st others masks rec Outside = chosen (seen_as code b st others masks rec) (is_window rec.kind) Entry Own
seen_in_role code b st others masks rec InHandler = chosen (seen_as code b st others masks rec) (is_nesting rec.kind) NestedStep HandlerStep
seen_in_role code b st others masks rec Nested = refl

pub seen_is : (code : ℕ → ℕ) (b : Bounds) (st : UseStanding) (others : ℕ → Bool) (masks : ℕ → ℕ) (rec : StepRecord) (role : Role) → role ≡ role_of st.phase rec.kind → use_seen code b st others masks rec ≡ seen_as code b st others masks rec role
seen_is code b st others masks rec role e = seen_in_role code b st others masks rec st.phase ∙ ap (λ (r : Role). seen_as code b st others masks rec r) (sym e)

pub role_seen : (old new : Side) (bytes : Bytes) (others : ℕ → Bool) (masks : ℕ → ℕ) (code : ℕ → ℕ) (rec : StepRecord) (role : Role) (r : Result Unit JudgeError) → role ≡ role_of old.phase rec.kind
    → IsUseSeen old new bytes others masks (seen_as code old.uses.bounds (standing_of old) others masks rec role) r
    → IsUseSeen old new bytes others masks (use_seen code old.uses.bounds (standing_of old) others masks rec) r
role_seen old new bytes others masks code rec role r e seen =
    subst (λ (x : UseSeen). IsUseSeen old new bytes others masks x r) (sym (seen_is code old.uses.bounds (standing_of old) others masks rec role e)) seen

-- what a record touches, by these live bytes and masks
pub touched_for : (core : ℕ) (x : Bytes) (own others : ℕ → Bool) (masks : ℕ → ℕ) (rec : StepRecord) (t : Touched) → IfSome rec.access (λ a. is_mapped a ≡ true)
    → ((live0 live1 stale : ℕ → Bool) → Agrees x.marks.items live0 live1 stale → IsTouched t rec (either live0 live1) (mask_at x.masks)) → KnowsBytes core x own others masks → IsTouched t rec (either own others) masks
touched_for core x own others masks rec t served told k =
    let at = told (λ a. (held_at x.marks.items a).live0) (λ a. (held_at x.marks.items a).live1) (λ a. (held_at x.marks.items a).stale) (record { first_core = λ a. refl; second_core = λ a. refl; no_longer = λ a. refl }) in
    record {
      saves = saves_told core x.marks.items own others rec.access t.saves (λ live0 live1 stale agrees. (told live0 live1 stale agrees).saves) k.live;
      swaps = sym (swaps_same (mask_at x.masks) masks k.masks_are rec.access served) ∙ at.swaps;
      reply = sym (reply_same (mask_at x.masks) masks k.masks_are rec.access served) ∙ at.reply;
    }

-- the first breach of a record
abbrev pub found_by : Side → (ℕ → Bool) → (ℕ → ℕ) → (ℕ → ℕ) → Bool → StepRecord → Option BreachKind
found_by old others masks code nested rec = use_breach old.uses.bounds (fresh_at old.uses old.steps) code (either (live_in old.uses) others) masks nested rec old.uses.state

-- ---- the answer of the machine
pub past_where : (found : Option BreachKind) (w new : UseWalked) (code : ℕ → ℕ) (index : ℕ) (nested : Bool) (rec : StepRecord) (bytes : ℕ → ℕ) (r : Result Used JudgeError) (used : Used) → r ≡ Ok used → IsUseJudged found w code index nested rec bytes r new
    → (found ≡ None) × (new ≡ use_past w code index nested rec bytes) × IsUsed code nested rec bytes w.state used
past_where found w new code index nested rec bytes r used e j = subst (λ (x : Result Used JudgeError). IsUseJudged found w code index nested rec bytes x new) e j

pub moves_where : (g f : FrameState) (r : Result Used JudgeError) (used : Used) → r ≡ Ok used → OnOk r (UseMoves g f) → UseMoves g f
moves_where g f r used e m = subst (λ (x : Result Used JudgeError). OnOk x (UseMoves g f)) e m

-- the core past a judged step
pub side_past : (s : Side) (uses : UseWalked) (code : ℕ → ℕ) (nested : Bool) (rec : StepRecord) (bytes : ℕ → ℕ) (next : HandlerPhase) (n : ℕ) → IsUseSide s → uses ≡ use_past s.uses code s.steps nested rec bytes → n ≤ 1
    → IsUseSide (record s { uses = uses; phase = next; steps = s.steps + 1; carried = s.carried + n })
side_past s uses code nested rec bytes next n k is few =
    let P : UseWalked → Type 0 = λ w. IsUseSide (record s { uses = w; phase = next; steps = s.steps + 1; carried = s.carried + n }) in
    let there : P (use_past s.uses code s.steps nested rec bytes) = record { core_is = k.core_is; end_is = k.end_is; low = k.low; high = k.high; past = le_same (s.steps + 1); counted = counted_more s.carried s.steps n k.counted few } in
    subst P (sym is) there

-- also where no more is known of the bytes that a record touches than that there are some such bytes
pub side_goes : (s : Side) (uses : UseWalked) (code : ℕ → ℕ) (nested : Bool) (rec : StepRecord) (next : HandlerPhase) (n : ℕ) (t : Touched) (r : Result Used JudgeError) (used : Used) → IsUseSide s → r ≡ Ok used → n ≤ 1
    → ((live : ℕ → Bool) × (bytes : ℕ → ℕ) × IsTouched t rec live bytes)
    → ((live : ℕ → Bool) (bytes : ℕ → ℕ) → IsTouched t rec live bytes → IsUseJudged (use_breach s.uses.bounds (fresh_at s.uses s.steps) code live bytes nested rec s.uses.state) s.uses code s.steps nested rec bytes r uses)
    → IsUseSide (record s { uses = uses; phase = next; steps = s.steps + 1; carried = s.carried + n }) × (uses.bounds ≡ s.uses.bounds)
side_goes s uses code nested rec next n t r used k is few seen judged =
    let found = use_breach s.uses.bounds (fresh_at s.uses s.steps) code seen.0 seen.1 nested rec s.uses.state in
    let past = past_where found s.uses uses code s.steps nested rec seen.1 r used is (judged seen.0 seen.1 seen.2) in
    (side_past s uses code nested rec seen.1 next n k past.1 few, ap (λ (w : UseWalked). w.bounds) past.1)

-- the bytes have followed, by the bounds of the core before
pub followed_on : (core : ℕ) (b c : Bounds) (g u : FrameState) (old new : Bytes) → c ≡ b → IsFollowed core c.range g u old new → (others : ℕ → Bool) (masks : ℕ → ℕ) → KnowsBytes core old (is_live b.range g) others masks
    → KnowsBytes core new (is_live b.range u) others (without (λ a. is_live b.range u a || others a) masks)
followed_on core b c g u old new e f = subst (λ (x : Bounds). IsFollowed core x.range g u old new) e f

over_three : (f n b : Bool) (m : ℕ) → cond f 0 (cond n 0 (cond b 0 m)) ≡ cond (n || (b || f)) 0 m
over_three true true b m = refl
over_three true false true m = refl
over_three true false false m = refl
over_three false true b m = refl
over_three false false true m = refl
over_three false false false m = refl

-- what it forgets, by the state before it
pub forgotten_by : (s u : UseState) (sp a : ℕ) → sp ≡ stack_pointer s → u.masks.discipline ≡ s.masks.discipline → forgets_byte u sp a ≡ forgets s u a
forgotten_by s u sp a e d = λ i. is_strict (d i) && rises_over (e i) (stack_pointer u) a

-- a judged step that shows no breach
pub judged_past : (old new : Side) (uses : UseWalked) (bytes : Bytes) (others : ℕ → Bool) (masks : ℕ → ℕ) (code : ℕ → ℕ) (rec : StepRecord) (found : Option BreachKind) (u : Unit) (nested : Bool) (next : HandlerPhase) (stored n : ℕ)
    → next ≡ phase_after code old.phase rec → IsUseSide old → found ≡ None → uses ≡ use_past old.uses code old.steps nested rec masks
    → stored ≡ (use_step code nested rec masks old.uses.state).stored → n ≡ count_of (carries code rec old.uses.state (use_step code nested rec masks old.uses.state)) → n ≤ 1
    → new ≡ record old { uses = uses; phase = next; steps = old.steps + 1; carried = old.carried + n }
    → (sp : ℕ) → sp ≡ stack_pointer old.uses.state → KnowsBytes old.core bytes (is_live old.uses.bounds.range uses.state.frame) others
    (without (forgets_byte uses.state sp) (without (λ a. is_live old.uses.bounds.range uses.state.frame a || others a) (without (λ a. live_in old.uses a || others a) (mask_stored stored rec.access masks))))
    → IsUseSeen old new bytes others masks (use_seen_step found code old.uses.bounds (standing_of old) others masks nested rec) (Ok u)
judged_past old new uses bytes others masks code rec found u nested next stored n h k none is stores counts few made sp at_sp known =
    let r = old.uses.bounds.range in
    let t = use_step code nested rec masks old.uses.state in
    let w = use_past old.uses code old.steps nested rec masks in
    let fresh = fresh_use (fresh_at old.uses old.steps) code nested rec masks old.uses.state in
    let m = phase_after code old.phase rec in
    let st = standing t.after fresh m (suc old.steps) (old.carried + count_of (carries code rec old.uses.state t)) in
    let at : UseWalked → ℕ → Side = λ x i. record old { uses = x; phase = next; steps = old.steps + 1; carried = old.carried + i } in
    let after : (ℕ → ℕ) = masks_after (live_with old.uses.bounds t.after.frame others) (lost_with old.uses.bounds old.uses.state t.after others) t.stored rec.access masks in
    let K : UseWalked → ℕ → Type 0 = λ x s. KnowsBytes old.core bytes (is_live r x.state.frame) others (without (forgets_byte x.state sp) (without (λ a. is_live r x.state.frame a || others a) (without (λ a. live_in old.uses a || others a) (mask_stored s rec.access masks)))) in
    let moved : K w t.stored = subst (λ (s : ℕ). K w s) stores (subst (λ (x : UseWalked). K x stored) is known) in
    let P : Side → Type 0 = λ s. IsUsePast old s bytes others after st in
    let there : P (at w n) = record {
      side = side_past old w code nested rec masks next n k refl few;
      core_is = refl;
      bounds_are = refl;
      steps_are = next_is old.steps;
      standing_is =
          ap (λ (b : Bool). standing t.after b next (old.steps + 1) (old.carried + n)) (at_last fresh (old.steps + 1))
          ∙ (ap (λ (x : HandlerPhase). standing t.after fresh x (old.steps + 1) (old.carried + n)) h
          ∙ (ap (λ (s : ℕ). standing t.after fresh m s (old.carried + n)) (next_is old.steps) ∙ ap (λ (i : ℕ). standing t.after fresh m (suc old.steps) (old.carried + i)) counts));
      bytes_are =
          knows_same old.core bytes (is_live r t.after.frame) others (without (forgets_byte t.after sp) (without (λ a. is_live r t.after.frame a || others a) (without (λ a. live_in old.uses a || others a) (mask_stored t.stored rec.access masks)))) after
          (λ a.
          ap (λ b. cond b 0 (cond (is_live r t.after.frame a || others a) 0 (cond (live_in old.uses a || others a) 0 (mask_stored t.stored rec.access masks a)))) (forgotten_by old.uses.state t.after sp a at_sp (step_same code nested rec masks old.uses.state))
          ∙ over_three (forgets old.uses.state t.after a) (is_live r t.after.frame a || others a) (live_in old.uses a || others a) (mask_stored t.stored rec.access masks a)) moved;
    } in
    let new_is : new ≡ at w n = made ∙ ap (λ (x : UseWalked). at x n) is in
    subst (λ (o : Option BreachKind). IsUseSeen old new bytes others masks (use_seen_step o code old.uses.bounds (standing_of old) others masks nested rec) (Ok u)) (sym none) (subst P (sym new_is) there)

-- and one that shows one, or finds too little memory
pub judged_stops : (old new : Side) (bytes : Bytes) (others : ℕ → Bool) (masks : ℕ → ℕ) (code : ℕ → ℕ) (nested : Bool) (rec : StepRecord) (uses : UseWalked) (s : JudgeError) (r : Result Used JudgeError)
    → IsUseSide old → r ≡ Err s → IsUseJudged (found_by old others masks code nested rec) old.uses code old.steps nested rec masks r uses → new ≡ record old { uses = uses }
    → IsUseSeen old new bytes others masks (use_seen_judged code old.uses.bounds (standing_of old) others masks nested rec) (Err s)
judged_stops old new bytes others masks code nested rec uses (Breaks b) r k is j made =
    let out : Result Used JudgeError = Err (Breaks b) in
    let at : IsUseJudged (found_by old others masks code nested rec) old.uses code old.steps nested rec masks out uses = subst (λ (x : Result Used JudgeError). IsUseJudged (found_by old others masks code nested rec) old.uses code old.steps nested rec masks x uses) is j in
    let answer : Result Unit JudgeError = Err (Breaks b) in
    let same : new ≡ old = made ∙ ap (λ (x : UseWalked). record old { uses = x }) at.1 in
    subst (λ (o : Option BreachKind). IsUseSeen old new bytes others masks (use_seen_step o code old.uses.bounds (standing_of old) others masks nested rec) answer) (sym at.0.0)
    (breach_is b old.core old.steps (at.0.1 ∙ k.core_is) at.0.2, same)
judged_stops old new bytes others masks code nested rec uses (NoMemory e) r k is j made = tt
