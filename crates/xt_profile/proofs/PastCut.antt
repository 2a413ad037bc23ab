-- The turns from the cut on.
use Rattle.std.proofs.Common.{◌≡◌, ℕ, zero, suc, ◌+◌, ◌-◌, ◌<◌, ◌≤◌, max, Bool, true, false, if◌then◌else◌, Option, Some, None, List, [], ◌∷◌, ◌++◌, length, drop, take, refl, sym, ap, ap₂, subst, ◌∙◌, arith}
use Rattle.std.proofs.lemmas.List.{append_assoc, drop_all, length-append, length-drop}
use Rattle.xt_image.specs.declared.image.Image.{Image}
use Rattle.xt_trace.specs.declared.record.StepRecord.{StepRecord}
use Rattle.xt_trace.specs.declared.run.Run.{Run}
use Rattle.xt_trace.specs.Left.{first_of, rest_of}
use Rattle.xt_trace.specs.Validity.{IsValid, most_turns}
use Rattle.xt_trace.proofs.Short.{trace_bound}
use Rattle.xt_map.specs.History.{replies_of}
use Rattle.xt_exec.specs.Chips.{processor}
use Rattle.xt_frames.specs.declared.kinds.HandlerPhase.{HandlerPhase}
use Rattle.xt_frames.specs.declared.kinds.HandlerPhase.TheVariants.{Outside, InHandler, Nested}
use Rattle.xt_frames.specs.HandlerSteps.{phase_after}
use Rattle.xt_handlers.specs.CheckAnswers.{handlers_of}
use Rattle.xt_discipline.specs.Phases.{phases_from, phases_of}
use Rattle.xt_discipline.specs.Verdicts.{are_yes}
use Rattle.xt_core.specs.Runs.{code_of, entry_of, opening_at, turns_of}
use Rattle.xt_profile.specs.Cuts.{IsAtCut}
use Rattle.xt_profile.specs.declared.counting.AtCut.{AtCut}
use Rattle.xt_profile.specs.declared.changes.Change.{Change}
use Rattle.xt_profile.specs.declared.changes.Change.TheVariants.{Stays, Calls, Returns}
use Rattle.xt_profile.specs.declared.profiles.CoreProfile.{CoreProfile}
use Rattle.xt_profile.specs.declared.profiles.CoreTurns.{CoreTurns}
use Rattle.xt_profile.specs.declared.profiles.Profile.TheVariants.{Unchecked, Cores}
use Rattle.xt_profile.specs.declared.profiles.WholeProfile.{WholeProfile}
use Rattle.xt_profile.specs.declared.tally.Tally.{Tally}
use Rattle.xt_profile.specs.Steps.{Step, frames_standing}
use Rattle.xt_profile.specs.After.{calls_after, change_at, step_with_change, in_front, later_from}
use Rattle.xt_profile.specs.Keys.{Start, functions, handlers, keys, shown_key, with_handler, with_key}
use Rattle.xt_profile.specs.Counts.{lines, total}
use Rattle.xt_profile.specs.Profiled.{CoreAddsUp, LaterAddUp, TurnsAddUp, WholeAddsUp, all_steps, core_after, core_profile, count_before_cut, first_steps, later_at, profile_of, records, start, steps, turns_past, whole_of}
use Rattle.xt_profile.specs.CountedSteps.{IsTally, Origin, origin}
use Rattle.xt_profile.proofs.Putting.{total_is}
use Rattle.xt_profile.specs.ProfileLaws.{functions_after}
use Rattle.xt_profile.proofs.Pushing.{functions_length, functions_same}
use Rattle.xt_profile.proofs.Telling.{call_is, front_is, keys_case, return_is}

-- ---- records that are passed over
pub drop_rest : (n : ℕ) (xs : List StepRecord) → drop n (rest_of xs) ≡ drop (suc n) xs
drop_rest zero [] = refl
drop_rest (suc n) [] = refl
drop_rest n (x ∷ xs) = refl

-- ---- the records that are left are counted one by one
abbrev pub Going : (ℕ → ℕ) → Origin → List Step → List HandlerPhase → List StepRecord → List HandlerPhase → List StepRecord → Tally → Type 0
Going code o past phases xs ms left t =
    (now : List Step) × IsTally o now t × (later_from code now ms left ≡ later_from code past phases xs)

pub goes_none : (code : ℕ → ℕ) (o : Origin) (past : List Step) (phases : List HandlerPhase) (xs : List StepRecord) (t : Tally) → IsTally o past t → Going code o past phases xs phases xs t
goes_none code o past phases xs t h = (past, h, refl)

abbrev pub IsFirst : Option StepRecord → List StepRecord → List StepRecord → Type 0
IsFirst found xs rest = (found ≡ first_of xs) × (rest ≡ rest_of xs)

abbrev or : StepRecord → Option StepRecord → StepRecord
or d None = d
or d (Some x) = x

abbrev IsSome : Option StepRecord → Type 0
IsSome None = ⊥
IsSome (Some x) = Unit {0}

pub taken : (x : StepRecord) (xs rest : List StepRecord) → Some x ≡ first_of xs → rest ≡ rest_of xs → xs ≡ x ∷ rest
taken x [] rest e f = absurd (subst IsSome e tt)
taken x (y ∷ ys) rest e f = ap₂ (λ (a : StepRecord) (l : List StepRecord). a ∷ l) (sym (ap (or x) e)) (sym f)

pub goes_one : (code : ℕ → ℕ) (o : Origin) (past : List Step) (phases : List HandlerPhase) (xs : List StepRecord) (ms ms2 : List HandlerPhase) (left left2 : List StepRecord) (t new : Tally) (m : HandlerPhase) (x : StepRecord) (change : Change) → ms ≡ m ∷ ms2 → left ≡ x ∷ left2 → change ≡ change_at code m x
    → Going code o past phases xs ms left t → ((q : Origin) (now : List Step) → IsTally q now t → IsTally q (step_with_change x.pc m change now ∷ now) new) → Going code o past phases xs ms2 left2 new
goes_one code o past phases xs ms ms2 left left2 t new m x change ms_is left_is change_is h tells =
    let now = h.0 in
    let next = step_with_change x.pc m (change_at code m x) now ∷ now in (
      next,
      subst (λ (c : Change). IsTally o (step_with_change x.pc m c now ∷ now) new) change_is (tells o now h.1),
      sym (ap₂ (λ (a : List HandlerPhase) (b : List StepRecord). later_from code now a b) ms_is left_is) ∙ h.2,
    )

later_none : (code : ℕ → ℕ) (past : List Step) (ms : List HandlerPhase) → later_from code past ms [] ≡ past
later_none code past [] = refl
later_none code past (m ∷ ms) = refl

none_left : (xs : List StepRecord) → None ≡ first_of xs → xs ≡ []
none_left [] e = refl
none_left (x ∷ xs) e = absurd (subst IsSome (sym e) tt)

-- no record is left, or no phase
pub gone_records : (code : ℕ → ℕ) (o : Origin) (past : List Step) (phases : List HandlerPhase) (xs : List StepRecord) (ms : List HandlerPhase) (left : List StepRecord) (t : Tally) → None ≡ first_of left → Going code o past phases xs ms left t → IsTally o (later_from code past phases xs) t
gone_records code o past phases xs ms left t none h =
    subst (λ (q : List Step). IsTally o q t) (sym (later_none code h.0 ms) ∙ (ap (λ (l : List StepRecord). later_from code h.0 ms l) (sym (none_left left none)) ∙ h.2)) h.1

pub gone_phases : (code : ℕ → ℕ) (o : Origin) (past : List Step) (phases : List HandlerPhase) (xs : List StepRecord) (i : ℕ) (left : List StepRecord) (t : Tally) → length phases ≤ i → Going code o past phases xs (drop i phases) left t → IsTally o (later_from code past phases xs) t
gone_phases code o past phases xs i left t le h =
    subst (λ (q : List Step). IsTally o q t) (ap (λ (ms : List HandlerPhase). later_from code h.0 ms left) (sym (drop_all i phases le)) ∙ h.2) h.1

-- ---- the phases of records
pub phases_length : (code : ℕ → ℕ) (m : HandlerPhase) (xs : List StepRecord) → length (phases_from code m xs) ≡ length xs
phases_length code m [] = refl
phases_length code m (x ∷ xs) = ap (λ (n : ℕ). suc n) (phases_length code (phase_after code m x) xs)

-- ---- of all steps the later ones have been put in front
abbrev pub IsLonger : List Step → List Step → ℕ → Type 0
IsLonger all past n = (new : List Step) × (all ≡ new ++ past) × (length new ≡ n)

one_more : (n m : ℕ) → n ≡ m → n + 1 ≡ suc m
one_more n m e = omega (arith, e)

zero_suc : (n : ℕ) → 0 ≡ suc n → ⊥
zero_suc n e = omega (arith, e)

one_less : (a b : ℕ) → suc a ≡ suc b → a ≡ b
one_less a b e = omega (arith, e)

longer : (code : ℕ → ℕ) (past : List Step) (ms : List HandlerPhase) (xs : List StepRecord) → length ms ≡ length xs → IsLonger (later_from code past ms xs) past (length xs)
longer code past [] [] e = ([], refl, refl)
longer code past [] (x ∷ xs) e = absurd (zero_suc (length xs) e)
longer code past (m ∷ ms) [] e = absurd (zero_suc (length ms) (sym e))
longer code past (m ∷ ms) (x ∷ xs) e =
    let s = step_with_change x.pc m (change_at code m x) past in
    let h = longer code (s ∷ past) ms xs (one_less (length ms) (length xs) e) in
    (h.0 ++ s ∷ [], h.1 ∙ sym (append_assoc h.0 (s ∷ []) past), length-append h.0 (s ∷ []) ∙ one_more (length h.0) (length xs) h.2)

-- the keys of longer lists
abbrev HasKeys : Start → List Step → List Step → Type 0
HasKeys o new past =
    (ks : List (List ℕ)) × (keys o (new ++ past) ≡ ks ++ keys o past) × (length ks + handlers new ≡ length new)

with_case : (m : HandlerPhase) (k : List ℕ) (ks qs all : List (List ℕ)) → all ≡ ks ++ qs → with_key m k all ≡ with_key m k ks ++ qs
with_case Outside k ks qs all e = ap (λ (l : List (List ℕ)). k ∷ l) e
with_case InHandler k ks qs all e = e
with_case Nested k ks qs all e = ap (λ (l : List (List ℕ)). k ∷ l) e

has_keys : (o : Start) (new past : List Step) → HasKeys o new past
has_keys o [] past = ([], refl, refl)
has_keys o (s ∷ new) past =
    let k = shown_key o.depth (functions o.pc s.before (new ++ past)) in
    let h = has_keys o new past in
    (with_key s.phase k h.0, with_case s.phase k h.0 (keys o past) (keys o (new ++ past)) h.1, keys_case s.phase k h.0 (handlers new) (length new) h.2)

turns_sum : (o : Start) (past all : List Step) (n : ℕ) → IsLonger all past n → TurnsAddUp (turns_past o past all) n
turns_sum o past all n h =
    let k = has_keys o h.0 past in
    let keys_front : in_front (keys o all) (keys o past) ≡ k.0 = front_is k.0 (keys o past) (keys o all) (ap (keys o) h.1 ∙ k.1) in
    let steps_front : in_front all past ≡ h.0 = front_is h.0 past all h.1 in
    ap₂ (λ (ks : List (List ℕ)) (q : List Step). total (lines ks) + handlers q) keys_front steps_front ∙ (ap (λ (t : ℕ). t + handlers h.0) (total_is k.0) ∙ (k.2 ∙ h.2))

pub after_sum : (core depth n : ℕ) (image : Image) (r : Run) → TurnsAddUp (core_after core depth n image r) (length (drop n (records core image r)))
after_sum core depth n image r =
    let code = code_of image in
    let xs = records core image r in
    let ms = phases_of code xs in
    let len : length (drop n ms) ≡ length (drop n xs) = length-drop n ms ∙ (ap (λ (l : ℕ). l - n) (phases_length code Outside xs) ∙ sym (length-drop n xs)) in
    turns_sum (start core depth image r) (first_steps core n image r) (all_steps core n image r) (length (drop n xs)) (longer code (first_steps core n image r) (drop n ms) (drop n xs) len)

-- ---- the turns of a core past its first ones
pub later_tally : (o : Origin) (past : List Step) (code code2 : ℕ → ℕ) (ms ms2 : List HandlerPhase)
    (xs xs2 : List StepRecord) (t : Tally) → code ≡ code2 → ms ≡ ms2 → xs ≡ xs2
    → IsTally o (later_from code past ms xs) t → IsTally o (later_from code2 past ms2 xs2) t
later_tally o past code code2 ms ms2 xs xs2 t code_is ms_is xs_is h =
    subst (λ (f : ℕ → ℕ). IsTally o (later_from f past ms2 xs2) t) code_is
    (subst (λ (a : List HandlerPhase). IsTally o (later_from code past a xs2) t) ms_is
    (subst (λ (b : List StepRecord). IsTally o (later_from code past ms b) t) xs_is h))

-- those past the cut
pub past_cut : (core d : ℕ) (image : Image) (r : Run) (count : ℕ) (c : AtCut) (turns : CoreTurns) → IsAtCut core d image r count c
    → ((o : Origin) (past : List Step) → IsTally o past c.tally → turns ≡ turns_past o.start o.first (later_from (code_of image) past (drop c.cut (phases_of (code_of image) (records core image r))) (drop c.cut (records core image r))))
    → turns ≡ core_after core d (count_before_cut core image r) image r
past_cut core d image r count c turns h is =
    let first = steps core image r in
    let o : Origin = record { start = start core d image r; first = first } in
    let xs = records core image r in
    is o first h.tally ∙ ap (λ (n : ℕ). turns_past (start core d image r) first (later_from (code_of image) first (drop n (phases_of (code_of image) xs)) (drop n xs))) h.cut_is

-- ---- how many records there are
pub phases_are : (code : ℕ → ℕ) (now phases : List HandlerPhase) (xs ys : List StepRecord) → now ≡ phases → phases ≡ phases_of code xs → xs ≡ ys → length now ≡ length ys
phases_are code now phases xs ys e f g =
    ap (λ (l : List HandlerPhase). length l) e ∙ (ap (λ (l : List HandlerPhase). length l) f ∙ (phases_length code Outside xs ∙ ap (λ (l : List StepRecord). length l) g))

few_of : (core : ℕ) (image : Image) (r : Run) → length (records core image r) ≤ turns_of core r.options
few_of core image r = trace_bound (processor (code_of image)) (opening_at core (entry_of core image r.options) r.options) (turns_of core r.options) (replies_of core r.history)

both_within : (a b c : ℕ) → a ≤ b → b ≤ c → a ≤ c
both_within a b c e f = omega (arith, e, f)

pub few_records : (core : ℕ) (image : Image) (r : Run) → IsValid r.options → length (records core image r) ≤ most_turns
few_records zero image r v = both_within (length (records 0 image r)) r.options.turns0 most_turns (few_of 0 image r) v.turns0
few_records (suc core) image r v = both_within (length (records (suc core) image r)) r.options.turns1 most_turns (few_of (suc core) image r) v.turns1

-- ---- both cores
abbrev pub whole : CoreProfile → CoreProfile → CoreTurns → CoreTurns → WholeProfile
whole a b after0 after1 = record { profile = Cores a b; after0 = after0; after1 = after1 }

abbrev pub bare : CoreTurns → CoreTurns → WholeProfile
bare after0 after1 = record { profile = Unchecked; after0 = after0; after1 = after1 }

abbrev whole_if : Bool → ℕ → Image → Run → WholeProfile
whole_if b d image r = record {
  profile = if b then Cores (core_profile 0 d image r) (core_profile 1 d image r) else Unchecked;
  after0 = core_after 0 d (if b then count_before_cut 0 image r else 0) image r;
  after1 = core_after 1 d (if b then count_before_cut 1 image r else 0) image r;
}

by_check : (d : ℕ) (image : Image) (r : Run) → whole_of d image r ≡ whole_if (are_yes (handlers_of (code_of image) r.options.vecbase)) d image r
unfolding profile_of
by_check d image r = refl

pub checked_is : (d : ℕ) (image : Image) (r : Run) (a b : CoreProfile) (after0 after1 : CoreTurns) → are_yes (handlers_of (code_of image) r.options.vecbase) ≡ true → a ≡ core_profile 0 d image r → b ≡ core_profile 1 d image r
    → after0 ≡ core_after 0 d (count_before_cut 0 image r) image r → after1 ≡ core_after 1 d (count_before_cut 1 image r) image r → whole a b after0 after1 ≡ whole_of d image r
checked_is d image r a b after0 after1 passes a_is b_is zero_is one_is =
    ap₂ (λ (p q : CoreProfile). whole p q after0 after1) a_is b_is
    ∙ (ap₂ (λ (u v : CoreTurns). whole (core_profile 0 d image r) (core_profile 1 d image r) u v) zero_is one_is
    ∙ (ap (λ (y : Bool). whole_if y d image r) (sym passes) ∙ sym (by_check d image r)))

pub unchecked_is : (d : ℕ) (image : Image) (r : Run) (after0 after1 : CoreTurns) → are_yes (handlers_of (code_of image) r.options.vecbase) ≡ false → after0 ≡ core_after 0 d 0 image r → after1 ≡ core_after 1 d 0 image r → bare after0 after1 ≡ whole_of d image r
unchecked_is d image r after0 after1 no_check zero_is one_is =
    ap₂ (λ (u v : CoreTurns). bare u v) zero_is one_is ∙ (ap (λ (y : Bool). whole_if y d image r) (sym no_check) ∙ sym (by_check d image r))

-- the sums
pub checked_sum : (d : ℕ) (image : Image) (r : Run) (a b : CoreProfile) (after0 after1 : CoreTurns) → CoreAddsUp a r.trace0.count → CoreAddsUp b r.trace1.count → a ≡ core_profile 0 d image r → b ≡ core_profile 1 d image r
    → after0 ≡ core_after 0 d (count_before_cut 0 image r) image r → after1 ≡ core_after 1 d (count_before_cut 1 image r) image r → WholeAddsUp (whole a b after0 after1) r
checked_sum d image r a b after0 after1 sum0 sum1 a_is b_is zero_is one_is = (
  (sum0, sum1),
  (
    subst (λ (u : CoreTurns). TurnsAddUp u a.after) (sym zero_is) (subst (λ (p : CoreProfile). TurnsAddUp (core_after 0 d (count_before_cut 0 image r) image r) p.after) (sym a_is) (after_sum 0 d (count_before_cut 0 image r) image r)),
    subst (λ (u : CoreTurns). TurnsAddUp u b.after) (sym one_is) (subst (λ (p : CoreProfile). TurnsAddUp (core_after 1 d (count_before_cut 1 image r) image r) p.after) (sym b_is) (after_sum 1 d (count_before_cut 1 image r) image r)),
  ),
)

pub unchecked_sum : (d : ℕ) (image : Image) (r : Run) (after0 after1 : CoreTurns) → r.trace0.count ≡ length (records 0 image r) → r.trace1.count ≡ length (records 1 image r) → after0 ≡ core_after 0 d 0 image r → after1 ≡ core_after 1 d 0 image r → WholeAddsUp (bare after0 after1) r
unchecked_sum d image r after0 after1 count0 count1 zero_is one_is = (
  tt,
  (
    subst (λ (u : CoreTurns). TurnsAddUp u r.trace0.count) (sym zero_is) (subst (λ (n : ℕ). TurnsAddUp (core_after 0 d 0 image r) n) (sym count0) (after_sum 0 d 0 image r)),
    subst (λ (u : CoreTurns). TurnsAddUp u r.trace1.count) (sym one_is) (subst (λ (n : ℕ). TurnsAddUp (core_after 1 d 0 image r) n) (sym count1) (after_sum 1 d 0 image r)),
  ),
)

-- ---- the functions past a later step
first_alone : (l : ℕ) → l ≡ 0 + 1 → max 1 (l - 1) ≡ 1
first_alone l e = ap (λ (m : ℕ). max 1 (m - 1)) e

kept_all : (n l : ℕ) → l ≡ suc n + 1 → suc n - 1 + 1 ≡ max 1 (l - 1)
kept_all n l e = omega (arith, e)

less_one : (n : ℕ) → suc n ≡ suc n - 1 + 1
less_one n = omega arith

returned : (opening pc : ℕ) (phase : HandlerPhase) (past : List Step) (n : ℕ)
    → functions opening (n - 1) (record { pc = pc; phase = phase; before = n; after = n - 1 } ∷ past) ≡ take (max 1 (length (functions opening n past) - 1)) (functions opening n past)
returned opening pc phase past zero =
    let all = functions opening 0 past in
    sym (ap (λ (m : ℕ). take m all) (first_alone (length all) (functions_length opening 0 past)))
returned opening pc phase past (suc n) =
    let s : Step = record { pc = pc; phase = phase; before = suc n; after = suc n - 1 } in
    let all = functions opening (suc n) past in
    sym (return_is opening s past (less_one n)) ∙ ap (λ (m : ℕ). take m all) (kept_all n (length all) (functions_length opening (suc n) past))

pub follow_changes : (opening pc : ℕ) (phase : HandlerPhase) (change : Change) (past : List Step) → functions opening (calls_after change (frames_standing past)) (step_with_change pc phase change past ∷ past) ≡ functions_after change pc (functions opening (frames_standing past) past)
follow_changes opening pc phase Stays past = sym (functions_same opening (step_with_change pc phase Stays past) past refl)
follow_changes opening pc phase Calls past = sym (call_is opening (step_with_change pc phase Calls past) past refl)
follow_changes opening pc phase Returns past = returned opening pc phase past (frames_standing past)
