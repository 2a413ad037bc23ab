-- The entries of a run, one after another.
use Rattle.std.proofs.Common.{◌≡◌, ℕ, zero, suc, ◌+◌, ◌<◌, ◌≤◌, Some, None, List, [], ◌∷◌, ◌++◌, Ok, Err, length, take, drop, get_or, refl, sym, ap, ◌∙◌, subst, arith}
use Rattle.std.specs.Prelude.{◌≢◌, All}
use Rattle.std.proofs.lemmas.List.{drop_more, take_more}
use Rattle.std.proofs.lemmas.List.Elements.{All-get_or}
use Rattle.std.proofs.Math.ListN.{drop_of_length-le}
use Rattle.xt_map.specs.declared.access.Entry.{Entry}
use Rattle.xt_map.specs.declared.segment.Segment.{Segment}
use Rattle.xt_map.specs.Memory.{constant_byte}
use Rattle.xt_trace.specs.declared.options.Options.{Options}
use Rattle.xt_image.specs.declared.image.Image.{Image}
use Rattle.xt_core.specs.Cores.{CoreState}
use Rattle.xt_core.specs.Runs.{code_of}
use Rattle.xt_record.specs.declared.fault.RecordFault.{RecordFault}
use Rattle.xt_record.specs.declared.fault.RecordFault.TheVariants as fault
use Rattle.xt_record.specs.declared.walk.Walk.{Walk}
use Rattle.xt_record.specs.Format.{run_with}
use Rattle.xt_image.specs.Findings.{or_else}
use Rattle.xt_record.specs.Rules.{Finding}
use Rattle.xt_record.specs.TurnRules.{entry_finding, walk_finding}
use Rattle.xt_record.specs.Walking.{Comes, Took}
use Rattle.xt_record.specs.Standing.{IsSame, Stands, StandsAt, TakesAt, run_in}
use Rattle.xt_record.proofs.Steps.{IsEntryAt, finding_is, more_one, more_zero}

take_size : {A : Type 0} (xs : List A) (i : ℕ) → i ≤ length xs → length (take i xs) ≡ i
take_size xs zero le = refl
take_size [] (suc i) le = absurd (omega arith)
take_size (x ∷ xs) (suc i) le = ap suc (take_size xs i (omega arith))

pub entry_at : (es : List Entry) (i : ℕ) (e d : Entry) → i < length es → e ≡ get_or es i d → IsEntryAt es i e
entry_at es i e d lt is = record {
  front = take_more es i d lt ∙ ap (λ (x : Entry). take i es ++ x ∷ []) (sym is);
  behind = drop_more es i d lt ∙ ap (λ (x : Entry). x ∷ drop (i + 1) es) (sym is);
  size = take_size es i (omega arith);
}

-- ---- what one entry shows

-- the finding of an entry, whatever its core
pub shows : (es : List Entry) (i c : ℕ) (v : Walk) (e : Entry) (own other : CoreState) (turns : ℕ) (finding : Finding) → Stands es i v → c < 2 → e.core ≡ c
    → (StandsAt v.image.now v.options es i v.core0 v.core1 v.setting → Comes (code_of v.image.now) c own other v.setting.memory.contents i e turns finding)
    → (c ≡ 0 → (own ≡ v.core0) × (other ≡ v.core1)) → (c ≡ 1 → (own ≡ v.core1) × (other ≡ v.core0))
    → entry_finding v.image.now (run_with v.image.now v.options es) i e ≡ finding
shows es i zero v e own other turns finding h lt core comes zeroth first =
    let F : CoreState → CoreState → Type 0 = λ a b. Comes (code_of v.image.now) 0 a b v.setting.memory.contents i e turns finding in
    let x : F v.core0 v.core1 = subst (λ (b : CoreState). F v.core0 b) (zeroth refl).1 (subst (λ (a : CoreState). F a other) (zeroth refl).0 (comes h)) in
    finding_is v.image.now v.options es i h.list 0 v.core0 v.core1 v.setting.memory.contents e turns finding lt core h.world x
shows es i (suc zero) v e own other turns finding h lt core comes zeroth first =
    let F : CoreState → CoreState → Type 0 = λ a b. Comes (code_of v.image.now) 1 a b v.setting.memory.contents i e turns finding in
    let x : F v.core1 v.core0 = subst (λ (b : CoreState). F v.core1 b) (first refl).1 (subst (λ (a : CoreState). F a other) (first refl).0 (comes h)) in
    finding_is v.image.now v.options es i h.list 1 v.core1 v.core0 v.setting.memory.contents e turns finding lt core h.world x
shows es i (suc (suc c)) v e own other turns finding h lt core comes zeroth first = absurd (omega arith)

-- the walk's finding from an entry on, whose own finding is this
next_found : (es : List Entry) (w v : Walk) (i : ℕ) (e : Entry) (finding : Finding) → IsSame w v → IsEntryAt es i e
    → entry_finding v.image.now (run_with v.image.now v.options es) i e ≡ finding
    → walk_finding w.image.now (run_in es w) 0 es ≡ walk_finding w.image.now (run_in es w) i (drop i es)
    → walk_finding w.image.now (run_in es w) 0 es ≡ or_else finding (walk_finding w.image.now (run_in es w) (i + 1) (drop (i + 1) es))
next_found es w v i e finding same at is found =
    let r = run_in es w in
    let F : Image → Options → Finding = λ image o. entry_finding image (run_with image o es) i e in
    let here : entry_finding w.image.now r i e ≡ finding =
    ap (λ (image : Image). F image w.options) (sym same.image_is) ∙ ap (F v.image.now) (sym same.options_are) ∙ is in
    found ∙ ap (walk_finding w.image.now r i) at.behind
    ∙ ap (λ (x : Finding). or_else x (walk_finding w.image.now r (suc i) (drop (i + 1) es))) here
    ∙ ap (λ (n : ℕ). or_else finding (walk_finding w.image.now r n (drop (i + 1) es))) (let s : suc i ≡ i + 1 = omega arith in s)

-- ---- one entry more

pub record Through (es : List Entry) (i : ℕ) (w v : Walk) : Type 0 where
  pub same : IsSame w v
  pub stands : Stands es i v
  pub found : walk_finding w.image.now (run_in es w) 0 es ≡ walk_finding w.image.now (run_in es w) i (drop i es)

abbrev stands_in : List Entry → ℕ → Walk → Image → Options → CoreState → CoreState → Type 0
stands_in es i u image o k0 k1 = StandsAt image o es i k0 k1 u.setting

goes_on : (es : List Entry) (i : ℕ) (v u : Walk) (k0 k1 : CoreState) → stands_in es i u v.image.now v.options k0 k1 → IsSame v u → k0 ≡ u.core0 → k1 ≡ u.core1 → Stands es i u
goes_on es i v u k0 k1 h same is0 is1 =
    subst (λ (image : Image). stands_in es i u image u.options u.core0 u.core1) (sym same.image_is)
    (subst (λ (o : Options). stands_in es i u v.image.now o u.core0 u.core1) (sym same.options_are)
    (subst (λ (k : CoreState). stands_in es i u v.image.now v.options u.core0 k) is1
    (subst (λ (k : CoreState). stands_in es i u v.image.now v.options k k1) is0 h)))

both_same : (w v u : Walk) → IsSame w v → IsSame v u → IsSame w u
both_same w v u a b = record { image_is = b.image_is ∙ a.image_is; options_are = b.options_are ∙ a.options_are }

pub through_more : (es : List Entry) (i c : ℕ) (w v u : Walk) (e : Entry) (x : Unit) → c < 2 → e.core ≡ c → IsEntryAt es i e → Through es i w v → TakesAt (Ok x) c v u i e
    → Through es (i + 1) w u
through_more es i zero w v u e x lt core at h t =
    let took : Took (code_of v.image.now) 0 v.core0 v.core1 u.core0 v.setting u.setting i e =
    subst (λ (segments : List Segment). Took (constant_byte segments) 0 v.core0 v.core1 u.core0 v.setting u.setting i e) h.stands.code_is t.0 in
    let shown = shows es i 0 v e v.core0 v.core1 took.turns None h.stands lt core (λ s. took.comes) (λ z. (refl, refl)) (λ z. absurd (omega arith)) in
    record {
      same = both_same w v u h.same t.2;
      stands = goes_on es (i + 1) v u u.core0 v.core1 (more_zero v.image.now v.options es i v.core0 v.core1 u.core0 v.setting u.setting e h.stands took core at) t.2 refl (sym t.1);
      found = next_found es w v i e None h.same at shown h.found;
    }
through_more es i (suc zero) w v u e x lt core at h t =
    let took : Took (code_of v.image.now) 1 v.core1 v.core0 u.core1 v.setting u.setting i e =
    subst (λ (segments : List Segment). Took (constant_byte segments) 1 v.core1 v.core0 u.core1 v.setting u.setting i e) h.stands.code_is t.0 in
    let shown = shows es i 1 v e v.core1 v.core0 took.turns None h.stands lt core (λ s. took.comes) (λ z. absurd (omega arith)) (λ z. (refl, refl)) in
    record {
      same = both_same w v u h.same t.2;
      stands = goes_on es (i + 1) v u v.core0 u.core1 (more_one v.image.now v.options es i v.core0 v.core1 u.core1 v.setting u.setting e h.stands took core at) t.2 (sym t.1) refl;
      found = next_found es w v i e None h.same at shown h.found;
    }
through_more es i (suc (suc c)) w v u e x lt core at h t = absurd (omega arith)

-- an entry that is not the run's
pub through_not : (es : List Entry) (i c : ℕ) (w v u : Walk) (e : Entry) (f : RecordFault) → c < 2 → e.core ≡ c → IsEntryAt es i e → Through es i w v → TakesAt (Err f) c v u i e
    → f ≢ fault.Memory → walk_finding w.image.now (run_in es w) 0 es ≡ Some f
through_not es i zero w v u e f lt core at h t other =
    let missed = t.0 other in
    let comes : Comes (code_of v.image.now) 0 v.core0 v.core1 v.setting.memory.contents i e missed.0 (Some f) =
    subst (λ (segments : List Segment). Comes (constant_byte segments) 0 v.core0 v.core1 v.setting.memory.contents i e missed.0 (Some f)) h.stands.code_is missed.1 in
    let shown = shows es i 0 v e v.core0 v.core1 missed.0 (Some f) h.stands lt core (λ s. comes) (λ z. (refl, refl)) (λ z. absurd (omega arith)) in
    next_found es w v i e (Some f) h.same at shown h.found
through_not es i (suc zero) w v u e f lt core at h t other =
    let missed = t.0 other in
    let comes : Comes (code_of v.image.now) 1 v.core1 v.core0 v.setting.memory.contents i e missed.0 (Some f) =
    subst (λ (segments : List Segment). Comes (constant_byte segments) 1 v.core1 v.core0 v.setting.memory.contents i e missed.0 (Some f)) h.stands.code_is missed.1 in
    let shown = shows es i 1 v e v.core1 v.core0 missed.0 (Some f) h.stands lt core (λ s. comes) (λ z. absurd (omega arith)) (λ z. (refl, refl)) in
    next_found es w v i e (Some f) h.same at shown h.found
through_not es i (suc (suc c)) w v u e f lt core at h t other = absurd (omega arith)

-- ---- the entries as a loop goes over them

pub step_on : (es : List Entry) (i j : ℕ) (d : Entry) (w v u : Walk) (x : Unit) → i ≡ j → j < length es → All (λ (e : Entry). e.core < 2) es → Through es i w v
    → TakesAt (Ok x) (get_or es j d).core v u i (get_or es j d) → Through es (i + 1) w u
step_on es i j d w v u x same lt cores h t =
    let e = get_or es j d in
    through_more es i e.core w v u e x (All-get_or (λ (e : Entry). e.core < 2) es j d lt cores) refl
    (entry_at es i e d (omega (arith, same, lt)) (ap (λ (k : ℕ). get_or es k d) (sym same))) h t

pub step_not : (es : List Entry) (i j : ℕ) (d : Entry) (w v u : Walk) (f : RecordFault) → i ≡ j → j < length es → All (λ (e : Entry). e.core < 2) es → Through es i w v
    → TakesAt (Err f) (get_or es j d).core v u i (get_or es j d) → f ≢ fault.Memory → walk_finding w.image.now (run_in es w) 0 es ≡ Some f
step_not es i j d w v u f same lt cores h t =
    let e = get_or es j d in
    through_not es i e.core w v u e f (All-get_or (λ (e : Entry). e.core < 2) es j d lt cores) refl
    (entry_at es i e d (omega (arith, same, lt)) (ap (λ (k : ℕ). get_or es k d) (sym same))) h t

pub all_through : (es : List Entry) (i : ℕ) (w v : Walk) → length es ≤ i → i ≤ length es → Through es i w v
    → (walk_finding w.image.now (run_in es w) 0 es ≡ None) × Stands es (length es) v × IsSame w v
all_through es i w v from to h = (
  h.found ∙ ap (walk_finding w.image.now (run_in es w) i) (drop_of_length-le es from),
  subst (λ (n : ℕ). Stands es n v) (let e : i ≡ length es = omega (arith, from, to) in e) h.stands,
  h.same,
)
