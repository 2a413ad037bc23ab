-- Where the walk stands before a step of the run.
use Rattle.std.proofs.Common.{◌≡◌, ℕ, zero, suc, ◌+◌, ◌<◌, ◌≤◌, true, false, Option, Some, None, Result, Err, List, [], ◌∷◌, length, drop, get_or, refl, sym, ◌∙◌, ap, subst}
use Rattle.std.proofs.lemmas.List.{drop_more, drop_all}
use Rattle.xt_map.specs.Memory.{constant_byte}
use Rattle.xt_trace.specs.declared.record.StepRecord.{StepRecord}
use Rattle.xt_frames.specs.declared.kinds.Breach.{Breach}
use Rattle.xt_frames.specs.declared.kinds.Judged.{Judged}
use Rattle.xt_frames.specs.declared.kinds.Judged.TheVariants.{Whole, Broken, Unchecked}
use Rattle.xt_frames.specs.Breaches.{Bounds}
use Rattle.xt_frames.specs.Verdict.{Known, Judgement, judgement, verdict_on}
use Rattle.xt_discipline.specs.declared.side.Side.{Side}
use Rattle.xt_discipline.specs.declared.walk.Walk.{Walk}
use Rattle.xt_discipline.specs.Walks.{IsKnown, IsTurned, Knows, Reaches}
use Rattle.xt_discipline.specs.Ended.{HasEnded, records_left}
use Rattle.xt_discipline.specs.Before.{known_in, known_on}
use Rattle.xt_discipline.specs.Places.{Ends, Stands, is_whole}

stands : (w : Walk) (b0 b1 : Bounds) (k : Known) → Knows w b0 b1 k → Stands w b0 b1 k
stands w b0 b1 k h = record { zero = h.zero; one = h.one }

-- ---- where no record of the core is left
ended_is : (code : ℕ → ℕ) (b0 b1 : Bounds) (core : ℕ) (cs : List ℕ) (xs ys : List StepRecord) (k : Known) → records_left core xs ys ≡ [] → judgement code b0 b1 (core ∷ cs) xs ys k ≡ record { known = k; breach = None }
ended_is code b0 b1 zero cs xs ys k e = ap (λ (l : List StepRecord). judgement code b0 b1 (0 ∷ cs) l ys k) e
ended_is code b0 b1 (suc core) cs xs ys k e = ap (λ (l : List StepRecord). judgement code b0 b1 (suc core ∷ cs) xs l k) e

stands_still : (w new : Walk) (b0 b1 : Bounds) (k : Known) (core : ℕ) (xs ys : List StepRecord) → HasEnded core w new xs ys → Knows w b0 b1 k → Stands new b0 b1 k
stands_still w new b0 b1 k core xs ys h known =
    let Z : Side → Type 0 = λ s. IsKnown s 0 b0 k.standing0 k.steps0 in
    let O : Side → Type 0 = λ s. IsKnown s 1 b1 k.standing1 k.steps1 in
    record { zero = subst Z (sym h.same0) known.zero; one = subst O (sym h.same1) known.one }

-- ---- where a breach came
abbrev IsBroken : Judged → Type 0
IsBroken (Broken b) = Unit {0}
IsBroken _ = ⊥

abbrev IsUnchecked : Judged → Type 0
IsUnchecked Unchecked = Unit {0}
IsUnchecked _ = ⊥

breach_came : (w : Walk) (b0 b1 : Bounds) (b : Breach) (k : Known) (found : Option Breach) → Broken b ≡ verdict_on found → Ends false w b0 b1 (known_on k found)
breach_came w b0 b1 b k None e = absurd (subst IsBroken e tt)
breach_came w b0 b1 b k (Some x) e = tt

never_unchecked : (found : Option Breach) → Unchecked ≡ verdict_on found → ⊥
never_unchecked None e = subst IsUnchecked e tt
never_unchecked (Some x) e = subst IsUnchecked e tt

-- ---- a turn that ends the walk
ends_turn : (code : ℕ → ℕ) (w new : Walk) (b0 b1 : Bounds) (k : Known) (core : ℕ) (cs : List ℕ) (xs ys xs2 ys2 : List StepRecord) (j : Judged) → Knows w b0 b1 k → IsTurned code b0 b1 core k xs ys new xs2 ys2 (Err j)
    → (j ≡ Whole → HasEnded core w new xs ys) → Ends (is_whole j) new b0 b1 (known_in (judgement code b0 b1 (core ∷ cs) xs ys k))
ends_turn code w new b0 b1 k core cs xs ys xs2 ys2 Whole h t ended =
    let e = ended refl in
    subst (λ (v : Judgement). Ends true new b0 b1 (known_in v)) (sym (ended_is code b0 b1 core cs xs ys k e.none_left)) (stands_still w new b0 b1 k core xs ys e h)
ends_turn code w new b0 b1 k core cs xs ys xs2 ys2 (Broken b) h t ended = let v = judgement code b0 b1 (core ∷ cs) xs ys k in breach_came new b0 b1 b v.known v.breach (t cs)
ends_turn code w new b0 b1 k core cs xs ys xs2 ys2 Unchecked h t ended = absurd (never_unchecked (judgement code b0 b1 (core ∷ cs) xs ys k).breach (t cs))

pub ends_err : (code : ℕ → ℕ) (w new : Walk) (b0 b1 : Bounds) (k : Known) (cs : List ℕ) (i core d : ℕ) (xs ys xs1 ys1 xs2 ys2 : List StepRecord) (out : Result Unit Judged) (j : Judged) → out ≡ Err j → i < length cs → core ≡ get_or cs i d
    → (r : Reaches code b0 b1 k cs xs ys w i xs1 ys1) → IsTurned (constant_byte w.code) b0 b1 core r.known xs1 ys1 new xs2 ys2 out → (out ≡ Err Whole → HasEnded core w new xs1 ys1)
    → Ends (is_whole j) new b0 b1 (known_in (judgement code b0 b1 cs xs ys k))
ends_err code w new b0 b1 k cs i core d xs ys xs1 ys1 xs2 ys2 out j e lt is r t ended =
    let err : Judged → Result Unit Judged = λ x. Err x in
    let split : drop i cs ≡ core ∷ drop (i + 1) cs = drop_more cs i d lt ∙ ap (λ (c : ℕ). c ∷ drop (i + 1) cs) (sym is) in
    let turned = subst (λ (f : ℕ → ℕ). IsTurned f b0 b1 core r.known xs1 ys1 new xs2 ys2 (err j)) r.code_is (subst (λ (x : Result Unit Judged). IsTurned (constant_byte w.code) b0 b1 core r.known xs1 ys1 new xs2 ys2 x) e t) in
    subst (λ (v : Judgement). Ends (is_whole j) new b0 b1 (known_in v)) (sym (r.judged ∙ ap (λ (l : List ℕ). judgement code b0 b1 l xs1 ys1 r.known) split))
    (ends_turn code w new b0 b1 r.known core (drop (i + 1) cs) xs1 ys1 xs2 ys2 j r.knows turned (λ whole. ended (e ∙ ap err whole)))

pub ends_all : (code : ℕ → ℕ) (w : Walk) (b0 b1 : Bounds) (k : Known) (cs : List ℕ) (i : ℕ) (xs ys xs1 ys1 : List StepRecord) → length cs ≤ i
    → Reaches code b0 b1 k cs xs ys w i xs1 ys1 → Ends true w b0 b1 (known_in (judgement code b0 b1 cs xs ys k))
ends_all code w b0 b1 k cs i xs ys xs1 ys1 le r =
    subst (λ (v : Judgement). Ends true w b0 b1 (known_in v)) (sym (r.judged ∙ ap (λ (l : List ℕ). judgement code b0 b1 l xs1 ys1 r.known) (drop_all i cs le))) (stands w b0 b1 r.known r.knows)
