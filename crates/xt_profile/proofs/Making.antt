-- One turn of the walk.
use Rattle.std.proofs.Common.{◌≡◌, ℕ, zero, suc, Option, Some, None, Result, Ok, Err, OnOk, List, [], ◌∷◌, length, refl, sym, ap, subst, ◌∙◌}
use Rattle.xt_trace.specs.declared.record.StepKind.{StepKind}
use Rattle.xt_trace.specs.declared.record.StepRecord.{StepRecord}
use Rattle.xt_frames.specs.declared.kinds.Breach.{Breach}
use Rattle.xt_frames.specs.declared.kinds.Judged.{Judged}
use Rattle.xt_frames.specs.declared.kinds.Judged.TheVariants.{Whole, Broken, Unchecked}
use Rattle.xt_frames.specs.Breaches.{Bounds}
use Rattle.xt_frames.specs.declared.kinds.HandlerPhase.{HandlerPhase}
use Rattle.xt_frames.specs.Judging.{Standing}
use Rattle.xt_frames.specs.Verdict.{Known, judgement, verdict_on}
use Rattle.xt_discipline.specs.declared.walk.Walk.{Walk}
use Rattle.xt_discipline.specs.Ended.{HasEnded, IsTaken, records_left}
use Rattle.xt_discipline.specs.Phases.{step_phase}
use Rattle.xt_discipline.specs.Walks.{IsKnown, IsTurned, Knows, phase_in}
use Rattle.xt_discipline.specs.declared.side.Side.{Side}
use Rattle.xt_profile.specs.declared.counting.Made.{Made}
use Rattle.xt_profile.specs.Follows.{IsMade, IsNext, IsStep, depth_in}
use Rattle.xt_profile.specs.Peeks.{pc_and_kind}
use Rattle.xt_profile.proofs.Passing.{broken_known, past_0_is, past_1_is}

-- ---- a turn that was made
depth_is : (s : Side) (core : ℕ) (b : Bounds) (st : Standing) (steps : ℕ) → IsKnown s core b st steps → length s.frames.state.frames ≡ length st.frame.frames
depth_is s core b st steps k = ap (λ (x : Standing). length x.frame.frames) k.standing_is

abbrev pair_pc : ℕ → Option (ℕ × StepKind) → ℕ
pair_pc d None = d
pair_pc d (Some p) = p.0

abbrev pair_kind : StepKind → Option (ℕ × StepKind) → StepKind
pair_kind d None = d
pair_kind d (Some p) = p.1

abbrev pub made_of : ℕ → HandlerPhase → ℕ → Made
made_of pc phase after = record { pc = pc; phase = phase; after = after }

stepped : (code : ℕ → ℕ) (x : StepRecord) (old new : Standing) (xs left : List StepRecord) (pc after : ℕ) (kind : StepKind) (phase : HandlerPhase) (m : HandlerPhase) → xs ≡ x ∷ left → IsNext code old x new
    → Some (pc, kind) ≡ pc_and_kind xs → phase ≡ step_phase m kind → m ≡ old.phase → after ≡ length new.frame.frames
    → IsStep code x old new xs left (made_of pc phase after)
stepped code x old new xs left pc after kind phase m are next seen is m_is a =
    let whole : Some (pc, kind) ≡ Some (x.pc, x.kind) = seen ∙ ap pc_and_kind are in
    let pc_is : pc ≡ x.pc = ap (pair_pc pc) whole in
    let kind_is : kind ≡ x.kind = ap (pair_kind kind) whole in
    let phase_is : phase ≡ step_phase old.phase x.kind = is ∙ (ap (λ (k : StepKind). step_phase m k) kind_is ∙ ap (λ (y : HandlerPhase). step_phase y x.kind) m_is) in
    record {
      records_are = are;
      next = next;
      made_is = ap (λ (p : ℕ). made_of p phase after) pc_is
          ∙ (ap (λ (y : HandlerPhase). made_of x.pc y after) phase_is
          ∙ ap (made_of x.pc (step_phase old.phase x.kind)) a);
    }

pub made_is : (code : ℕ → ℕ) (b0 b1 : Bounds) (w new : Walk) (k : Known) (core : ℕ) (xs ys xs2 ys2 : List StepRecord) (pc after : ℕ) (kind : StepKind) (phase : HandlerPhase) (u : Unit) → Knows w b0 b1 k
    → IsTurned code b0 b1 core k xs ys new xs2 ys2 (Ok u) → IsTaken core xs ys xs2 ys2 → Some (pc, kind) ≡ pc_and_kind (records_left core xs ys)
    → phase ≡ step_phase (phase_in core w) kind → after ≡ depth_in core new → IsMade code b0 b1 core k xs ys new xs2 ys2 (Some (made_of pc phase after))
made_is code b0 b1 w new k zero xs ys xs2 ys2 pc after kind phase u h t taken seen is a =
    let n = t.0 in
    let x = taken.0.0 in
    let are : xs ≡ x ∷ xs2 = taken.0.1 in
    let p = past_0_is code b0 b1 k x xs2 ys xs2 ys2 n (subst (λ (l : List StepRecord). judgement code b0 b1 (0 ∷ []) l ys k ≡ judgement code b0 b1 [] xs2 ys2 n) are (t.4 [])) in
    let m : phase_in 0 w ≡ k.standing0.phase = ap (λ (st : Standing). st.phase) h.zero.standing_is in
    let d : after ≡ length n.standing0.frame.frames = a ∙ depth_is new.side0 0 b0 n.standing0 n.steps0 t.1.zero in
    (n, t.1, t.2, t.3, t.4, ((x, stepped code x k.standing0 n.standing0 xs xs2 pc after kind phase (phase_in 0 w) are p.next seen is m d), p.steps0, p.other, p.steps1, taken.1))
made_is code b0 b1 w new k (suc core) xs ys xs2 ys2 pc after kind phase u h t taken seen is a =
    let n = t.0 in
    let y = taken.0.0 in
    let are : ys ≡ y ∷ ys2 = taken.0.1 in
    let p = past_1_is code b0 b1 core k y xs ys2 xs2 ys2 n (subst (λ (l : List StepRecord). judgement code b0 b1 (suc core ∷ []) xs l k ≡ judgement code b0 b1 [] xs2 ys2 n) are (t.4 [])) in
    let m : phase_in (suc core) w ≡ k.standing1.phase = ap (λ (st : Standing). st.phase) h.one.standing_is in
    let d : after ≡ length n.standing1.frame.frames = a ∙ depth_is new.side1 1 b1 n.standing1 n.steps1 t.1.one in
    (n, t.1, t.2, t.3, t.4, ((y, stepped code y k.standing1 n.standing1 ys ys2 pc after kind phase (phase_in (suc core) w) are p.next seen is m d), p.steps1, p.other, p.steps0, taken.1))

-- as the code finds it
pub made_by : (code : ℕ → ℕ) (b0 b1 : Bounds) (w new : Walk) (k : Known) (core : ℕ) (xs ys xs1 ys1 xs2 ys2 : List StepRecord) (pc after : ℕ) (kind : StepKind) (phase : HandlerPhase) (p : Option (ℕ × StepKind)) (out : Result Unit Judged) (u : Unit)
    → xs1 ≡ xs → ys1 ≡ ys → out ≡ Ok u → Knows w b0 b1 k → IsTurned code b0 b1 core k xs1 ys1 new xs2 ys2 out → OnOk out (IsTaken core xs1 ys1 xs2 ys2) → p ≡ Some (pc, kind) → p ≡ pc_and_kind (records_left core xs ys)
    → phase ≡ step_phase (phase_in core w) kind → after ≡ depth_in core new → IsMade code b0 b1 core k xs ys new xs2 ys2 (Some (made_of pc phase after))
made_by code b0 b1 w new k core xs ys xs1 ys1 xs2 ys2 pc after kind phase p out u same0 same1 is h t taken seen peek m a =
    let ok : Result Unit Judged = Ok u in
    let t1 : IsTurned code b0 b1 core k xs1 ys1 new xs2 ys2 ok = subst (λ (o : Result Unit Judged). IsTurned code b0 b1 core k xs1 ys1 new xs2 ys2 o) is t in
    let k1 : IsTaken core xs1 ys1 xs2 ys2 = subst (λ (o : Result Unit Judged). OnOk o (IsTaken core xs1 ys1 xs2 ys2)) is taken in
    let t2 = subst (λ (l : List StepRecord). IsTurned code b0 b1 core k xs l new xs2 ys2 ok) same1 (subst (λ (l : List StepRecord). IsTurned code b0 b1 core k l ys1 new xs2 ys2 ok) same0 t1) in
    let k2 = subst (λ (l : List StepRecord). IsTaken core xs l xs2 ys2) same1 (subst (λ (l : List StepRecord). IsTaken core l ys1 xs2 ys2) same0 k1) in
    made_is code b0 b1 w new k core xs ys xs2 ys2 pc after kind phase u h t2 k2 (sym seen ∙ peek) m a

-- ---- no turn
abbrev IsNothing : Option (ℕ × StepKind) → Type 0
IsNothing None = Unit {0}
IsNothing (Some p) = ⊥

no_record : (xs : List StepRecord) → None ≡ pc_and_kind xs → xs ≡ []
no_record [] e = refl
no_record (x ∷ xs) e = absurd (subst IsNothing e tt)

none_left : (code : ℕ → ℕ) (b0 b1 : Bounds) (k : Known) (core : ℕ) (xs ys : List StepRecord) → records_left core xs ys ≡ [] → (cs : List ℕ) → (judgement code b0 b1 (core ∷ cs) xs ys k).known ≡ k
none_left code b0 b1 k zero xs ys e cs = ap (λ (l : List StepRecord). (judgement code b0 b1 (0 ∷ cs) l ys k).known) e
none_left code b0 b1 k (suc core) xs ys e cs = ap (λ (l : List StepRecord). (judgement code b0 b1 (suc core ∷ cs) xs l k).known) e

pub none_made : (code : ℕ → ℕ) (b0 b1 : Bounds) (new : Walk) (k : Known) (core : ℕ) (xs ys xs2 ys2 : List StepRecord) → None ≡ pc_and_kind (records_left core xs ys) → IsMade code b0 b1 core k xs ys new xs2 ys2 None
none_made code b0 b1 new k core xs ys xs2 ys2 e = none_left code b0 b1 k core xs ys (no_record (records_left core xs ys) e)

abbrev IsBroken : Breach → Judged → Type 0
IsBroken b (Broken c) = c ≡ b
IsBroken b _ = ⊥

breach_of : (b : Breach) (o : Option Breach) → Broken b ≡ verdict_on o → o ≡ Some b
breach_of b None e = absurd (subst (IsBroken b) e refl)
breach_of b (Some c) e = ap (λ (x : Breach). Some x) (subst (IsBroken b) e refl)

abbrev IsUnchecked : Judged → Type 0
IsUnchecked Unchecked = Unit {0}
IsUnchecked _ = ⊥

never : (o : Option Breach) → Unchecked ≡ verdict_on o → ⊥
never None e = subst IsUnchecked e tt
never (Some b) e = subst IsUnchecked e tt

pub end_made : (code : ℕ → ℕ) (b0 b1 : Bounds) (w new : Walk) (k : Known) (core : ℕ) (xs ys xs2 ys2 : List StepRecord) (j : Judged) → IsTurned code b0 b1 core k xs ys new xs2 ys2 (Err j)
    → (j ≡ Whole → HasEnded core w new xs ys) → IsMade code b0 b1 core k xs ys new xs2 ys2 None
end_made code b0 b1 w new k core xs ys xs2 ys2 Whole t ended = none_left code b0 b1 k core xs ys (ended refl).none_left
end_made code b0 b1 w new k core xs ys xs2 ys2 (Broken b) t ended =
    λ cs. broken_known code b0 b1 core cs xs ys k b (breach_of b (judgement code b0 b1 (core ∷ []) xs ys k).breach (t []))
end_made code b0 b1 w new k core xs ys xs2 ys2 Unchecked t ended = absurd (never (judgement code b0 b1 (core ∷ []) xs ys k).breach (t []))

pub end_by : (code : ℕ → ℕ) (b0 b1 : Bounds) (w new : Walk) (k : Known) (core : ℕ) (xs ys xs1 ys1 xs2 ys2 : List StepRecord) (j : Judged) (out : Result Unit Judged) → xs1 ≡ xs → ys1 ≡ ys → out ≡ Err j
    → IsTurned code b0 b1 core k xs1 ys1 new xs2 ys2 out → (out ≡ Err Whole → HasEnded core w new xs1 ys1) → IsMade code b0 b1 core k xs ys new xs2 ys2 None
end_by code b0 b1 w new k core xs ys xs1 ys1 xs2 ys2 j out same0 same1 is t ended =
    let err : Judged → Result Unit Judged = λ x. Err x in
    let none : Option Made = None in
    let m : IsMade code b0 b1 core k xs1 ys1 new xs2 ys2 none = end_made code b0 b1 w new k core xs1 ys1 xs2 ys2 j (subst (λ (o : Result Unit Judged). IsTurned code b0 b1 core k xs1 ys1 new xs2 ys2 o) is t) (λ whole. ended (is ∙ ap err whole)) in
    subst (λ (l : List StepRecord). IsMade code b0 b1 core k xs l new xs2 ys2 none) same1 (subst (λ (l : List StepRecord). IsMade code b0 b1 core k l ys1 new xs2 ys2 none) same0 m)
