-- The walk over the records of both cores is that of the definition of the verdict.
use Rattle.std.proofs.Common.{Vec, Global, ◌≡◌, ℕ, suc, ◌+◌, ◌<◌, ◌≤◌, ◌^◌, Bool, Result, Ok, Err, List, [], ◌∷◌, length, drop, get_or, refl, sym, ◌∙◌, ap, subst, arith}
use Rattle.std.proofs.lemmas.List.{drop_more, drop_all, take_at}
use Rattle.std.specs.Vec.{with_items}
use Rattle.xt_map.specs.Memory.{constant_byte}
use Rattle.xt_trace.specs.declared.record.StepRecord.{StepRecord}
use Rattle.xt_frames.specs.declared.kinds.Breach.{Breach}
use Rattle.xt_frames.specs.declared.kinds.Judged.{Judged}
use Rattle.xt_frames.specs.declared.kinds.Judged.TheVariants.{Whole, Broken, Unchecked}
use Rattle.xt_frames.specs.Breaches.{Bounds}
use Rattle.xt_frames.specs.SaveAreas.{is_live}
use Rattle.xt_frames.specs.Judging.{Standing, Seen, Handled, Judges, Breaks, seen_record}
use Rattle.xt_frames.specs.Verdict.{Known, Judgement, judgement, passed_0, passed_1, past_handled_0, past_handled_1, past_judged_0, past_judged_1, seen_0, seen_1, verdict_on}
use Rattle.xt_discipline.specs.declared.bytes.Held.{Held}
use Rattle.xt_discipline.specs.declared.side.Side.{Side}
use Rattle.xt_discipline.specs.declared.walk.Walk.{Walk}
use Rattle.xt_discipline.specs.ByteMarks.{KnowsOf}
use Rattle.xt_discipline.specs.Sides.{IsPast, IsSeen, live_in, standing_of}
use Rattle.xt_discipline.specs.Walks.{IsKnown, IsTurned, Knows, Reaches, Turns}
use Rattle.xt_discipline.proofs.Known.{turned, turned_back}

-- ---- a core past one record more
known_past : (old new : Side) (marks : List Held) (others stale : ℕ → Bool) (st was : Standing) (core steps : ℕ) (b : Bounds) → IsKnown old core b was steps → IsPast old new marks others stale st → IsKnown new core b st (suc steps)
known_past old new marks others stale st was core steps b k p = record {
  side = p.side;
  core_is = p.core_is ∙ k.core_is;
  bounds_are = p.bounds_are ∙ k.bounds_are;
  standing_is = p.standing_is;
  steps_are = p.steps_are ∙ ap (λ (n : ℕ). suc n) k.steps_are;
}

-- the marks are those of its own live bytes
marks_past : (old new : Side) (marks : List Held) (others stale : ℕ → Bool) (st : Standing) (core : ℕ) → old.core ≡ core → IsPast old new marks others stale st → KnowsOf core marks (live_in new.frames) others stale
marks_past old new marks others stale st core is p =
    let B : Bounds → Type 0 = λ b. KnowsOf old.core marks (is_live b.range st.frame) others stale in
    let F : Standing → Type 0 = λ s. KnowsOf old.core marks (is_live new.frames.bounds.range s.frame) others stale in
    let C : ℕ → Type 0 = λ c. KnowsOf c marks (live_in new.frames) others stale in
    subst C is (subst F (sym p.standing_is) (subst B (sym p.bounds_are) p.marks_are))

-- ---- the definition's words for what a core knows
live_is : (s : Side) (core : ℕ) (b : Bounds) (st : Standing) (steps : ℕ) → IsKnown s core b st steps → live_in s.frames ≡ is_live b.range st.frame
live_is s core b st steps k =
    ap (λ (x : Bounds). is_live x.range s.frames.state) k.bounds_are ∙ ap (λ (x : Standing). is_live b.range x.frame) k.standing_is

seen_is : (code : ℕ → ℕ) (s other : Side) (core core' : ℕ) (b b' : Bounds) (st st' : Standing) (steps steps' : ℕ) (stale : ℕ → Bool) (x : StepRecord) → IsKnown s core b st steps → IsKnown other core' b' st' steps'
    → seen_record code s.frames.bounds (standing_of s) (live_in other.frames) stale x ≡ seen_record code b st (is_live b'.range st'.frame) stale x
seen_is code s other core core' b b' st st' steps steps' stale x k o =
    ap (λ (v : Bounds). seen_record code v (standing_of s) (live_in other.frames) stale x) k.bounds_are
    ∙ (ap (λ (v : Standing). seen_record code b v (live_in other.frames) stale x) k.standing_is
    ∙ ap (λ (v : ℕ → Bool). seen_record code b st v stale x) (live_is other core' b' st' steps' o))

one_before : (a b : ℕ) → suc a + b ≡ suc (a + b)
one_before a b = omega arith

one_more : (a b : ℕ) → a + suc b ≡ suc (a + b)
one_more a b = omega arith

-- ---- core 0
abbrev Passes0 : Walk → Bounds → Bounds → Known → StepRecord → Seen → Type 0
Passes0 new b0 b1 k x s = (n : Known) × Knows new b0 b1 n × (n.steps0 + n.steps1 ≡ suc (k.steps0 + k.steps1)) × ((rest : Known → Judgement) → passed_0 s k x rest ≡ rest n)

passes_0 : (w new : Walk) (b0 b1 : Bounds) (k : Known) (x : StepRecord) (u : Unit) → Knows w b0 b1 k → new.side1 ≡ w.side1 → length new.marks.items ≡ 0x52000
    → (s : Seen) → IsSeen w.side0 new.side0 new.marks.items (live_in w.side1.frames) k.stale s (Ok u) → Passes0 new b0 b1 k x s
passes_0 w new b0 b1 k x u h same len (Handled st) p =
    let C : Side → Type 0 = λ s. IsKnown s 1 b1 k.standing1 k.steps1 in
    let M : Side → Type 0 = λ s. KnowsOf 0 new.marks.items (live_in new.side0.frames) (live_in s.frames) k.stale in (
      past_handled_0 st k,
      record {
        zero = known_past w.side0 new.side0 new.marks.items (live_in w.side1.frames) k.stale st k.standing0 0 k.steps0 b0 h.zero p;
        one = subst C (sym same) h.one;
        len = len;
        marks = subst M (sym same) (marks_past w.side0 new.side0 new.marks.items (live_in w.side1.frames) k.stale st 0 h.zero.core_is p);
      },
      one_before k.steps0 k.steps1,
      λ rest. refl,
    )
passes_0 w new b0 b1 k x u h same len (Judges st after) p =
    let C : Side → Type 0 = λ s. IsKnown s 1 b1 k.standing1 k.steps1 in
    let M : Side → Type 0 = λ s. KnowsOf 0 new.marks.items (live_in new.side0.frames) (live_in s.frames) after in (
      past_judged_0 st after x k,
      record {
        zero = known_past w.side0 new.side0 new.marks.items (live_in w.side1.frames) after st k.standing0 0 k.steps0 b0 h.zero p;
        one = subst C (sym same) h.one;
        len = len;
        marks = subst M (sym same) (marks_past w.side0 new.side0 new.marks.items (live_in w.side1.frames) after st 0 h.zero.core_is p);
      },
      one_before k.steps0 k.steps1,
      λ rest. refl,
    )
passes_0 w new b0 b1 k x u h same len (Breaks kind) p = absurd p

breaks_0 : (w : Walk) (new : Side) (marks : List Held) (b0 b1 : Bounds) (k : Known) (x : StepRecord) (b : Breach) → Knows w b0 b1 k
    → (s : Seen) → IsSeen w.side0 new marks (live_in w.side1.frames) k.stale s (Err b) → (rest : Known → Judgement) → Broken b ≡ verdict_on (passed_0 s k x rest).breach
breaks_0 w new marks b0 b1 k x b h (Handled st) p rest = absurd p
breaks_0 w new marks b0 b1 k x b h (Judges st after) p rest = absurd p
breaks_0 w new marks b0 b1 k x b h (Breaks kind) p rest =
    let at : ℕ → ℕ → Judged = λ c s. Broken (record { core = c; step = s; kind = kind }) in
    ap (λ (v : Breach). Broken v) p ∙ (ap (λ (c : ℕ). at c w.side0.steps) h.zero.core_is ∙ ap (λ (s : ℕ). at 0 s) h.zero.steps_are)

pub turned_0 : (code : ℕ → ℕ) (w new : Walk) (b0 b1 : Bounds) (k : Known) (xs left ys : List StepRecord) (r : Result Unit Judged) → Knows w b0 b1 k
    → new.side1 ≡ w.side1 → constant_byte new.code ≡ code → length new.marks.items ≡ 0x52000
    → Turns code w.side0 new.side0 new.marks.items (live_in w.side1.frames) k.stale xs left r → IsTurned code b0 b1 0 k xs ys new left ys r
turned_0 code w new b0 b1 k [] left ys (Ok u) h same code_is len t = absurd t
turned_0 code w new b0 b1 k [] left ys (Err j) h same code_is len t = λ cs. t
turned_0 code w new b0 b1 k (x ∷ xs) left ys (Ok u) h same code_is len t =
    let e = seen_is code w.side0 w.side1 0 1 b0 b1 k.standing0 k.standing1 k.steps0 k.steps1 k.stale x h.zero h.one in
    let p = passes_0 w new b0 b1 k x u h same len (seen_0 code b0 b1 k x) (subst (λ (s : Seen). IsSeen w.side0 new.side0 new.marks.items (live_in w.side1.frames) k.stale s (Ok u)) e t.1) in
    (p.0, p.1, p.2, code_is, λ cs. p.3 (λ n. judgement code b0 b1 cs xs ys n) ∙ ap (λ (v : List StepRecord). judgement code b0 b1 cs v ys p.0) (sym t.0))
turned_0 code w new b0 b1 k (x ∷ xs) left ys (Err Whole) h same code_is len t = absurd t
turned_0 code w new b0 b1 k (x ∷ xs) left ys (Err Unchecked) h same code_is len t = absurd t
turned_0 code w new b0 b1 k (x ∷ xs) left ys (Err (Broken b)) h same code_is len t =
    let e = seen_is code w.side0 w.side1 0 1 b0 b1 k.standing0 k.standing1 k.steps0 k.steps1 k.stale x h.zero h.one in
    let r : Result Unit Breach = Err b in
    λ cs. breaks_0 w new.side0 new.marks.items b0 b1 k x b h (seen_0 code b0 b1 k x) (subst (λ (s : Seen). IsSeen w.side0 new.side0 new.marks.items (live_in w.side1.frames) k.stale s r) e t) (λ n. judgement code b0 b1 cs xs ys n)

-- ---- core 1
abbrev Passes1 : Walk → Bounds → Bounds → Known → StepRecord → Seen → Type 0
Passes1 new b0 b1 k x s = (n : Known) × Knows new b0 b1 n × (n.steps0 + n.steps1 ≡ suc (k.steps0 + k.steps1)) × ((rest : Known → Judgement) → passed_1 s k x rest ≡ rest n)

passes_1 : (w new : Walk) (b0 b1 : Bounds) (k : Known) (x : StepRecord) (u : Unit) → Knows w b0 b1 k → new.side0 ≡ w.side0 → length new.marks.items ≡ 0x52000
    → (s : Seen) → IsSeen w.side1 new.side1 new.marks.items (live_in w.side0.frames) k.stale s (Ok u) → Passes1 new b0 b1 k x s
passes_1 w new b0 b1 k x u h same len (Handled st) p =
    let C : Side → Type 0 = λ s. IsKnown s 0 b0 k.standing0 k.steps0 in
    let M : Side → Type 0 = λ s. KnowsOf 0 new.marks.items (live_in s.frames) (live_in new.side1.frames) k.stale in (
      past_handled_1 st k,
      record {
        zero = subst C (sym same) h.zero;
        one = known_past w.side1 new.side1 new.marks.items (live_in w.side0.frames) k.stale st k.standing1 1 k.steps1 b1 h.one p;
        len = len;
        marks = subst M (sym same) (turned_back new.marks.items (live_in new.side1.frames) (live_in w.side0.frames) k.stale (marks_past w.side1 new.side1 new.marks.items (live_in w.side0.frames) k.stale st 1 h.one.core_is p));
      },
      one_more k.steps0 k.steps1,
      λ rest. refl,
    )
passes_1 w new b0 b1 k x u h same len (Judges st after) p =
    let C : Side → Type 0 = λ s. IsKnown s 0 b0 k.standing0 k.steps0 in
    let M : Side → Type 0 = λ s. KnowsOf 0 new.marks.items (live_in s.frames) (live_in new.side1.frames) after in (
      past_judged_1 st after x k,
      record {
        zero = subst C (sym same) h.zero;
        one = known_past w.side1 new.side1 new.marks.items (live_in w.side0.frames) after st k.standing1 1 k.steps1 b1 h.one p;
        len = len;
        marks = subst M (sym same) (turned_back new.marks.items (live_in new.side1.frames) (live_in w.side0.frames) after (marks_past w.side1 new.side1 new.marks.items (live_in w.side0.frames) after st 1 h.one.core_is p));
      },
      one_more k.steps0 k.steps1,
      λ rest. refl,
    )
passes_1 w new b0 b1 k x u h same len (Breaks kind) p = absurd p

breaks_1 : (w : Walk) (new : Side) (marks : List Held) (b0 b1 : Bounds) (k : Known) (x : StepRecord) (b : Breach) → Knows w b0 b1 k
    → (s : Seen) → IsSeen w.side1 new marks (live_in w.side0.frames) k.stale s (Err b) → (rest : Known → Judgement) → Broken b ≡ verdict_on (passed_1 s k x rest).breach
breaks_1 w new marks b0 b1 k x b h (Handled st) p rest = absurd p
breaks_1 w new marks b0 b1 k x b h (Judges st after) p rest = absurd p
breaks_1 w new marks b0 b1 k x b h (Breaks kind) p rest =
    let at : ℕ → ℕ → Judged = λ c s. Broken (record { core = c; step = s; kind = kind }) in
    ap (λ (v : Breach). Broken v) p ∙ (ap (λ (c : ℕ). at c w.side1.steps) h.one.core_is ∙ ap (λ (s : ℕ). at 1 s) h.one.steps_are)

pub turned_1 : (code : ℕ → ℕ) (w new : Walk) (b0 b1 : Bounds) (k : Known) (ys left xs : List StepRecord) (r : Result Unit Judged) → Knows w b0 b1 k
    → new.side0 ≡ w.side0 → constant_byte new.code ≡ code → length new.marks.items ≡ 0x52000
    → Turns code w.side1 new.side1 new.marks.items (live_in w.side0.frames) k.stale ys left r → IsTurned code b0 b1 1 k xs ys new xs left r
turned_1 code w new b0 b1 k [] left xs (Ok u) h same code_is len t = absurd t
turned_1 code w new b0 b1 k [] left xs (Err j) h same code_is len t = λ cs. t
turned_1 code w new b0 b1 k (y ∷ ys) left xs (Ok u) h same code_is len t =
    let e = seen_is code w.side1 w.side0 1 0 b1 b0 k.standing1 k.standing0 k.steps1 k.steps0 k.stale y h.one h.zero in
    let p = passes_1 w new b0 b1 k y u h same len (seen_1 code b0 b1 k y) (subst (λ (s : Seen). IsSeen w.side1 new.side1 new.marks.items (live_in w.side0.frames) k.stale s (Ok u)) e t.1) in
    (p.0, p.1, p.2, code_is, λ cs. p.3 (λ n. judgement code b0 b1 cs xs ys n) ∙ ap (λ (v : List StepRecord). judgement code b0 b1 cs xs v p.0) (sym t.0))
turned_1 code w new b0 b1 k (y ∷ ys) left xs (Err Whole) h same code_is len t = absurd t
turned_1 code w new b0 b1 k (y ∷ ys) left xs (Err Unchecked) h same code_is len t = absurd t
turned_1 code w new b0 b1 k (y ∷ ys) left xs (Err (Broken b)) h same code_is len t =
    let e = seen_is code w.side1 w.side0 1 0 b1 b0 k.standing1 k.standing0 k.steps1 k.steps0 k.stale y h.one h.zero in
    let r : Result Unit Breach = Err b in
    λ cs. breaks_1 w new.side1 new.marks.items b0 b1 k y b h (seen_1 code b0 b1 k y) (subst (λ (s : Seen). IsSeen w.side1 new.side1 new.marks.items (live_in w.side0.frames) k.stale s r) e t) (λ n. judgement code b0 b1 cs xs ys n)

-- what a side's answer needs to know
pub marks_of_0 : (w : Walk) (b0 b1 : Bounds) (k : Known) → Knows w b0 b1 k → KnowsOf w.side0.core w.marks.items (live_in w.side0.frames) (live_in w.side1.frames) k.stale
marks_of_0 w b0 b1 k h = subst (λ (c : ℕ). KnowsOf c w.marks.items (live_in w.side0.frames) (live_in w.side1.frames) k.stale) (sym h.zero.core_is) h.marks

pub marks_of_1 : (w : Walk) (b0 b1 : Bounds) (k : Known) → Knows w b0 b1 k → KnowsOf w.side1.core w.marks.items (live_in w.side1.frames) (live_in w.side0.frames) k.stale
marks_of_1 w b0 b1 k h =
    subst (λ (c : ℕ). KnowsOf c w.marks.items (live_in w.side1.frames) (live_in w.side0.frames) k.stale) (sym h.one.core_is)
    (turned w.marks.items (live_in w.side0.frames) (live_in w.side1.frames) k.stale h.marks)

-- ---- along a schedule
pub reach_none : (code : ℕ → ℕ) (w : Walk) (b0 b1 : Bounds) (k : Known) (cs : List ℕ) (xs ys : List StepRecord) → Knows w b0 b1 k → constant_byte w.code ≡ code → Reaches code b0 b1 k cs xs ys w 0 xs ys
reach_none code w b0 b1 k cs xs ys h e = record { known = k; knows = h; steps = (let z : k.steps0 + k.steps1 ≡ k.steps0 + k.steps1 + 0 = omega arith in z); code_is = e; judged = refl }

pub reach_more : (code : ℕ → ℕ) (w new : Walk) (b0 b1 : Bounds) (k : Known) (cs : List ℕ) (i core d : ℕ) (xs ys xs1 ys1 xs2 ys2 : List StepRecord) (u : Unit) → i < length cs → core ≡ get_or cs i d
    → (r : Reaches code b0 b1 k cs xs ys w i xs1 ys1) → IsTurned code b0 b1 core r.known xs1 ys1 new xs2 ys2 (Ok u) → Reaches code b0 b1 k cs xs ys new (i + 1) xs2 ys2
reach_more code w new b0 b1 k cs i core d xs ys xs1 ys1 xs2 ys2 u lt is r t =
    let n = t.0 in
    let before : r.known.steps0 + r.known.steps1 ≡ k.steps0 + k.steps1 + i = r.steps in
    let after : n.steps0 + n.steps1 ≡ suc (r.known.steps0 + r.known.steps1) = t.2 in
    let sum : n.steps0 + n.steps1 ≡ k.steps0 + k.steps1 + (i + 1) = omega (arith, before, after) in
    let split : drop i cs ≡ core ∷ drop (i + 1) cs = drop_more cs i d lt ∙ ap (λ (c : ℕ). c ∷ drop (i + 1) cs) (sym is) in
    record {
      known = n;
      knows = t.1;
      steps = sum;
      code_is = t.3;
      judged = r.judged ∙ (ap (λ (l : List ℕ). judgement code b0 b1 l xs1 ys1 r.known) split ∙ t.4 (drop (i + 1) cs));
    }

pub reach_ends : (code : ℕ → ℕ) (w new : Walk) (b0 b1 : Bounds) (k : Known) (cs : List ℕ) (i core d : ℕ) (xs ys xs1 ys1 xs2 ys2 : List StepRecord) (j : Judged) → i < length cs → core ≡ get_or cs i d
    → (r : Reaches code b0 b1 k cs xs ys w i xs1 ys1) → IsTurned code b0 b1 core r.known xs1 ys1 new xs2 ys2 (Err j) → j ≡ verdict_on (judgement code b0 b1 cs xs ys k).breach
reach_ends code w new b0 b1 k cs i core d xs ys xs1 ys1 xs2 ys2 j lt is r t =
    let split : drop i cs ≡ core ∷ drop (i + 1) cs = drop_more cs i d lt ∙ ap (λ (c : ℕ). c ∷ drop (i + 1) cs) (sym is) in
    t (drop (i + 1) cs) ∙ ap (λ (v : Judgement). verdict_on v.breach) (sym (r.judged ∙ ap (λ (l : List ℕ). judgement code b0 b1 l xs1 ys1 r.known) split))

pub reach_room : (code : ℕ → ℕ) (old w : Walk) (b0 b1 : Bounds) (k : Known) (cs : List ℕ) (i : ℕ) (xs ys xs1 ys1 : List StepRecord) → Knows old b0 b1 k → Reaches code b0 b1 k cs xs ys w i xs1 ys1
    → i < length cs → old.side0.steps + old.side1.steps + length cs < 2 ^ 32 → w.side0.steps + w.side1.steps + 1 < 2 ^ 32
reach_room code old w b0 b1 k cs i xs ys xs1 ys1 h r lt room =
    let s0 : w.side0.steps ≡ r.known.steps0 = r.knows.zero.steps_are in
    let s1 : w.side1.steps ≡ r.known.steps1 = r.knows.one.steps_are in
    let sum : r.known.steps0 + r.known.steps1 ≡ k.steps0 + k.steps1 + i = r.steps in
    let a0 : old.side0.steps ≡ k.steps0 = h.zero.steps_are in
    let a1 : old.side1.steps ≡ k.steps1 = h.one.steps_are in
    omega (arith, s0, s1, sum, a0, a1, lt, room)

pub reach_all : (code : ℕ → ℕ) (w : Walk) (b0 b1 : Bounds) (k : Known) (cs : List ℕ) (i : ℕ) (xs ys xs1 ys1 : List StepRecord) → length cs ≤ i
    → Reaches code b0 b1 k cs xs ys w i xs1 ys1 → Whole ≡ verdict_on (judgement code b0 b1 cs xs ys k).breach
reach_all code w b0 b1 k cs i xs ys xs1 ys1 le r =
    ap (λ (v : Judgement). verdict_on v.breach) (sym (r.judged ∙ ap (λ (l : List ℕ). judgement code b0 b1 l xs1 ys1 r.known) (drop_all i cs le)))

-- ---- by the answer of a turn
pub reach_turn : (code : ℕ → ℕ) (w new : Walk) (b0 b1 : Bounds) (k : Known) (cs : List ℕ) (i core d : ℕ) (xs ys xs1 ys1 xs2 ys2 : List StepRecord) (out : Result Unit Judged) (u : Unit) → out ≡ Ok u → i < length cs → core ≡ get_or cs i d
    → (r : Reaches code b0 b1 k cs xs ys w i xs1 ys1) → IsTurned (constant_byte w.code) b0 b1 core r.known xs1 ys1 new xs2 ys2 out → Reaches code b0 b1 k cs xs ys new (i + 1) xs2 ys2
reach_turn code w new b0 b1 k cs i core d xs ys xs1 ys1 xs2 ys2 out u e lt is r t =
    reach_more code w new b0 b1 k cs i core d xs ys xs1 ys1 xs2 ys2 u lt is r
    (subst (λ (f : ℕ → ℕ). IsTurned f b0 b1 core r.known xs1 ys1 new xs2 ys2 (Ok u)) r.code_is (subst (λ (x : Result Unit Judged). IsTurned (constant_byte w.code) b0 b1 core r.known xs1 ys1 new xs2 ys2 x) e t))

pub reach_err : (code : ℕ → ℕ) (w new : Walk) (b0 b1 : Bounds) (k : Known) (cs : List ℕ) (i core d : ℕ) (xs ys xs1 ys1 xs2 ys2 : List StepRecord) (out : Result Unit Judged) (j : Judged) → out ≡ Err j → i < length cs → core ≡ get_or cs i d
    → (r : Reaches code b0 b1 k cs xs ys w i xs1 ys1) → IsTurned (constant_byte w.code) b0 b1 core r.known xs1 ys1 new xs2 ys2 out → j ≡ verdict_on (judgement code b0 b1 cs xs ys k).breach
reach_err code w new b0 b1 k cs i core d xs ys xs1 ys1 xs2 ys2 out j e lt is r t =
    let err : Result Unit Judged = Err j in
    reach_ends code w new b0 b1 k cs i core d xs ys xs1 ys1 xs2 ys2 j lt is r
    (subst (λ (f : ℕ → ℕ). IsTurned f b0 b1 core r.known xs1 ys1 new xs2 ys2 err) r.code_is (subst (λ (x : Result Unit Judged). IsTurned (constant_byte w.code) b0 b1 core r.known xs1 ys1 new xs2 ys2 x) e t))

-- ---- a turn of the walk, whose marks are written back
back : (v : Vec Held Global) (marks now : List Held) → length now ≡ v.len → length marks ≡ length now → (with_items v marks).items ≡ marks
back v marks now len same = take_at marks (drop (length marks) v.items) v.len (same ∙ len)

pub turned_zero : (w : Walk) (side : Side) (now marks : List Held) (b0 b1 : Bounds) (k : Known) (core : ℕ) (xs left ys : List StepRecord) (r : Result Unit Judged) → core ≡ 0 → Knows w b0 b1 k
    → now ≡ w.marks.items → length now ≡ w.marks.len → length marks ≡ length now
    → (KnowsOf w.side0.core now (live_in w.side0.frames) (live_in w.side1.frames) k.stale → Turns (constant_byte w.code) w.side0 side marks (live_in w.side1.frames) k.stale xs left r)
    → IsTurned (constant_byte w.code) b0 b1 core k xs ys (record { code = w.code; side0 = side; side1 = w.side1; marks = with_items w.marks marks }) left ys r
turned_zero w side now marks b0 b1 k core xs left ys r none h is len same turns =
    let code = constant_byte w.code in
    let new : Walk = record { code = w.code; side0 = side; side1 = w.side1; marks = with_items w.marks marks } in
    let there : new.marks.items ≡ marks = back w.marks marks now len same in
    let K : List Held → Type 0 = λ l. KnowsOf w.side0.core l (live_in w.side0.frames) (live_in w.side1.frames) k.stale in
    let T : List Held → Type 0 = λ l. Turns code w.side0 side l (live_in w.side1.frames) k.stale xs left r in
    let C : ℕ → Type 0 = λ n. IsTurned code b0 b1 n k xs ys new left ys r in
    let whole : length new.marks.items ≡ 0x52000 = ap (λ (l : List Held). length l) there ∙ (same ∙ (ap (λ (l : List Held). length l) is ∙ h.len)) in
    subst C (sym none) (turned_0 code w new b0 b1 k xs left ys r h refl refl whole (subst T (sym there) (turns (subst K (sym is) (marks_of_0 w b0 b1 k h)))))

pub turned_one : (w : Walk) (side : Side) (now marks : List Held) (b0 b1 : Bounds) (k : Known) (core : ℕ) (xs ys left : List StepRecord) (r : Result Unit Judged) → core ≡ 1 → Knows w b0 b1 k
    → now ≡ w.marks.items → length now ≡ w.marks.len → length marks ≡ length now
    → (KnowsOf w.side1.core now (live_in w.side1.frames) (live_in w.side0.frames) k.stale → Turns (constant_byte w.code) w.side1 side marks (live_in w.side0.frames) k.stale ys left r)
    → IsTurned (constant_byte w.code) b0 b1 core k xs ys (record { code = w.code; side0 = w.side0; side1 = side; marks = with_items w.marks marks }) xs left r
turned_one w side now marks b0 b1 k core xs ys left r one h is len same turns =
    let code = constant_byte w.code in
    let new : Walk = record { code = w.code; side0 = w.side0; side1 = side; marks = with_items w.marks marks } in
    let there : new.marks.items ≡ marks = back w.marks marks now len same in
    let K : List Held → Type 0 = λ l. KnowsOf w.side1.core l (live_in w.side1.frames) (live_in w.side0.frames) k.stale in
    let T : List Held → Type 0 = λ l. Turns code w.side1 side l (live_in w.side0.frames) k.stale ys left r in
    let C : ℕ → Type 0 = λ n. IsTurned code b0 b1 n k xs ys new xs left r in
    let whole : length new.marks.items ≡ 0x52000 = ap (λ (l : List Held). length l) there ∙ (same ∙ (ap (λ (l : List Held). length l) is ∙ h.len)) in
    subst C (sym one) (turned_1 code w new b0 b1 k ys left xs r h refl refl whole (subst T (sym there) (turns (subst K (sym is) (marks_of_1 w b0 b1 k h)))))

pub one_of : (core : ℕ) → core < 2 → (core ≡ 0 → ⊥) → core ≡ 1
one_of core two other = omega (arith, other)
