-- The walk along a schedule.
use Rattle.std.proofs.Common.{◌≡◌, ℕ, zero, suc, ◌+◌, ◌<◌, ◌≤◌, ◌^◌, None, Result, Ok, Err, List, [], ◌∷◌, length, drop, get_or, slice_get, refl, sym, ◌∙◌, ap, subst, arith}
use Rattle.std.proofs.lemmas.List.{drop_more, drop_all, drop-drop}
use Rattle.xt_map.specs.Memory.{constant_byte}
use Rattle.xt_trace.specs.declared.record.StepRecord.{StepRecord}
use Rattle.xt_frames.specs.Breaches.{Bounds}
use Rattle.xt_discipline.specs.Ended.{records_left}
use Rattle.xt_uses.specs.UseWalk.{UseJudgement, UseKnown, use_judgement}
use Rattle.xt_use_walk.specs.declared.walk.FirstUse.{FirstUse}
use Rattle.xt_use_walk.specs.Walks.{Advances, AreTaken, IsEnded, IsShown, IsTurned, IsWhole, Knows, NoRecord, Reaches, Shows, Walk, WalkEnd, standing_in}
use Rattle.xt_use_walk.proofs.Walking.{carried_known, steps_known}

-- ---- records that are taken, some after others
slice_get_drop : {X : Type 0} (n : ℕ) (xs : List X) (i : ℕ) → slice_get (drop n xs) i ≡ slice_get xs (n + i)
slice_get_drop zero xs i = ap (slice_get xs) (let e : i ≡ 0 + i = omega arith in e)
slice_get_drop (suc n) [] i = refl
slice_get_drop (suc n) (x ∷ xs) i =
    slice_get_drop n xs i ∙ ap (slice_get (x ∷ xs)) (let e : suc (n + i) ≡ suc n + i = omega arith in e)

taken_more : (c d s s1 s2 : ℕ) (xs xs1 xs2 : List StepRecord) → AreTaken c s s1 xs xs1 → AreTaken d s1 s2 xs1 xs2 → AreTaken (c + d) s s2 xs xs2
taken_more c d s s1 s2 xs xs1 xs2 p q =
    let e : s1 ≡ s + c = p.steps_are in
    let f : s2 ≡ s1 + d = q.steps_are in
    record { left_are = q.left_are ∙ (ap (drop d) p.left_are ∙ drop-drop d c xs); steps_are = omega (arith, e, f) }

advances_more : (i j : ℕ) (k m n : UseKnown) (xs ys xs1 ys1 xs2 ys2 : List StepRecord) → Advances i k m xs ys xs1 ys1 → Advances j m n xs1 ys1 xs2 ys2 → Advances (i + j) k n xs ys xs2 ys2
advances_more i j k m n xs ys xs1 ys1 xs2 ys2 p q =
    let e : p.count0 + p.count1 ≡ i = p.turns_are in
    let f : q.count0 + q.count1 ≡ j = q.turns_are in
    record {
      count0 = p.count0 + q.count0;
      count1 = p.count1 + q.count1;
      zero = taken_more p.count0 q.count0 k.first.steps m.first.steps n.first.steps xs xs1 xs2 p.zero q.zero;
      one = taken_more p.count1 q.count1 k.second.steps m.second.steps n.second.steps ys ys1 ys2 p.one q.one;
      turns_are = omega (arith, e, f);
    }

taken_by : (core i : ℕ) (k n : UseKnown) (xs ys xs1 ys1 : List StepRecord) → Advances i k n xs ys xs1 ys1
    → (c : ℕ) × AreTaken c (standing_in core k).steps (standing_in core n).steps (records_left core xs ys) (records_left core xs1 ys1)
taken_by zero i k n xs ys xs1 ys1 p = (p.count0, p.zero)
taken_by (suc core) i k n xs ys xs1 ys1 p = (p.count1, p.one)

shown_before : (code : ℕ → ℕ) (j : UseJudgement) (i : ℕ) (k n : UseKnown) (xs ys xs1 ys1 : List StepRecord) (first : FirstUse) → Advances i k n xs ys xs1 ys1 → IsShown code j n xs1 ys1 first → IsShown code j k xs ys first
shown_before code j i k n xs ys xs1 ys1 first p s =
    let core = first.breach.core in
    let t = taken_by core i k n xs ys xs1 ys1 p in
    let taken = t.1 in
    let e : first.breach.step ≡ (standing_in core n).steps + s.count = s.number in
    let f : (standing_in core n).steps ≡ (standing_in core k).steps + t.0 = taken.steps_are in
    record {
      found = s.found;
      core = s.core;
      count = t.0 + s.count;
      number = omega (arith, e, f);
      taken = sym (slice_get_drop t.0 (records_left core xs ys) s.count) ∙ (ap (λ (l : List StepRecord). slice_get l s.count) (sym taken.left_are) ∙ s.taken);
      lacks = s.lacks;
    }

ended_before : (code : ℕ → ℕ) (j : UseJudgement) (i : ℕ) (k n : UseKnown) (xs ys xs1 ys1 : List StepRecord) (w : Walk) (end : WalkEnd) → Advances i k n xs ys xs1 ys1 → IsEnded code j n xs1 ys1 w end → IsEnded code j k xs ys w end
ended_before code j i k n xs ys xs1 ys1 w NoRecord p e = e
ended_before code j i k n xs ys xs1 ys1 w (Shows first) p e = shown_before code j i k n xs ys xs1 ys1 first p e

-- ---- so many turns of a schedule
pub reach_none : (code : ℕ → ℕ) (w : Walk) (b0 b1 : Bounds) (k : UseKnown) (cs : List ℕ) (xs ys : List StepRecord) → Knows w b0 b1 k → constant_byte w.code ≡ code → Reaches code b0 b1 k cs xs ys w 0 xs ys
reach_none code w b0 b1 k cs xs ys h e = record {
  known = k;
  knows = h;
  advances = record {
    count0 = 0;
    count1 = 0;
    zero = record { left_are = refl; steps_are = (let z : k.first.steps ≡ k.first.steps + 0 = omega arith in z) };
    one = record { left_are = refl; steps_are = (let z : k.second.steps ≡ k.second.steps + 0 = omega arith in z) };
    turns_are = refl;
  };
  code_is = e;
  judged = refl;
}

reach_more : (code : ℕ → ℕ) (w new : Walk) (b0 b1 : Bounds) (k : UseKnown) (cs : List ℕ) (i core d : ℕ) (xs ys xs1 ys1 xs2 ys2 : List StepRecord) (u : Unit) → i < length cs → core ≡ get_or cs i d
    → (r : Reaches code b0 b1 k cs xs ys w i xs1 ys1) → IsTurned code b0 b1 core r.known xs1 ys1 new xs2 ys2 (Ok u) → Reaches code b0 b1 k cs xs ys new (i + 1) xs2 ys2
reach_more code w new b0 b1 k cs i core d xs ys xs1 ys1 xs2 ys2 u lt is r t =
    let split : drop i cs ≡ core ∷ drop (i + 1) cs = drop_more cs i d lt ∙ ap (λ (c : ℕ). c ∷ drop (i + 1) cs) (sym is) in
    record {
      known = t.0;
      knows = t.1;
      advances = advances_more i 1 k r.known t.0 xs ys xs1 ys1 xs2 ys2 r.advances t.2;
      code_is = t.3;
      judged = r.judged ∙ (ap (λ (l : List ℕ). use_judgement code b0 b1 l xs1 ys1 r.known) split ∙ t.4 (drop (i + 1) cs));
    }

reach_ends : (code : ℕ → ℕ) (w new : Walk) (b0 b1 : Bounds) (k : UseKnown) (cs : List ℕ) (i core d : ℕ) (xs ys xs1 ys1 xs2 ys2 : List StepRecord) (end : WalkEnd) → i < length cs → core ≡ get_or cs i d
    → (r : Reaches code b0 b1 k cs xs ys w i xs1 ys1) → IsTurned code b0 b1 core r.known xs1 ys1 new xs2 ys2 (Err end) → IsEnded code (use_judgement code b0 b1 cs xs ys k) k xs ys new end
reach_ends code w new b0 b1 k cs i core d xs ys xs1 ys1 xs2 ys2 end lt is r t =
    let split : drop i cs ≡ core ∷ drop (i + 1) cs = drop_more cs i d lt ∙ ap (λ (c : ℕ). c ∷ drop (i + 1) cs) (sym is) in
    let same : use_judgement code b0 b1 (core ∷ drop (i + 1) cs) xs1 ys1 r.known ≡ use_judgement code b0 b1 cs xs ys k = sym (r.judged ∙ ap (λ (l : List ℕ). use_judgement code b0 b1 l xs1 ys1 r.known) split) in
    ended_before code (use_judgement code b0 b1 cs xs ys k) i k r.known xs ys xs1 ys1 new end r.advances
    (subst (λ (j : UseJudgement). IsEnded code j r.known xs1 ys1 new end) same (t (drop (i + 1) cs)))

-- ---- by the answer of a turn
pub reach_turn : (code : ℕ → ℕ) (w new : Walk) (b0 b1 : Bounds) (k : UseKnown) (cs : List ℕ) (i core d : ℕ) (xs ys xs1 ys1 xs2 ys2 : List StepRecord) (out : Result Unit WalkEnd) (u : Unit) → out ≡ Ok u → i < length cs → core ≡ get_or cs i d
    → (r : Reaches code b0 b1 k cs xs ys w i xs1 ys1) → IsTurned (constant_byte w.code) b0 b1 core r.known xs1 ys1 new xs2 ys2 out → Reaches code b0 b1 k cs xs ys new (i + 1) xs2 ys2
reach_turn code w new b0 b1 k cs i core d xs ys xs1 ys1 xs2 ys2 out u e lt is r t =
    reach_more code w new b0 b1 k cs i core d xs ys xs1 ys1 xs2 ys2 u lt is r
    (subst (λ (f : ℕ → ℕ). IsTurned f b0 b1 core r.known xs1 ys1 new xs2 ys2 (Ok u)) r.code_is (subst (λ (x : Result Unit WalkEnd). IsTurned (constant_byte w.code) b0 b1 core r.known xs1 ys1 new xs2 ys2 x) e t))

pub reach_err : (code : ℕ → ℕ) (w new : Walk) (b0 b1 : Bounds) (k : UseKnown) (cs : List ℕ) (i core d : ℕ) (xs ys xs1 ys1 xs2 ys2 : List StepRecord) (out : Result Unit WalkEnd) (end : WalkEnd) → out ≡ Err end → i < length cs → core ≡ get_or cs i d
    → (r : Reaches code b0 b1 k cs xs ys w i xs1 ys1) → IsTurned (constant_byte w.code) b0 b1 core r.known xs1 ys1 new xs2 ys2 out → IsEnded code (use_judgement code b0 b1 cs xs ys k) k xs ys new end
reach_err code w new b0 b1 k cs i core d xs ys xs1 ys1 xs2 ys2 out end e lt is r t =
    let err : Result Unit WalkEnd = Err end in
    reach_ends code w new b0 b1 k cs i core d xs ys xs1 ys1 xs2 ys2 end lt is r
    (subst (λ (f : ℕ → ℕ). IsTurned f b0 b1 core r.known xs1 ys1 new xs2 ys2 err) r.code_is (subst (λ (x : Result Unit WalkEnd). IsTurned (constant_byte w.code) b0 b1 core r.known xs1 ys1 new xs2 ys2 x) e t))

pub reach_all : (code : ℕ → ℕ) (w : Walk) (b0 b1 : Bounds) (k : UseKnown) (cs : List ℕ) (i : ℕ) (xs ys xs1 ys1 : List StepRecord) → length cs ≤ i
    → Reaches code b0 b1 k cs xs ys w i xs1 ys1 → IsWhole (use_judgement code b0 b1 cs xs ys k) w.side0.carried w.side1.carried
reach_all code w b0 b1 k cs i xs ys xs1 ys1 le r =
    let same : record { known = r.known; breach = None } ≡ use_judgement code b0 b1 cs xs ys k = sym (r.judged ∙ ap (λ (l : List ℕ). use_judgement code b0 b1 l xs1 ys1 r.known) (drop_all i cs le)) in
    subst (λ (j : UseJudgement). IsWhole j w.side0.carried w.side1.carried) same
    (record { none = refl; counts0 = carried_known w.side0 0 b0 r.known.first r.knows.zero; counts1 = carried_known w.side1 1 b1 r.known.second r.knows.one })

pub reach_room : (code : ℕ → ℕ) (old w : Walk) (b0 b1 : Bounds) (k : UseKnown) (cs : List ℕ) (i : ℕ) (xs ys xs1 ys1 : List StepRecord) → Knows old b0 b1 k → Reaches code b0 b1 k cs xs ys w i xs1 ys1
    → i < length cs → old.side0.steps + old.side1.steps + length cs < 2 ^ 32 → w.side0.steps + w.side1.steps + 1 < 2 ^ 32
reach_room code old w b0 b1 k cs i xs ys xs1 ys1 h r lt room =
    let a = r.advances in
    let zero = a.zero in
    let one = a.one in
    let s0 : w.side0.steps ≡ r.known.first.steps = steps_known w.side0 0 b0 r.known.first r.knows.zero in
    let s1 : w.side1.steps ≡ r.known.second.steps = steps_known w.side1 1 b1 r.known.second r.knows.one in
    let t0 : r.known.first.steps ≡ k.first.steps + a.count0 = zero.steps_are in
    let t1 : r.known.second.steps ≡ k.second.steps + a.count1 = one.steps_are in
    let sum : a.count0 + a.count1 ≡ i = a.turns_are in
    let a0 : old.side0.steps ≡ k.first.steps = steps_known old.side0 0 b0 k.first h.zero in
    let a1 : old.side1.steps ≡ k.second.steps = steps_known old.side1 1 b1 k.second h.one in
    omega (arith, s0, s1, t0, t1, sum, a0, a1, lt, room)
