-- Both cores along the schedule of a run.
use Rattle.std.proofs.Common.{◌≡◌, ℕ, suc, ◌+◌, ◌<◌, ◌≤◌, ◌^◌, Option, Some, None, List, [], ◌∷◌, length, drop, take, get_or, refl, sym, ap, ap₂, subst, ◌∙◌, arith}
use Rattle.std.proofs.lemmas.List.{drop_more, drop_all}
use Rattle.xt_map.specs.Memory.{constant_byte}
use Rattle.xt_trace.specs.declared.record.StepRecord.{StepRecord}
use Rattle.xt_frames.specs.Breaches.{Bounds}
use Rattle.xt_frames.specs.Frames.{Frame, FrameState}
use Rattle.xt_frames.specs.declared.kinds.HandlerPhase.{HandlerPhase}
use Rattle.xt_frames.specs.declared.kinds.HandlerPhase.TheVariants.{Outside}
use Rattle.xt_frames.specs.HandlerSteps.{phase_after}
use Rattle.xt_frames.specs.Judging.{Standing}
use Rattle.xt_frames.specs.Verdict.{Known, Judgement, judgement}
use Rattle.xt_discipline.specs.declared.walk.Walk.{Walk}
use Rattle.xt_discipline.specs.Phases.{step_phase}
use Rattle.xt_profile.specs.declared.counting.Made.{Made}
use Rattle.xt_profile.specs.declared.tally.Tally.{Tally}
use Rattle.xt_profile.specs.Steps.{Step, frame_after, frames_standing, steps_from}
use Rattle.xt_profile.specs.CountedSteps.{IsTally, Origin}
use Rattle.xt_profile.specs.Follows.{AreCut, Follows, IsCore, IsCut, IsMade, IsPassed, IsStep}
use Rattle.xt_profile.proofs.Telling.{steps_within}

-- ---- one core
none_before : (m : ℕ) → 0 + m ≡ m
none_before m = omega arith

pub core_begins : (code : ℕ → ℕ) (f : FrameState) (xs : List StepRecord) (st : Standing) → st.phase ≡ Outside → st.frame ≡ f → f.frames ≡ [] → IsCore code f xs xs 0 st []
core_begins code f xs st phase frame none = record {
  depth_is = sym (ap (λ (g : FrameState). length g.frames) frame ∙ ap (λ (fs : List Frame). length fs) none);
  count_is = refl;
  left_is = none_before (length xs);
  steps_are = λ m. ap (λ (n : ℕ). steps_from code Outside f [] (take n xs)) (none_before m)
      ∙ ap₂ (λ (y : HandlerPhase) (g : FrameState). steps_from code y g [] (take m xs)) (sym phase) (sym frame);
}

one_later : (n m : ℕ) → suc n + m ≡ n + suc m
one_later n m = omega arith

one_gone : (n a b c : ℕ) → n + a ≡ c → a ≡ suc b → suc n + b ≡ c
one_gone n a b c e f = omega (arith, e, f)

abbrev at_step : ℕ → HandlerPhase → ℕ → ℕ → Step
at_step pc phase before after = record { pc = pc; phase = phase; before = before; after = after }

-- the step of a turn that was made past these steps
abbrev pub step_past : Made → List Step → Step
step_past made past =
    record { pc = made.pc; phase = made.phase; before = frames_standing past; after = made.after }

pub core_goes : (code : ℕ → ℕ) (f : FrameState) (xs left left2 : List StepRecord) (n : ℕ) (st new : Standing) (past : List Step) (x : StepRecord) (made : Made)
    → IsCore code f xs left n st past → IsStep code x st new left left2 made → IsCore code f xs left2 (suc n) new (step_past made past ∷ past)
core_goes code f xs left left2 n st new past x made h s =
    let m0 = step_phase st.phase x.kind in
    let g = frame_after code m0 x st.frame in
    let P : Made → Type 0 = λ y. IsCore code f xs left2 (suc n) new (step_past y past ∷ past) in
    subst P (sym s.made_is) (record {
      depth_is = refl;
      count_is = ap (λ (c : ℕ). suc c) h.count_is;
      left_is = one_gone n (length left) (length left2) (length xs) h.left_is (ap (λ (l : List StepRecord). length l) s.records_are);
      steps_are = λ m.
          ap (λ (k : ℕ). steps_from code Outside f [] (take k xs)) (one_later n m)
          ∙ (h.steps_are (suc m)
          ∙ (ap (λ (l : List StepRecord). steps_from code st.phase st.frame past (take (suc m) l)) s.records_are
          ∙ (ap (λ (d : ℕ). steps_from code (phase_after code st.phase x) g (at_step x.pc m0 d (length g.frames) ∷ past) (take m left2)) (sym h.depth_is)
          ∙ ap₂ (λ (y : HandlerPhase) (z : FrameState). steps_from code y z (at_step x.pc m0 (frames_standing past) (length z.frames) ∷ past) (take m left2)) (sym s.next.phase_is) (sym s.next.frame_is))));
    })

-- a core that makes no turn
pub core_stays : (code : ℕ → ℕ) (f : FrameState) (xs left left2 : List StepRecord) (n n2 : ℕ) (st st2 : Standing) (past : List Step) → st2 ≡ st → n2 ≡ n → left2 ≡ left
    → IsCore code f xs left n st past → IsCore code f xs left2 n2 st2 past
core_stays code f xs left left2 n n2 st st2 past s c l h =
    subst (λ (y : List StepRecord). IsCore code f xs y n2 st2 past) (sym l)
    (subst (λ (y : ℕ). IsCore code f xs left y st2 past) (sym c) (subst (λ (y : Standing). IsCore code f xs left n y past) (sym s) h))

no_more : (n : ℕ) → n + 0 ≡ n
no_more n = omega arith

within : (n a b : ℕ) → n + a ≡ b → n ≤ b
within n a b e = omega (arith, e)

core_cut : (code : ℕ → ℕ) (f : FrameState) (xs left : List StepRecord) (n : ℕ) (opening : Origin) (st : Standing) (past : List Step) (t : Tally) → IsCore code f xs left n st past → IsTally opening past t → IsCut code f xs n opening t
core_cut code f xs left n opening st past t h tally = record {
  past = past;
  count_is = h.count_is;
  within = within n (length left) (length xs) h.left_is;
  steps_are = ap (λ (k : ℕ). steps_from code Outside f [] (take k xs)) (sym (no_more n)) ∙ h.steps_are 0;
  tally = tally;
}

-- ---- both cores
abbrev Tells : Tally → Made → Tally → Type 0
Tells old made new =
    (opening : Origin) (past : List Step) → IsTally opening past old → IsTally opening (step_past made past ∷ past) new

same_code : (w : Walk) (code : ℕ → ℕ) (b0 b1 : Bounds) (core : ℕ) (k : Known) (xs ys xs2 ys2 : List StepRecord) (new : Walk) (o : Option Made) → constant_byte w.code ≡ code → IsMade (constant_byte w.code) b0 b1 core k xs ys new xs2 ys2 o
    → IsMade code b0 b1 core k xs ys new xs2 ys2 o
same_code w code b0 b1 core k xs ys xs2 ys2 new o e m = subst (λ (f : ℕ → ℕ). IsMade f b0 b1 core k xs ys new xs2 ys2 o) e m

sum_on : (n r k i : ℕ) → n ≡ suc r → r ≡ k + i → n ≡ k + (i + 1)
sum_on n r k i e f = omega (arith, e, f)

-- core 0 makes a turn
pub follows_zero : (code : ℕ → ℕ) (w new : Walk) (b0 b1 : Bounds) (k : Known) (cs : List ℕ) (e0 e1 : Origin) (i core d : ℕ) (xs ys xs1 ys1 xs2 ys2 : List StepRecord) (t0 t1 u0 : Tally) (made : Made) → core ≡ 0 → i < length cs → core ≡ get_or cs i d
    → (h : Follows code b0 b1 k cs e0 e1 xs ys w i xs1 ys1 t0 t1) → IsMade (constant_byte w.code) b0 b1 core h.reach.known xs1 ys1 new xs2 ys2 (Some made) → Tells t0 made u0 → Follows code b0 b1 k cs e0 e1 xs ys new (i + 1) xs2 ys2 u0 t1
follows_zero code w new b0 b1 k cs e0 e1 i core d xs ys xs1 ys1 xs2 ys2 t0 t1 u0 made zero_is lt is h m tells =
    let r = h.reach in
    let t = same_code w code b0 b1 core r.known xs1 ys1 xs2 ys2 new (Some made) r.code_is m in
    let n = t.0 in
    let split : drop i cs ≡ core ∷ drop (i + 1) cs = drop_more cs i d lt ∙ ap (λ (c : ℕ). c ∷ drop (i + 1) cs) (sym is) in
    let p : IsPassed 0 code r.known n made xs1 ys1 xs2 ys2 = subst (λ (c : ℕ). IsPassed c code r.known n made xs1 ys1 xs2 ys2) zero_is t.5 in
    record {
      reach = record {
        known = n;
        knows = t.1;
        steps = sum_on (n.steps0 + n.steps1) (r.known.steps0 + r.known.steps1) (k.steps0 + k.steps1) i t.2 r.steps;
        code_is = t.3;
        judged = r.judged ∙ (ap (λ (l : List ℕ). judgement code b0 b1 l xs1 ys1 r.known) split ∙ t.4 (drop (i + 1) cs));
      };
      past0 = step_past made h.past0 ∷ h.past0;
      past1 = h.past1;
      core0 = subst (λ (c : ℕ). IsCore code k.standing0.frame xs xs2 c n.standing0 (step_past made h.past0 ∷ h.past0)) (sym p.1)
          (core_goes code k.standing0.frame xs xs1 xs2 r.known.steps0 r.known.standing0 n.standing0 h.past0 p.0.0 made h.core0 p.0.1);
      core1 = core_stays code k.standing1.frame ys ys1 ys2 r.known.steps1 n.steps1 r.known.standing1 n.standing1 h.past1 p.2 p.3 p.4 h.core1;
      tally0 = tells e0 h.past0 h.tally0;
      tally1 = h.tally1;
    }

-- core 1 makes a turn
pub follows_one : (code : ℕ → ℕ) (w new : Walk) (b0 b1 : Bounds) (k : Known) (cs : List ℕ) (e0 e1 : Origin) (i core d : ℕ) (xs ys xs1 ys1 xs2 ys2 : List StepRecord) (t0 t1 u1 : Tally) (made : Made) → core ≡ 1 → i < length cs → core ≡ get_or cs i d
    → (h : Follows code b0 b1 k cs e0 e1 xs ys w i xs1 ys1 t0 t1) → IsMade (constant_byte w.code) b0 b1 core h.reach.known xs1 ys1 new xs2 ys2 (Some made) → Tells t1 made u1 → Follows code b0 b1 k cs e0 e1 xs ys new (i + 1) xs2 ys2 t0 u1
follows_one code w new b0 b1 k cs e0 e1 i core d xs ys xs1 ys1 xs2 ys2 t0 t1 u1 made one_is lt is h m tells =
    let r = h.reach in
    let t = same_code w code b0 b1 core r.known xs1 ys1 xs2 ys2 new (Some made) r.code_is m in
    let n = t.0 in
    let split : drop i cs ≡ core ∷ drop (i + 1) cs = drop_more cs i d lt ∙ ap (λ (c : ℕ). c ∷ drop (i + 1) cs) (sym is) in
    let p : IsPassed 1 code r.known n made xs1 ys1 xs2 ys2 = subst (λ (c : ℕ). IsPassed c code r.known n made xs1 ys1 xs2 ys2) one_is t.5 in
    record {
      reach = record {
        known = n;
        knows = t.1;
        steps = sum_on (n.steps0 + n.steps1) (r.known.steps0 + r.known.steps1) (k.steps0 + k.steps1) i t.2 r.steps;
        code_is = t.3;
        judged = r.judged ∙ (ap (λ (l : List ℕ). judgement code b0 b1 l xs1 ys1 r.known) split ∙ t.4 (drop (i + 1) cs));
      };
      past0 = h.past0;
      past1 = step_past made h.past1 ∷ h.past1;
      core0 = core_stays code k.standing0.frame xs xs1 xs2 r.known.steps0 n.steps0 r.known.standing0 n.standing0 h.past0 p.2 p.3 p.4 h.core0;
      core1 = subst (λ (c : ℕ). IsCore code k.standing1.frame ys ys2 c n.standing1 (step_past made h.past1 ∷ h.past1)) (sym p.1)
          (core_goes code k.standing1.frame ys ys1 ys2 r.known.steps1 r.known.standing1 n.standing1 h.past1 p.0.0 made h.core1 p.0.1);
      tally0 = h.tally0;
      tally1 = tells e1 h.past1 h.tally1;
    }

-- ---- at the cut
are_cut : (code : ℕ → ℕ) (w : Walk) (b0 b1 : Bounds) (k : Known) (cs : List ℕ) (e0 e1 : Origin) (i : ℕ) (xs ys xs1 ys1 : List StepRecord) (t0 t1 : Tally) (j : Judgement) (h : Follows code b0 b1 k cs e0 e1 xs ys w i xs1 ys1 t0 t1)
    → j.known ≡ h.reach.known → AreCut code k e0 e1 xs ys j t0 t1
are_cut code w b0 b1 k cs e0 e1 i xs ys xs1 ys1 t0 t1 j h is =
    let n = h.reach.known in
    record {
      core0 = subst (λ (y : Known). IsCut code k.standing0.frame xs y.steps0 e0 t0) (sym is) (core_cut code k.standing0.frame xs xs1 n.steps0 e0 n.standing0 h.past0 t0 h.core0 h.tally0);
      core1 = subst (λ (y : Known). IsCut code k.standing1.frame ys y.steps1 e1 t1) (sym is) (core_cut code k.standing1.frame ys ys1 n.steps1 e1 n.standing1 h.past1 t1 h.core1 h.tally1);
    }

-- no turn is left
pub all_followed : (code : ℕ → ℕ) (w : Walk) (b0 b1 : Bounds) (k : Known) (cs : List ℕ) (e0 e1 : Origin) (i : ℕ) (xs ys xs1 ys1 : List StepRecord) (t0 t1 : Tally) → length cs ≤ i
    → Follows code b0 b1 k cs e0 e1 xs ys w i xs1 ys1 t0 t1 → AreCut code k e0 e1 xs ys (judgement code b0 b1 cs xs ys k) t0 t1
all_followed code w b0 b1 k cs e0 e1 i xs ys xs1 ys1 t0 t1 le h =
    let r = h.reach in
    are_cut code w b0 b1 k cs e0 e1 i xs ys xs1 ys1 t0 t1 (judgement code b0 b1 cs xs ys k) h
    (ap (λ (j : Judgement). j.known) (r.judged ∙ ap (λ (l : List ℕ). judgement code b0 b1 l xs1 ys1 r.known) (drop_all i cs le)))

-- a breach came, or a core had no record left
pub cut_followed : (code : ℕ → ℕ) (w new : Walk) (b0 b1 : Bounds) (k : Known) (cs : List ℕ) (e0 e1 : Origin) (i core d : ℕ) (xs ys xs1 ys1 xs2 ys2 : List StepRecord) (t0 t1 : Tally) → i < length cs → core ≡ get_or cs i d
    → (h : Follows code b0 b1 k cs e0 e1 xs ys w i xs1 ys1 t0 t1) → IsMade (constant_byte w.code) b0 b1 core h.reach.known xs1 ys1 new xs2 ys2 None
    → AreCut code k e0 e1 xs ys (judgement code b0 b1 cs xs ys k) t0 t1
cut_followed code w new b0 b1 k cs e0 e1 i core d xs ys xs1 ys1 xs2 ys2 t0 t1 lt is h m =
    let r = h.reach in
    let t = same_code w code b0 b1 core r.known xs1 ys1 xs2 ys2 new None r.code_is m in
    let split : drop i cs ≡ core ∷ drop (i + 1) cs = drop_more cs i d lt ∙ ap (λ (c : ℕ). c ∷ drop (i + 1) cs) (sym is) in
    are_cut code w b0 b1 k cs e0 e1 i xs ys xs1 ys1 t0 t1 (judgement code b0 b1 cs xs ys k) h
    (ap (λ (j : Judgement). j.known) (r.judged ∙ ap (λ (l : List ℕ). judgement code b0 b1 l xs1 ys1 r.known) split) ∙ t (drop (i + 1) cs))

-- ---- numbers of turns fit
room_is : (a b p q s t k l i n : ℕ) → a ≡ p → b ≡ q → p + q ≡ k + l + 0 → s + t ≡ k + l + i → i < n → a + b + n < 2 ^ 32 → s + t + 1 < 2 ^ 32
room_is a b p q s t k l i n e f g h lt room = omega (arith, e, f, g, h, lt, room)

known_room : (code : ℕ → ℕ) (old w : Walk) (b0 b1 : Bounds) (k : Known) (cs : List ℕ) (e0 e1 : Origin) (i : ℕ) (xs ys xs1 ys1 : List StepRecord) (s0 s1 t0 t1 : Tally) → Follows code b0 b1 k cs e0 e1 xs ys old 0 xs ys s0 s1
    → (h : Follows code b0 b1 k cs e0 e1 xs ys w i xs1 ys1 t0 t1) → i < length cs → old.side0.steps + old.side1.steps + length cs < 2 ^ 32 → h.reach.known.steps0 + h.reach.known.steps1 + 1 < 2 ^ 32
known_room code old w b0 b1 k cs e0 e1 i xs ys xs1 ys1 s0 s1 t0 t1 h0 h lt room =
    let n0 = h0.reach.known in
    let n = h.reach.known in
    room_is old.side0.steps old.side1.steps n0.steps0 n0.steps1 n.steps0 n.steps1 k.steps0 k.steps1 i (length cs) h0.reach.knows.zero.steps_are h0.reach.knows.one.steps_are h0.reach.steps h.reach.steps lt room

both_are : (a b s t : ℕ) → a ≡ s → b ≡ t → s + t + 1 < 2 ^ 32 → a + b + 1 < 2 ^ 32
both_are a b s t e f h = omega (arith, e, f, h)

pub walk_room : (code : ℕ → ℕ) (old w : Walk) (b0 b1 : Bounds) (k : Known) (cs : List ℕ) (e0 e1 : Origin) (i : ℕ) (xs ys xs1 ys1 : List StepRecord) (s0 s1 t0 t1 : Tally) → Follows code b0 b1 k cs e0 e1 xs ys old 0 xs ys s0 s1
    → Follows code b0 b1 k cs e0 e1 xs ys w i xs1 ys1 t0 t1 → i < length cs → old.side0.steps + old.side1.steps + length cs < 2 ^ 32 → w.side0.steps + w.side1.steps + 1 < 2 ^ 32
walk_room code old w b0 b1 k cs e0 e1 i xs ys xs1 ys1 s0 s1 t0 t1 h0 h lt room =
    both_are w.side0.steps w.side1.steps h.reach.known.steps0 h.reach.known.steps1 h.reach.knows.zero.steps_are h.reach.knows.one.steps_are (known_room code old w b0 b1 k cs e0 e1 i xs ys xs1 ys1 s0 s1 t0 t1 h0 h lt room)

first_is : (u p s t : ℕ) → u ≤ p → p ≡ s → s + t + 1 < 2 ^ 32 → u + 1 < 2 ^ 32
first_is u p s t e f h = omega (arith, e, f, h)

second_is : (u p s t : ℕ) → u ≤ p → p ≡ t → s + t + 1 < 2 ^ 32 → u + 1 < 2 ^ 32
second_is u p s t e f h = omega (arith, e, f, h)

pub tally0_room : (code : ℕ → ℕ) (old w : Walk) (b0 b1 : Bounds) (k : Known) (cs : List ℕ) (e0 e1 : Origin) (i : ℕ) (xs ys xs1 ys1 : List StepRecord) (s0 s1 t0 t1 : Tally) → Follows code b0 b1 k cs e0 e1 xs ys old 0 xs ys s0 s1
    → Follows code b0 b1 k cs e0 e1 xs ys w i xs1 ys1 t0 t1 → i < length cs → old.side0.steps + old.side1.steps + length cs < 2 ^ 32 → t0.steps + 1 < 2 ^ 32
tally0_room code old w b0 b1 k cs e0 e1 i xs ys xs1 ys1 s0 s1 t0 t1 h0 h lt room =
    first_is t0.steps (length h.past0) h.reach.known.steps0 h.reach.known.steps1 (steps_within e0 h.past0 t0 h.tally0.counted) h.core0.count_is (known_room code old w b0 b1 k cs e0 e1 i xs ys xs1 ys1 s0 s1 t0 t1 h0 h lt room)

pub tally1_room : (code : ℕ → ℕ) (old w : Walk) (b0 b1 : Bounds) (k : Known) (cs : List ℕ) (e0 e1 : Origin) (i : ℕ) (xs ys xs1 ys1 : List StepRecord) (s0 s1 t0 t1 : Tally) → Follows code b0 b1 k cs e0 e1 xs ys old 0 xs ys s0 s1
    → Follows code b0 b1 k cs e0 e1 xs ys w i xs1 ys1 t0 t1 → i < length cs → old.side0.steps + old.side1.steps + length cs < 2 ^ 32 → t1.steps + 1 < 2 ^ 32
tally1_room code old w b0 b1 k cs e0 e1 i xs ys xs1 ys1 s0 s1 t0 t1 h0 h lt room =
    second_is t1.steps (length h.past1) h.reach.known.steps0 h.reach.known.steps1 (steps_within e1 h.past1 t1 h.tally1.counted) h.core1.count_is (known_room code old w b0 b1 k cs e0 e1 i xs ys xs1 ys1 s0 s1 t0 t1 h0 h lt room)

-- ---- as the code finds it
pub followed_zero : (code : ℕ → ℕ) (w new : Walk) (b0 b1 : Bounds) (k : Known) (cs : List ℕ) (e0 e1 : Origin) (i core : ℕ) (xs ys xs1 ys1 xs2 ys2 : List StepRecord) (t0 t1 u0 : Tally) (made : Made) (out : Option Made) → core ≡ 0 → i < length cs → core ≡ get_or cs i core
    → (h : Follows code b0 b1 k cs e0 e1 xs ys w i xs1 ys1 t0 t1) → out ≡ Some made → IsMade (constant_byte w.code) b0 b1 core h.reach.known xs1 ys1 new xs2 ys2 out → Tells t0 made u0 → Follows code b0 b1 k cs e0 e1 xs ys new (i + 1) xs2 ys2 u0 t1
followed_zero code w new b0 b1 k cs e0 e1 i core xs ys xs1 ys1 xs2 ys2 t0 t1 u0 made out zero_is lt is h some m tells =
    follows_zero code w new b0 b1 k cs e0 e1 i core core xs ys xs1 ys1 xs2 ys2 t0 t1 u0 made zero_is lt is h (subst (λ (o : Option Made). IsMade (constant_byte w.code) b0 b1 core h.reach.known xs1 ys1 new xs2 ys2 o) some m) tells

pub followed_one : (code : ℕ → ℕ) (w new : Walk) (b0 b1 : Bounds) (k : Known) (cs : List ℕ) (e0 e1 : Origin) (i core : ℕ) (xs ys xs1 ys1 xs2 ys2 : List StepRecord) (t0 t1 u1 : Tally) (made : Made) (out : Option Made) → core ≡ 1 → i < length cs → core ≡ get_or cs i core
    → (h : Follows code b0 b1 k cs e0 e1 xs ys w i xs1 ys1 t0 t1) → out ≡ Some made → IsMade (constant_byte w.code) b0 b1 core h.reach.known xs1 ys1 new xs2 ys2 out → Tells t1 made u1 → Follows code b0 b1 k cs e0 e1 xs ys new (i + 1) xs2 ys2 t0 u1
followed_one code w new b0 b1 k cs e0 e1 i core xs ys xs1 ys1 xs2 ys2 t0 t1 u1 made out one_is lt is h some m tells =
    follows_one code w new b0 b1 k cs e0 e1 i core core xs ys xs1 ys1 xs2 ys2 t0 t1 u1 made one_is lt is h (subst (λ (o : Option Made). IsMade (constant_byte w.code) b0 b1 core h.reach.known xs1 ys1 new xs2 ys2 o) some m) tells

pub followed_cut : (code : ℕ → ℕ) (w new : Walk) (b0 b1 : Bounds) (k : Known) (cs : List ℕ) (e0 e1 : Origin) (i core : ℕ) (xs ys xs1 ys1 xs2 ys2 : List StepRecord) (t0 t1 : Tally) (out : Option Made) → i < length cs → core ≡ get_or cs i core
    → (h : Follows code b0 b1 k cs e0 e1 xs ys w i xs1 ys1 t0 t1) → out ≡ None → IsMade (constant_byte w.code) b0 b1 core h.reach.known xs1 ys1 new xs2 ys2 out
    → AreCut code k e0 e1 xs ys (judgement code b0 b1 cs xs ys k) t0 t1
followed_cut code w new b0 b1 k cs e0 e1 i core xs ys xs1 ys1 xs2 ys2 t0 t1 out lt is h none m =
    cut_followed code w new b0 b1 k cs e0 e1 i core core xs ys xs1 ys1 xs2 ys2 t0 t1 lt is h (subst (λ (o : Option Made). IsMade (constant_byte w.code) b0 b1 core h.reach.known xs1 ys1 new xs2 ys2 o) none m)
