-- Where the walk of the judge ends: before the first breach, or after all turns.
use Rattle.std.proofs.Common.{◌≡◌, ℕ, zero, suc, ◌+◌, Bool, true, false, ◌==◌, if◌then◌else◌, List, [], ◌∷◌, Option, Some, None, inl, inr, ⊎_elim, ◌⊎◌, length, take, slice_get, refl, sym, ap, subst, ◌∙◌, arith}
use Rattle.std.proofs.lemmas.Bool.{cond-true, eq-eqb}
use Rattle.std.proofs.lemmas.Option.{none-some, same_Some}
use Rattle.std.proofs.Math.Seq.{take-length}
use Rattle.xt_trace.specs.declared.record.StepRecord.{StepRecord}
use Rattle.xt_trace.specs.declared.run.Run.{Run}
use Rattle.xt_trace.specs.Chip.{Chip}
use Rattle.xt_trace.specs.Runs as runs
use Rattle.xt_trace.specs.Schedule.{cores_of, schedule}
use Rattle.xt_trace.specs.Walks.{IsWalk}
use Rattle.xt_trace.specs.Worlds.{World, give}
use Rattle.xt_trace.proofs.Walks.{own_walk}
use Rattle.xt_exec.specs.Chips.{processor}
use Rattle.xt_exec.specs.State.{State}
use Rattle.xt_image.specs.declared.image.Image.{Image}
use Rattle.xt_frames.specs.declared.kinds.Breach.{Breach}
use Rattle.xt_frames.specs.Breaches.{Bounds}
use Rattle.xt_frames.specs.Judging.{Breaks, Handled, Judges, Seen}
use Rattle.xt_frames.specs.Verdict.{Judgement, Known, judgement, opening_known, passed_0, passed_1, past_handled_0, past_handled_1, past_judged_0, past_judged_1, seen_0, seen_1}
use Rattle.xt_frames.specs.FirstBreach.{Course, IsFirstBreach, IsJudgement, Turn, records_before, records_of, turn_of, turns}
use Rattle.xt_frames.proofs.FirstBreach.{walk_finds}
use Rattle.xt_frames.proofs.OneBreach.{is_one}
use Rattle.xt_discipline.specs.Verdicts.{course_of, judgement_of, opened0, opened1}
use Rattle.xt_discipline.specs.Schedules.{schedule_in}
use Rattle.xt_core.specs.Runs as cores
use Rattle.xt_core.specs.Runs.{IsRunOf, code_of, opening_of}
use Rattle.xt_profile.specs.ProfileLaws.{IsOnlyEnd, ProfileEndsAtFirstBreach, WithoutBreachAllIsCounted}
use Rattle.xt_profile.specs.Profiled.{count_before_cut, end_of, records, turns_seen}

-- ---- what the walk has gone through

-- turn n of these is of this core, and its record has this number
record IsStop (ts : List Turn) (n core number : ℕ) (b : Breach) : Type 0 where
  core_is : b.core ≡ core
  rec : StepRecord
  turn : slice_get ts n ≡ Some (turn_of core rec)
  number_is : b.step ≡ number

abbrev Ends : List Turn → ℕ → ℕ → ℕ → Option Breach → Type 0
Ends ts n a b None = n ≡ length ts
Ends ts n a b (Some breach) = IsStop ts n 0 a breach ⊎ IsStop ts n 1 b breach

-- the first n of these turns, of which each core has so many, and past which the walk has ended
record Went (a b : ℕ) (ts : List Turn) (j : Judgement) : Type 0 where
  n : ℕ
  steps0 : j.known.steps0 ≡ a + length (records_of 0 (take n ts))
  steps1 : j.known.steps1 ≡ b + length (records_of 1 (take n ts))
  sum : turns_seen j.known ≡ a + b + n
  ends : Ends ts n j.known.steps0 j.known.steps1 j.breach

stays : (a : ℕ) → a ≡ a + 0
stays a = omega arith

more : (s a c l : ℕ) → s ≡ c + l → c ≡ suc a → s ≡ a + suc l
more s a c l e f = omega (arith, e, f)

as_is : (s a c l : ℕ) → s ≡ c + l → c ≡ a → s ≡ a + l
as_is s a c l e f = omega (arith, e, f)

more_sum : (s a b c d n : ℕ) → s ≡ c + d + n → c + d ≡ suc (a + b) → s ≡ a + b + suc n
more_sum s a b c d n e f = omega (arith, e, f)

one_first : (a b c d : ℕ) → c ≡ suc a → d ≡ b → c + d ≡ suc (a + b)
one_first a b c d e f = omega (arith, e, f)

one_second : (a b c d : ℕ) → c ≡ a → d ≡ suc b → c + d ≡ suc (a + b)
one_second a b c d e f = omega (arith, e, f)

stop_more : (ts : List Turn) (t : Turn) (n core number : ℕ) (b : Breach) → IsStop ts n core number b → IsStop (t ∷ ts) (suc n) core number b
stop_more ts t n core number b s = record { core_is = s.core_is; rec = s.rec; turn = s.turn; number_is = s.number_is }

ends_more : (ts : List Turn) (t : Turn) (n a b : ℕ) (o : Option Breach) → Ends ts n a b o → Ends (t ∷ ts) (suc n) a b o
ends_more ts t n a b None e = ap (λ (m : ℕ). suc m) e
ends_more ts t n a b (Some x) e = ⊎_elim (λ s. inl (stop_more ts t n 0 a x s)) (λ s. inr (stop_more ts t n 1 b x s)) e

went_none : (k : Known) (ts : List Turn) (o : Option Breach) → Ends ts 0 k.steps0 k.steps1 o → Went k.steps0 k.steps1 ts (record { known = k; breach = o })
went_none k ts o e = record { n = 0; steps0 = stays k.steps0; steps1 = stays k.steps1; sum = stays (k.steps0 + k.steps1); ends = e }

more_0 : (a b c d : ℕ) (x : StepRecord) (ts : List Turn) (j : Judgement) → c ≡ suc a → d ≡ b → Went c d ts j → Went a b (turn_of 0 x ∷ ts) j
more_0 a b c d x ts j e f w = record {
  n = suc w.n;
  steps0 = more j.known.steps0 a c (length (records_of 0 (take w.n ts))) w.steps0 e;
  steps1 = as_is j.known.steps1 b d (length (records_of 1 (take w.n ts))) w.steps1 f;
  sum = more_sum (turns_seen j.known) a b c d w.n w.sum (one_first a b c d e f);
  ends = ends_more ts (turn_of 0 x) w.n j.known.steps0 j.known.steps1 j.breach w.ends;
}

more_1 : (a b c d : ℕ) (y : StepRecord) (ts : List Turn) (j : Judgement) → c ≡ a → d ≡ suc b → Went c d ts j → Went a b (turn_of 1 y ∷ ts) j
more_1 a b c d y ts j e f w = record {
  n = suc w.n;
  steps0 = as_is j.known.steps0 a c (length (records_of 0 (take w.n ts))) w.steps0 e;
  steps1 = more j.known.steps1 b d (length (records_of 1 (take w.n ts))) w.steps1 f;
  sum = more_sum (turns_seen j.known) a b c d w.n w.sum (one_second a b c d e f);
  ends = ends_more ts (turn_of 1 y) w.n j.known.steps0 j.known.steps1 j.breach w.ends;
}

went_0 : (s : Seen) (k : Known) (x : StepRecord) (ts : List Turn) (rest : Known → Judgement) → ((n : Known) → Went n.steps0 n.steps1 ts (rest n)) → Went k.steps0 k.steps1 (turn_of 0 x ∷ ts) (passed_0 s k x rest)
went_0 (Handled st) k x ts rest h = more_0 k.steps0 k.steps1 (suc k.steps0) k.steps1 x ts (rest (past_handled_0 st k)) refl refl (h (past_handled_0 st k))
went_0 (Judges st stale) k x ts rest h = more_0 k.steps0 k.steps1 (suc k.steps0) k.steps1 x ts (rest (past_judged_0 st stale x k)) refl refl (h (past_judged_0 st stale x k))
went_0 (Breaks kind) k x ts rest h = went_none k (turn_of 0 x ∷ ts) (Some (record { core = 0; step = k.steps0; kind = kind })) (inl (record { core_is = refl; rec = x; turn = refl; number_is = refl }))

went_1 : (s : Seen) (k : Known) (y : StepRecord) (ts : List Turn) (rest : Known → Judgement) → ((n : Known) → Went n.steps0 n.steps1 ts (rest n)) → Went k.steps0 k.steps1 (turn_of 1 y ∷ ts) (passed_1 s k y rest)
went_1 (Handled st) k y ts rest h = more_1 k.steps0 k.steps1 k.steps0 (suc k.steps1) y ts (rest (past_handled_1 st k)) refl refl (h (past_handled_1 st k))
went_1 (Judges st stale) k y ts rest h = more_1 k.steps0 k.steps1 k.steps0 (suc k.steps1) y ts (rest (past_judged_1 st stale y k)) refl refl (h (past_judged_1 st stale y k))
went_1 (Breaks kind) k y ts rest h = went_none k (turn_of 1 y ∷ ts) (Some (record { core = 1; step = k.steps1; kind = kind })) (inr (record { core_is = refl; rec = y; turn = refl; number_is = refl }))

went : (code : ℕ → ℕ) (b0 b1 : Bounds) (cores : List ℕ) (xs ys : List StepRecord) (k : Known) → Went k.steps0 k.steps1 (turns cores xs ys) (judgement code b0 b1 cores xs ys k)
went code b0 b1 [] xs ys k = went_none k [] None refl
went code b0 b1 (zero ∷ cores) [] ys k = went_none k [] None refl
went code b0 b1 (zero ∷ cores) (x ∷ xs) ys k =
    went_0 (seen_0 code b0 b1 k x) k x (turns cores xs ys) (λ n. judgement code b0 b1 cores xs ys n) (λ n. went code b0 b1 cores xs ys n)
went code b0 b1 (suc core ∷ cores) xs [] k = went_none k [] None refl
went code b0 b1 (suc core ∷ cores) xs (y ∷ ys) k =
    went_1 (seen_1 code b0 b1 k y) k y (turns cores xs ys) (λ n. judgement code b0 b1 cores xs ys n) (λ n. went code b0 b1 cores xs ys n)

-- ---- a turn is known by its core and the number of its record
some_before : (core : ℕ) (t : Turn) (x : StepRecord) (ts : List Turn) → t ≡ turn_of core x → 0 ≡ length (records_of core (t ∷ ts)) → ⊥
some_before core t x ts is e =
    let own : (t.core == core) ≡ true = eq-eqb t.core core (ap (λ (u : Turn). u.core) is) in
    let count : length (records_of core (t ∷ ts)) ≡ suc (length (records_of core ts)) = ap (λ (l : List StepRecord). length l) (cond-true (t.core == core) (t.rec ∷ records_of core ts) (records_of core ts) own) in
    omega (arith, e, count)

same_past : (b : Bool) (x : StepRecord) (ms ns : List StepRecord) → length (if b then x ∷ ms else ms) ≡ length (if b then x ∷ ns else ns) → length ms ≡ length ns
same_past true x ms ns e = omega (arith, e)
same_past false x ms ns e = e

one_place : (ts : List Turn) (core p q : ℕ) (x y : StepRecord) → slice_get ts p ≡ Some (turn_of core x) → slice_get ts q ≡ Some (turn_of core y)
    → length (records_of core (take p ts)) ≡ length (records_of core (take q ts)) → p ≡ q
one_place [] core p q x y a b e = absurd (none-some (turn_of core x) a)
one_place (t ∷ ts) core zero zero x y a b e = refl
one_place (t ∷ ts) core zero (suc q) x y a b e = absurd (some_before core t x (take q ts) (same_Some t (turn_of core x) a) e)
one_place (t ∷ ts) core (suc p) zero x y a b e = absurd (some_before core t y (take p ts) (same_Some t (turn_of core y) b) (sym e))
one_place (t ∷ ts) core (suc p) (suc q) x y a b e =
    ap (λ (m : ℕ). suc m) (one_place ts core p q x y a b (same_past (t.core == core) t.rec (records_of core (take p ts)) (records_of core (take q ts)) e))

-- ---- the walk ends at the first breach
before_is : (c : Course) (core p : ℕ) → length (records_before c core p) ≡ length (records_of core (take p c.turns))
unfolding records_before
before_is c core p = refl

stop_is : (c : Course) (p n core number : ℕ) (b : Breach) → IsFirstBreach c p (Some b) → IsStop c.turns n core number b → number ≡ length (records_of core (take n c.turns)) → p ≡ n
stop_is c p n core number b h s e =
    let there : slice_get c.turns p ≡ Some (turn_of core h.here.rec) = subst (λ (m : ℕ). slice_get c.turns p ≡ Some (turn_of m h.here.rec)) s.core_is h.here.turn in
    let before : length (records_before c b.core p) ≡ length (records_of core (take p c.turns)) = before_is c b.core p ∙ ap (λ (m : ℕ). length (records_of m (take p c.turns))) s.core_is in
    one_place c.turns core p n h.here.rec s.rec there s.turn (sym before ∙ (sym h.here.number ∙ (s.number_is ∙ e)))

end_is : (c : Course) (p n a b : ℕ) (o : Option Breach) → IsFirstBreach c p o → Ends c.turns n a b o → a ≡ length (records_of 0 (take n c.turns)) → b ≡ length (records_of 1 (take n c.turns)) → p ≡ n
end_is c p n a b None h e f g = h.here ∙ sym e
end_is c p n a b (Some x) h e f g = ⊎_elim (λ s. stop_is c p n 0 a x h s f) (λ s. stop_is c p n 1 b x h s g) e

from_none : (s l : ℕ) → s ≡ 0 + l → s ≡ l
from_none s l e = omega (arith, e)

none_sum : (s n : ℕ) → s ≡ 0 + 0 + n → s ≡ n
none_sum s n e = omega (arith, e)

module _ (c : Course) (j : Judgement) (w : Went 0 0 c.turns j) (found : IsJudgement c j) where
  all_seen : turns_seen j.known ≡ w.n
  all_seen = none_sum (turns_seen j.known) w.n w.sum

  seen_0_in : j.known.steps0 ≡ length (records_of 0 (take w.n c.turns))
  seen_0_in = from_none j.known.steps0 (length (records_of 0 (take w.n c.turns))) w.steps0

  seen_1_in : j.known.steps1 ≡ length (records_of 1 (take w.n c.turns))
  seen_1_in = from_none j.known.steps1 (length (records_of 1 (take w.n c.turns))) w.steps1

  end_here : (q : ℕ) → IsFirstBreach c q j.breach → q ≡ turns_seen j.known
  end_here q h = end_is c q w.n j.known.steps0 j.known.steps1 j.breach h w.ends seen_0_in seen_1_in ∙ sym all_seen

  first_here : IsFirstBreach c (turns_seen j.known) j.breach
  first_here = subst (λ (q : ℕ). IsFirstBreach c q j.breach) (end_here found.place found.first) found.first

  only_end : IsOnlyEnd c (turns_seen j.known)
  only_end = record {
    found = j.breach;
    first = first_here;
    only = λ q other h. end_here q (subst (λ (o : Option Breach). IsFirstBreach c q o) (is_one c q (turns_seen j.known) other j.breach h first_here) h);
  }

  seen0_is : j.known.steps0 ≡ length (records_before c 0 (turns_seen j.known))
  seen0_is = seen_0_in ∙ (ap (λ (m : ℕ). length (records_of 0 (take m c.turns))) (sym all_seen) ∙ sym (before_is c 0 (turns_seen j.known)))

  seen1_is : j.known.steps1 ≡ length (records_before c 1 (turns_seen j.known))
  seen1_is = seen_1_in ∙ (ap (λ (m : ℕ). length (records_of 1 (take m c.turns))) (sym all_seen) ∙ sym (before_is c 1 (turns_seen j.known)))

-- ---- of a run of an image
module _ (image : Image) (r : Run) where
  abbrev opening : Known
  opening = opening_known (opened0 image r.options).state (opened1 r.options).state

  abbrev judged : Judgement
  judged = judgement_of image r

  went_here : Went 0 0 (course_of image r).turns judged
  went_here = went (code_of image) (opened0 image r.options).bounds (opened1 r.options).bounds (schedule_in r) (records 0 image r) (records 1 image r) opening

  found_here : IsJudgement (course_of image r) judged
  found_here = walk_finds (code_of image) (opened0 image r.options).bounds (opened1 r.options).bounds (schedule_in r) (records 0 image r) (records 1 image r) (opened0 image r.options).state (opened1 r.options).state

  pub cut0_is : judged.known.steps0 ≡ count_before_cut 0 image r
  cut0_is = seen0_is (course_of image r) judged went_here found_here

  pub cut1_is : judged.known.steps1 ≡ count_before_cut 1 image r
  cut1_is = seen1_is (course_of image r) judged went_here found_here

pub ends_at_first : ProfileEndsAtFirstBreach
ends_at_first image r = only_end (course_of image r) (judged image r) (went_here image r) (found_here image r)

-- ---- without a breach
walk_all : {S : Type 0} (P : Chip S) (cs : List ℕ) (w : World S) (xs ys : List StepRecord) → IsWalk P cs w xs ys
    → (length (records_of 0 (turns cs xs ys)) ≡ length xs) × (length (records_of 1 (turns cs xs ys)) ≡ length ys)
walk_all P [] w xs ys h = (sym (ap (λ (l : List StepRecord). length l) h.0), sym (ap (λ (l : List StepRecord). length l) h.1))
walk_all P (zero ∷ cs) w xs ys h =
    let n = walk_all P cs (give P 0 w) h.0 ys h.3 in
    let C : List StepRecord → Type 0 = λ l. (length (records_of 0 (turns (0 ∷ cs) l ys)) ≡ length l) × (length (records_of 1 (turns (0 ∷ cs) l ys)) ≡ length ys) in
    subst C (sym h.1) (ap (λ (m : ℕ). suc m) n.0, n.1)
walk_all P (suc c ∷ cs) w xs ys h =
    let n = walk_all P cs (give P 1 w) xs h.0 h.3 in
    let C : List StepRecord → Type 0 = λ l. (length (records_of 0 (turns (suc c ∷ cs) xs l)) ≡ length xs) × (length (records_of 1 (turns (suc c ∷ cs) xs l)) ≡ length l) in
    subst C (sym h.1) (n.0, ap (λ (m : ℕ). suc m) n.1)

module _ (image : Image) (r : Run) (run : IsRunOf image r) where
  abbrev whole : runs.Run State
  whole = record { history = r.history; trace0 = cores.records_of 0 image r; trace1 = cores.records_of 1 image r }

  schedule_is : runs.schedule_of whole ≡ schedule_in r
  schedule_is = λ i. schedule (cores_of r.history) (sym run.trace0.places_are i) (sym run.trace0.count_is i) (sym run.trace1.places_are i) (sym run.trace1.count_is i)

  all_turns : (length (records_of 0 (course_of image r).turns) ≡ length (records 0 image r)) × (length (records_of 1 (course_of image r).turns) ≡ length (records 1 image r))
  all_turns =
      let P = processor (code_of image) in
      let o = opening_of image r.options in
      let is : runs.IsRunOf P o whole = record { legal = run.legal; cores = run.cores; trace0 = refl; trace1 = refl; calls0 = run.calls0; calls1 = run.calls1 } in
      walk_all P (schedule_in r) (runs.world_at_start o) (records 0 image r) (records 1 image r)
      (subst (λ (cs : List ℕ). IsWalk P cs (runs.world_at_start o) (records 0 image r) (records 1 image r)) schedule_is (own_walk P o whole is))

  before_all : (core p : ℕ) → IsFirstBreach (course_of image r) p None → count_before_cut core image r ≡ length (records_of core (course_of image r).turns)
  before_all core p h =
      let c = course_of image r in
      let there : end_of image r ≡ length c.turns = sym ((ends_at_first image r).only p None h) ∙ h.here in
      before_is c core (end_of image r) ∙ (ap (λ (n : ℕ). length (records_of core (take n c.turns))) there ∙ ap (λ (ts : List Turn). length (records_of core ts)) (take-length c.turns))

pub all_counted : WithoutBreachAllIsCounted
all_counted image r p run h =
    let all = all_turns image r run in
    (before_all image r run 0 p h ∙ all.0, before_all image r run 1 p h ∙ all.1)
