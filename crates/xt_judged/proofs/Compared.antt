-- A judge with another SCOMPARE1, where it is dead, sees the same.
use Rattle.std.proofs.Common.{◌≡◌, ℕ, Bool, true, false, cond, ◌⊎◌, inl, inr, Option, Some, None, List, slice_set, refl, sym, ap, ◌∙◌, subst, ⊎_elim}
use Rattle.std.proofs.lemmas.Bool.{true≢false}
use Rattle.xt_map.specs.Fetching.{Fetched, Fetches, Fails, SpellsNothing, fetch_at}
use Rattle.xt_trace.specs.declared.record.StepRecord.{StepRecord}
use Rattle.xt_frames.specs.declared.kinds.BreachKind.{BreachKind}
use Rattle.xt_frames.specs.declared.kinds.HandlerPhase.{HandlerPhase}
use Rattle.xt_frames.specs.declared.kinds.HandlerPhase.TheVariants.{InHandler, Nested, Outside}
use Rattle.xt_frames.specs.declared.holes.Nested as holes
use Rattle.xt_frames.specs.Frames.{FrameState}
use Rattle.xt_frames.specs.FrameStep.{FrameTurn, with_inputs}
use Rattle.xt_frames.specs.Nesting.{current, current_in}
use Rattle.xt_frames.specs.Breaches.{Bounds, breach_of, inputs_of, window_breach}
use Rattle.xt_frames.specs.HandlerSteps.{is_window}
use Rattle.xt_frames.specs.Judging.{Standing, Seen, Handled, Judges, Breaks, handled_record, live_of, seen_in, seen_judged, seen_record, seen_step, seen_window, step_on}
use Rattle.xt_timeless.specs.Time.{fetches_compare}
use Rattle.xt_timeless.specs.Alike.{Compare, fetches_difference}
use Rattle.xt_timeless.proofs.Comparing.{alike_compare}
use Rattle.xt_timeless.proofs.Keeping.{with_special}
use Rattle.xt_timeless.proofs.Lists.{alike_refl, alike_sym, alike_trans}
use Rattle.xt_outcomes.specs.Dead.{dead_at, has_compare}
use Rattle.xt_judged.specs.Forgotten.{IsOtherJudge, IsOtherStanding, IsOuter}
use Rattle.xt_frames.specs.SaveAreas.{Range}
use Rattle.xt_judged.specs.OwnJudges.{Judge, comes_to, goes, is_within, judge_past, judge_seen, with_known}
use Rattle.xt_judged.specs.declared.watched.Fate.TheVariants as fate
use Rattle.xt_judged.proofs.Stepping.{unlike_special}
use Rattle.xt_judged.proofs.Sight.{IsKeptSeen, seen_alike}
use Rattle.xt_judged.proofs.Written.{IsWriting, on_written}

-- ---- what stands for another

abbrev pub IsOtherSeen : List ℕ → Seen → Seen → Type 0
IsOtherSeen ms (Handled s) (Handled t) = IsOtherStanding ms s t
IsOtherSeen ms (Judges s x) (Judges t y) = IsOtherStanding ms s t × (x ≡ y)
IsOtherSeen ms (Breaks k) (Breaks l) = k ≡ l
IsOtherSeen ms _ _ = ⊥

-- SCOMPARE1 is dead where the frame is after a step that is seen
abbrev pub IsDeadSeen : List ℕ → Seen → Type 0
IsDeadSeen ms (Handled s) = Unit {0}
IsDeadSeen ms (Judges s x) = has_compare (dead_at ms s.frame.control.pc) ≡ true
IsDeadSeen ms (Breaks kind) = Unit {0}

-- what is live is the same
abbrev IsSameLive : List ℕ → Seen → Seen → Type 0
IsSameLive ms (Handled s) (Handled t) = has_compare (dead_at ms s.frame.control.pc) ≡ false → s.frame ≡ t.frame
IsSameLive ms (Judges s x) (Judges t y) = has_compare (dead_at ms s.frame.control.pc) ≡ false → s.frame ≡ t.frame
IsSameLive ms _ _ = Unit {0}

from_parts : (ms : List ℕ) (x y : Seen) → IsKeptSeen Compare x y → IsSameLive ms x y → IsOtherSeen ms x y
from_parts ms (Handled s) (Handled t) k l = record { frame = k.frame; live = l; fresh = k.fresh; phase = k.phase }
from_parts ms (Judges s x) (Judges t y) k l = (record { frame = k.0.frame; live = l; fresh = k.0.fresh; phase = k.0.phase }, k.1)
from_parts ms (Breaks k) (Breaks l) e x = e
from_parts ms (Handled s) (Judges t y) k l = absurd k
from_parts ms (Handled s) (Breaks t) k l = absurd k
from_parts ms (Judges s x) (Handled t) k l = absurd k
from_parts ms (Judges s x) (Breaks t) k l = absurd k
from_parts ms (Breaks s) (Handled t) k l = absurd k
from_parts ms (Breaks s) (Judges t y) k l = absurd k

pub standing_itself : (ms : List ℕ) (s : Standing) → IsOtherStanding ms s s
standing_itself ms s = record {
  frame = record { list = s.frame.control.special; alike = alike_refl s.frame.control.special; is = refl };
  live = λ e. refl;
  fresh = refl;
  phase = refl;
}

seen_itself : (ms : List ℕ) (x : Seen) → IsOtherSeen ms x x
seen_itself ms (Handled s) = standing_itself ms s
seen_itself ms (Judges s x) = (standing_itself ms s, refl)
seen_itself ms (Breaks k) = refl

-- ---- one record

module _ (code : ℕ → ℕ) (ms : List ℕ) (b : Bounds) (s t : Standing) (h : IsOtherStanding ms s t) (others stale : ℕ → Bool) (rec : StepRecord) (plain : s.frame.nested ≡ None)
    (unread : has_compare (dead_at ms s.frame.control.pc) ≡ true → fetches_compare (fetch_at code s.frame.control.pc) ≡ false) where
  abbrev f : FrameState
  f = s.frame

  abbrev g : FrameState
  g = t.frame

  after_live : IsWriting code rec f ⊎ (has_compare (dead_at ms (step_on code false rec f).after.control.pc) ≡ true) → has_compare (dead_at ms (step_on code false rec f).after.control.pc) ≡ false
      → (step_on code false rec f).after ≡ (step_on code false rec g).after
  after_live later e =
      ⊎_elim
      (λ (w : IsWriting code rec f). sym (ap (λ (u : FrameTurn). u.after) (ap (step_on code false rec) h.frame.is ∙ on_written code rec f h.frame.list h.frame.alike plain w)))
      (λ (d : has_compare (dead_at ms (step_on code false rec f).after.control.pc) ≡ true). absurd (true≢false (sym d ∙ e)))
      later

  step_live : (x y : Option BreachKind) → IsWriting code rec f ⊎ IsDeadSeen ms (seen_step x code b s others stale false rec)
      → IsSameLive ms (seen_step x code b s others stale false rec) (seen_step y code b t others stale false rec)
  step_live None None later = after_live later
  step_live None (Some kind) later = tt
  step_live (Some kind) None later = tt
  step_live (Some kind) (Some other) later = tt

  window_live : (x y : Option BreachKind) → IsSameLive ms (seen_window x f) (seen_window y g)
  window_live None None = h.live
  window_live None (Some kind) = tt
  window_live (Some kind) None = tt
  window_live (Some kind) (Some other) = tt

  abbrev window : FrameState → Option BreachKind
  window x = window_breach code rec.kind (with_inputs (inputs_of rec) (current x))

  live_in : (p : HandlerPhase) → IsOuter p rec → IsWriting code rec f ⊎ IsDeadSeen ms (seen_in p code b s others stale rec)
      → IsSameLive ms (seen_in p code b s others stale rec) (seen_in p code b t others stale rec)
  live_in Outside outer later = by (is_window rec.kind) later
    where
      here : Bool → Seen
      here q = cond q (seen_window (window f) f) (seen_judged code b s others stale false rec)

      there : Bool → Seen
      there q = cond q (seen_window (window g) g) (seen_judged code b t others stale false rec)

      by : (q : Bool) → IsWriting code rec f ⊎ IsDeadSeen ms (here q) → IsSameLive ms (here q) (there q)
      by true l = window_live (window f) (window g)
      by false l = step_live (breach_of b s.fresh code (live_of b f others) stale false rec f) (breach_of b t.fresh code (live_of b g others) stale false rec g) l
  live_in InHandler outer later =
      subst (λ (q : Bool). IsSameLive ms (cond q (seen_judged code b s others stale true rec) (handled_record code s rec)) (cond q (seen_judged code b t others stale true rec) (handled_record code t rec)))
      (sym outer) h.live
  live_in Nested outer later = absurd outer

  unread_here : has_compare (dead_at ms f.control.pc) ≡ true → fetches_difference Compare (fetch_at code (current f).control.pc) ≡ false
  unread_here dead =
      ap (λ (o : Option holes.Nested). fetches_difference Compare (fetch_at code (current_in o f).control.pc)) plain ∙ same (fetch_at code f.control.pc) ∙ unread dead
    where
      same : (at : Fetched) → fetches_difference Compare at ≡ fetches_compare at
      same (Fetches i len) = refl
      same (Fails address) = refl
      same SpellsNothing = refl

  -- it sees the same but for SCOMPARE1, if that is dead then
  pub seen_other : IsOuter s.phase rec → (has_compare (dead_at ms s.frame.control.pc) ≡ true → IsWriting code rec s.frame ⊎ IsDeadSeen ms (seen_record code b s others stale rec))
      → IsOtherSeen ms (seen_record code b s others stale rec) (seen_record code b t others stale rec)
  seen_other outer later = by (has_compare (dead_at ms f.control.pc)) refl
    where
      make : FrameState → Bool → HandlerPhase → Standing
      make x e p = record { frame = x; fresh = e; phase = p }

      by : (d : Bool) → has_compare (dead_at ms f.control.pc) ≡ d → IsOtherSeen ms (seen_record code b s others stale rec) (seen_record code b t others stale rec)
      by true e =
          let k = seen_alike code b s t others stale rec rec (λ pc i len x. tt) (record { frame = h.frame; fresh = h.fresh; phase = h.phase }) refl
          (record { bits = refl; levels = λ x. refl; count = λ x. refl }) tt (unread_here e)
          in
          from_parts ms (seen_record code b s others stale rec) (seen_record code b t others stale rec) k
          (subst (λ (p : HandlerPhase). IsSameLive ms (seen_in s.phase code b s others stale rec) (seen_in p code b t others stale rec)) h.phase (live_in s.phase outer (later e)))
      by false e =
          let same : s ≡ t = λ i. make (h.live e i) (h.fresh i) (h.phase i) in
          subst (λ (z : Standing). IsOtherSeen ms (seen_record code b s others stale rec) (seen_record code b z others stale rec)) same (seen_itself ms (seen_record code b s others stale rec))

-- ---- a judge

module _ (code : ℕ → ℕ) (ms : List ℕ) (range : Range) (c : ℕ) (rec : StepRecord) (j k : Judge) (h : IsOtherJudge ms j k) where
  known_other : (s t : Standing) (x y : ℕ → Bool) → IsOtherStanding ms s t → x ≡ y → IsOtherJudge ms (with_known s x j) (with_known t y k)
  known_other s t x y d e = by (is_within j.bounds.range s.frame) (is_within k.bounds.range t.frame) within
    where
      within : is_within j.bounds.range s.frame ≡ is_within k.bounds.range t.frame
      within = unlike_special (is_within j.bounds.range) s.frame t.frame (λ list. refl) d.frame ∙ ap (λ (b : Bounds). is_within b.range t.frame) h.bounds

      crossed : Judge → Judge
      crossed i = record i { fate = fate.Crossed }

      known : Standing → (ℕ → Bool) → Judge → Judge
      known u z i = record { standing = u; bounds = i.bounds; stale = z; fate = i.fate }

      by : (p q : Bool) → p ≡ q → IsOtherJudge ms (cond p (known s x j) (crossed j)) (cond q (known t y k) (crossed k))
      by true true i = record { standing = d; bounds = h.bounds; stale = e; fate = h.fate }
      by false false i = record { standing = h.standing; bounds = h.bounds; stale = h.stale; fate = refl }
      by true false i = absurd (true≢false i)
      by false true i = absurd (true≢false (sym i))

  seen_judge : (s t : Seen) → IsOtherSeen ms s t → IsOtherJudge ms (judge_seen c rec j s) (judge_seen c rec k t)
  seen_judge (Handled s) (Handled t) d = known_other s t j.stale k.stale d h.stale
  seen_judge (Judges s x) (Judges t y) d = known_other s t x y d.0 d.1
  seen_judge (Breaks kind) (Breaks other) d = record {
    standing = h.standing;
    bounds = h.bounds;
    stale = h.stale;
    fate = ap (λ (x : BreachKind). fate.Broke (record { core = c; pc = rec.pc; kind = x })) d;
  }
  seen_judge (Handled s) (Judges t y) d = absurd d
  seen_judge (Handled s) (Breaks t) d = absurd d
  seen_judge (Judges s x) (Handled t) d = absurd d
  seen_judge (Judges s x) (Breaks t) d = absurd d
  seen_judge (Breaks s) (Handled t) d = absurd d
  seen_judge (Breaks s) (Judges t y) d = absurd d

  abbrev alone : Judge → Seen
  alone x = seen_record code x.bounds x.standing (λ a. false) x.stale rec

  abbrev past : Judge → Judge
  past x = judge_past code range c x rec

  -- what is dead after the record was dead in what was seen
  dead_seen : (x : Seen) → goes (judge_seen c rec j x).fate ≡ true → has_compare (dead_at ms (judge_seen c rec j x).standing.frame.control.pc) ≡ true → IsDeadSeen ms x
  dead_seen (Handled s) go d = tt
  dead_seen (Judges s x) go d = by (is_within j.bounds.range s.frame) go d
    where
      crossed : Judge
      crossed = record j { fate = fate.Crossed }

      known : Judge
      known = record { standing = s; bounds = j.bounds; stale = x; fate = j.fate }

      by : (p : Bool) → goes (cond p known crossed).fate ≡ true → has_compare (dead_at ms (cond p known crossed).standing.frame.control.pc) ≡ true → has_compare (dead_at ms s.frame.control.pc) ≡ true
      by true g e = e
      by false g e = absurd (true≢false (sym g))
  dead_seen (Breaks kind) go d = tt

  -- the judges stand for each other past the record too
  pub judge_other : j.standing.frame.nested ≡ None → (has_compare (dead_at ms j.standing.frame.control.pc) ≡ true → fetches_compare (fetch_at code j.standing.frame.control.pc) ≡ false)
      → IsOuter j.standing.phase rec → goes (past j).fate ≡ true
      → (has_compare (dead_at ms j.standing.frame.control.pc) ≡ true → IsWriting code rec j.standing.frame ⊎ (has_compare (dead_at ms (past j).standing.frame.control.pc) ≡ true))
      → IsOtherJudge ms (past j) (past k)
  judge_other plain unread outer = by (comes_to range rec.access)
    where
      both : (has_compare (dead_at ms j.standing.frame.control.pc) ≡ true → IsWriting code rec j.standing.frame ⊎ IsDeadSeen ms (alone j)) → IsOtherSeen ms (alone j) (alone k)
      both later =
          subst (IsOtherSeen ms (alone j)) (λ i. seen_record code (h.bounds i) k.standing (λ a. false) (h.stale i) rec)
          (seen_other code ms j.bounds j.standing k.standing h.standing (λ a. false) j.stale rec plain unread outer later)

      on : Bool → Judge → Judge
      on b x = cond b (record x { fate = fate.Crossed }) (judge_seen c rec x (alone x))

      by : (b : Bool) → goes (on b j).fate ≡ true
          → (has_compare (dead_at ms j.standing.frame.control.pc) ≡ true → IsWriting code rec j.standing.frame ⊎ (has_compare (dead_at ms (on b j).standing.frame.control.pc) ≡ true))
          → IsOtherJudge ms (on b j) (on b k)
      by true go later = absurd (true≢false (sym go))
      by false go later =
          seen_judge (alone j) (alone k)
          (both (λ dead. ⊎_elim (λ (w : IsWriting code rec j.standing.frame). inl w) (λ (d : has_compare (dead_at ms (on false j).standing.frame.control.pc) ≡ true). inr (dead_seen (alone j) go d)) (later dead)))

-- ---- a judge without SCOMPARE1

abbrev pub without_compare : Judge → Judge
without_compare j = record j {
  standing = record j.standing {
    frame = record j.standing.frame { control = with_special j.standing.frame.control (slice_set j.standing.frame.control.special 12 0) };
  };
}

pub other_without : (ms : List ℕ) (j k : Judge) → IsOtherJudge ms j k → has_compare (dead_at ms j.standing.frame.control.pc) ≡ true → IsOtherJudge ms (without_compare j) k
other_without ms j k h dead =
    let xs = j.standing.frame.control.special in
    record {
      standing = record {
        frame = record {
          list = h.standing.frame.list;
          alike = alike_trans (slice_set xs 12 0) xs h.standing.frame.list (alike_sym xs (slice_set xs 12 0) (alike_compare xs 0)) h.standing.frame.alike;
          is = h.standing.frame.is;
        };
        live = λ e. absurd (true≢false (sym dead ∙ e));
        fresh = h.standing.fresh;
        phase = h.standing.phase;
      };
      bounds = h.bounds;
      stale = h.stale;
      fate = h.fate;
    }
