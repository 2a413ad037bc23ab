-- What is kept of two cores and their judges without dead registers tells of each order of turns.
use Rattle.std.proofs.Common.{◌≡◌, ◌≢◌, ℕ, zero, suc, ◌<◌, Bool, true, false, cond, not, ◌&&◌, ◌||◌, Option, Some, None, List, [], ◌∷◌, ◌++◌, length, get_or, refl, sym, ap, ◌∙◌, subst, ◌⊎◌, ⊎_elim, arith}
use Rattle.std.specs.Prelude.{◌==◌, bit_and, unwrap_or}
use Rattle.std.proofs.lemmas.Bool.{and_from, and_parts, not-true, or_parts, true≢false}
use Rattle.xt_map.specs.declared.access.Access.{Access}
use Rattle.xt_map.specs.declared.contents.MemoryContents.{MemoryContents}
use Rattle.xt_map.specs.Memory.{HasSizes}
use Rattle.xt_trace.specs.declared.record.StepRecord.{StepRecord}
use Rattle.xt_trace.specs.Worlds.{answer}
use Rattle.xt_exec.specs.Chips.{processor}
use Rattle.xt_exec.specs.State.{State}
use Rattle.xt_exec.specs.Turn.{demand, turn}
use Rattle.xt_special.specs.Control.{Control, special_of}
use Rattle.xt_special.specs.Numbers as number
use Rattle.xt_map.specs.Fetching.{fetch_at}
use Rattle.xt_timeless.specs.Time.{fetches_compare, fetches_time, timer_bits}
use Rattle.xt_frames.specs.declared.holes.Nested as holes
use Rattle.xt_frames.specs.Frames.{Frame, FrameState, value_or_zero}
use Rattle.xt_frames.specs.Nesting.{current, current_in}
use Rattle.xt_frames.specs.SaveAreas.{Range, areas, covers_byte, is_live}
use Rattle.xt_frames.specs.Walked.{Walked}
use Rattle.xt_frames.specs.declared.kinds.HandlerPhase.{HandlerPhase}
use Rattle.xt_frames.specs.Judging.{Standing, Seen, Handled, Judges, Breaks, seen_record}
use Rattle.xt_search.specs.declared.graph.Graph.{Graph}
use Rattle.xt_search.specs.declared.graph.Nexts.{Nexts}
use Rattle.xt_search.specs.Graphs.{AreNexts, IsAt, IsGraph, IsNext, IsWhole}
use Rattle.xt_search.specs.Meetings.{IsCovered, after, onward, run}
use Rattle.xt_search.specs.Worlds.{IsOrder}
use Rattle.xt_search.proofs.Endings.{some_at}
use Rattle.xt_search.proofs.Numbers.{at_within}
use Rattle.xt_search.proofs.Meeting.{after_append, covers_orders}
use Rattle.xt_outcomes.specs.Dead.{dead_at, fits, forgotten, has_compare, side_forgotten, spot_forgotten}
use Rattle.xt_outcomes.specs.Nexts.{misfits, next_bars, spot_next}
use Rattle.xt_outcomes.specs.Places.{is_own_access, is_told, may_access}
use Rattle.xt_outcomes.specs.SpotRaces.{next_of}
use Rattle.xt_outcomes.specs.Spots.{Spot, side_bars, side_of, spot_past}
use Rattle.xt_outcomes.specs.declared.places.Place.{Place}
use Rattle.xt_outcomes.proofs.Covering.{next_allowed}
use Rattle.xt_outcomes.proofs.Forgetting.{MakeOneTurn, fit_turn, forgot_after, free_forgetting, next_forgetting}
use Rattle.xt_judged.specs.Lives.{AreApart}
use Rattle.xt_judged.specs.OwnJudges.{Judge, Own, Watched, comes_to, goes, is_alone, is_over, is_within, judge_past, judge_seen, other_range, own_in, record_in, turned, watched_bars, watched_past, watched_run, with_judge, with_known}
use Rattle.xt_judged.specs.declared.watched.Fate.{Fate}
use Rattle.xt_judged.specs.declared.watched.Fate.TheVariants as fate
use Rattle.xt_judged.specs.Timeless.{frame_uses_time}
use Rattle.xt_judged.specs.WatchedKept.{AreSettled, watched_of}
use Rattle.xt_judged.specs.declared.watched.Watched as kept
use Rattle.std.proofs.Math.ListN.{set}
use Rattle.std.proofs.lemmas.Option.{none-some}
use Rattle.xt_judged.proofs.Every.{orders_more}
use Rattle.xt_judged.specs.Forgotten.{AreFewer, AreFramesFewer, BothGo, IsFewerAt, IsFewerJudge, IsForgotten, IsKeptJudge, IsLed, IsOuter, IsTurn, Leads, Stands, StandsPast}
use Rattle.xt_judged.proofs.FewerJudges.{IsOnStack, IsSeenOnStack}
use Rattle.xt_judged.proofs.OneFewer.{judge_fewer}
use Rattle.xt_judged.proofs.Written.{IsWriting}
use Rattle.xt_judged.proofs.Compared.{other_without, standing_itself, without_compare}
use Rattle.xt_judged.proofs.LikeJudges.{both_past, fewer_without}
use Rattle.xt_judged.proofs.WatchedTurns.{AllGo, IsAllowed, all_went, alone_allowed, other_stays, over_parts, step_made, step_over, step_sizes, turns_commute}

-- ---- registers that are forgotten

fewer_itself : (x : Option ℕ) → IsFewerAt x x
fewer_itself None = tt
fewer_itself (Some v) = refl

fewer_self : (xs : List (Option ℕ)) → AreFewer xs xs
fewer_self [] = tt
fewer_self (x ∷ xs) = (fewer_itself x, fewer_self xs)

pub fewer_less : (xs : List (Option ℕ)) (n : ℕ) → AreFewer (set xs n None) xs
fewer_less [] n = tt
fewer_less (x ∷ xs) zero = (tt, fewer_self xs)
fewer_less (x ∷ xs) (suc n) = (fewer_itself x, fewer_less xs n)

frames_self : (fs : List Frame) → AreFramesFewer fs fs
frames_self [] = tt
frames_self (f ∷ fs) = (refl, fewer_self f.kept, frames_self fs)

pub fewer_then : (xs ys zs : List (Option ℕ)) → AreFewer xs ys → AreFewer ys zs → AreFewer xs zs
fewer_then [] [] [] h k = tt
fewer_then (None ∷ xs) (y ∷ ys) (z ∷ zs) h k = (tt, fewer_then xs ys zs h.1 k.1)
fewer_then (Some x ∷ xs) (None ∷ ys) (z ∷ zs) h k = absurd (none-some x h.0)
fewer_then (Some x ∷ xs) (Some y ∷ ys) (z ∷ zs) h k = (k.0 ∙ h.0, fewer_then xs ys zs h.1 k.1)
fewer_then [] [] (z ∷ zs) h k = absurd k
fewer_then [] (y ∷ ys) zs h k = absurd h
fewer_then (x ∷ xs) [] zs h k = absurd h
fewer_then (x ∷ xs) (y ∷ ys) [] h k = absurd k

fewer_frames : (fs gs hs : List Frame) → AreFramesFewer fs gs → AreFramesFewer gs hs → AreFramesFewer fs hs
fewer_frames [] [] [] h k = tt
fewer_frames (f ∷ fs) (g ∷ gs) (i ∷ is) h k = (h.0 ∙ k.0, fewer_then f.kept g.kept i.kept h.1 k.1, fewer_frames fs gs is h.2 k.2)
fewer_frames [] [] (i ∷ is) h k = absurd k
fewer_frames [] (g ∷ gs) hs h k = absurd h
fewer_frames (f ∷ fs) [] hs h k = absurd h
fewer_frames (f ∷ fs) (g ∷ gs) [] h k = absurd k

pub fewer_judges : (i j k : Judge) → IsFewerJudge i j → IsFewerJudge j k → IsFewerJudge i k
fewer_judges i j k g h =
    let a = g.standing.frame in
    let b = h.standing.frame in
    record {
      standing = record {
        frame = record {
          seen = fewer_then i.standing.frame.seen j.standing.frame.seen k.standing.frame.seen a.seen b.seen;
          frames = fewer_frames i.standing.frame.frames j.standing.frame.frames k.standing.frame.frames a.frames b.frames;
          control = a.control ∙ b.control;
          unset = a.unset ∙ b.unset;
          plain = a.plain;
          other = b.other;
        };
        fresh = g.standing.fresh ∙ h.standing.fresh;
        phase = g.standing.phase ∙ h.standing.phase;
      };
      bounds = g.bounds ∙ h.bounds;
      stale = g.stale ∙ h.stale;
      fate = g.fate ∙ h.fate;
    }

-- ---- judges that stand for others

pub kept_self : (ms : List ℕ) (j : Judge) → j.standing.frame.nested ≡ None → IsKeptJudge ms j j
kept_self [] j plain = refl
kept_self (m ∷ ms) j plain =
    let f = j.standing.frame in (
      j,
      record {
        standing = record {
          frame = record { seen = fewer_self f.seen; frames = frames_self f.frames; control = refl; unset = refl; plain = plain; other = plain };
          fresh = refl;
          phase = refl;
        };
        bounds = refl;
        stale = refl;
        fate = refl;
      },
      record { standing = standing_itself (m ∷ ms) j.standing; bounds = refl; stale = refl; fate = refl },
    )

kept_fate : (ms : List ℕ) (j k : Judge) → IsKeptJudge ms j k → j.fate ≡ k.fate
kept_fate [] j k h = ap (λ (x : Judge). x.fate) h
kept_fate (m ∷ ms) j k h = h.1.fate ∙ h.2.fate

kept_time : (code : ℕ → ℕ) (ms : List ℕ) (j k : Judge) → IsKeptJudge ms j k → frame_uses_time code j.standing.frame ≡ frame_uses_time code k.standing.frame
kept_time code [] j k h = ap (λ (x : Judge). frame_uses_time code x.standing.frame) h
kept_time code (m ∷ ms) j k h =
    let i = h.0.standing.frame in
    let l = h.1.standing.frame in
    let o = h.2.standing.frame in
    let plain : (x : FrameState) → x.nested ≡ None → (current x).control ≡ x.control = λ x e. ap (λ (n : Option holes.Nested). (current_in n x).control) e in
    let nested : k.standing.frame.nested ≡ None = ap (λ (x : FrameState). x.nested) o.is ∙ l.other in
    ap time_of (plain j.standing.frame l.plain ∙ l.control)
    ∙ (λ n. not (bit_and (o.alike.same 228 refl n) timer_bits == 0) || fetches_time (fetch_at code i.control.pc))
    ∙ sym (ap (λ (x : FrameState). time_of x.control) o.is) ∙ sym (ap time_of (plain k.standing.frame nested))
  where
    time_of : Control → Bool
    time_of d = not (bit_and (special_of d number.intenable) timer_bits == 0) || fetches_time (fetch_at code d.pc)

-- a judge that knows so much of its core
abbrev pub judge_with : Walked → HandlerPhase → (ℕ → Bool) → Fate → Judge
judge_with w p stale f = record {
  standing = record { frame = w.state; fresh = w.fresh; phase = p };
  bounds = w.bounds;
  stale = stale;
  fate = f;
}

pub forgot_fewer : (old new : Walked) → IsForgotten old new → old.state.nested ≡ None → (p : HandlerPhase) (stale : ℕ → Bool) (f : Fate) → IsFewerJudge (judge_with new p stale f) (judge_with old p stale f)
forgot_fewer old new h plain p stale f =
    let e = h.is in
    record {
      standing = record {
        frame = record {
          seen = h.fewer;
          frames = subst (λ (fs : List Frame). AreFramesFewer fs old.state.frames) (sym (ap (λ (w : Walked). w.state.frames) e)) (frames_self old.state.frames);
          control = ap (λ (w : Walked). w.state.control) e;
          unset = ap (λ (w : Walked). w.state.unset) e;
          plain = ap (λ (w : Walked). w.state.nested) e ∙ plain;
          other = plain;
        };
        fresh = ap (λ (w : Walked). w.fresh) e;
        phase = refl;
      };
      bounds = ap (λ (w : Walked). w.bounds) e;
      stale = refl;
      fate = refl;
    }

pub forgot_apart : (old new : Walked) → IsForgotten old new → (bytes : List ℕ) → AreApart old None bytes → AreApart new None bytes
forgot_apart old new h bytes apart a stale =
    let b : new.bounds ≡ old.bounds = ap (λ (w : Walked). w.bounds) h.is in
    let fs : new.state.frames ≡ old.state.frames = ap (λ (w : Walked). w.state.frames) h.is in
    let live : is_live new.bounds.range new.state a ≡ is_live old.bounds.range old.state a = λ i. covers_byte (areas (b i).range.hi (h.sp i) 1 (fs i)) a in
    ap (λ (x : Bool). x || false) live ∙ apart a stale

pub forgot_none : (w : Walked) → IsForgotten w w
forgot_none w = record { is = refl; fewer = fewer_self w.state.seen; sp = refl }

other_sp : (xs : List (Option ℕ)) (n : ℕ) → n ≢ 1 → get_or (set xs n None) 1 None ≡ get_or xs 1 None
other_sp [] n h = refl
other_sp (x ∷ xs) zero h = refl
other_sp (x ∷ xs) (suc zero) h = absurd (h refl)
other_sp (x ∷ []) (suc (suc n)) h = refl
other_sp (x ∷ (y ∷ ys)) (suc (suc n)) h = refl

-- one register
pub forgot_one : (old new : Walked) (n : ℕ) → n ≢ 1 → new ≡ record old { state = record old.state { seen = set old.state.seen n None } } → IsForgotten old new
forgot_one old new n other e =
    let less = set old.state.seen n None in
    let seen : new.state.seen ≡ less = ap (λ (w : Walked). w.state.seen) e in
    record {
      is = e ∙ ap (λ (l : List (Option ℕ)). let x : Walked = record old { state = record old.state { seen = l } } in x) (sym seen);
      fewer = subst (λ (l : List (Option ℕ)). AreFewer l old.state.seen) (sym seen) (fewer_less old.state.seen n);
      sp = ap (λ (l : List (Option ℕ)). value_or_zero l 1) seen ∙ ap (λ (o : Option ℕ). unwrap_or o 0) (other_sp old.state.seen n other);
    }

-- one after another
pub forgot_then : (old mid new : Walked) → IsForgotten old mid → IsForgotten mid new → IsForgotten old new
forgot_then old mid new g h = record {
  is = h.is ∙ ap (λ (w : Walked). let x : Walked = record w { state = record w.state { seen = new.state.seen } } in x) g.is;
  fewer = fewer_then new.state.seen mid.state.seen old.state.seen h.fewer g.fewer;
  sp = h.sp ∙ g.sp;
}

-- a number that is not 0
pub counted : (n : ℕ) → (n == 0) ≡ false → 0 < n
counted zero h = absurd (true≢false h)
counted (suc n) h = omega arith

-- ---- the stack after a record

known_on : (st : Standing) (x : ℕ → Bool) (j : Judge) → goes (with_known st x j).fate ≡ true → IsOnStack (with_known st x j).bounds (with_known st x j).standing.frame → IsOnStack j.bounds st.frame
known_on st x j go on = by (is_within j.bounds.range st.frame) refl
  where
    new : Judge
    new = record { standing = st; bounds = j.bounds; stale = x; fate = j.fate }

    lost : Judge
    lost = record j { fate = fate.Crossed }

    by : (b : Bool) → is_within j.bounds.range st.frame ≡ b → IsOnStack j.bounds st.frame
    by true e = subst (λ (z : Bool). let n : Judge = cond z new lost in IsOnStack n.bounds n.standing.frame) e on
    by false e = absurd (true≢false (sym (ap (λ (z : Bool). let n : Judge = cond z new lost in goes n.fate) (sym e) ∙ go)))

seen_on : (c : ℕ) (rec : StepRecord) (j : Judge) (s : Seen) → goes (judge_seen c rec j s).fate ≡ true → IsOnStack (judge_seen c rec j s).bounds (judge_seen c rec j s).standing.frame → IsSeenOnStack j.bounds s
seen_on c rec j (Handled st) go on = known_on st j.stale j go on
seen_on c rec j (Judges st x) go on = known_on st x j go on
seen_on c rec j (Breaks kind) go on = tt

module _ (code : ℕ → ℕ) (other : Range) (c : ℕ) (rec : StepRecord) where
  past_on : (j : Judge) → goes (judge_past code other c j rec).fate ≡ true → IsOnStack (judge_past code other c j rec).bounds (judge_past code other c j rec).standing.frame
      → IsSeenOnStack j.bounds (seen_record code j.bounds j.standing (λ a. false) j.stale rec)
  past_on j go on = by (comes_to other rec.access) refl
    where
      seen : Seen
      seen = seen_record code j.bounds j.standing (λ a. false) j.stale rec

      past : Bool → Judge
      past b = cond b (record j { fate = fate.Crossed }) (judge_seen c rec j seen)

      by : (b : Bool) → comes_to other rec.access ≡ b → IsSeenOnStack j.bounds seen
      by true e = absurd (true≢false (sym (ap (λ (b : Bool). goes (past b).fate) (sym e) ∙ go)))
      by false e =
          seen_on c rec j seen (ap (λ (b : Bool). goes (past b).fate) (sym e) ∙ go)
          (subst (λ (b : Bool). IsOnStack (past b).bounds (past b).standing.frame) e on)

  -- the judge past the record, where no register is dead
  pub same_stands : (ms : List ℕ) (old new : Judge) → length ms ≡ 0 → new ≡ judge_past code other c old rec → StandsPast code ms other c rec old new
  same_stands [] old new none e go k h = e ∙ ap (λ (j : Judge). judge_past code other c j rec) h
  same_stands (m ∷ ms) old new none e go k h = absurd (omega (arith, none))

  abbrev place : Judge → ℕ
  place j = j.standing.frame.control.pc

  -- and without dead registers, of which SCOMPARE1 is forgotten too if it is dead there
  pub less_stands : (ms : List ℕ) (old past new : Judge) → 0 < length ms → IsOuter old.standing.phase rec → past ≡ judge_past code other c old rec
      → (goes past.fate ≡ true → IsOnStack old.bounds old.standing.frame × IsOnStack past.bounds past.standing.frame)
      → new.fate ≡ past.fate
      → (past.standing.frame.nested ≡ None → IsFewerJudge new past ⊎ (IsFewerJudge new (without_compare past) × (has_compare (dead_at ms (place past)) ≡ true)))
      → (old.standing.frame.nested ≡ None → past.standing.frame.nested ≡ None → has_compare (dead_at ms (place old)) ≡ true
      → (fetches_compare (fetch_at code (place old)) ≡ false) × (IsWriting code rec old.standing.frame ⊎ (has_compare (dead_at ms (place past)) ≡ true)))
      → StandsPast code ms other c rec old new
  less_stands [] old past new some outer e stacks same fewer fit go k h = absurd (omega (arith, some))
  less_stands (m ∷ ms) old past new some outer e stacks same fewer fit go k h =
      let here : goes past.fate ≡ true = ap goes (sym same) ∙ go in
      let there : goes (judge_past code other c old rec).fate ≡ true = ap (λ (j : Judge). goes j.fate) (sym e) ∙ here in
      let on = stacks here in
      let later = past_on old there (subst (λ (j : Judge). IsOnStack j.bounds j.standing.frame) e on.1) in
      let plain : past.standing.frame.nested ≡ None =
      ap (λ (j : Judge). j.standing.frame.nested) e ∙ (judge_fewer old h.0 h.1 code other c rec outer on.0 later there).standing.frame.plain in
      let fits = fit h.1.standing.frame.plain plain in
      let both =
      both_past code (m ∷ ms) other c rec old h.0 k h.1 h.2 outer on.0 later there (λ d. (fits d).0)
      (λ d. subst (λ (j : Judge). IsWriting code rec old.standing.frame ⊎ (has_compare (dead_at (m ∷ ms) (place j)) ≡ true)) e (fits d).1)
      in
      let mid = judge_past code other c h.0 rec in
      let less : IsFewerJudge past mid = subst (λ (j : Judge). IsFewerJudge j mid) (sym e) both.0 in
      ⊎_elim
      (λ (f : IsFewerJudge new past).
      let r : IsKeptJudge (m ∷ ms) new (judge_past code other c k rec) = (mid, fewer_judges new past mid f less, both.1) in r)
      (λ (f : IsFewerJudge new (without_compare past) × (has_compare (dead_at (m ∷ ms) (place past)) ≡ true)).
      let dead : has_compare (dead_at (m ∷ ms) (place mid)) ≡ true = sym (ap (λ (d : Control). has_compare (dead_at (m ∷ ms) d.pc)) less.standing.frame.control) ∙ f.1 in
      let r : IsKeptJudge (m ∷ ms) new (judge_past code other c k rec) =
      (without_compare mid, fewer_judges new (without_compare past) (without_compare mid) f.0 (fewer_without past mid less), other_without (m ∷ ms) mid (judge_past code other c k rec) both.1 dead) in
      r)
      (fewer less.standing.frame.plain)

-- ---- two cores

module _ (code : ℕ → ℕ) (ms : List ℕ) (r0 r1 : Range) (timed : Bool) (ps : List Place) where
  abbrev step : ℕ → Watched → Watched
  step c v = watched_past (processor code) code r0 r1 timed c v

  abbrev local : ℕ → Own → Bool
  local c o = is_alone code timed ps c o

  module _ (w v : Watched) (h : Stands ms w v) where
    pub sides : (c : ℕ) → (own_in c w).side ≡ side_forgotten ms (own_in c v).side
    sides zero = ap (λ (p : Spot State). p.side0) h.spot
    sides (suc c) = ap (λ (p : Spot State). p.side1) h.spot

    pub judges : (c : ℕ) → IsKeptJudge ms (own_in c w).judge (own_in c v).judge
    judges zero = h.judge0
    judges (suc c) = h.judge1

    side_spot : (c : ℕ) (x : Watched) → (own_in c x).side ≡ side_of c x.spot
    side_spot zero x = refl
    side_spot (suc c) x = refl

    pub over_same : (c : ℕ) → is_over (own_in c w) ≡ is_over (own_in c v)
    over_same c =
        let fate : (own_in c w).judge.fate ≡ (own_in c v).judge.fate = kept_fate ms (own_in c w).judge (own_in c v).judge (judges c) in
        λ i. not (goes (fate i)) || ((sides c i).left == 0)

    module _ (c : ℕ) (fit : misfits code ms (own_in c w).side ≡ false) where
      fit_here : misfits code ms (side_forgotten ms (own_in c v).side) ≡ false
      fit_here = ap (misfits code ms) (sym (sides c)) ∙ fit

      next_same : next_of code (own_in c w).side ≡ next_of code (own_in c v).side
      next_same = ap (next_of code) (sides c) ∙ next_forgetting code ms timed (own_in c v).side fit_here

      pub told_same : is_told code ps c (own_in c w).side ≡ is_told code ps c (own_in c v).side
      told_same = ap (may_access ps c) next_same

      time_same : frame_uses_time code (own_in c w).judge.standing.frame ≡ frame_uses_time code (own_in c v).judge.standing.frame
      time_same = kept_time code ms (own_in c w).judge (own_in c v).judge (judges c)

      -- a turn that uses no time here uses none there
      pub free_there : watched_bars code timed (own_in c w) ≡ false → watched_bars code timed (own_in c v) ≡ false
      free_there e = by (is_over (own_in c v)) refl
        where
          used : Own → Bool
          used o = side_bars code timed o.side || (not timed && frame_uses_time code o.judge.standing.frame)

          by : (b : Bool) → is_over (own_in c v) ≡ b → watched_bars code timed (own_in c v) ≡ false
          by true o = ap (λ (b : Bool). not b && used (own_in c v)) o
          by false o =
              let here : used (own_in c w) ≡ false = sym (ap (λ (b : Bool). not b && used (own_in c w)) (over_same c ∙ o)) ∙ e in
              let parts = or_parts (side_bars code timed (own_in c w).side) (not timed && frame_uses_time code (own_in c w).judge.standing.frame) here in
              let kept : next_bars code timed ms (side_of c (spot_forgotten ms v.spot)) ≡ false =
              ap (λ (p : Spot State). next_bars code timed ms (side_of c p)) (sym h.spot) ∙ ap (next_bars code timed ms) (sym (side_spot c w)) ∙ (λ i. parts.0 i || fit i) in
              let side : side_bars code timed (own_in c v).side ≡ false = ap (side_bars code timed) (side_spot c v) ∙ (free_forgetting code ms timed c v.spot kept).0 in
              ap (λ (b : Bool). not b && used (own_in c v)) o ∙ (λ i. side i || (not timed && sym time_same i)) ∙ parts.1

      -- a turn that meets nothing here meets nothing there
      pub alone_there : local c (own_in c w) ≡ true → local c (own_in c v) ≡ true
      alone_there e =
          let o = own_in c w in
          let p = and_parts (not (is_over o)) (not (watched_bars code timed o) && is_own_access ps c (next_of code o.side)) e in
          let q = and_parts (not (watched_bars code timed o)) (is_own_access ps c (next_of code o.side)) p.1 in
          and_from (not (is_over (own_in c v))) (not (watched_bars code timed (own_in c v)) && is_own_access ps c (next_of code (own_in c v).side)) (ap not (sym (over_same c)) ∙ p.0)
          (and_from (not (watched_bars code timed (own_in c v))) (is_own_access ps c (next_of code (own_in c v).side)) (ap not (free_there (not-true (watched_bars code timed o) q.0)))
          (ap (is_own_access ps c) (sym next_same) ∙ q.1))

    -- ---- a turn

    module _ (c : ℕ) (on : is_over (own_in c w) ≡ false) (free : watched_bars code timed (own_in c w) ≡ false) (fit : misfits code ms (own_in c w).side ≡ false) where
      there_on : is_over (own_in c v) ≡ false
      there_on = sym (over_same c) ∙ on

      bars_none : next_bars code timed ms (side_of c (spot_forgotten ms v.spot)) ≡ false
      bars_none =
          let used = side_bars code timed (own_in c w).side || (not timed && frame_uses_time code (own_in c w).judge.standing.frame) in
          let here : used ≡ false = sym (ap (λ (b : Bool). not b && used) on) ∙ free in
          let parts = or_parts (side_bars code timed (own_in c w).side) (not timed && frame_uses_time code (own_in c w).judge.standing.frame) here in
          ap (λ (p : Spot State). next_bars code timed ms (side_of c p)) (sym h.spot) ∙ ap (next_bars code timed ms) (sym (side_spot c w)) ∙ (λ i. parts.0 i || fit i)

      spot_there : spot_next (processor code) timed ms c w.spot ≡ spot_forgotten ms (spot_past (processor code) timed c v.spot)
      spot_there = ap (spot_next (processor code) timed ms c) h.spot ∙ (forgot_after code ms timed (c ∷ []) v.spot (bars_none, tt)).0

      turns : MakeOneTurn code ms (forgotten ms (own_in c v).side.state) (own_in c v).side.state
      turns = fit_turn code ms (own_in c v).side.state (fitting ((own_in c v).side.left == 0) (fits code ms (forgotten ms (own_in c v).side.state)) (over_parts code timed (own_in c v) there_on).1 (fit_here c fit))
        where
          fitting : (a b : Bool) → a ≡ false → (not a && not b) ≡ false → b ≡ true
          fitting true b e f = absurd (true≢false e)
          fitting false true e f = refl
          fitting false false e f = absurd (true≢false f)

      -- the record of the turn is the same
      pub record_there : record_in (processor code) c w.spot ≡ record_in (processor code) c v.spot
      record_there =
          let s = (own_in c v).side.state in
          let m = v.spot.memory in
          let one : (turn code (forgotten ms s) (answer (demand code (forgotten ms s)) m)).0 ≡ (turn code s (answer (demand code s) m)).0 =
          ap (λ (a : Option Access). (turn code (forgotten ms s) (answer a m)).0) turns.asks ∙ turns.rec (answer (demand code s) m) in
          ap (record_in (processor code) c) h.spot ∙ by c one
        where
          by : (d : ℕ) → (let s = (own_in d v).side.state in (turn code (forgotten ms s) (answer (demand code (forgotten ms s)) v.spot.memory)).0 ≡ (turn code s (answer (demand code s) v.spot.memory)).0)
              → record_in (processor code) d (spot_forgotten ms v.spot) ≡ record_in (processor code) d v.spot
          by zero e = e
          by (suc d) e = e

      -- what is kept after the turn stands for what the turn leads to
      pub turn_stands : (j : Judge) → IsKeptJudge ms j (judge_past code (other_range c r0 r1) c (own_in c v).judge (record_in (processor code) c v.spot))
          → Stands ms (with_judge c j (spot_next (processor code) timed ms c w.spot) w) (step c v)
      turn_stands j k = subst (Stands ms (with_judge c j (spot_next (processor code) timed ms c w.spot) w)) (sym (step_made code timed ps r0 r1 c v there_on)) (by c j k spot_there)
        where
          by : (d : ℕ) (i : Judge) → IsKeptJudge ms i (judge_past code (other_range d r0 r1) d (own_in d v).judge (record_in (processor code) d v.spot))
              → spot_next (processor code) timed ms d w.spot ≡ spot_forgotten ms (spot_past (processor code) timed d v.spot)
              → Stands ms (with_judge d i (spot_next (processor code) timed ms d w.spot) w) (turned (processor code) code r0 r1 timed d v)
          by zero i f e = record { spot = e; judge0 = f; judge1 = h.judge1 }
          by (suc d) i f e = record { spot = e; judge0 = h.judge0; judge1 = f }

  -- ---- turns that meet nothing, one more

  pub onward_more : (c n : ℕ) (v : Watched) → (let x = onward (λ (u : Watched). local c (own_in c u)) (step c) n v in local c (own_in c x) ≡ true)
      → onward (λ (u : Watched). local c (own_in c u)) (step c) (suc n) v ≡ step c (onward (λ (u : Watched). local c (own_in c u)) (step c) n v)
  onward_more c zero v e = ap (λ (b : Bool). let x : Watched = cond b (step c v) v in x) e
  onward_more c (suc n) v e = by (λ d. onward_more c n (step c v) d) (local c (own_in c v)) refl
    where
      test : Watched → Bool
      test u = local c (own_in c u)

      on : ℕ → Watched → Watched
      on k u = onward test (step c) k u

      by : (test (on n (step c v)) ≡ true → on (suc n) (step c v) ≡ step c (on n (step c v))) → (b : Bool) → test v ≡ b → on (suc (suc n)) v ≡ step c (on (suc n) v)
      by more true t =
          let one : (k : ℕ) → on (suc k) v ≡ on k (step c v) = λ k. ap (λ (b : Bool). let x : Watched = cond b (on k (step c v)) v in x) t in
          one (suc n) ∙ more (ap test (sym (one n)) ∙ e) ∙ ap (step c) (sym (one n))
      by more false t =
          let none : on (suc n) v ≡ v = ap (λ (b : Bool). let x : Watched = cond b (on n (step c v)) v in x) t in
          absurd (true≢false (sym e ∙ ap test none ∙ t))

  -- ---- turns of what is kept

  goes_with : (c : ℕ) (j : Judge) (p : Spot State) (w : Watched) → BothGo (with_judge c j p w) → goes j.fate ≡ true
  goes_with zero j p w h = h.0
  goes_with (suc c) j p w h = h.1

  went : (c : ℕ) (j : Judge) (p : Spot State) (w : Watched) → goes (own_in c w).judge.fate ≡ true → BothGo (with_judge c j p w) → BothGo w
  went zero j p w g h = (g, h.1)
  went (suc c) j p w g h = (h.0, g)

  own_goes : (c : ℕ) (w : Watched) → BothGo w → goes (own_in c w).judge.fate ≡ true
  own_goes zero w h = h.0
  own_goes (suc c) w h = h.1

  -- a turn with a judge that stands for others
  pub turn_made : (c : ℕ) (w : Watched) (j : Judge) → is_over (own_in c w) ≡ false → watched_bars code timed (own_in c w) ≡ false → misfits code ms (own_in c w).side ≡ false
      → StandsPast code ms (other_range c r0 r1) c (record_in (processor code) c w.spot) (own_in c w).judge j
      → IsTurn code ms r0 r1 timed c w (with_judge c j (spot_next (processor code) timed ms c w.spot) w)
  turn_made c w j on free fit stands = record {
    there = λ go u h.
        let k = (own_in c u).judge in
        let past = stands (goes_with c j (spot_next (processor code) timed ms c w.spot) w go) k (judges w u h c) in
        turn_stands w u h c on free fit j (subst (λ (x : StepRecord). IsKeptJudge ms j (judge_past code (other_range c r0 r1) c k x)) (record_there w u h c on free fit) past);
    before = λ go. went c j (spot_next (processor code) timed ms c w.spot) w (over_parts code timed (own_in c w) on).0 go;
  }

  pub led_first : (c : ℕ) (v w : Watched) → watched_bars code timed (own_in c v) ≡ false → misfits code ms (own_in c v).side ≡ false → IsTurn code ms r0 r1 timed c v w → IsLed code ms r0 r1 timed ps c v w
  led_first c v w free fit t = record { count = 0; there = t.there; free = free; fit = fit }

  pub led_more : (c : ℕ) (v w x : Watched) → local c (own_in c w) ≡ true → misfits code ms (own_in c w).side ≡ false → IsTurn code ms r0 r1 timed c w x
      → IsLed code ms r0 r1 timed ps c v w → IsLed code ms r0 r1 timed ps c v x
  led_more c v w x alone fit t l = record {
    count = suc l.count;
    there = λ go u h.
        let y = watched_run code r0 r1 timed ps l.count c u in
        let s = l.there (t.before go) u h in
        subst (Stands ms x) (sym (onward_more c l.count (step c u) (alone_there w y s c fit alone))) (t.there go y s);
    free = l.free;
    fit = l.fit;
  }

  -- nothing changes where the core has ended
  pub led_over : (c : ℕ) (v : Watched) → is_over (own_in c v) ≡ true → BothGo v → IsLed code ms r0 r1 timed ps c v v
  led_over c v over go =
      let o = own_in c v in
      let none : (o.side.left == 0) ≡ true = left_none (goes o.judge.fate) (o.side.left == 0) (own_goes c v go) over in
      record {
        count = 0;
        there = λ both u h. subst (Stands ms v) (sym (step_over code timed ps r0 r1 c u (sym (over_same v u h c) ∙ over))) h;
        free = ap (λ (b : Bool). not b && (side_bars code timed o.side || (not timed && frame_uses_time code o.judge.standing.frame))) over;
        fit = ap (λ (b : Bool). not b && not (fits code ms o.side.state)) none;
      }
    where
      left_none : (g l : Bool) → g ≡ true → (not g || l) ≡ true → l ≡ true
      left_none true l e h = h
      left_none false l e h = absurd (true≢false (sym e))

  -- ---- what is kept

  module _ (m : MemoryContents) where
    abbrev Turns : ℕ → kept.Watched → kept.Watched → Type 0
    Turns c v w = Leads code ms r0 r1 timed ps m c v w

    module _ (g : Graph kept.Watched) (is : IsGraph Turns g) (whole : IsWhole g) (settled : (k : ℕ) (w : kept.Watched) → IsAt g.kept.items k w → AreSettled code ps w) where
      abbrev pub IsKept : Watched → Type 0
      IsKept u = (k : ℕ) × (w : kept.Watched) × IsAt g.kept.items k w × Stands ms (watched_of m w) u

      kept_go : (u : Watched) → IsKept u → AllGo code timed ps r0 r1 u
      kept_go u k =
          let s = settled k.0 k.1 k.2 in
          (ap goes (sym (kept_fate ms (watched_of m k.1).judge0 u.judge0 k.3.judge0)) ∙ s.goes0, ap goes (sym (kept_fate ms (watched_of m k.1).judge1 u.judge1 k.3.judge1)) ∙ s.goes1)

      told_of : (w : kept.Watched) → AreSettled code ps w → (c : ℕ) → c < 2 → is_told code ps c (own_in c (watched_of m w)).side ≡ true
      told_of w s zero small = s.told0
      told_of w s (suc zero) small = s.told1
      told_of w s (suc (suc c)) small = absurd (omega (arith, small))

      pick : (w : kept.Watched) (n : Nexts) (c : ℕ) → c < 2 → AreNexts Turns g.kept.items w n → (j : ℕ) × IsNext Turns g.kept.items c w j
      pick w n zero small h = (n.by0, h.0)
      pick w n (suc zero) small h = (n.by1, h.1)
      pick w n (suc (suc c)) small h = absurd (omega (arith, small))

      covered_next : (u : Watched) → IsKept u → (c : ℕ) → c < 2 → IsAllowed code timed ps c (own_in c u) × ((n : ℕ) × IsKept (run step (λ d x. local d (own_in d x)) n c u))
      covered_next u k c small =
          let at = at_within g.kept.items k.0 k.1 k.2 in
          let n = some_at g.nexts.items k.0 (let e : length g.nexts.items ≡ length g.kept.items = whole in omega (arith, e, at)) in
          let x = pick k.1 n.0 c small (is.nexts k.0 n.0 k.1 n.1 k.2) in
          let own = settled k.0 k.1 k.2 in
          let l : IsLed code ms r0 r1 timed ps c (watched_of m k.1) (watched_of m x.1.0) = x.1.2 (own.goes0, own.goes1) in
          let s = settled x.0 x.1.0 x.1.1 in (
            record {
              told = sym (told_same (watched_of m k.1) u k.3 c l.fit) ∙ told_of k.1 (settled k.0 k.1 k.2) c small;
              free = free_there (watched_of m k.1) u k.3 c l.fit l.free;
            },
            (l.count, (x.0, x.1.0, x.1.1, l.there (s.goes0, s.goes1) u k.3)),
          )

      module _ (opening : Watched) (begins : IsKept opening) (z : HasSizes opening.spot.memory) where
        covered : (order : List ℕ) → IsOrder order → IsCovered step own_in local (λ (c : ℕ) (o : Own). IsAllowed code timed ps c o) IsKept opening order
        covered order o =
            covers_orders step own_in local (λ (c : ℕ) (x : Own). IsAllowed code timed ps c x)
            (λ c d v. other_stays code timed ps r0 r1 c d v) (λ (v : Watched). HasSizes v.spot.memory) (λ c v. step_sizes code timed ps r0 r1 c v)
            (λ c d v. turns_commute code timed ps r0 r1 c d v) (λ c x. alone_allowed code timed ps c x)
            IsKept covered_next opening z begins order o

        -- after each order both judges go on
        pub all_go : (order : List ℕ) → IsOrder order → AllGo code timed ps r0 r1 (after step order opening)
        all_go order o =
            let h = covered order o in
            let there = kept_go (after step (order ++ h.more) opening) h.kept in
            all_went code timed ps r0 r1 h.more (after step order opening)
            (subst (AllGo code timed ps r0 r1) (after_append step order h.more opening) there)

        -- and no next turn uses time
        pub all_free : (order : List ℕ) (c : ℕ) → IsOrder order → c < 2 → watched_bars code timed (own_in c (after step order opening)) ≡ false
        all_free order c o small =
            let h = covered (order ++ c ∷ []) (orders_more order (c ∷ []) o (small, tt)) in
            (next_allowed step own_in (λ (d : ℕ) (x : Own). IsAllowed code timed ps d x) order c opening h.allowed).free
