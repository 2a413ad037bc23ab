-- The judge of one core past a record, from what the program knows of it.
use Rattle.std.proofs.Common.{◌≡◌, ℕ, Bool, true, false, cond, Ok, Err, Option, None, List, length, refl, sym, ap, ◌∙◌, subst}
use Rattle.xt_trace.specs.declared.record.StepRecord.{StepRecord}
use Rattle.xt_frames.specs.declared.kinds.BreachKind.{BreachKind}
use Rattle.xt_frames.specs.Judging.{Seen, Handled, Judges, Breaks, seen_record}
use Rattle.xt_frames.specs.SaveAreas.{Range}
use Rattle.xt_frames.specs.Walked.{Walked, fresh_before}
use Rattle.xt_judged.specs.Kept.{standing_of}
use Rattle.xt_judged.specs.Lives.{AreApart}
use Rattle.xt_judged.specs.OwnJudges.{Judge, comes_to, is_within, judge_past, judge_seen}
use Rattle.xt_judged.specs.Past.{IsOnStack}
use Rattle.xt_judged.specs.Seen.{IsApartAfter, IsCopied, IsKnownAfter, IsKnownPast}
use Rattle.xt_judged.specs.Stales.{among, renewed}
use Rattle.xt_judged.specs.WatchedKept.{IsRunning, judge_at}
use Rattle.xt_judged.specs.declared.record.Beside.{Beside}
use Rattle.xt_judged.specs.declared.record.Known.{Known}
use Rattle.xt_judged.specs.declared.watched.Running.{Running}
use Rattle.xt_judged.specs.declared.watched.Fate.TheVariants as fate
use Rattle.xt_judged.proofs.FewerOrders.{judge_with}
use Rattle.xt_judged.proofs.SeenAs.{fresh_at}
use Rattle.xt_judged.proofs.Within.{stack_within}

-- a copy of the frames past a record, and what is known beside them
module _ (b : Beside) (new w : Walked) (is : w ≡ record new { fresh = fresh_before new 1; next = 0 }) (all : length new.state.control.special ≡ 256) where
  abbrev copied : Known
  copied = record {
    standing = record { frames = w; phase = b.phase; whole = ap (λ (x : Walked). length x.state.control.special) is ∙ all; first = ap (λ (x : Walked). x.next) is };
    stale = b.stale;
  }

  is_copied : IsCopied new b copied
  is_copied = record { frames = is; phase = refl; stale = refl }

  pub apart_copied : (other : Option Walked) (old stale : List ℕ) → stale ≡ renewed old b.stale → IsApartAfter other old new (Ok b) → AreApart w other stale
  apart_copied other old stale e h = subst (λ (l : List ℕ). AreApart w other l) (sym e) (h copied is_copied)

module _ (code : ℕ → ℕ) (other : Range) (c : ℕ) (v : Walked) (j : Running) (rec : StepRecord) where
  abbrev own : Judge
  own = judge_at v j

  abbrev pub alone : Seen
  alone = seen_record code own.bounds own.standing (λ a. false) own.stale rec

  abbrev crossed : Judge
  crossed = record own { fate = fate.Crossed }

  pub past_crossed : comes_to other rec.access ≡ true → crossed ≡ judge_past code other c own rec
  past_crossed e = sym (ap (λ (b : Bool). let k : Judge = cond b crossed (judge_seen c rec own alone) in k) e)

  past_here : comes_to other rec.access ≡ false → judge_seen c rec own alone ≡ judge_past code other c own rec
  past_here e = sym (ap (λ (b : Bool). let k : Judge = cond b crossed (judge_seen c rec own alone) in k) e)

  abbrev pub with_past : Known → Judge
  with_past k = record { standing = standing_of k.standing; bounds = k.standing.frames.bounds; stale = among (renewed j.stale k.stale); fate = j.fate }

  known_seen : (s : Seen) (k : Known) → IsOnStack k.standing.frames → IsKnownPast v.bounds j.stale s (Ok k) → with_past k ≡ judge_seen c rec own s
  known_seen (Handled st) k on h =
      let within : is_within own.bounds.range st.frame ≡ true = sym (λ i. is_within (h.1 i).range (h.0 i).frame) ∙ stack_within k.standing.frames.bounds.range k.standing.frames.state on in
      let new : Judge = record { standing = st; bounds = own.bounds; stale = own.stale; fate = own.fate } in
      (λ i. record { standing = h.0 i; bounds = h.1 i; stale = h.2 i; fate = j.fate })
      ∙ sym (ap (λ (b : Bool). let n : Judge = cond b new crossed in n) within)
  known_seen (Judges st after) k on h =
      let within : is_within own.bounds.range st.frame ≡ true = sym (λ i. is_within (h.1 i).range (h.0 i).frame) ∙ stack_within k.standing.frames.bounds.range k.standing.frames.state on in
      let new : Judge = record { standing = st; bounds = own.bounds; stale = after; fate = own.fate } in
      (λ i. record { standing = h.0 i; bounds = h.1 i; stale = h.2 i; fate = j.fate })
      ∙ sym (ap (λ (b : Bool). let n : Judge = cond b new crossed in n) within)
  known_seen (Breaks kind) k on h = absurd h

  pub past_known : (k : Known) → comes_to other rec.access ≡ false → IsOnStack k.standing.frames → IsKnownPast v.bounds j.stale alone (Ok k) → with_past k ≡ judge_past code other c own rec
  past_known k e on h = known_seen alone k on h ∙ past_here e

  pub past_copied : (b : Beside) (new w : Walked) (stale : List ℕ) → w ≡ record new { fresh = fresh_before new 1; next = 0 } → length new.state.control.special ≡ 256
      → stale ≡ renewed j.stale b.stale → comes_to other rec.access ≡ false → IsOnStack new → IsKnownAfter v.bounds j.stale new alone (Ok b)
      → judge_with w b.phase (among stale) j.fate ≡ judge_past code other c own rec
  past_copied b new w stale is all e apart on h =
      let there : IsOnStack w = subst IsOnStack (sym is) on in
      ap (λ (l : List ℕ). judge_with w b.phase (among l) j.fate) e
      ∙ past_known (copied b new w is all) apart there (h (copied b new w is all) (is_copied b new w is all))

  broken_seen : (s : Seen) (kind : BreachKind) → IsKnownPast v.bounds j.stale s (Err kind)
      → (let n : Judge = record own { fate = fate.Broke (record { core = c; pc = rec.pc; kind = kind }) } in n) ≡ judge_seen c rec own s
  broken_seen (Handled st) kind h = absurd h
  broken_seen (Judges st after) kind h = absurd h
  broken_seen (Breaks k) kind h = ap (λ (x : BreachKind). let n : Judge = record own { fate = fate.Broke (record { core = c; pc = rec.pc; kind = x }) } in n) h

  -- a breach, after which the frames are as before
  pub past_broken : (w : Walked) (kind : BreachKind) → comes_to other rec.access ≡ false → w ≡ v → IsKnownPast v.bounds j.stale alone (Err kind)
      → judge_at w (record j { fate = fate.Broke (record { core = c; pc = rec.pc; kind = kind }) }) ≡ judge_past code other c own rec
  past_broken w kind e same h =
      ap (λ (x : Walked). judge_at x (record j { fate = fate.Broke (record { core = c; pc = rec.pc; kind = kind }) })) same ∙ broken_seen alone kind h ∙ past_here e

-- ---- a judge whose core makes turns

-- with the frames past a record
pub running_past : (b : Beside) (new w : Walked) (j : Running) (old : List ℕ) → w ≡ record new { fresh = fresh_before new 1; next = 0 } → length new.state.control.special ≡ 256
    → j.stale ≡ renewed old b.stale → IsApartAfter None old new (Ok b) → IsRunning w j
running_past b new w j old is all e h = record {
  whole = ap (λ (x : Walked). length x.state.control.special) is ∙ all;
  first = ap (λ (x : Walked). x.next) is;
  apart = apart_copied b new w is all None old j.stale e h;
}

-- with the same frames and stale bytes
pub running_on : (v w : Walked) (i j : Running) → w ≡ v → j.stale ≡ i.stale → IsRunning v i → IsRunning w j
running_on v w i j e f h = record {
  whole = ap (λ (x : Walked). length x.state.control.special) e ∙ h.whole;
  first = ap (λ (x : Walked). x.next) e ∙ h.first;
  apart = subst (λ (u : Walked). AreApart u None j.stale) (sym e) (subst (λ (l : List ℕ). AreApart v None l) (sym f) h.apart);
}

-- a copy that is counted from its first record on
pub counted_first : (w : Walked) → w.next ≡ 0 → (let v : Walked = record w { fresh = fresh_before w 0; next = 0 } in v) ≡ w
counted_first w e = λ i. record w { fresh = fresh_at w e i; next = sym e i }
