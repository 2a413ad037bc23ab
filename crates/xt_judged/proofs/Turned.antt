-- The scene past a turn, from its parts.
use Rattle.std.proofs.Common.{◌≡◌, ℕ, zero, suc, ◌<◌, Bool, true, false, ◌||◌, ◌&&◌, not, Option, Some, None, List, Result, Ok, Err, IfOk, refl, sym, ap, ◌∙◌, subst, arith}
use Rattle.std.specs.Prelude.{◌==◌, is_some, if◌then◌else◌, option_map}
use Rattle.std.proofs.lemmas.Bool.{true≢false}
use Rattle.xt_map.specs.declared.contents.MemoryContents.{MemoryContents}
use Rattle.xt_trace.specs.declared.record.StepRecord.{StepRecord}
use Rattle.xt_trace.specs.Worlds.{answer}
use Rattle.xt_exec.specs.Chips.{processor}
use Rattle.xt_exec.specs.State.{State}
use Rattle.xt_exec.specs.Turn.{demand, turn}
use Rattle.xt_frames.specs.declared.kinds.BreachKind.{BreachKind}
use Rattle.xt_frames.specs.Judging.{Standing, Seen, Handled, Judges, Breaks, seen_record}
use Rattle.xt_frames.specs.SaveAreas.{is_live}
use Rattle.xt_frames.specs.Walked.{Walked}
use Rattle.xt_outcomes.specs.KeptWorlds.{spot_of}
use Rattle.xt_outcomes.specs.Spots.{Side, Spot, side_bars, side_of, spot_past}
use Rattle.xt_judged.specs.Alone.{is_other, only_after}
use Rattle.xt_judged.specs.Scenes as scenes
use Rattle.xt_judged.specs.Scenes.{Scene, Told, is_idle, passed, record_of, scene_bars, scene_past, seen_at, with_standing}
use Rattle.xt_judged.specs.Timeless.{frame_uses_time}
use Rattle.xt_judged.specs.declared.record.Known.{Known}
use Rattle.xt_judged.specs.declared.scene.Scene as kept
use Rattle.xt_judged.specs.declared.scene.Standing as standing
use Rattle.xt_judged.specs.Kept.{IsJudgedAs, IsTurn, Leads, bounds0, bounds1, other_of, own_of, scene_of, standing_of, told_of}
use Rattle.xt_judged.specs.Lives.{AreApart}
use Rattle.xt_judged.specs.Seen.{IsKnownPast, seen_by}
use Rattle.xt_judged.specs.Stales.{among, renewed}

-- ---- what no idle core has

none_of : {A : Type 0} (o : Option A) (x : Bool) → (is_some o || x) ≡ false → o ≡ None
none_of None x e = refl
none_of (Some a) x e = absurd (true≢false e)

left_of : (a b : Bool) (n : ℕ) → (a || (b || (n == 0))) ≡ false → 0 < n
left_of true b n e = absurd (true≢false e)
left_of false true n e = absurd (true≢false e)
left_of false false zero e = absurd (true≢false e)
left_of false false (suc n) e = omega arith

pub no_breach : (c : ℕ) (s : Scene) → is_idle c s ≡ false → s.breach ≡ None
no_breach c s e = none_of s.breach (is_other c s.only || ((side_of c s.spot).left == 0)) e

pub has_left : (c : ℕ) (s : Scene) → is_idle c s ≡ false → 0 < (side_of c s.spot).left
has_left c s e = left_of (is_some s.breach) (is_other c s.only) (side_of c s.spot).left e

-- ---- no stale byte is live

or_swap : (p q : Bool) → (p || q) ≡ false → (q || p) ≡ false
or_swap true q e = absurd (true≢false e)
or_swap false true e = absurd (true≢false e)
or_swap false false e = refl

pub apart_swap : (a b : Walked) (bytes : List ℕ) → AreApart a (Some b) bytes → AreApart b (Some a) bytes
apart_swap a b bytes h = λ x e. or_swap (is_live a.bounds.range a.state x) (is_live b.bounds.range b.state x) (h x e)

pub apart_of : (c : ℕ) (v : kept.Scene) → AreApart (own_of c v).frames (Some (other_of c v).frames) v.stale.value
apart_of zero v = v.apart
apart_of (suc c) v = apart_swap v.standing0.value.frames v.standing1.value.frames v.stale.value v.apart

-- ---- both cores

pub frame_of : (c : ℕ) (m : MemoryContents) (v : kept.Scene) → (own_of c v).frames.state ≡ (scenes.standing_of c (scene_of m v)).frame
frame_of zero m v = refl
frame_of (suc c) m v = refl

pub seen_is : (code : ℕ → ℕ) (c : ℕ) (m : MemoryContents) (v : kept.Scene) (rec : StepRecord)
    → seen_record code (own_of c v).frames.bounds (standing_of (own_of c v)) (is_live (other_of c v).frames.bounds.range (other_of c v).frames.state) (among v.stale.value) rec
    ≡ seen_at code (bounds0 v) (bounds1 v) c (scene_of m v) rec
seen_is code zero m v rec = refl
seen_is code (suc c) m v rec = refl

-- the judge sees in the record what the definition sees in the scene
pub known_in : {E : Type 0} (code : ℕ → ℕ) (c : ℕ) (m : MemoryContents) (v : kept.Scene) (rec : StepRecord) (w : Walked) (own : standing.Standing) (other : Walked) (stale : List ℕ)
    (r : Result (Result Known BreachKind) E)
    → w ≡ own.frames → own ≡ own_of c v → other ≡ (other_of c v).frames → stale ≡ v.stale.value
    → IfOk r (IsKnownPast w.bounds stale (seen_by code w own.phase (Some other) (among stale) rec))
    → IfOk r (IsKnownPast (own_of c v).frames.bounds v.stale.value (seen_at code (bounds0 v) (bounds1 v) c (scene_of m v) rec))
known_in {E} code c m v rec w own other stale r d e f g h =
    let At : Walked → standing.Standing → Walked → List ℕ → Type 0 = λ u x y z.
    IfOk r (IsKnownPast u.bounds z (seen_by code u x.phase (Some y) (among z) rec)) in
    let first = subst (λ (u : Walked). At u own other stale) d h in
    let here = subst (λ (x : standing.Standing). At x.frames x (other_of c v).frames v.stale.value) e (subst (λ (y : Walked). At own.frames own y v.stale.value) f (subst (λ (z : List ℕ). At own.frames own other z) g first)) in
    subst (λ (s : Seen). IfOk r (IsKnownPast (own_of c v).frames.bounds v.stale.value s)) (seen_is code c m v rec) here

-- ---- turns that use time

pub bars_idle : (code : ℕ → ℕ) (timed : Bool) (c : ℕ) (s : Scene) → is_idle c s ≡ true → false ≡ scene_bars code timed c s
bars_idle code timed c s e =
    sym (ap (λ (b : Bool). not b && (side_bars code timed (side_of c s.spot) || (not timed && frame_uses_time code (scenes.standing_of c s).frame))) e)

pub bars_side : (code : ℕ → ℕ) (timed : Bool) (c : ℕ) (s : Scene) → is_idle c s ≡ false → side_bars code timed (side_of c s.spot) ≡ true → true ≡ scene_bars code timed c s
bars_side code timed c s e f =
    sym (λ i. not (e i) && (f i || (not timed && frame_uses_time code (scenes.standing_of c s).frame)))

pub bars_frame : (code : ℕ → ℕ) (timed : Bool) (c : ℕ) (s : Scene) (b : Bool) → is_idle c s ≡ false → side_bars code timed (side_of c s.spot) ≡ false
    → b ≡ (not timed && frame_uses_time code (scenes.standing_of c s).frame) → b ≡ scene_bars code timed c s
bars_frame code timed c s b e f g =
    g ∙ sym (λ i. not (e i) && (f i || (not timed && frame_uses_time code (scenes.standing_of c s).frame)))

-- ---- a turn

abbrev pub made : Spot State → Standing → Standing → (ℕ → Bool) → Option ℕ → Option Told → Scene
made spot st0 st1 stale only breach = record { spot = spot; standing0 = st0; standing1 = st1; stale = stale; only = only; breach = breach }

module _ (code : ℕ → ℕ) (timed : Bool) (m : MemoryContents) (v : kept.Scene) where
  abbrev here : Scene
  here = scene_of m v

  abbrev past : ℕ → Scene
  past c = scene_past (processor code) code (bounds0 v) (bounds1 v) timed c here

  pub past_idle : (c : ℕ) → is_idle c here ≡ true → here ≡ past c
  past_idle c e =
      let rec = record_of (processor code) c here in
      sym (ap (λ (b : Bool). if b then here else passed (processor code) timed c here rec (seen_at code (bounds0 v) (bounds1 v) c here rec)) e)

  past_other : (c : ℕ) (rec : StepRecord) → is_idle c here ≡ false → rec ≡ record_of (processor code) c here
      → passed (processor code) timed c here rec (seen_at code (bounds0 v) (bounds1 v) c here rec) ≡ past c
  past_other c rec e f =
      let next = record_of (processor code) c here in
      ap (λ (r : StepRecord). passed (processor code) timed c here r (seen_at code (bounds0 v) (bounds1 v) c here r)) f
      ∙ sym (ap (λ (b : Bool). if b then here else passed (processor code) timed c here next (seen_at code (bounds0 v) (bounds1 v) c here next)) e)

  -- the core has come so far, and so much is known after its turn
  abbrev pub moved : ℕ → Spot State → Known → StepRecord → Scene
  moved c spot k rec =
      record (with_standing c (standing_of k.standing) here) { spot = spot; stale = among (renewed v.stale.value k.stale); only = only_after c rec.access; breach = None }

  moved_is : (c : ℕ) (rec : StepRecord) (seen : Seen) (k : Known) (spot : Spot State) → here.breach ≡ None → spot ≡ spot_past (processor code) timed c here.spot
      → IsKnownPast (own_of c v).frames.bounds v.stale.value seen (Ok k) → moved c spot k rec ≡ passed (processor code) timed c here rec seen
  moved_is zero rec (Handled st) k spot none e h = λ i. made (e i) (h.0 i) here.standing1 (h.2 i) (only_after zero rec.access) (sym none i)
  moved_is zero rec (Judges st after) k spot none e h = λ i. made (e i) (h.0 i) here.standing1 (h.2 i) (only_after zero rec.access) (sym none i)
  moved_is zero rec (Breaks kind) k spot none e h = absurd h
  moved_is (suc c) rec (Handled st) k spot none e h = λ i. made (e i) here.standing0 (h.0 i) (h.2 i) (only_after (suc c) rec.access) (sym none i)
  moved_is (suc c) rec (Judges st after) k spot none e h = λ i. made (e i) here.standing0 (h.0 i) (h.2 i) (only_after (suc c) rec.access) (sym none i)
  moved_is (suc c) rec (Breaks kind) k spot none e h = absurd h

  broken_is : (c : ℕ) (rec : StepRecord) (seen : Seen) (kind : BreachKind) → IsKnownPast (own_of c v).frames.bounds v.stale.value seen (Err kind)
      → record here { breach = Some (record { core = c; pc = rec.pc; kind = kind }) } ≡ passed (processor code) timed c here rec seen
  broken_is c rec (Handled st) kind h = absurd h
  broken_is c rec (Judges st after) kind h = absurd h
  broken_is c rec (Breaks k) kind h =
      ap (λ (x : BreachKind). let t : Told = record { core = c; pc = rec.pc; kind = x } in made here.spot here.standing0 here.standing1 here.stale here.only (Some t)) h

  pub past_known : (c : ℕ) (rec : StepRecord) (k : Known) (spot : Spot State) → is_idle c here ≡ false → rec ≡ record_of (processor code) c here
      → spot ≡ spot_past (processor code) timed c here.spot → IsKnownPast (own_of c v).frames.bounds v.stale.value (seen_at code (bounds0 v) (bounds1 v) c here rec) (Ok k)
      → moved c spot k rec ≡ past c
  past_known c rec k spot idle is e h =
      moved_is c rec (seen_at code (bounds0 v) (bounds1 v) c here rec) k spot (no_breach c here idle) e h ∙ past_other c rec idle is

  pub past_broken : (c : ℕ) (rec : StepRecord) (kind : BreachKind) → is_idle c here ≡ false → rec ≡ record_of (processor code) c here
      → IsKnownPast (own_of c v).frames.bounds v.stale.value (seen_at code (bounds0 v) (bounds1 v) c here rec) (Err kind)
      → record here { breach = Some (record { core = c; pc = rec.pc; kind = kind }) } ≡ past c
  past_broken c rec kind idle is h =
      broken_is c rec (seen_at code (bounds0 v) (bounds1 v) c here rec) kind h ∙ past_other c rec idle is

-- the core is judged by the same after its turn
pub same_bounds : (own : standing.Standing) (stale : List ℕ) (seen : Seen) (k : Known) → IsKnownPast own.frames.bounds stale seen (Ok k) → k.standing.frames.bounds ≡ own.frames.bounds
same_bounds own stale (Handled st) k h = h.1
same_bounds own stale (Judges st after) k h = h.1
same_bounds own stale (Breaks kind) k h = absurd h

-- the record of the turn, from the core and memory before it
pub record_is : (code : ℕ → ℕ) (c : ℕ) (s : Scene) (x : Side State) (n : MemoryContents) (rec : StepRecord) → x ≡ side_of c s.spot → n ≡ s.spot.memory
    → rec ≡ (turn code x.state (answer (demand code x.state) n)).0 → rec ≡ record_of (processor code) c s
record_is code c s x n rec e f g = g ∙ (λ i. (turn code (e i).state (answer (demand code (e i).state) (f i))).0)

-- turns that lead to a scene lead to one that holds the same
pub like : (code : ℕ → ℕ) (timed : Bool) (n : ℕ) (m : MemoryContents) (v w : kept.Scene) → spot_of m v.world ≡ spot_of m w.world → IsJudgedAs v w
    → (c : ℕ) (u : kept.Scene) → Leads code timed n m c u w → Leads code timed n m c u v
like code timed n m v w e j c u h = record {
  turns =
      (λ i. made (e i) (standing_of (j.standing0 i)) (standing_of (j.standing1 i)) (among (j.stale i)) (j.only i) (option_map told_of (j.breach i)))
      ∙ h.turns;
  same0 = ap (λ (s : standing.Standing). s.frames.bounds) j.standing0 ∙ h.same0;
  same1 = ap (λ (s : standing.Standing). s.frames.bounds) j.standing1 ∙ h.same1;
  free = h.free;
}

-- a turn leads to what it makes
pub leads_past : {E : Type 0} (code : ℕ → ℕ) (timed : Bool) (m : MemoryContents) (c : ℕ) (v : kept.Scene) (made_scene : MemoryContents → Scene) (r : Result kept.Scene E)
    → IfOk r (λ s. (n : MemoryContents) → scene_of n s ≡ made_scene n) → IfOk r (λ s. bounds0 s ≡ bounds0 v) → IfOk r (λ s. bounds1 s ≡ bounds1 v)
    → made_scene m ≡ scene_past (processor code) code (bounds0 v) (bounds1 v) timed c (scene_of m v) → IfOk r (IsTurn code timed m c v)
leads_past {E} code timed m c v made_scene (Ok s) h same0 same1 e = record { turn = h m ∙ e; same0 = same0; same1 = same1 }
leads_past {E} code timed m c v made_scene (Err x) h same0 same1 e = tt
