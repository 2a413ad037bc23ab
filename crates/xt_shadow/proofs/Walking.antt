-- The judge over the turns of both cores is that over their records.
use Rattle.std.proofs.Common.{◌≡◌, ℕ, ◌+◌, ◌<◌, ◌≤◌, ◌^◌, Bool, true, cond, Some, Result, Ok, Err, List, length, get_or, refl, sym, ◌∙◌, ap, subst}
use Rattle.std.proofs.lemmas.Bool.{cond-true}
use Rattle.std.specs.Vec.{with_items}
use Rattle.xt_map.specs.Memory.{constant_byte}
use Rattle.xt_image.specs.declared.image.Image.{Image}
use Rattle.xt_trace.specs.declared.record.StepRecord.{StepRecord}
use Rattle.xt_trace.specs.declared.run.Run.{Run}
use Rattle.xt_core.specs.Runs.{code_of, records_of}
use Rattle.xt_frames.specs.declared.kinds.Judged.{Judged}
use Rattle.xt_frames.specs.declared.kinds.Judged.TheVariants.{Unchecked, Whole}
use Rattle.xt_frames.specs.Breaches.{Bounds}
use Rattle.xt_frames.specs.Verdict.{Judgement, Known, judgement, opening_known, verdict_on}
use Rattle.xt_discipline.specs.declared.bytes.Held.{Held}
use Rattle.xt_discipline.specs.ByteMarks.{KnowsOf}
use Rattle.xt_discipline.specs.Schedules.{schedule_in}
use Rattle.xt_discipline.specs.Sides.{live_in}
use Rattle.xt_discipline.specs.Verdicts.{opened0, opened1}
use Rattle.xt_discipline.specs.Walks.{Knows, Reaches, Turns}
use Rattle.xt_discipline.specs.Walks as walks
use Rattle.xt_discipline.proofs.Walking.{marks_of_0, marks_of_1, reach_all, reach_err, reach_none, reach_room, reach_turn, turned_one, turned_zero}
use Rattle.xt_shadow.specs.declared.cores.ShadowCore.{ShadowCore}
use Rattle.xt_shadow.specs.declared.cores.End.{End}
use Rattle.xt_shadow.specs.declared.cores.End.TheVariants.{Is, Lost}
use Rattle.xt_shadow.specs.declared.walk.ShadowWalk.{ShadowWalk}
use Rattle.xt_shadow.specs.Shadows.{HasReached, IsFound, IsFoundIn, IsOpenedWalk, IsTurned, IsWalked, KnowsBoth, judged_from, records_left, shown, shown_walk}

-- ---- a turn
abbrev Came : (ℕ → ℕ) → ShadowCore → ShadowCore → ShadowCore → List Held → List Held → Result Unit End → Type 0
Came code old theirs c now marks r = (others stale : ℕ → Bool) → KnowsOf (shown old).core now (live_in (shown old).frames) others stale → IsTurned code old c marks others stale r

pub knows_0 : (w : ShadowWalk) (b0 b1 : Bounds) (k : Known) (now : List Held) → KnowsBoth w b0 b1 k → now ≡ w.marks.items → KnowsOf (shown w.side0).core now (live_in (shown w.side0).frames) (live_in (shown w.side1).frames) k.stale
knows_0 w b0 b1 k now h is = subst (λ (l : List Held). KnowsOf (shown w.side0).core l (live_in (shown w.side0).frames) (live_in (shown w.side1).frames) k.stale) (sym is) (marks_of_0 (shown_walk w) b0 b1 k h.knows)

pub knows_1 : (w : ShadowWalk) (b0 b1 : Bounds) (k : Known) (now : List Held) → KnowsBoth w b0 b1 k → now ≡ w.marks.items → KnowsOf (shown w.side1).core now (live_in (shown w.side1).frames) (live_in (shown w.side0).frames) k.stale
knows_1 w b0 b1 k now h is = subst (λ (l : List Held). KnowsOf (shown w.side1).core l (live_in (shown w.side1).frames) (live_in (shown w.side0).frames) k.stale) (sym is) (marks_of_1 (shown_walk w) b0 b1 k h.knows)

pub walked_zero : (w : ShadowWalk) (c : ShadowCore) (now marks : List Held) (b0 b1 : Bounds) (k : Known) (core : ℕ) (r : Result Unit End) → core ≡ 0 → KnowsBoth w b0 b1 k
    → now ≡ w.marks.items → length now ≡ w.marks.len → length marks ≡ length now → Came (constant_byte w.code) w.side0 w.side1 c now marks r
    → IsWalked (constant_byte w.code) b0 b1 core k w (record { code = w.code; side0 = c; side1 = w.side1; marks = with_items w.marks marks }) r
walked_zero w c now marks b0 b1 k core (Ok u) none h is len same t =
    let code = constant_byte w.code in
    let v = shown_walk w in
    let x = t (live_in (shown w.side1).frames) k.stale (knows_0 w b0 b1 k now h is) in
    let d = turned_zero v (shown c) now marks b0 b1 k core (records_left code w.side0) (records_left code c) (records_left code w.side1) (Ok u) none h.knows is len same (λ known. x.0) in
    (d, record { zero = x.1; one = h.cores.one })
walked_zero w c now marks b0 b1 k core (Err (Is j)) none h is len same t =
    let code = constant_byte w.code in
    let v = shown_walk w in
    let out : Result Unit Judged = Err j in
    let x = t (live_in (shown w.side1).frames) k.stale (knows_0 w b0 b1 k now h is) in
    turned_zero v (shown c) now marks b0 b1 k core (records_left code w.side0) (records_left code c) (records_left code w.side1) out none h.knows is len same (λ known. x)
walked_zero w c now marks b0 b1 k core (Err Lost) none h is len same t = tt

pub walked_one : (w : ShadowWalk) (c : ShadowCore) (now marks : List Held) (b0 b1 : Bounds) (k : Known) (core : ℕ) (r : Result Unit End) → core ≡ 1 → KnowsBoth w b0 b1 k
    → now ≡ w.marks.items → length now ≡ w.marks.len → length marks ≡ length now → Came (constant_byte w.code) w.side1 w.side0 c now marks r
    → IsWalked (constant_byte w.code) b0 b1 core k w (record { code = w.code; side0 = w.side0; side1 = c; marks = with_items w.marks marks }) r
walked_one w c now marks b0 b1 k core (Ok u) one h is len same t =
    let code = constant_byte w.code in
    let v = shown_walk w in
    let x = t (live_in (shown w.side0).frames) k.stale (knows_1 w b0 b1 k now h is) in
    let d = turned_one v (shown c) now marks b0 b1 k core (records_left code w.side0) (records_left code w.side1) (records_left code c) (Ok u) one h.knows is len same (λ known. x.0) in
    (d, record { zero = h.cores.zero; one = x.1 })
walked_one w c now marks b0 b1 k core (Err (Is j)) one h is len same t =
    let code = constant_byte w.code in
    let v = shown_walk w in
    let out : Result Unit Judged = Err j in
    let x = t (live_in (shown w.side0).frames) k.stale (knows_1 w b0 b1 k now h is) in
    turned_one v (shown c) now marks b0 b1 k core (records_left code w.side0) (records_left code w.side1) (records_left code c) out one h.knows is len same (λ known. x)
walked_one w c now marks b0 b1 k core (Err Lost) one h is len same t = tt

-- ---- along a schedule
module _ (code : ℕ → ℕ) (b0 b1 : Bounds) (k : Known) (cs : List ℕ) (old : ShadowWalk) where
  pub none_reached : KnowsBoth old b0 b1 k → constant_byte old.code ≡ code → HasReached code b0 b1 k cs old old 0
  none_reached h e = record { cores_are = h.cores; reaches = reach_none code (shown_walk old) b0 b1 k cs (records_left code old.side0) (records_left code old.side1) h.knows e }

  module _ (w : ShadowWalk) (i : ℕ) (h : HasReached code b0 b1 k cs old w i) where
    pub both : KnowsBoth w b0 b1 h.reaches.known
    both = record { cores = h.cores_are; knows = h.reaches.knows }

    pub room_left : KnowsBoth old b0 b1 k → i < length cs → (shown old.side0).steps + (shown old.side1).steps + length cs < 2 ^ 32 → (shown w.side0).steps + (shown w.side1).steps + 1 < 2 ^ 32
    room_left q lt room = reach_room code (shown_walk old) (shown_walk w) b0 b1 k cs i (records_left code old.side0) (records_left code old.side1) (records_left code w.side0) (records_left code w.side1) q.knows h.reaches lt room

    pub all_reached : length cs ≤ i → Whole ≡ verdict_on (judged_from code b0 b1 cs k old).breach
    all_reached le = reach_all code (shown_walk w) b0 b1 k cs i (records_left code old.side0) (records_left code old.side1) (records_left code w.side0) (records_left code w.side1) le h.reaches

    -- the code of the walk is that of its beginning
    same_left : (c : ShadowCore) → records_left (constant_byte w.code) c ≡ records_left code c
    same_left c = ap (λ (f : ℕ → ℕ). records_left f c) h.reaches.code_is

    module _ (new : ShadowWalk) (core d : ℕ) (lt : i < length cs) (is : core ≡ get_or cs i d) where
      abbrev Here : (ℕ → ℕ) → Result Unit End → Type 0
      Here f r = IsWalked f b0 b1 core h.reaches.known w new r

      pub more_reached : (r : Result Unit End) (u : Unit) → r ≡ Ok u → Here (constant_byte w.code) r → HasReached code b0 b1 k cs old new (i + 1)
      more_reached r u e t =
          let here : Here code (Ok u) = subst (λ (f : ℕ → ℕ). Here f (Ok u)) h.reaches.code_is (subst (Here (constant_byte w.code)) e t) in
          let ok : Result Unit Judged = Ok u in
          let W : (ℕ → ℕ) → Type 0 = λ f. walks.IsTurned f b0 b1 core h.reaches.known (records_left code w.side0) (records_left code w.side1) (shown_walk new) (records_left code new.side0) (records_left code new.side1) (Ok u) in
          record {
            cores_are = here.1;
            reaches = reach_turn code (shown_walk w) (shown_walk new) b0 b1 k cs i core d (records_left code old.side0) (records_left code old.side1) (records_left code w.side0) (records_left code w.side1) (records_left code new.side0) (records_left code new.side1) ok u refl lt is h.reaches
                (subst W (sym h.reaches.code_is) here.0);
          }

      by_end : (e : End) → Here code (Err e) → IsFound (judged_from code b0 b1 cs k old) (Err e)
      by_end (Is j) t =
          let out : Result Unit Judged = Err j in
          let W : (ℕ → ℕ) → Type 0 = λ f. walks.IsTurned f b0 b1 core h.reaches.known (records_left code w.side0) (records_left code w.side1) (shown_walk new) (records_left code new.side0) (records_left code new.side1) out in
          reach_err code (shown_walk w) (shown_walk new) b0 b1 k cs i core d (records_left code old.side0) (records_left code old.side1) (records_left code w.side0) (records_left code w.side1) (records_left code new.side0) (records_left code new.side1) out j refl lt is h.reaches
          (subst W (sym h.reaches.code_is) t)
      by_end Lost t = tt

      pub end_found : (r : Result Unit End) (e : End) → r ≡ Err e → Here (constant_byte w.code) r → IsFound (judged_from code b0 b1 cs k old) (Err e)
      end_found r e same t =
          let err : Result Unit End = Err e in
          by_end e (subst (λ (f : ℕ → ℕ). Here f err) h.reaches.code_is (subst (Here (constant_byte w.code)) same t))

-- ---- in the words of the image and its run
pub judged_is : (image : Image) (r : Run) (w : ShadowWalk) (good : Bool) (j : Judged) → good ≡ true → IsOpenedWalk image r w
    → IsFoundIn (judged_from (constant_byte w.code) (opened0 image r.options).bounds (opened1 r.options).bounds (schedule_in r) (opening_known (opened0 image r.options).state (opened1 r.options).state) w) (Some j)
    → j ≡ cond good (verdict_on (judgement (code_of image) (opened0 image r.options).bounds (opened1 r.options).bounds (schedule_in r) (records_of 0 image r).records (records_of 1 image r).records (opening_known (opened0 image r.options).state (opened1 r.options).state)).breach) Unchecked
judged_is image r w good j checked o found =
    let a = opened0 image r.options in
    let b = opened1 r.options in
    let J : (ℕ → ℕ) → List StepRecord → List StepRecord → Judgement = λ f xs ys. judgement f a.bounds b.bounds (schedule_in r) xs ys (opening_known a.state b.state) in
    let code : J (constant_byte w.code) (records_left (constant_byte w.code) w.side0) (records_left (constant_byte w.code) w.side1) ≡ J (code_of image) (records_left (code_of image) w.side0) (records_left (code_of image) w.side1) =
    ap (λ (f : ℕ → ℕ). J f (records_left f w.side0) (records_left f w.side1)) o.code_is in
    let records : J (code_of image) (records_left (code_of image) w.side0) (records_left (code_of image) w.side1) ≡ J (code_of image) (records_of 0 image r).records (records_of 1 image r).records =
    λ i. J (code_of image) (o.records0 i) (o.records1 i) in
    found ∙ (ap (λ (x : Judgement). verdict_on x.breach) (code ∙ records) ∙ sym (cond-true good (verdict_on (J (code_of image) (records_of 0 image r).records (records_of 1 image r).records).breach) Unchecked checked))
