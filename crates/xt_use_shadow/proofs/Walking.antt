-- The walk over the turns of both cores is that over their records.
use Rattle.std.proofs.Common.{◌≡◌, ℕ, ◌+◌, ◌<◌, ◌≤◌, ◌^◌, Bool, true, false, IfOk, Option, Some, None, Result, Ok, Err, List, length, get_or, refl, sym, ◌∙◌, ap, subst}
use Rattle.std.proofs.lemmas.Bool.{true≢false}
use Rattle.xt_map.specs.Memory.{constant_byte}
use Rattle.xt_map.specs.declared.segment.Segment.{Segment}
use Rattle.xt_image.specs.declared.image.Image.{Image}
use Rattle.xt_trace.specs.declared.record.StepRecord.{StepRecord}
use Rattle.xt_trace.specs.declared.run.Run.{Run}
use Rattle.xt_core.specs.Runs.{records_of}
use Rattle.xt_frames.specs.Breaches.{Bounds}
use Rattle.xt_frames.specs.Walked.{opening_walked}
use Rattle.xt_discipline.specs.Schedules.{schedule_in}
use Rattle.xt_uses.specs.declared.discipline.Discipline.{Discipline}
use Rattle.xt_uses.specs.UseWalk.{UseKnown, opening_use_known}
use Rattle.xt_use_walk.specs.declared.side.Bytes.{Bytes}
use Rattle.xt_use_walk.specs.declared.walk.FirstUse.{FirstUse}
use Rattle.xt_use_walk.specs.declared.walk.Uses.{Uses}
use Rattle.xt_use_walk.specs.MaskedBytes.{KnowsBytes}
use Rattle.xt_use_walk.specs.Sides.{live_in}
use Rattle.xt_discipline.specs.Verdicts.{course_in, course_of}
use Rattle.xt_use_walk.specs.Verdicts.{IsUsesOf}
use Rattle.xt_use_walk.specs.Walks.{IsEnded, IsTold, IsWhole, NoRecord, Shows, WalkEnd}
use Rattle.xt_use_walk.specs.Walks as walks
use Rattle.xt_use_walk.proofs.Reaching.{reach_all, reach_err, reach_none, reach_room, reach_turn}
use Rattle.xt_use_walk.proofs.Said.{uses_are}
use Rattle.xt_use_walk.proofs.Sideways.{turned_bytes}
use Rattle.xt_use_walk.proofs.Walking.{turned_one, turned_zero}
use Rattle.xt_use_shadow.specs.declared.cores.UseShadow.{UseShadow}
use Rattle.xt_use_shadow.specs.declared.seeing.End.{End}
use Rattle.xt_use_shadow.specs.declared.seeing.End.TheVariants.{NoTurn, Breaks, NoMemory, Lost}
use Rattle.xt_use_shadow.specs.declared.walk.UseShadowWalk.{UseShadowWalk}
use Rattle.xt_use_shadow.specs.Shadows.{HasReached, IsBrokenBy, IsBrokenWalk, IsFound, IsFoundIn, IsOpenedWalk, IsShownIn, IsTurned, IsUsesOver, IsWalked, KnowsBoth, NeverSteps, judged_from, records_left, shown, shown_walk}

-- ---- a turn
abbrev Came : (ℕ → ℕ) → UseShadow → UseShadow → Bytes → Bytes → Option FirstUse → Result Unit End → Type 0
Came code old c now bytes first r = (others : ℕ → Bool) (masks : ℕ → ℕ) → KnowsBytes (shown old).core now (live_in (shown old).uses) others masks → IsTurned code old c bytes others masks first r

pub knows_0 : (w : UseShadowWalk) (b0 b1 : Bounds) (k : UseKnown) → KnowsBoth w b0 b1 k → KnowsBytes (shown w.side0).core w.bytes (live_in (shown w.side0).uses) (live_in (shown w.side1).uses) k.masks
knows_0 w b0 b1 k h =
    let K : ℕ → Type 0 = λ c. KnowsBytes c w.bytes (live_in (shown w.side0).uses) (live_in (shown w.side1).uses) k.masks in
    subst K (sym h.knows.zero.core_is) h.knows.bytes

pub knows_1 : (w : UseShadowWalk) (b0 b1 : Bounds) (k : UseKnown) → KnowsBoth w b0 b1 k → KnowsBytes (shown w.side1).core w.bytes (live_in (shown w.side1).uses) (live_in (shown w.side0).uses) k.masks
knows_1 w b0 b1 k h =
    let K : ℕ → Type 0 = λ c. KnowsBytes c w.bytes (live_in (shown w.side1).uses) (live_in (shown w.side0).uses) k.masks in
    subst K (sym h.knows.one.core_is) (turned_bytes 0 w.bytes (live_in (shown w.side0).uses) (live_in (shown w.side1).uses) k.masks h.knows.bytes)

module _ (w : UseShadowWalk) (c : UseShadow) (bytes : Bytes) (b0 b1 : Bounds) (k : UseKnown) (core : ℕ) (h : KnowsBoth w b0 b1 k) where
  abbrev code : ℕ → ℕ
  code = constant_byte w.code

  abbrev after_0 : Option FirstUse → UseShadowWalk
  after_0 first = record { code = w.code; side0 = c; side1 = w.side1; bytes = bytes; first = first }

  broken_0 : (first : Option FirstUse) → core ≡ 0 → IsBrokenBy code w.side0 c bytes (live_in (shown w.side1).uses) k.masks first → IsBrokenWalk code b0 b1 core k w (after_0 first) first
  broken_0 None none x = absurd x
  broken_0 (Some f) none x =
      let out : Result Unit WalkEnd = Err (Shows f) in
      turned_zero (shown_walk w) (shown c) bytes b0 b1 k core (records_left code w.side0) (records_left code c) (records_left code w.side1) out none h.knows (λ known. x)

  pub walked_zero : (first : Option FirstUse) (r : Result Unit End) → core ≡ 0 → Came code w.side0 c w.bytes bytes first r → IsWalked code b0 b1 core k w (after_0 first) r
  walked_zero first (Ok u) none t =
      let x = t (live_in (shown w.side1).uses) k.masks (knows_0 w b0 b1 k h) in
      let d = turned_zero (shown_walk w) (shown c) bytes b0 b1 k core (records_left code w.side0) (records_left code c) (records_left code w.side1) (Ok u) none h.knows (λ known. x.0) in
      (d, record { zero = x.1; one = h.cores.one })
  walked_zero first (Err NoTurn) none t =
      let out : Result Unit WalkEnd = Err NoRecord in
      turned_zero (shown_walk w) (shown c) bytes b0 b1 k core (records_left code w.side0) (records_left code c) (records_left code w.side1) out none h.knows (λ known. t (live_in (shown w.side1).uses) k.masks (knows_0 w b0 b1 k h))
  walked_zero first (Err Breaks) none t = broken_0 first none (t (live_in (shown w.side1).uses) k.masks (knows_0 w b0 b1 k h))
  walked_zero first (Err (NoMemory error)) none t = tt
  walked_zero first (Err Lost) none t = λ n. true≢false (sym (t (live_in (shown w.side1).uses) k.masks (knows_0 w b0 b1 k h)) ∙ n.zero)

  abbrev after_1 : Option FirstUse → UseShadowWalk
  after_1 first = record { code = w.code; side0 = w.side0; side1 = c; bytes = bytes; first = first }

  broken_1 : (first : Option FirstUse) → core ≡ 1 → IsBrokenBy code w.side1 c bytes (live_in (shown w.side0).uses) k.masks first → IsBrokenWalk code b0 b1 core k w (after_1 first) first
  broken_1 None one x = absurd x
  broken_1 (Some f) one x =
      let out : Result Unit WalkEnd = Err (Shows f) in
      turned_one (shown_walk w) (shown c) bytes b0 b1 k core (records_left code w.side0) (records_left code w.side1) (records_left code c) out one h.knows (λ known. x)

  pub walked_one : (first : Option FirstUse) (r : Result Unit End) → core ≡ 1 → Came code w.side1 c w.bytes bytes first r → IsWalked code b0 b1 core k w (after_1 first) r
  walked_one first (Ok u) one t =
      let x = t (live_in (shown w.side0).uses) k.masks (knows_1 w b0 b1 k h) in
      let d = turned_one (shown_walk w) (shown c) bytes b0 b1 k core (records_left code w.side0) (records_left code w.side1) (records_left code c) (Ok u) one h.knows (λ known. x.0) in
      (d, record { zero = h.cores.zero; one = x.1 })
  walked_one first (Err NoTurn) one t =
      let out : Result Unit WalkEnd = Err NoRecord in
      turned_one (shown_walk w) (shown c) bytes b0 b1 k core (records_left code w.side0) (records_left code w.side1) (records_left code c) out one h.knows (λ known. t (live_in (shown w.side0).uses) k.masks (knows_1 w b0 b1 k h))
  walked_one first (Err Breaks) one t = broken_1 first one (t (live_in (shown w.side0).uses) k.masks (knows_1 w b0 b1 k h))
  walked_one first (Err (NoMemory error)) one t = tt
  walked_one first (Err Lost) one t = λ n. true≢false (sym (t (live_in (shown w.side0).uses) k.masks (knows_1 w b0 b1 k h)) ∙ n.one)

-- ---- along a schedule
module _ (code : ℕ → ℕ) (b0 b1 : Bounds) (k : UseKnown) (cs : List ℕ) (old : UseShadowWalk) where
  abbrev xs : List StepRecord
  xs = records_left code old.side0

  abbrev ys : List StepRecord
  ys = records_left code old.side1

  pub none_reached : KnowsBoth old b0 b1 k → constant_byte old.code ≡ code → HasReached code b0 b1 k cs old old 0
  none_reached h e = record { cores_are = h.cores; never = λ n. n; reaches = reach_none code (shown_walk old) b0 b1 k cs xs ys h.knows e }

  module _ (w : UseShadowWalk) (i : ℕ) (h : HasReached code b0 b1 k cs old w i) where
    pub both : KnowsBoth w b0 b1 h.reaches.known
    both = record { cores = h.cores_are; knows = h.reaches.knows }

    pub room_left : KnowsBoth old b0 b1 k → i < length cs → (shown old.side0).steps + (shown old.side1).steps + length cs < 2 ^ 32 → (shown w.side0).steps + (shown w.side1).steps + 1 < 2 ^ 32
    room_left q lt room = reach_room code (shown_walk old) (shown_walk w) b0 b1 k cs i xs ys (records_left code w.side0) (records_left code w.side1) q.knows h.reaches lt room

    pub all_reached : length cs ≤ i → IsWhole (judged_from code b0 b1 cs k old) (shown w.side0).carried (shown w.side1).carried
    all_reached le = reach_all code (shown_walk w) b0 b1 k cs i xs ys (records_left code w.side0) (records_left code w.side1) le h.reaches

    module _ (new : UseShadowWalk) (core d : ℕ) (lt : i < length cs) (is : core ≡ get_or cs i d) where
      abbrev Here : (ℕ → ℕ) → Result Unit End → Type 0
      Here f r = IsWalked f b0 b1 core h.reaches.known w new r

      abbrev On : Result Unit WalkEnd → (ℕ → ℕ) → Type 0
      On out f = walks.IsTurned f b0 b1 core h.reaches.known (records_left code w.side0) (records_left code w.side1) (shown_walk new) (records_left code new.side0) (records_left code new.side1) out

      pub more_reached : (r : Result Unit End) (u : Unit) → r ≡ Ok u → (NeverSteps w → NeverSteps new) → Here (constant_byte w.code) r → HasReached code b0 b1 k cs old new (i + 1)
      more_reached r u e on t =
          let here : Here code (Ok u) = subst (λ (f : ℕ → ℕ). Here f (Ok u)) h.reaches.code_is (subst (Here (constant_byte w.code)) e t) in
          let ok : Result Unit WalkEnd = Ok u in
          record {
            cores_are = here.1;
            never = λ n. on (h.never n);
            reaches = reach_turn code (shown_walk w) (shown_walk new) b0 b1 k cs i core d xs ys (records_left code w.side0) (records_left code w.side1) (records_left code new.side0) (records_left code new.side1) ok u refl lt is h.reaches
                (subst (On ok) (sym h.reaches.code_is) here.0);
          }

      ends : (end : WalkEnd) → On (Err end) code → IsEnded code (judged_from code b0 b1 cs k old) k xs ys (shown_walk new) end
      ends end t =
          let out : Result Unit WalkEnd = Err end in
          reach_err code (shown_walk w) (shown_walk new) b0 b1 k cs i core d xs ys (records_left code w.side0) (records_left code w.side1) (records_left code new.side0) (records_left code new.side1) out end refl lt is h.reaches
          (subst (On out) (sym h.reaches.code_is) t)

      by_first : (first : Option FirstUse) → IsBrokenWalk code b0 b1 core h.reaches.known w new first → IsShownIn code (judged_from code b0 b1 cs k old) k old first
      by_first None t = absurd t
      by_first (Some f) t = ends (Shows f) t

      by_end : (e : End) → Here code (Err e) → IsFound code (judged_from code b0 b1 cs k old) k old new (Err e)
      by_end NoTurn t = ends NoRecord t
      by_end Breaks t = by_first new.first t
      by_end (NoMemory error) t = tt
      by_end Lost t = λ n. t (h.never n)

      pub end_found : (r : Result Unit End) (e : End) → r ≡ Err e → Here (constant_byte w.code) r → IsFound code (judged_from code b0 b1 cs k old) k old new (Err e)
      end_found r e is_err t =
          let bad : Result Unit End = Err e in
          by_end e (subst (λ (f : ℕ → ℕ). Here f bad) h.reaches.code_is (subst (Here (constant_byte w.code)) is_err t))

-- ---- what is found of a run of an image
abbrev pub opening_known : Discipline → Image → Run → UseKnown
opening_known d image r =
    let a = opening_walked 0 image.entry r.options in
    let b = opening_walked 1 r.options.entry1 r.options in
    opening_use_known d a.bounds b.bounds a.state b.state

pub uses_found : (d : Discipline) (image : Image) (r : Run) (may_step : Bool) (w : UseShadowWalk) (uses : Uses) → IsOpenedWalk d image r may_step w
    → IsFoundIn (constant_byte w.code) (judged_from (constant_byte w.code) (opening_walked 0 image.entry r.options).bounds (opening_walked 1 r.options.entry1 r.options).bounds (schedule_in r) (opening_known d image r) w) (opening_known d image r) w (Some uses)
    → IsUsesOf d true (course_of image r) uses
uses_found d image r may_step w uses o told =
    let code_is : w.code ≡ image.segments = o.opened.code_is in
    let left : (c : UseShadow) → records_left (constant_byte w.code) c ≡ records_left (constant_byte image.segments) c = λ c. ap (λ (s : List Segment). records_left (constant_byte s) c) code_is in
    let S : List StepRecord → List StepRecord → Type 0 = λ p q. IsUsesOf d true (course_in image r p q) uses in
    let here : S (records_left (constant_byte w.code) w.side0) (records_left (constant_byte w.code) w.side1) =
    uses_are d (shown_walk w) image.segments image r (records_left (constant_byte w.code) w.side0) (records_left (constant_byte w.code) w.side1) uses o.opened refl told in
    subst (λ (p : List StepRecord). S p (records_of 1 image r).records) (left w.side0 ∙ o.records0)
    (subst (λ (q : List StepRecord). S (records_left (constant_byte w.code) w.side0) q) (left w.side1 ∙ o.records1) here)

pub turns_found : {E : Type 0} (d : Discipline) (image : Image) (r : Run) (may_step : Bool) (w : UseShadowWalk) (out : Result (Option Uses) E) → IsOpenedWalk d image r may_step w
    → IfOk out (IsFoundIn (constant_byte w.code) (judged_from (constant_byte w.code) (opening_walked 0 image.entry r.options).bounds (opening_walked 1 r.options.entry1 r.options).bounds (schedule_in r) (opening_known d image r) w) (opening_known d image r) w)
    → IfOk out (IsUsesOver d image r may_step)
turns_found d image r may_step w (Ok (Some uses)) o told = uses_found d image r may_step w uses o told
turns_found d image r true w (Ok None) o told = refl
turns_found d image r false w (Ok None) o told = absurd (told (o.never refl))
turns_found d image r may_step w (Err error) o told = tt
