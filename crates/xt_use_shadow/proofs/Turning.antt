-- The next turn of a core.
use Rattle.std.proofs.Common.{◌≡◌, ℕ, ◌+◌, ◌<◌, ◌^◌, Bool, true, false, Option, Some, None, Result, Ok, Err, List, [], length, refl, sym, ◌∙◌, ap, subst, get_or}
use Rattle.std.specs.Prelude.{IfSome}
use Rattle.std.proofs.lemmas.Bool.{cond-false, cond-true, true≢false}
use Rattle.std.proofs.lemmas.List.{length-set}
use Rattle.xt_map.specs.Regions.{is_mapped}
use Rattle.xt_special.specs.Control.{special_of}
use Rattle.xt_trace.specs.declared.record.StepRecord.{StepRecord}
use Rattle.xt_trace.specs.Traces.{trace_over}
use Rattle.xt_exec.specs.State.{State}
use Rattle.xt_exec.specs.Chips.{processor}
use Rattle.xt_frames.specs.Frames.{seen_after_write}
use Rattle.xt_frames.specs.Breaches.{Bounds}
use Rattle.xt_frames.specs.Stacks.{Stack}
use Rattle.xt_frames.proofs.Shown.{sp_kept}
use Rattle.xt_frames.proofs.StackSteps.{write_stack}
use Rattle.xt_discipline.proofs.Seeing.{le_same}
use Rattle.xt_shadow.proofs.Turning.{le_more}
use Rattle.xt_shadow.specs.InStep.{IsPlain}
use Rattle.xt_shadow.proofs.Counts.{turn_count}
use Rattle.xt_shadow.proofs.Stepping.{sp_same}
use Rattle.xt_uses.specs.UseWalk.{use_seen}
use Rattle.xt_use_walk.specs.declared.side.Bytes.{Bytes}
use Rattle.xt_use_walk.specs.declared.side.Side.{Side}
use Rattle.xt_use_walk.specs.declared.walk.FirstUse.{FirstUse}
use Rattle.xt_use_walk.specs.MaskedBytes.{AreFull, KnowsBytes}
use Rattle.xt_use_walk.specs.Sides.{IsUseSeen, IsUseSide, live_in, standing_of}
use Rattle.xt_use_walk.specs.Walks.{Shows, Turns, WalkEnd}
use Rattle.xt_use_shadow.specs.declared.cores.UseShadow.{UseShadow}
use Rattle.xt_use_shadow.specs.declared.seeing.End.{End}
use Rattle.xt_use_shadow.specs.declared.seeing.End.TheVariants.{NoTurn, Breaks, NoMemory, Lost}
use Rattle.xt_use_shadow.specs.Shadows.{IsBrokenBy, IsCore, IsFirstIn, IsLevelled, IsMade, IsPassed, IsPassedOn, IsSawn, IsSeenBy, IsTurned, core_state, in_step, masks_after_write, records_left, shown}
use Rattle.xt_use_shadow.proofs.Stepping.{seen_in_step, side_at}

pub shown_level : (c : UseShadow) → c.level ≡ true → shown c ≡ in_step c
shown_level c e = cond-true c.level (in_step c) c.side e

pub shown_whole : (c : UseShadow) → c.level ≡ false → shown c ≡ c.side
shown_whole c e = cond-false c.level (in_step c) c.side e

pub none_left : (code : ℕ → ℕ) (c : UseShadow) → c.left ≡ 0 → records_left code c ≡ []
none_left code c none = ap (λ (n : ℕ). (trace_over (processor code) (core_state c) n c.replies).records) none

-- ---- by whether the core is in step
shown_by : (P : Side → Type 0) (c : UseShadow) → (c.level ≡ true → P (in_step c)) → (c.level ≡ false → P c.side) → P (shown c)
shown_by P c a b = by c.level refl
  where
    by : (z : Bool) → c.level ≡ z → P (shown c)
    by true e = subst P (sym (shown_level c e)) (a e)
    by false e = subst P (sym (shown_whole c e)) (b e)

shown_side : (c : UseShadow) → IsCore c → IsUseSide (shown c)
shown_side c k =
    let h = k.side in
    shown_by IsUseSide c
    (λ e. record { core_is = h.core_is; end_is = h.end_is; low = h.low; high = h.high; past = le_same c.side.steps; counted = h.counted })
    (λ e. h)

shown_bounds : (c : UseShadow) → (shown c).uses.bounds ≡ c.side.uses.bounds
shown_bounds c = shown_by (λ (x : Side). x.uses.bounds ≡ c.side.uses.bounds) c (λ e. refl) (λ e. refl)

shown_phase : (c : UseShadow) → (shown c).phase ≡ c.side.phase
shown_phase c = shown_by (λ (x : Side). x.phase ≡ c.side.phase) c (λ e. refl) (λ e. refl)

pub shown_steps : (c : UseShadow) → (shown c).steps ≡ c.side.steps
shown_steps c = shown_by (λ (x : Side). x.steps ≡ c.side.steps) c (λ e. refl) (λ e. refl)

pub shown_carried : (c : UseShadow) → (shown c).carried ≡ c.side.carried
shown_carried c = shown_by (λ (x : Side). x.carried ≡ c.side.carried) c (λ e. refl) (λ e. refl)

shown_plain : (c : UseShadow) → IsCore c → c.may_step ≡ true → IsPlain (shown c).uses.state.frame
shown_plain c k p =
    let h = k.plain p in
    shown_by (λ (x : Side). IsPlain x.uses.state.frame) c
    (λ e. record { nested = h.nested; numbers = h.numbers; count = length-set (core_state c).control.special 177 (special_of c.side.uses.state.frame.control 177) ∙ k.count })
    (λ e. h)

-- ---- a turn in step
next_side : (x : Side) → IsUseSide x → IsUseSide (record x { steps = x.steps + 1 })
next_side x k = record {
  core_is = k.core_is;
  end_is = k.end_is;
  low = k.low;
  high = k.high;
  past = (let p = k.past in le_more x.uses.next x.steps p);
  counted = (let p = k.counted in le_more x.carried x.steps p);
}

module _ (code : ℕ → ℕ) (c0 c1 : UseShadow) (rec : StepRecord) (m : Bytes) (inside : IsCore c0) (made : IsMade code m c0 c1 rec) where
  count_is : length (core_state c1).control.special ≡ 256
  count_is = turn_count code (core_state c0) (core_state c1) rec.reply rec made.state ∙ inside.count

  module _ (c2 : UseShadow) (n : Bytes) (others : ℕ → Bool) (bytes : ℕ → ℕ) (lev : c1.level ≡ true) (passed : IsPassedOn c1 c2 m n rec) (served : IfSome rec.access (λ a. is_mapped a ≡ true)) (full : AreFull n) where
    lev0 : c0.level ≡ true
    lev0 = made.level lev

    begun : IsLevelled c0
    begun = inside.level lev0

    side_is : c1.side ≡ c0.side
    side_is = made.side ∙ cond-true c1.level c0.side (shown c0) lev

    abbrev s : State
    s = core_state c0

    abbrev t : State
    t = core_state c1

    abbrev before : Side
    before = side_at c0.side c0.seen c0.masks s c0.side.steps

    abbrev after : Side
    after = side_at c0.side (seen_after_write rec.write c0.seen) (masks_after_write rec.write c0.masks) t (c0.side.steps + 1)

    before_is : shown c0 ≡ before
    before_is = shown_level c0 lev0

    after_is : shown c2 ≡ after
    after_is =
        shown_level c2 (ap (λ (c : UseShadow). c.level) passed.new_is ∙ lev)
        ∙ (ap in_step passed.new_is
        ∙ λ i. side_at (side_is i) (seen_after_write rec.write (made.seen i)) (masks_after_write rec.write (made.masks i)) t ((side_is i).steps + 1))

    seen : KnowsBytes (shown c0).core m (live_in (shown c0).uses) others bytes
        → IsUseSeen (shown c0) (shown c2) n others bytes (use_seen code (shown c0).uses.bounds (standing_of (shown c0)) others bytes rec) (Ok tt)
    seen known =
        let S : Side → Side → Type 0 = λ a b. IsUseSeen a b n others bytes (use_seen code a.uses.bounds (standing_of a) others bytes rec) (Ok tt) in
        let p = inside.plain begun.may_step in
        let now : KnowsBytes before.core m (live_in before.uses) others bytes = subst (λ (x : Side). KnowsBytes x.core m (live_in x.uses) others bytes) before_is known in
        let there : S before after =
        seen_in_step code c0.side c0.seen c0.masks c0.vecbase s t rec m n others bytes inside.side begun.outside p.nested p.numbers inside.vectors (made.ready lev) made.state made.owb
        passed.insn passed.sp passed.woe (passed.vectors ∙ made.vectors) passed.word served (made.spared lev) full passed.marks passed.stored now in
        subst (λ (a : Side). S a (shown c2)) (sym before_is) (subst (λ (b : Side). S before b) (sym after_is) there)

    core : IsCore c2
    core =
        let free = sp_kept rec.write passed.sp in
        let K : Side → List (Option ℕ) → Type 0 = λ x q. Stack x.uses.bounds.range.lo x.uses.bounds.range.hi (seen_after_write rec.write q) x.uses.state.frame.frames in
        let F : Side → List (Option ℕ) → Type 0 = λ x q. get_or (seen_after_write rec.write q) 1 None ≡ get_or x.uses.state.frame.seen 1 None in
        let stack : K c1.side c1.seen = subst (λ (x : Side). K x c1.seen) (sym side_is) (subst (λ (q : List (Option ℕ)). K c0.side q) (sym made.seen) (write_stack begun.stack rec.write free)) in
        let sp : F c1.side c1.seen = subst (λ (x : Side). F x c1.seen) (sym side_is) (subst (λ (q : List (Option ℕ)). F c0.side q) (sym made.seen) (sp_same c0.seen rec.write free ∙ begun.sp)) in
        let may_step = made.may_step ∙ begun.may_step in
        let outside = ap (λ (x : Side). x.phase) side_is ∙ begun.outside in
        subst IsCore (sym passed.new_is) (record {
          side = next_side c1.side (subst IsUseSide (sym side_is) inside.side);
          vectors = made.vectors ∙ (inside.vectors ∙ ap (λ (x : Side). x.uses.bounds.vecbase) (sym side_is));
          count = count_is;
          plain = λ e. subst (λ (x : Side). IsPlain x.uses.state.frame) (sym side_is) (inside.plain begun.may_step);
          nested = λ e. made.may_step ∙ inside.nested (ap (λ (x : Side). x.phase) (sym side_is) ∙ e);
          level = λ e. record { may_step = may_step; outside = outside; sp = sp; stack = stack };
        })

    passed_turn : (first : Option FirstUse) → KnowsBytes (shown c0).core m (live_in (shown c0).uses) others bytes → IsTurned code c0 c2 n others bytes first (Ok tt)
    passed_turn first known =
        let left : records_left code c2 ≡ records_left code c1 = ap (λ (c : UseShadow). records_left code c) passed.new_is in
        let T : List StepRecord → Type 0 = λ xs. Turns code (shown c0) (shown c2) n others bytes xs (records_left code c2) (Ok tt) in
        (subst T (sym made.records) (left, seen known), core)

  -- the walk might put the core in step
  pub stepped : c1.level ≡ true → c0.may_step ≡ true
  stepped lev = (inside.level (made.level lev)).may_step

  module _ (c2 : UseShadow) (n : Bytes) (others : ℕ → Bool) (bytes : ℕ → ℕ) (first : Option FirstUse) (lev : c1.level ≡ true) where
    pub passed_by : (r : Result Unit End) → IsPassed c1 c2 m n rec r → IfSome rec.access (λ a. is_mapped a ≡ true) → AreFull n
        → KnowsBytes (shown c0).core m (live_in (shown c0).uses) others bytes → IsTurned code c0 c2 n others bytes first r
    passed_by (Ok u) p served full known = passed_turn c2 n others bytes lev p served full first known
    passed_by (Err Lost) p served full known = stepped lev
    passed_by (Err NoTurn) p served full known = absurd p
    passed_by (Err Breaks) p served full known = absurd p
    passed_by (Err (NoMemory error)) p served full known = absurd p

  pub step_room : c1.level ≡ true → c0.side.steps + 1 < 2 ^ 32 → c1.side.steps + 1 < 2 ^ 32
  step_room lev room = subst (λ (x : Side). x.steps + 1 < 2 ^ 32) (sym (made.side ∙ cond-true c1.level c0.side (shown c0) lev)) room

  -- ---- a turn that is judged as a whole
  module _ (whole : c1.level ≡ false) where
    whole_is : c1.side ≡ shown c0
    whole_is = made.side ∙ cond-false c1.level c0.side (shown c0) whole

    pub whole_core : IsCore c1
    whole_core = record {
      side = subst IsUseSide (sym whole_is) (shown_side c0 inside);
      vectors = made.vectors ∙ (inside.vectors ∙ (ap (λ (b : Bounds). b.vecbase) (sym (shown_bounds c0)) ∙ ap (λ (x : Side). x.uses.bounds.vecbase) (sym whole_is)));
      count = count_is;
      plain = λ e. subst (λ (x : Side). IsPlain x.uses.state.frame) (sym whole_is) (shown_plain c0 inside (sym made.may_step ∙ e));
      nested = λ e. made.may_step ∙ inside.nested (sym (shown_phase c0) ∙ (ap (λ (x : Side). x.phase) (sym whole_is) ∙ e));
      level = λ e. absurd (true≢false (sym e ∙ whole));
    }

    pub whole_room : c0.side.steps + 1 < 2 ^ 32 → c1.side.steps + 1 < 2 ^ 32
    whole_room room = subst (λ (n : ℕ). n + 1 < 2 ^ 32) (sym (ap (λ (x : Side). x.steps) whole_is ∙ shown_steps c0)) room

    pub whole_knows : (others : ℕ → Bool) (bytes : ℕ → ℕ) → KnowsBytes (shown c0).core m (live_in (shown c0).uses) others bytes → KnowsBytes c1.side.core m (live_in c1.side.uses) others bytes
    whole_knows others bytes known = subst (λ (x : Side). KnowsBytes x.core m (live_in x.uses) others bytes) (sym whole_is) known

    module _ (c2 : UseShadow) (n : Bytes) (others : ℕ → Bool) (bytes : ℕ → ℕ) (first : Option FirstUse) (left : records_left code c2 ≡ records_left code c1) where
      same : shown c1 ≡ shown c0
      same = shown_whole c1 whole ∙ whole_is

      broken_by : (o : Option FirstUse) → IsFirstIn code (shown c0) (shown c2) n others bytes rec o → IsBrokenBy code c0 c2 n others bytes o
      broken_by None k = absurd k
      broken_by (Some f) k =
          let out : Result Unit WalkEnd = Err (Shows f) in
          let T : List StepRecord → Type 0 = λ xs. Turns code (shown c0) (shown c2) n others bytes xs (records_left code c2) out in
          subst T (sym made.records) k

      pub judged_turn : (r : Result Unit End) → IsSeenBy code c1 c2 n others bytes rec first r → IsTurned code c0 c2 n others bytes first r
      judged_turn (Ok u) k =
          let T : List StepRecord → Type 0 = λ xs. Turns code (shown c0) (shown c2) n others bytes xs (records_left code c2) (Ok u) in
          let here : IsSawn code (shown c0) (shown c2) n others bytes rec first (Ok u) = subst (λ (a : Side). IsSawn code a (shown c2) n others bytes rec first (Ok u)) same k.0 in
          (subst T (sym made.records) (left, here), k.1)
      judged_turn (Err Breaks) k = broken_by first (subst (λ (a : Side). IsFirstIn code a (shown c2) n others bytes rec first) same k)
      judged_turn (Err (NoMemory error)) k = tt
      judged_turn (Err NoTurn) k = absurd k
      judged_turn (Err Lost) k = absurd k
