-- The next turn of a core.
use Rattle.std.proofs.Common.{◌≡◌, ℕ, ◌+◌, ◌<◌, ◌^◌, Bool, true, false, Option, None, Result, Ok, Err, List, [], length, refl, sym, ◌∙◌, ap, subst, get_or, ◌≤◌, arith}
use Rattle.std.proofs.lemmas.Bool.{cond-false, cond-true, true≢false}
use Rattle.std.proofs.lemmas.List.{length-set}
use Rattle.xt_special.specs.Control.{special_of}
use Rattle.xt_trace.specs.declared.record.StepRecord.{StepRecord}
use Rattle.xt_trace.specs.Traces.{trace_over}
use Rattle.xt_exec.specs.State.{State}
use Rattle.xt_exec.specs.Chips.{processor}
use Rattle.xt_frames.specs.declared.kinds.Breach.{Breach}
use Rattle.xt_frames.specs.declared.kinds.Judged.{Judged}
use Rattle.xt_frames.specs.declared.kinds.Judged.TheVariants.{Whole, Broken, Unchecked}
use Rattle.xt_frames.specs.Frames.{seen_after_write}
use Rattle.xt_frames.specs.Breaches.{Bounds}
use Rattle.xt_frames.specs.Judging.{Seen, seen_record}
use Rattle.xt_frames.specs.Stacks.{Stack}
use Rattle.xt_frames.proofs.Shown.{sp_kept}
use Rattle.xt_frames.proofs.StackSteps.{write_stack}
use Rattle.xt_discipline.specs.declared.bytes.Held.{Held}
use Rattle.xt_discipline.specs.declared.side.Side.{Side}
use Rattle.xt_discipline.specs.ByteMarks.{KnowsOf}
use Rattle.xt_discipline.specs.Sides.{IsSeen, IsSide, live_in, standing_of}
use Rattle.xt_discipline.specs.Walks.{Turns}
use Rattle.xt_discipline.proofs.Seeing.{le_same}
use Rattle.xt_shadow.specs.declared.cores.ShadowCore.{ShadowCore}
use Rattle.xt_shadow.specs.declared.cores.End.{End}
use Rattle.xt_shadow.specs.declared.cores.End.TheVariants.{Is, Lost}
use Rattle.xt_shadow.specs.InStep.{IsPlain}
use Rattle.xt_shadow.specs.Shadows.{IsCore, IsLevelled, IsMade, IsPassed, IsPassedOn, IsSeenBy, IsTurned, core_state, in_step, records_left, shown}
use Rattle.xt_shadow.proofs.Counts.{turn_count}
use Rattle.xt_shadow.proofs.Stepping.{seen_in_step, side_at, sp_same}

pub le_more : (a b : ℕ) → a ≤ b → a ≤ b + 1
le_more a b h = omega arith

pub shown_level : (c : ShadowCore) → c.level ≡ true → shown c ≡ in_step c
shown_level c e = cond-true c.level (in_step c) c.side e

pub shown_whole : (c : ShadowCore) → c.level ≡ false → shown c ≡ c.side
shown_whole c e = cond-false c.level (in_step c) c.side e

pub none_left : (code : ℕ → ℕ) (c : ShadowCore) → c.left ≡ 0 → records_left code c ≡ []
none_left code c none = ap (λ (n : ℕ). (trace_over (processor code) (core_state c) n c.replies).records) none

-- ---- by whether the core is in step
shown_by : (P : Side → Type 0) (c : ShadowCore) → (c.level ≡ true → P (in_step c)) → (c.level ≡ false → P c.side) → P (shown c)
shown_by P c a b = by c.level refl
  where
    by : (z : Bool) → c.level ≡ z → P (shown c)
    by true e = subst P (sym (shown_level c e)) (a e)
    by false e = subst P (sym (shown_whole c e)) (b e)

shown_side : (c : ShadowCore) → IsCore c → IsSide (shown c)
shown_side c k =
    let h = k.side in
    shown_by IsSide c
    (λ e. record { core_is = h.core_is; end_is = h.end_is; low = h.low; high = h.high; past = le_same c.side.steps })
    (λ e. h)

shown_bounds : (c : ShadowCore) → (shown c).frames.bounds ≡ c.side.frames.bounds
shown_bounds c = shown_by (λ (x : Side). x.frames.bounds ≡ c.side.frames.bounds) c (λ e. refl) (λ e. refl)

shown_phase : (c : ShadowCore) → (shown c).phase ≡ c.side.phase
shown_phase c = shown_by (λ (x : Side). x.phase ≡ c.side.phase) c (λ e. refl) (λ e. refl)

pub shown_steps : (c : ShadowCore) → (shown c).steps ≡ c.side.steps
shown_steps c = shown_by (λ (x : Side). x.steps ≡ c.side.steps) c (λ e. refl) (λ e. refl)

shown_plain : (c : ShadowCore) → IsCore c → c.plain ≡ true → IsPlain (shown c).frames.state
shown_plain c k p =
    let h = k.plain p in
    shown_by (λ (x : Side). IsPlain x.frames.state) c
    (λ e. record { nested = h.nested; numbers = h.numbers; count = length-set (core_state c).control.special 177 (special_of c.side.frames.state.control 177) ∙ k.count })
    (λ e. h)

-- ---- a turn in step
next_side : (x : Side) → IsSide x → IsSide (record x { steps = x.steps + 1 })
next_side x k = record { core_is = k.core_is; end_is = k.end_is; low = k.low; high = k.high; past = (let p = k.past in le_more x.frames.next x.steps p) }

module _ (code : ℕ → ℕ) (c0 c1 : ShadowCore) (rec : StepRecord) (inside : IsCore c0) (made : IsMade code c0 c1 rec) where
  count_is : length (core_state c1).control.special ≡ 256
  count_is = turn_count code (core_state c0) (core_state c1) rec.reply rec made.state ∙ inside.count

  module _ (c2 : ShadowCore) (m n : List Held) (others stale : ℕ → Bool) (lev : c1.level ≡ true) (passed : IsPassedOn c1 c2 m n rec) (len : length m ≡ 0x52000) (same_len : length n ≡ length m) where
    lev0 : c0.level ≡ true
    lev0 = made.level lev

    begun : IsLevelled c0
    begun = inside.level lev0

    side_is : c1.side ≡ c0.side
    side_is = made.side ∙ cond-true c1.level c0.side (shown c0) lev

    abbrev s : State
    s = core_state c0

    abbrev t : State
    t = core_state c1

    abbrev before : Side
    before = side_at c0.side c0.seen s c0.side.steps

    abbrev after : Side
    after = side_at c0.side (seen_after_write rec.write c0.seen) t (c0.side.steps + 1)

    before_is : shown c0 ≡ before
    before_is = shown_level c0 lev0

    after_is : shown c2 ≡ after
    after_is =
        shown_level c2 (ap (λ (c : ShadowCore). c.level) passed.new_is ∙ lev)
        ∙ (ap in_step passed.new_is
        ∙ λ i. side_at (side_is i) (seen_after_write rec.write (made.seen i)) t ((side_is i).steps + 1))

    seen : (u : Unit {0}) → KnowsOf (shown c0).core m (live_in (shown c0).frames) others stale
        → IsSeen (shown c0) (shown c2) n others stale (seen_record code (shown c0).frames.bounds (standing_of (shown c0)) others stale rec) (Ok u)
    seen u known =
        let S : Side → Side → Type 0 = λ a b. IsSeen a b n others stale (seen_record code a.frames.bounds (standing_of a) others stale rec) (Ok u) in
        let p = inside.plain begun.plain in
        let now : KnowsOf before.core m (live_in before.frames) others stale = subst (λ (x : Side). KnowsOf x.core m (live_in x.frames) others stale) before_is known in
        let there : S before after =
        seen_in_step code c0.side c0.seen c0.vecbase s t rec m n others stale inside.side begun.outside p.nested p.numbers begun.stack inside.vectors (made.ready lev) made.state made.owb
        passed.insn passed.sp passed.woe (passed.vectors ∙ made.vectors) passed.access.saves passed.access.loads passed.access.stored (same_len ∙ len) u now in
        subst (λ (a : Side). S a (shown c2)) (sym before_is) (subst (λ (b : Side). S before b) (sym after_is) there)

    core : IsCore c2
    core =
        let free = sp_kept rec.write passed.sp in
        let K : Side → List (Option ℕ) → Type 0 = λ x q. Stack x.frames.bounds.range.lo x.frames.bounds.range.hi (seen_after_write rec.write q) x.frames.state.frames in
        let F : Side → List (Option ℕ) → Type 0 = λ x q. get_or (seen_after_write rec.write q) 1 None ≡ get_or x.frames.state.seen 1 None in
        let stack : K c1.side c1.seen = subst (λ (x : Side). K x c1.seen) (sym side_is) (subst (λ (q : List (Option ℕ)). K c0.side q) (sym made.seen) (write_stack begun.stack rec.write free)) in
        let sp : F c1.side c1.seen = subst (λ (x : Side). F x c1.seen) (sym side_is) (subst (λ (q : List (Option ℕ)). F c0.side q) (sym made.seen) (sp_same c0.seen rec.write free ∙ begun.sp)) in
        let plain = made.plain ∙ begun.plain in
        let outside = ap (λ (x : Side). x.phase) side_is ∙ begun.outside in
        subst IsCore (sym passed.new_is) (record {
          side = next_side c1.side (subst IsSide (sym side_is) inside.side);
          vectors = made.vectors ∙ (inside.vectors ∙ ap (λ (x : Side). x.frames.bounds.vecbase) (sym side_is));
          count = count_is;
          plain = λ e. subst (λ (x : Side). IsPlain x.frames.state) (sym side_is) (inside.plain begun.plain);
          nested = λ e. made.plain ∙ inside.nested (ap (λ (x : Side). x.phase) (sym side_is) ∙ e);
          level = λ e. record { plain = plain; outside = outside; sp = sp; stack = stack };
        })

    pub passed_turn : (u : Unit {0}) → KnowsOf (shown c0).core m (live_in (shown c0).frames) others stale → IsTurned code c0 c2 n others stale (Ok u)
    passed_turn u known =
        let left : records_left code c2 ≡ records_left code c1 = ap (λ (c : ShadowCore). records_left code c) passed.new_is in
        let T : List StepRecord → Type 0 = λ xs. Turns code (shown c0) (shown c2) n others stale xs (records_left code c2) (Ok u) in
        (subst T (sym made.records) (left, seen u known), core)

  module _ (c2 : ShadowCore) (m n : List Held) (others stale : ℕ → Bool) (lev : c1.level ≡ true) where
    pub passed_by : (r : Result Unit End) → IsPassed c1 c2 m n rec r → length m ≡ 0x52000 → length n ≡ length m
        → KnowsOf (shown c0).core m (live_in (shown c0).frames) others stale → IsTurned code c0 c2 n others stale r
    passed_by (Ok u) p len same_len known = passed_turn c2 m n others stale lev p len same_len u known
    passed_by (Err (Is j)) p len same_len known = absurd p
    passed_by (Err Lost) p len same_len known = tt

  pub step_room : c1.level ≡ true → c0.side.steps + 1 < 2 ^ 32 → c1.side.steps + 1 < 2 ^ 32
  step_room lev room = subst (λ (x : Side). x.steps + 1 < 2 ^ 32) (sym (made.side ∙ cond-true c1.level c0.side (shown c0) lev)) room

  -- ---- a turn that is judged as a whole
  module _ (whole : c1.level ≡ false) where
    whole_is : c1.side ≡ shown c0
    whole_is = made.side ∙ cond-false c1.level c0.side (shown c0) whole

    pub whole_core : IsCore c1
    whole_core = record {
      side = subst IsSide (sym whole_is) (shown_side c0 inside);
      vectors = made.vectors ∙ (inside.vectors ∙ (ap (λ (b : Bounds). b.vecbase) (sym (shown_bounds c0)) ∙ ap (λ (x : Side). x.frames.bounds.vecbase) (sym whole_is)));
      count = count_is;
      plain = λ e. subst (λ (x : Side). IsPlain x.frames.state) (sym whole_is) (shown_plain c0 inside (sym made.plain ∙ e));
      nested = λ e. made.plain ∙ inside.nested (sym (shown_phase c0) ∙ (ap (λ (x : Side). x.phase) (sym whole_is) ∙ e));
      level = λ e. absurd (true≢false (sym e ∙ whole));
    }

    pub whole_room : c0.side.steps + 1 < 2 ^ 32 → c1.side.steps + 1 < 2 ^ 32
    whole_room room = subst (λ (n : ℕ). n + 1 < 2 ^ 32) (sym (ap (λ (x : Side). x.steps) whole_is ∙ shown_steps c0)) room

    pub whole_knows : (m : List Held) (others stale : ℕ → Bool) → KnowsOf (shown c0).core m (live_in (shown c0).frames) others stale → KnowsOf c1.side.core m (live_in c1.side.frames) others stale
    whole_knows m others stale known = subst (λ (x : Side). KnowsOf x.core m (live_in x.frames) others stale) (sym whole_is) known

    module _ (c2 : ShadowCore) (n : List Held) (others stale : ℕ → Bool) (left : records_left code c2 ≡ records_left code c1) where
      abbrev seen_by : Side → Seen
      seen_by x = seen_record code x.frames.bounds (standing_of x) others stale rec

      same : shown c1 ≡ shown c0
      same = shown_whole c1 whole ∙ whole_is

      pub judged_turn : (r : Result Unit End) → IsSeenBy c1 c2 n others stale (seen_by c1.side) r → IsTurned code c0 c2 n others stale r
      judged_turn (Ok u) k =
          let S : Side → Side → Type 0 = λ a b. IsSeen a (shown c2) n others stale (seen_by b) (Ok u) in
          let T : List StepRecord → Type 0 = λ xs. Turns code (shown c0) (shown c2) n others stale xs (records_left code c2) (Ok u) in
          let here : S (shown c0) (shown c0) = subst (λ (b : Side). S (shown c0) b) whole_is (subst (λ (a : Side). S a c1.side) same k.0) in
          (subst T (sym made.records) (left, here), k.1)
      judged_turn (Err (Is (Broken b))) k =
          let bad : Result Unit Breach = Err b in
          let S : Side → Side → Type 0 = λ a d. IsSeen a (shown c2) n others stale (seen_by d) bad in
          let out : Result Unit Judged = Err (Broken b) in
          let T : List StepRecord → Type 0 = λ xs. Turns code (shown c0) (shown c2) n others stale xs (records_left code c2) out in
          let here : S (shown c0) (shown c0) = subst (λ (d : Side). S (shown c0) d) whole_is (subst (λ (a : Side). S a c1.side) same k) in
          subst T (sym made.records) here
      judged_turn (Err (Is Whole)) k = absurd k
      judged_turn (Err (Is Unchecked)) k = absurd k
      judged_turn (Err Lost) k = tt
