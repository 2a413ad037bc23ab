-- A turn that begins, and one that is made.
use Rattle.std.proofs.Common.{◌≡◌, ℕ, ◌-◌, ◌<◌, Bool, true, false, Option, Some, None, List, refl, sym, ap, ◌∙◌, subst}
use Rattle.std.specs.Prelude.{IfSome}
use Rattle.std.proofs.lemmas.Bool.{cond-false, cond-true, false≢true, true≢false}
use Rattle.xt_isa.specs.declared.Insn.{Insn}
use Rattle.xt_isa.specs.Ranges.{in_range}
use Rattle.xt_map.specs.declared.access.Access.{Access}
use Rattle.xt_map.specs.Regions.{is_mapped}
use Rattle.xt_special.specs.Interrupts.{pending_of}
use Rattle.xt_trace.specs.Traces.{replies_past, reply_for}
use Rattle.xt_trace.specs.Worlds.{left_past}
use Rattle.xt_trace.specs.declared.record.StepRecord.{StepRecord}
use Rattle.xt_map.specs.Fetching.{Fetches, fetch_at}
use Rattle.xt_window.specs.Values.{WindowState}
use Rattle.xt_exec.specs.declared.regs.Regs.{Regs}
use Rattle.xt_exec.specs.State.{State}
use Rattle.xt_exec.specs.Turn.{demand, turn}
use Rattle.xt_exec.specs.TurnLaws.{IsServed}
use Rattle.xt_exec.proofs.Served.{demand_served}
use Rattle.xt_shadow.proofs.Making.{made_records, made_state}
use Rattle.xt_uses.specs.UseLevels.{use_levelled}
use Rattle.xt_uses.specs.UseParts.{UseWalked}
use Rattle.xt_use_walk.specs.declared.side.Bytes.{Bytes}
use Rattle.xt_use_walk.specs.declared.side.Side.{Side}
use Rattle.xt_use_walk.specs.MaskedBytes.{IsSpared}
use Rattle.xt_use_shadow.specs.declared.cores.UseShadow.{UseShadow}
use Rattle.xt_use_shadow.specs.Shadows.{HasSp, IsAsked, IsCore, IsMade, IsReadyFor, IsStarted, core_state, in_step, settled, shown}

-- ---- the frames are brought up to date
pub settle_none : (c : UseShadow) → c.level ≡ false → c ≡ settled c
settle_none c e =
    let same : c.side ≡ shown c = sym (cond-false c.level (in_step c) c.side e) in
    λ i. record c { side = same i; level = e i }

pub settle_done : (c : UseShadow) (f : UseWalked) → c.level ≡ true → f ≡ record c.side.uses { state = use_levelled c.side.uses.state c.seen c.masks (core_state c).control; next = c.side.steps }
    → record c { side = record c.side { uses = f }; level = false } ≡ settled c
settle_done c f e is =
    let same : record c.side { uses = f } ≡ shown c = ap (λ (w : UseWalked). record c.side { uses = w }) is ∙ sym (cond-true c.level (in_step c) c.side e) in
    λ i. record c { side = same i; level = false }

-- the processor's core is as it was
pub settled_regs : (old mid : UseShadow) → mid ≡ settled old → mid.regs ≡ old.regs
settled_regs old mid e = ap (λ (c : UseShadow). c.regs) e

pub settled_replies : (old mid : UseShadow) → mid ≡ settled old → mid.replies ≡ old.replies
settled_replies old mid e = ap (λ (c : UseShadow). c.replies) e

-- ---- the turn has begun
started_whole : (code : ℕ → ℕ) (old : UseShadow) (r : Regs WindowState) → IsStarted code old (record (settled old) { regs = r })
started_whole code old r = record {
  side = refl;
  seen = refl;
  masks = refl;
  may_step = refl;
  vectors = refl;
  left = refl;
  level = λ e. absurd (false≢true e);
  ready = λ e. absurd (false≢true e);
}

-- a core that was brought up to date, and then has these registers
pub started_settled : (code : ℕ → ℕ) (old mid : UseShadow) (r : Regs WindowState) → mid ≡ settled old → IsStarted code old (record mid { regs = r })
started_settled code old mid r e = subst (λ (m : UseShadow). IsStarted code old (record m { regs = r })) (sym e) (started_whole code old r)

pub started_ready : (code : ℕ → ℕ) (old : UseShadow) (r : Regs WindowState) (i : Insn) (len : ℕ) → IsReadyFor i old → in_range i ≡ true → fetch_at code (core_state old).control.pc ≡ Fetches i len
    → pending_of (core_state old).control ≡ 0 → (core_state old).control.waits ≡ false → IsStarted code old (record old { regs = r })
started_ready code old r i len k ok at quiet goes = record {
  side = sym (cond-true old.level old.side (shown old) k.level);
  seen = refl;
  masks = refl;
  may_step = refl;
  vectors = refl;
  left = refl;
  level = λ e. e;
  ready = λ e. record {
    ready = record {
      i = i;
      len = len;
      ok = ok;
      at = at;
      quiet = quiet;
      goes = goes;
      common = k.common;
      excm = k.excm;
      vectors = k.vectors;
      outside = k.outside;
      first = k.first;
      second = k.second;
      special = k.special;
      other = k.other;
    };
    known = record { first = k.first_known; second = k.second_known; special = k.operand };
  };
}

-- what has begun goes on
pub started_on : (code : ℕ → ℕ) (old mid : UseShadow) (r : Regs WindowState) (q : List ℕ) → IsStarted code old mid → IsStarted code old (record mid { regs = r; replies = q })
started_on code old mid r q k = record {
  side = k.side;
  seen = k.seen;
  masks = k.masks;
  may_step = k.may_step;
  vectors = k.vectors;
  left = k.left;
  level = k.level;
  ready = k.ready;
}

-- the stack pointer is that of the frames
pub core_sp : (c : UseShadow) → IsCore c → c.level ≡ true → HasSp c
core_sp c k e = (k.level e).sp

pub started_sp : (code : ℕ → ℕ) (old mid : UseShadow) → IsCore old → IsStarted code old mid → mid.level ≡ true → HasSp mid
started_sp code old mid inside k e =
    let side : mid.side ≡ old.side = k.side ∙ cond-true mid.level old.side (shown old) e in
    let h : HasSp old = core_sp old inside (k.level e) in
    let H : Side → List (Option ℕ) → Type 0 = λ x q. HasSp (record old { side = x; seen = q }) in
    subst (λ (x : Side). H x mid.seen) (sym side) (subst (λ (q : List (Option ℕ)). H old.side q) (sym k.seen) h)

-- ---- before an access
pub asked_stays : (bytes : Bytes) (access : Access) (c : UseShadow) → c.level ≡ true → IsSpared bytes (Some access) → IsAsked bytes access c c
asked_stays bytes access c e spared = record {
  stays = λ l. refl;
  whole = λ l. absurd (true≢false (sym e ∙ l));
  spared = λ l. spared;
}

pub asked_none : (bytes : Bytes) (access : Access) (c : UseShadow) → c.level ≡ false → IsAsked bytes access c c
asked_none bytes access c e = record {
  stays = λ l. refl;
  whole = λ l. settle_none c e;
  spared = λ l. absurd (true≢false (sym l ∙ e));
}

pub asked_settled : (bytes : Bytes) (access : Access) (old new : UseShadow) → new ≡ settled old → IsAsked bytes access old new
asked_settled bytes access old new e =
    let off : new.level ≡ false = ap (λ (c : UseShadow). c.level) e in
    record {
      stays = λ l. absurd (true≢false (sym l ∙ off));
      whole = λ l. e;
      spared = λ l. absurd (true≢false (sym l ∙ off));
    }

-- by whether the core is still in step
asked_by : (P : UseShadow → Type 0) (bytes : Bytes) (access : Access) (old new : UseShadow) → IsAsked bytes access old new → (new.level ≡ true → P old) → (new.level ≡ false → P (settled old)) → P new
asked_by P bytes access old new k a b = by new.level refl
  where
    by : (z : Bool) → new.level ≡ z → P new
    by true e = subst P (sym (k.stays e)) (a e)
    by false e = subst P (sym (k.whole e)) (b e)

pub asked_regs : (bytes : Bytes) (access : Access) (old new : UseShadow) → IsAsked bytes access old new → new.regs ≡ old.regs
asked_regs bytes access old new k = asked_by (λ (c : UseShadow). c.regs ≡ old.regs) bytes access old new k (λ e. refl) (λ e. refl)

pub asked_replies : (bytes : Bytes) (access : Access) (old new : UseShadow) → IsAsked bytes access old new → new.replies ≡ old.replies
asked_replies bytes access old new k = asked_by (λ (c : UseShadow). c.replies ≡ old.replies) bytes access old new k (λ e. refl) (λ e. refl)

-- what is shown of a turn that has begun, and has changed nothing of the processor's core
shown_mid : (code : ℕ → ℕ) (old mid : UseShadow) → IsStarted code old mid → core_state mid ≡ core_state old → shown mid ≡ shown old
shown_mid code old mid k same = by mid.level refl
  where
    in_step_is : mid.side ≡ old.side → in_step mid ≡ in_step old
    in_step_is side =
        let at : Side → List (Option ℕ) → List ℕ → State → Side = λ x q m s. record x { uses = record x.uses { state = use_levelled x.uses.state q m s.control; next = x.steps } } in
        λ i. at (side i) (k.seen i) (k.masks i) (same i)

    by : (z : Bool) → mid.level ≡ z → shown mid ≡ shown old
    by true e =
        cond-true mid.level (in_step mid) mid.side e
        ∙ (in_step_is (k.side ∙ cond-true mid.level old.side (shown old) e) ∙ sym (cond-true old.level (in_step old) old.side (k.level e)))
    by false e = cond-false mid.level (in_step mid) mid.side e ∙ (k.side ∙ cond-false mid.level old.side (shown old) e)

started_late : (code : ℕ → ℕ) (old mid : UseShadow) → IsStarted code old mid → core_state mid ≡ core_state old → IsStarted code old (settled mid)
started_late code old mid k same = record {
  side = shown_mid code old mid k same;
  seen = k.seen;
  masks = k.masks;
  may_step = k.may_step;
  vectors = k.vectors;
  left = k.left;
  level = λ e. absurd (false≢true e);
  ready = λ e. absurd (false≢true e);
}

pub started_asked : (code : ℕ → ℕ) (bytes : Bytes) (access : Access) (old mid new : UseShadow) → IsStarted code old mid → core_state mid ≡ core_state old → IsAsked bytes access mid new → IsStarted code old new
started_asked code bytes access old mid new k same a = asked_by (λ (c : UseShadow). IsStarted code old c) bytes access mid new a (λ e. k) (λ e. started_late code old mid k same)

-- ---- its record
pub made_access : (code : ℕ → ℕ) (s t : State) (reply : ℕ) (rec : StepRecord) → ◌≡◌ {A = StepRecord × State} (rec, t) (turn code s reply) → rec.access ≡ demand code s
unfolding turn
made_access code s t reply rec e = ap (λ (x : StepRecord × State). x.0.access) e

if_served : (o : Option Access) → IsServed o → IfSome o (λ a. is_mapped a ≡ true)
if_served None h = tt
if_served (Some a) h = h

pub made_served : (code : ℕ → ℕ) (s t : State) (reply : ℕ) (rec : StepRecord) → ◌≡◌ {A = StepRecord × State} (rec, t) (turn code s reply) → IfSome rec.access (λ a. is_mapped a ≡ true)
made_served code s t reply rec e = if_served rec.access (subst IsServed (sym (made_access code s t reply rec e)) (demand_served code s))

-- nothing is touched without an access
none_spared : (bytes : Bytes) → IsSpared bytes None
none_spared bytes core own others masks known = record { saves = refl; swaps = refl; reply = refl }

pub spared_none : (bytes : Bytes) (o : Option Access) → o ≡ None → IsSpared bytes o
spared_none bytes o e = subst (λ (a : Option Access). IsSpared bytes a) (sym e) (none_spared bytes)

pub spared_some : (bytes : Bytes) (o d : Option Access) (a : Access) → o ≡ d → d ≡ Some a → IsSpared bytes (Some a) → IsSpared bytes o
spared_some bytes o d a e is k = subst (λ (p : Option Access). IsSpared bytes p) (sym (e ∙ is)) k

-- the turn is made, and so many are left
pub is_made : (code : ℕ → ℕ) (bytes : Bytes) (old mid : UseShadow) (rec : StepRecord) (left : ℕ) → IsStarted code old mid → 0 < old.left → (core_state old).control.ps.owb < 16
    → ◌≡◌ {A = StepRecord × State} (rec, core_state mid) (turn code (core_state old) (reply_for (demand code (core_state old)) old.replies))
    → mid.replies ≡ replies_past (demand code (core_state old)) old.replies → left ≡ left_past rec (mid.left - 1) → (mid.level ≡ true → IsSpared bytes rec.access) → IsMade code bytes old (record mid { left = left }) rec
is_made code bytes old mid rec left k some owb step rest lefts spared = record {
  state = made_state code (core_state old) (core_state mid) old.replies rec step;
  records = made_records code (core_state old) (core_state mid) old.left left old.replies mid.replies rec some step rest (lefts ∙ ap (λ (n : ℕ). left_past rec (n - 1)) k.left);
  owb = owb;
  side = k.side;
  seen = k.seen;
  masks = k.masks;
  may_step = k.may_step;
  vectors = k.vectors;
  level = k.level;
  ready = k.ready;
  spared = spared;
}
