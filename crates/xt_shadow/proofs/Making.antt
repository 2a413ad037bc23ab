-- A turn that begins.
use Rattle.std.proofs.Common.{◌≡◌, ℕ, zero, suc, ◌-◌, ◌<◌, Bool, true, false, cond, Option, Some, None, List, ◌∷◌, refl, sym, ap, ◌∙◌, subst, arith}
use Rattle.std.proofs.lemmas.Bool.{cond-false, cond-true, false≢true}
use Rattle.xt_isa.specs.declared.Insn.{Insn}
use Rattle.xt_isa.specs.Ranges.{in_range}
use Rattle.xt_map.specs.declared.access.Access.{Access}
use Rattle.xt_special.specs.Interrupts.{pending_of}
use Rattle.xt_trace.specs.Calls.{is_stop}
use Rattle.xt_trace.specs.Chip.{Chip}
use Rattle.xt_trace.specs.Traces.{empty_trace, replies_past, reply_for, trace_over}
use Rattle.xt_trace.specs.Worlds.{left_past}
use Rattle.xt_trace.specs.declared.record.StepRecord.{StepRecord}
use Rattle.xt_map.specs.Fetching.{Fetches, fetch_at}
use Rattle.xt_window.specs.Values.{WindowState}
use Rattle.xt_exec.specs.declared.regs.Regs.{Regs}
use Rattle.xt_exec.specs.State.{State}
use Rattle.xt_exec.specs.Chips.{processor}
use Rattle.xt_exec.specs.Turn.{demand, reply_where, turn}
use Rattle.xt_frames.specs.Levels.{levelled}
use Rattle.xt_frames.specs.Walked.{Walked}
use Rattle.xt_shadow.specs.declared.cores.ShadowCore.{ShadowCore}
use Rattle.xt_shadow.specs.Shadows.{IsMade, IsReadyFor, IsStarted, core_state, in_step, settled, shown}

-- the frames are up to date
pub settle_none : (c : ShadowCore) → c.level ≡ false → c ≡ settled c
settle_none c e =
    let same : c.side ≡ shown c = sym (cond-false c.level (in_step c) c.side e) in
    λ i. record c { side = same i; level = e i }

pub started_whole : (code : ℕ → ℕ) (old : ShadowCore) (r : Regs WindowState) → IsStarted code old (record (settled old) { regs = r })
started_whole code old r = record {
  side = refl;
  seen = refl;
  plain = refl;
  vectors = refl;
  left = refl;
  level = λ e. absurd (false≢true e);
  ready = λ e. absurd (false≢true e);
}

-- a core that was brought up to date, and then has these registers
pub started_settled : (code : ℕ → ℕ) (old mid : ShadowCore) (r : Regs WindowState) → mid ≡ settled old → IsStarted code old (record mid { regs = r })
started_settled code old mid r e = subst (λ (m : ShadowCore). IsStarted code old (record m { regs = r })) (sym e) (started_whole code old r)

pub started_ready : (code : ℕ → ℕ) (old : ShadowCore) (r : Regs WindowState) (i : Insn) (len : ℕ) → IsReadyFor i old → in_range i ≡ true → fetch_at code (core_state old).control.pc ≡ Fetches i len
    → pending_of (core_state old).control ≡ 0 → (core_state old).control.waits ≡ false → IsStarted code old (record old { regs = r })
started_ready code old r i len k ok at quiet goes = record {
  side = sym (cond-true old.level old.side (shown old) k.level);
  seen = refl;
  plain = refl;
  vectors = refl;
  left = refl;
  level = λ e. e;
  ready = λ e. record {
    i = i;
    len = len;
    ok = ok;
    at = at;
    quiet = quiet;
    goes = goes;
    common = k.common;
    excm = k.excm;
    vectors = k.vectors;
    outside = k.outside;
    first = k.first;
    second = k.second;
    special = k.special;
    other = k.other;
  };
}

-- the processor's core is as it was
pub settled_regs : (old mid : ShadowCore) → mid ≡ settled old → mid.regs ≡ old.regs
settled_regs old mid e = ap (λ (c : ShadowCore). c.regs) e

pub settled_replies : (old mid : ShadowCore) → mid ≡ settled old → mid.replies ≡ old.replies
settled_replies old mid e = ap (λ (c : ShadowCore). c.replies) e

pub settle_done : (c : ShadowCore) (f : Walked) → c.level ≡ true → f ≡ record c.side.frames { state = levelled c.side.frames.state c.seen (core_state c).control; next = c.side.steps }
    → record c { side = record c.side { frames = f }; level = false } ≡ settled c
settle_done c f e is =
    let same : record c.side { frames = f } ≡ shown c = ap (λ (w : Walked). record c.side { frames = w }) is ∙ sym (cond-true c.level (in_step c) c.side e) in
    λ i. record c { side = same i; level = false }

-- what has begun goes on
pub started_on : (code : ℕ → ℕ) (old mid : ShadowCore) (r : Regs WindowState) (q : List ℕ) → IsStarted code old mid → IsStarted code old (record mid { regs = r; replies = q })
started_on code old mid r q k = record {
  side = k.side;
  seen = k.seen;
  plain = k.plain;
  vectors = k.vectors;
  left = k.left;
  level = k.level;
  ready = k.ready;
}

-- ---- its record
same_reply : (d : Option Access) (rs : List ℕ) → reply_where d (reply_for d rs) ≡ reply_for d rs
same_reply None rs = refl
same_reply (Some a) rs = refl

made_reply : (code : ℕ → ℕ) (s t : State) (rs : List ℕ) (rec : StepRecord) → ◌≡◌ {A = StepRecord × State} (rec, t) (turn code s (reply_for (demand code s) rs)) → rec.reply ≡ reply_for (demand code s) rs
unfolding turn
made_reply code s t rs rec e = ap (λ (x : StepRecord × State). x.0.reply) e ∙ same_reply (demand code s) rs

pub made_state : (code : ℕ → ℕ) (s t : State) (rs : List ℕ) (rec : StepRecord) → ◌≡◌ {A = StepRecord × State} (rec, t) (turn code s (reply_for (demand code s) rs)) → ◌≡◌ {A = StepRecord × State} (rec, t) (turn code s rec.reply)
made_state code s t rs rec e = e ∙ ap (λ (v : ℕ). turn code s v) (sym (made_reply code s t rs rec e))

trace_step : {S : Type 0} (P : Chip S) (s : S) (n : ℕ) (rs : List ℕ)
    → (trace_over P s (suc n) rs).records
    ≡ (P.turn s (reply_for (P.demand s) rs)).0
    ∷ (trace_over P (P.turn s (reply_for (P.demand s) rs)).1 (left_past (P.turn s (reply_for (P.demand s) rs)).0 n) (replies_past (P.demand s) rs)).records
trace_step {S = S} P s n rs =
    let t = P.turn s (reply_for (P.demand s) rs) in
    let qs = replies_past (P.demand s) rs in
    let more : Bool → List StepRecord = λ b. (cond b (empty_trace t.1) (trace_over P t.1 n qs)).records in
    let after : Bool → List StepRecord = λ b. (trace_over P t.1 (cond b 0 n) qs).records in
    let same : (b : Bool) → more b ≡ after b = elim [ true ↦ refl | false ↦ refl ] in
    ap (λ (xs : List StepRecord). t.0 ∷ xs) (same (is_stop t.0.kind))

pub made_records : (code : ℕ → ℕ) (s t : State) (left left2 : ℕ) (rs qs : List ℕ) (rec : StepRecord) → 0 < left → ◌≡◌ {A = StepRecord × State} (rec, t) (turn code s (reply_for (demand code s) rs))
    → qs ≡ replies_past (demand code s) rs → left2 ≡ left_past rec (left - 1) → (trace_over (processor code) s left rs).records ≡ rec ∷ (trace_over (processor code) t left2 qs).records
made_records code s t zero left2 rs qs rec some step others lefts = absurd (omega arith)
made_records code s t (suc n) left2 rs qs rec some step others lefts =
    let u : StepRecord × State = turn code s (reply_for (demand code s) rs) in
    let record_is : rec ≡ u.0 = ap (λ (x : StepRecord × State). x.0) step in
    let state_is : t ≡ u.1 = ap (λ (x : StepRecord × State). x.1) step in
    let less : suc n - 1 ≡ n = omega arith in
    let left_is : left2 ≡ left_past u.0 n = lefts ∙ (λ i. left_past (record_is i) (less i)) in
    trace_step (processor code) s n rs ∙ sym (λ i. record_is i ∷ (trace_over (processor code) (state_is i) (left_is i) (others i)).records)

-- the turn is made, and so many are left
pub is_made : (code : ℕ → ℕ) (old mid : ShadowCore) (rec : StepRecord) (left : ℕ) → IsStarted code old mid → 0 < old.left → (core_state old).control.ps.owb < 16
    → ◌≡◌ {A = StepRecord × State} (rec, core_state mid) (turn code (core_state old) (reply_for (demand code (core_state old)) old.replies))
    → mid.replies ≡ replies_past (demand code (core_state old)) old.replies → left ≡ left_past rec (mid.left - 1) → IsMade code old (record mid { left = left }) rec
is_made code old mid rec left k some owb step rest lefts = record {
  state = made_state code (core_state old) (core_state mid) old.replies rec step;
  records = made_records code (core_state old) (core_state mid) old.left left old.replies mid.replies rec some step rest (lefts ∙ ap (λ (n : ℕ). left_past rec (n - 1)) k.left);
  owb = owb;
  side = k.side;
  seen = k.seen;
  plain = k.plain;
  vectors = k.vectors;
  level = k.level;
  ready = k.ready;
}
