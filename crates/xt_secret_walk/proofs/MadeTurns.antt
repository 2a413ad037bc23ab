-- The next turn of a core is made, and what is known after it.
use Rattle.std.proofs.Common.{◌≡◌, ℕ, zero, suc, cond, ◌+◌, ◌-◌, ◌<◌, ◌||◌, Bool, true, false, Option, Some, None, List, ◌∷◌, refl, sym, ap, ◌∙◌, subst, arith}
use Rattle.std.specs.Prelude.{IfSome}
use Rattle.xt_map.specs.declared.access.Access.{Access}
use Rattle.xt_map.specs.Regions.{is_mapped}
use Rattle.xt_trace.specs.declared.record.StepRecord.{StepRecord}
use Rattle.xt_trace.specs.Traces.{empty_trace, replies_past, reply_for, trace_over}
use Rattle.xt_trace.specs.Worlds.{left_past}
use Rattle.xt_exec.specs.State.{State}
use Rattle.xt_exec.specs.Turn.{demand, reply_where, turn}
use Rattle.xt_exec.specs.TurnLaws.{IsServed}
use Rattle.xt_exec.proofs.Served.{demand_served}
use Rattle.xt_exec.specs.Chips.{processor}
use Rattle.xt_trace.specs.Calls.{is_stop}
use Rattle.xt_trace.specs.Chip.{Chip}
use Rattle.xt_isa.specs.declared.Insn.{Insn}
use Rattle.xt_trace.specs.declared.record.RegWrite.{RegWrite}
use Rattle.xt_trace.specs.declared.record.StepKind.{StepKind}
use Rattle.xt_trace.specs.declared.record.StepKind.TheVariants as kind
use Rattle.xt_map.specs.Fetching.{Fetched, Fetches, Fails, SpellsNothing, fetch_at}
use Rattle.xt_uses.specs.Words.{all_bits}
use Rattle.xt_uses.specs.UseStep.{step_insn}
use Rattle.xt_simulation.specs.Learning.{known_past, stored_in, ticked_masks}
use Rattle.xt_simulation.specs.SecretBytes.{bytes_past}
use Rattle.xt_simulation.specs.FirstLeak.{insn_carries, stores_hidden}
use Rattle.xt_use_walk.specs.declared.bytes.ByteMasks.{ByteMasks}
use Rattle.xt_secret_walk.specs.declared.masks.CoreMasks.{CoreMasks}
use Rattle.xt_secret_walk.specs.declared.seen.Seen.{Seen}
use Rattle.xt_secret_walk.specs.declared.side.Side.{Side}
use Rattle.xt_secret_walk.specs.KnownBytes.{KnowsBytes}
use Rattle.xt_secret_walk.specs.SeenWords.{executed_in, knowledge_of, seen_in, seen_of, special_mask, stored_of}
use Rattle.xt_secret_walk.specs.Walked.{IsPassed, IsWritten, IsWrittenBy, count_of, side_state}
use Rattle.xt_secret_walk.proofs.Knowing.{ticked_same}

same_reply : (d : Option Access) (rs : List ℕ) → reply_where d (reply_for d rs) ≡ reply_for d rs
same_reply None rs = refl
same_reply (Some a) rs = refl

made_reply : (code : ℕ → ℕ) (s t : State) (rs : List ℕ) (rec : StepRecord) → ◌≡◌ {A = StepRecord × State} (rec, t) (turn code s (reply_for (demand code s) rs)) → rec.reply ≡ reply_for (demand code s) rs
unfolding turn
made_reply code s t rs rec e = ap (λ (x : StepRecord × State). x.0.reply) e ∙ same_reply (demand code s) rs

made_access : (code : ℕ → ℕ) (s t : State) (reply : ℕ) (rec : StepRecord) → ◌≡◌ {A = StepRecord × State} (rec, t) (turn code s reply) → rec.access ≡ demand code s
unfolding turn
made_access code s t reply rec e = ap (λ (x : StepRecord × State). x.0.access) e

if_served : (o : Option Access) → IsServed o → IfSome o (λ a. is_mapped a ≡ true)
if_served None h = tt
if_served (Some a) h = h

pub made_served : (code : ℕ → ℕ) (s t : State) (reply : ℕ) (rec : StepRecord) → ◌≡◌ {A = StepRecord × State} (rec, t) (turn code s reply) → IfSome rec.access (λ a. is_mapped a ≡ true)
made_served code s t reply rec e = if_served rec.access (subst IsServed (sym (made_access code s t reply rec e)) (demand_served code s))

pub made_state : (code : ℕ → ℕ) (s t : State) (rs : List ℕ) (rec : StepRecord) → ◌≡◌ {A = StepRecord × State} (rec, t) (turn code s (reply_for (demand code s) rs)) → ◌≡◌ {A = StepRecord × State} (rec, t) (turn code s rec.reply)
made_state code s t rs rec e = e ∙ ap (λ (v : ℕ). turn code s v) (sym (made_reply code s t rs rec e))

trace_step : {S : Type 0} (P : Chip S) (s : S) (n : ℕ) (rs : List ℕ)
    → (trace_over P s (suc n) rs).records
    ≡ (P.turn s (reply_for (P.demand s) rs)).0
    ∷ (trace_over P (P.turn s (reply_for (P.demand s) rs)).1 (left_past (P.turn s (reply_for (P.demand s) rs)).0 n) (replies_past (P.demand s) rs)).records
trace_step {S = S} P s n rs =
    let t = P.turn s (reply_for (P.demand s) rs) in
    let qs = replies_past (P.demand s) rs in
    let more : Bool → List StepRecord = λ b. (cond b (empty_trace t.1) (trace_over P t.1 n qs)).records in
    let after : Bool → List StepRecord = λ b. (trace_over P t.1 (cond b 0 n) qs).records in
    let same : (b : Bool) → more b ≡ after b = elim [ true ↦ refl | false ↦ refl ] in
    ap (λ (xs : List StepRecord). t.0 ∷ xs) (same (is_stop t.0.kind))

pub made_records : (code : ℕ → ℕ) (s t : State) (left left2 : ℕ) (rs qs : List ℕ) (rec : StepRecord) → 0 < left → ◌≡◌ {A = StepRecord × State} (rec, t) (turn code s (reply_for (demand code s) rs))
    → qs ≡ replies_past (demand code s) rs → left2 ≡ left_past rec (left - 1) → (trace_over (processor code) s left rs).records ≡ rec ∷ (trace_over (processor code) t left2 qs).records
made_records code s t zero left2 rs qs rec some step others lefts = absurd (omega arith)
made_records code s t (suc n) left2 rs qs rec some step others lefts =
    let u : StepRecord × State = turn code s (reply_for (demand code s) rs) in
    let record_is : rec ≡ u.0 = ap (λ (x : StepRecord × State). x.0) step in
    let state_is : t ≡ u.1 = ap (λ (x : StepRecord × State). x.1) step in
    let less : suc n - 1 ≡ n = omega arith in
    let left_is : left2 ≡ left_past u.0 n = lefts ∙ (λ i. left_past (record_is i) (less i)) in
    trace_step (processor code) s n rs ∙ sym (λ i. record_is i ∷ (trace_over (processor code) (state_is i) (left_is i) (others i)).records)

-- ---- what is known after it

-- nothing is executed
none_past : (c : CoreMasks) (write : Option RegWrite) (base reply : ℕ) (s : State) → knowledge_of c ≡ known_past None write base reply (knowledge_of c) s
unfolding known_past
none_past c write base reply s =
    let same : special_mask c ≡ ticked_masks (special_mask c) = sym (ticked_same c) in
    λ i. record { regs = (knowledge_of c).regs; special = same i; threadptr = c.threadptr }

-- by what is executed
pub record IsAfter (c d : CoreMasks) (rec : StepRecord) (i : Option Insn) (stored : ℕ) (base reply : ℕ) (carries : Bool) (s : State) : Type 0 where
  pub known : knowledge_of d ≡ known_past i rec.write base reply (knowledge_of c) s
  pub stored_is : stored ≡ stored_in i (knowledge_of c) s
  pub carries_are : carries ≡ insn_carries i rec.write reply (knowledge_of c) s

none_after : (c d : CoreMasks) (rec : StepRecord) (base reply : ℕ) (carries : Bool) (s : State) → d ≡ c → carries ≡ false → IsAfter c d rec None all_bits base reply carries s
none_after c d rec base reply carries s same none = record {
  known = ap (λ (a : CoreMasks). knowledge_of a) same ∙ none_past c rec.write base reply s;
  stored_is = refl;
  carries_are = none;
}

module _ (c d : CoreMasks) (rec : StepRecord) (base reply : ℕ) (carries : Bool) (s : State) where
  abbrev After : Option Seen → Option Insn → Type 0
  After seen i = IsAfter c d rec i (stored_of seen) base reply carries s

  seen_after : (i : Insn) → IsWrittenBy (Some (seen_in i (knowledge_of c) s)) c d rec base reply carries → After (Some (seen_in i (knowledge_of c) s)) (Some i)
  seen_after i w = let both = w s refl in record { known = both.0; stored_is = refl; carries_are = both.1 }

  kind_after : (k : StepKind) (f : Fetched) → IsWrittenBy (executed_in k (seen_of f (knowledge_of c) s)) c d rec base reply carries → After (executed_in k (seen_of f (knowledge_of c) s)) (step_insn k f)
  unfolding step_insn
  kind_after kind.Insn (Fetches i len) w = seen_after i w
  kind_after kind.Insn (Fails address) w = none_after c d rec base reply carries s w.0 w.1
  kind_after kind.Insn SpellsNothing w = none_after c d rec base reply carries s w.0 w.1
  kind_after (kind.Window vector) f w = none_after c d rec base reply carries s w.0 w.1
  kind_after (kind.Exc cause) f w = none_after c d rec base reply carries s w.0 w.1
  kind_after (kind.Interrupt level) f w = none_after c d rec base reply carries s w.0 w.1
  kind_after kind.Wait f w = none_after c d rec base reply carries s w.0 w.1
  kind_after kind.Stop f w = none_after c d rec base reply carries s w.0 w.1

  pub after : (code : ℕ → ℕ) (seen : Option Seen) → seen ≡ seen_of (fetch_at code s.control.pc) (knowledge_of c) s → IsWrittenBy (executed_in rec.kind seen) c d rec base reply carries
      → After (executed_in rec.kind seen) (step_insn rec.kind (fetch_at code s.control.pc))
  after code seen same w =
      subst (λ (x : Option Seen). After (executed_in rec.kind x) (step_insn rec.kind (fetch_at code s.control.pc))) (sym same)
      (kind_after rec.kind (fetch_at code s.control.pc) (subst (λ (x : Option Seen). IsWrittenBy (executed_in rec.kind x) c d rec base reply carries) same w))

-- all of a turn
pub passed : (public : ℕ → Bool) (old mid new : Side) (b b2 : ByteMasks) (rec : StepRecord) (seen : Option Seen) (reply stored : ℕ) (written hides : Bool)
    → IsWritten old mid rec (executed_in rec.kind seen) reply written → stored ≡ stored_of (executed_in rec.kind seen)
    → ((masks : ℕ → ℕ) → KnowsBytes b public masks → KnowsBytes b2 public (bytes_past public stored rec.access masks)) → hides ≡ stores_hidden public stored rec.access
    → new ≡ record mid { carried = mid.carried + count_of (written || hides); steps = mid.steps + 1 } → IsPassed public old new b b2 rec seen reply
passed public old mid new b b2 rec seen reply stored written hides w is bytes hid same =
    let Mid : Side → Type 0 = λ (n : Side). IsPassed public old n b b2 rec seen reply in
    subst Mid (sym same) (record {
      core_is = w.core_is;
      regs_are = w.regs_are;
      left_is = w.left_is;
      replies_are = w.replies_are;
      steps = ap (λ (n : ℕ). n + 1) w.steps;
      known = λ code s e. (by_code code s e).known;
      bytes_are = λ code s masks e k.
          let a = by_code code s e in
          subst (λ (n : ℕ). KnowsBytes b2 public (bytes_past public n rec.access masks)) (is ∙ a.stored_is) (bytes masks k);
      carried = λ code s e.
          let a = by_code code s e in
          λ i. w.carried i + count_of (a.carries_are i || (hid ∙ ap (λ (n : ℕ). stores_hidden public n rec.access) (is ∙ a.stored_is)) i);
    })
  where
    by_code : (code : ℕ → ℕ) (s : State) → seen ≡ seen_of (fetch_at code s.control.pc) (knowledge_of old.masks) s
        → IsAfter old.masks mid.masks rec (step_insn rec.kind (fetch_at code s.control.pc)) (stored_of (executed_in rec.kind seen)) (side_state old).base reply written s
    by_code code s e = after old.masks mid.masks rec (side_state old).base reply written s code seen e w.written
