-- The next of the records that a core's turns will make.
use Rattle.std.proofs.Common.{◌≡◌, ℕ, zero, suc, ◌-◌, ◌<◌, Bool, true, false, cond, Option, Some, List, ◌∷◌, refl, sym, subst, ap, ◌∙◌, arith}
use Rattle.xt_map.specs.declared.access.Access.{Access}
use Rattle.xt_map.specs.declared.access.Entry.{Entry}
use Rattle.xt_map.specs.History.{replies_of}
use Rattle.xt_trace.specs.declared.record.StepRecord.{StepRecord}
use Rattle.xt_trace.specs.Calls.{is_stop}
use Rattle.xt_trace.specs.Left.{first_of, rest_of}
use Rattle.xt_trace.specs.Chip.{Chip}
use Rattle.xt_trace.specs.Traces.{empty_trace, trace_over, reply_for, replies_past}
use Rattle.xt_trace.specs.Worlds.{left_past}
use Rattle.xt_exec.specs.State.{State}
use Rattle.xt_exec.specs.Turn.{demand, turn}
use Rattle.xt_exec.specs.Chips.{processor}
use Rattle.xt_exec.specs.declared.plans.Pending.{Pending}
use Rattle.xt_core.specs.Cursors.{records_over}
use Rattle.xt_core.specs.Turns.{IsHalf}
use Rattle.xt_core.specs.Cores.{Awaits}

trace_step : {S : Type 0} (P : Chip S) (s : S) (n : ℕ) (rs : List ℕ)
    → (trace_over P s (suc n) rs).records
    ≡ (P.turn s (reply_for (P.demand s) rs)).0
    ∷ (trace_over P (P.turn s (reply_for (P.demand s) rs)).1 (left_past (P.turn s (reply_for (P.demand s) rs)).0 n) (replies_past (P.demand s) rs)).records
trace_step {S = S} P s n rs =
    let t = P.turn s (reply_for (P.demand s) rs) in
    let qs = replies_past (P.demand s) rs in
    let more : Bool → List StepRecord = λ b. (cond b (empty_trace t.1) (trace_over P t.1 n qs)).records in
    let after : Bool → List StepRecord = λ b. (trace_over P t.1 (cond b 0 n) qs).records in
    let same : (b : Bool) → more b ≡ after b = elim [ true ↦ refl | false ↦ refl ] in
    ap (λ (xs : List StepRecord). t.0 ∷ xs) (same (is_stop t.0.kind))

pub record Next (code : ℕ → ℕ) (core : ℕ) (s : State) (left : ℕ) (es : List Entry) (r : StepRecord) (xs : List StepRecord) : Type 0 where
  pub first : ◌≡◌ {A = Option StepRecord} (Some r) (first_of xs)
  pub rest : records_over code core s left es ≡ rest_of xs

pub next_is : (code : ℕ → ℕ) (core : ℕ) (s s2 : State) (left left2 : ℕ) (es es2 : List Entry) (r : StepRecord) (xs : List StepRecord)
    → records_over code core s left es ≡ xs → 0 < left
    → ◌≡◌ {A = StepRecord × State} (r, s2) (turn code s (reply_for (demand code s) (replies_of core es)))
    → replies_of core es2 ≡ replies_past (demand code s) (replies_of core es)
    → left2 ≡ left_past r (left - 1)
    → Next code core s2 left2 es2 r xs
next_is code core s s2 zero left2 es es2 r xs view positive step others lefts = absurd (omega (arith, positive))
next_is code core s s2 (suc m) left2 es es2 r xs view positive step others lefts =
    let P = processor code in
    let rs = replies_of core es in
    let t : StepRecord × State = turn code s (reply_for (demand code s) rs) in
    let is : xs ≡ t.0 ∷ (trace_over P t.1 (left_past t.0 m) (replies_past (demand code s) rs)).records = sym view ∙ trace_step P s m rs in
    let record_is : r ≡ t.0 = ap (λ (x : StepRecord × State). x.0) step in
    let state_is : s2 ≡ t.1 = ap (λ (x : StepRecord × State). x.1) step in
    let less : suc m - 1 ≡ m = omega arith in
    let left_is : left2 ≡ left_past t.0 m = lefts ∙ ap (λ (n : ℕ). left_past r n) less ∙ ap (λ (x : StepRecord). left_past x m) record_is in
    record {
      first = ap (λ (x : StepRecord). Some x) record_is ∙ sym (ap first_of is);
      rest = ap (λ (x : State). (trace_over P x left2 (replies_of core es2)).records) state_is
          ∙ ap (λ (n : ℕ). (trace_over P t.1 n (replies_of core es2)).records) left_is
          ∙ ap (λ (q : List ℕ). (trace_over P t.1 (left_past t.0 m) q).records) others
          ∙ sym (ap rest_of is);
    }

-- a turn by its halves, with the reply that the entries have for it
pub half_step : (code : ℕ → ℕ) (s s1 : State) (p : Pending) (reply : ℕ) (rs : List ℕ) (x : StepRecord × State)
    → IsHalf code s s1 p → (Awaits code s1 p → x ≡ turn code s1 reply) → reply ≡ reply_for (Some p.access) rs
    → x ≡ turn code s (reply_for (demand code s) rs)
half_step code s s1 p reply rs x h ends is =
    let P : State → Type 0 = λ t. Awaits code t p in
    ends (subst P (sym h.unchanged) h.awaits)
    ∙ ap (λ (t : State). turn code t reply) h.unchanged
    ∙ ap (turn code s) (is ∙ ap (λ (d : Option Access). reply_for d rs) (sym h.asks))
