-- One turn, as the trace, the calls and the places have it.
use Rattle.std.proofs.Common.{◌≡◌, ℕ, suc, Bool, true, false, cond, Option, List, [], ◌∷◌, ◌++◌, refl, sym, ap, ◌∙◌, append_assoc}
use Rattle.xt_map.specs.declared.access.Access.{Access}
use Rattle.xt_trace.specs.declared.record.StepRecord.{StepRecord}
use Rattle.xt_trace.specs.Calls.{is_stop}
use Rattle.xt_trace.specs.Chip.{Chip}
use Rattle.xt_trace.specs.Traces.{Traced, empty_trace, with_first_record, trace_over, reply_for, replies_past}
use Rattle.xt_trace.specs.Worlds.{Core, left_past, core_past, finished_core}

-- a core with these parts
abbrev pub core : {S : Type 0} → S → ℕ → List StepRecord → Core S
core s n rs = record { state = s; left = n; records = rs }

trace_left : {S : Type 0} (P : Chip S) (b : Bool) (s : S) (n : ℕ) (f : List ℕ) → cond b (empty_trace s) (trace_over P s n f) ≡ trace_over P s (cond b 0 n) f
trace_left P true s n f = refl
trace_left P false s n f = refl

-- a trace begins with its first turn, whatever that asks
pub trace_turn : {S : Type 0} (P : Chip S) (s : S) (n : ℕ) (d : Option Access) (rs : List ℕ) → P.demand s ≡ d
    → trace_over P s (suc n) rs
    ≡ (let t = P.turn s (reply_for d rs) in with_first_record t.0 (trace_over P t.1 (left_past t.0 n) (replies_past d rs)))
trace_turn P s n d rs e =
    let t = P.turn s (reply_for (P.demand s) rs) in
    ap (with_first_record t.0) (trace_left P (is_stop t.0.kind) t.1 n (replies_past (P.demand s) rs))
    ∙ ap (λ (x : Option Access). let t = P.turn s (reply_for x rs) in with_first_record t.0 (trace_over P t.1 (left_past t.0 n) (replies_past x rs))) e

-- what a core comes to at its end, joined to its records so far
abbrev joined : {S : Type 0} → List StepRecord → Traced S → Core S
joined l z = record { state = z.last; left = 0; records = l ++ z.records }

joined_began : {S : Type 0} (P : Chip S) (l : List StepRecord) (x : StepRecord) (z : Traced S) → joined (l ++ x ∷ []) z ≡ joined l (with_first_record x z)
joined_began {S = S} P l x z = ap (λ (xs : List StepRecord). let k : Core S = record { state = z.last; left = 0; records = xs } in k) (append_assoc l (x ∷ []) z.records)

-- one turn leads on to the same end
pub closed_turn : {S : Type 0} (P : Chip S) (s : S) (n : ℕ) (l : List StepRecord) (d : Option Access) (rs : List ℕ) → P.demand s ≡ d
    → finished_core P (core s (suc n) l) rs ≡ finished_core P (core_past P (core s (suc n) l) n (reply_for d rs)) (replies_past d rs)
closed_turn P s n l d rs e =
    let t = P.turn s (reply_for d rs) in
    ap (joined l) (trace_turn P s n d rs e) ∙ sym (joined_began P l t.0 (trace_over P t.1 (left_past t.0 n) (replies_past d rs)))
