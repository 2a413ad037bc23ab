-- One turn of a core that was driven so far.
use Rattle.std.proofs.Common.{◌≡◌, ℕ, suc, Option, Some, None, List, [], ◌∷◌, ◌++◌, refl, sym, ap, ◌∙◌, append_assoc}
use Rattle.std.proofs.lemmas.List.{append-nil, map-append}
use Rattle.xt_map.specs.declared.access.Access.{Access}
use Rattle.xt_trace.specs.declared.record.StepRecord.{StepRecord}
use Rattle.xt_trace.specs.Chip.{Chip}
use Rattle.xt_trace.specs.Traces.{trace_over}
use Rattle.xt_trace.specs.Calls.{call_before, calls_in}
use Rattle.xt_trace.specs.Worlds.{Core, core_past, finished_core}
use Rattle.xt_trace.specs.Runs.{traced_so_far}
use Rattle.xt_trace.specs.Driven.{replies_in, Drove}
use Rattle.xt_trace.proofs.Turns.{core, closed_turn}

call_before_append : (d : Option Access) (r : ℕ) (xs ys : List (Access × ℕ)) → call_before d r (xs ++ ys) ≡ call_before d r xs ++ ys
call_before_append None r xs ys = refl
call_before_append (Some a) r xs ys = refl

calls_in_push : (xs : List StepRecord) (x : StepRecord) → calls_in (xs ++ x ∷ []) ≡ calls_in xs ++ call_before x.access x.reply []
calls_in_push [] x = refl
calls_in_push (y ∷ xs) x = ap (call_before y.access y.reply) (calls_in_push xs x) ∙ call_before_append y.access y.reply (calls_in xs) (call_before x.access x.reply [])

-- a record's call is the one that was asked for
record_call : {S : Type 0} (P : Chip S) (s : S) (d : Option Access) (r : ℕ) → P.demand s ≡ d
    → call_before (P.turn s r).0.access (P.turn s r).0.reply [] ≡ call_before d r []
record_call P s None r e = rw (P.asks s r, e)
record_call P s (Some a) r e = rw (P.asks s r, e, P.keeps s a r e)

calls_turn : {S : Type 0} (P : Chip S) (k : Core S) (n : ℕ) (d : Option Access) (r : ℕ) → P.demand k.state ≡ d
    → calls_in (core_past P k n r).records ≡ calls_in k.records ++ call_before d r []
calls_turn P k n d r e =
    calls_in_push k.records (P.turn k.state r).0 ∙ ap (λ (l : List (Access × ℕ)). calls_in k.records ++ l) (record_call P k.state d r e)

-- a core of which it is known how many turns it has left
known : {S : Type 0} (P : Chip S) (k : Core S) (n : ℕ) (f : List ℕ) → k.left ≡ n → finished_core P (core k.state n k.records) f ≡ finished_core P k f
known P k n f e = ap (λ (i : ℕ). finished_core P (core k.state i k.records) f) (sym e)

pub drove_none : {S : Type 0} (P : Chip S) (k : Core S) → Drove P k k []
drove_none P k = record { calls = sym (append-nil (calls_in k.records)); trace = λ f. refl }

pub drove_local : {S : Type 0} (P : Chip S) (from k : Core S) (made : List (Access × ℕ)) (n : ℕ) → k.left ≡ suc n → P.demand k.state ≡ None
    → Drove P from k made → Drove P from (core_past P k n 0) made
drove_local P from k made n left e h =
    record {
      calls = calls_turn P k n None 0 e ∙ append-nil (calls_in k.records) ∙ h.calls;
      trace = λ f. sym (closed_turn P k.state n k.records None f e) ∙ known P k (suc n) f left ∙ h.trace f;
    }

pub drove_call : {S : Type 0} (P : Chip S) (from k : Core S) (made : List (Access × ℕ)) (n : ℕ) (a : Access) (r : ℕ) → k.left ≡ suc n → P.demand k.state ≡ Some a
    → Drove P from k made → Drove P from (core_past P k n r) (made ++ (a, r) ∷ [])
drove_call P from k made n a r left e h =
    record {
      calls = calls_turn P k n (Some a) r e ∙ ap (λ (l : List (Access × ℕ)). l ++ (a, r) ∷ []) h.calls ∙ append_assoc (calls_in from.records) made ((a, r) ∷ []);
      trace = λ f. sym (closed_turn P k.state n k.records (Some a) (r ∷ f) e) ∙ known P k (suc n) (r ∷ f) left ∙ h.trace (r ∷ f)
          ∙ ap (finished_core P from) (sym (ap (λ (l : List ℕ). l ++ f) (map-append (λ (p : Access × ℕ). p.1) made ((a, r) ∷ [])) ∙ append_assoc (replies_in made) (r ∷ []) f));
    }

-- at its end a core has made its whole trace
pub drove_ended : {S : Type 0} (P : Chip S) (s : S) (n : ℕ) (k : Core S) (made : List (Access × ℕ)) → k.left ≡ 0
    → Drove P (core s n []) k made → traced_so_far k ≡ trace_over P s n (replies_in made)
drove_ended P s n k made e h =
    let here : finished_core P k [] ≡ core k.state 0 k.records = sym (known P k 0 [] e) ∙ ap (core k.state 0) (append-nil k.records) in
    ap (traced_so_far) (sym here ∙ h.trace [] ∙ ap (finished_core P (core s n [])) (append-nil (replies_in made)))
