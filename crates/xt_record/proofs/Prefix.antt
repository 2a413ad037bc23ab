-- What a core has made of its trace, in the middle of a run.
use Rattle.std.proofs.Common.{◌≡◌, ℕ, suc, ◌+◌, Bool, true, false, cond, Option, Some, None, List, [], ◌∷◌, ◌++◌, length, map, take, drop, refl, sym, ap, ◌∙◌, subst, arith}
use Rattle.std.proofs.lemmas.List.{append-nil, map-append, take-append-drop}
use Rattle.std.specs.List.{slice_get}
use Rattle.std.specs.Prelude.{option_map, slice_index_or}
use Rattle.xt_map.specs.declared.access.Access.{Access}
use Rattle.xt_map.specs.declared.access.Entry.{Entry}
use Rattle.xt_map.specs.History.{calls_of, replies_of}
use Rattle.xt_trace.specs.declared.record.StepRecord.{StepRecord}
use Rattle.xt_trace.specs.Calls.{call_before, calls_in}
use Rattle.xt_trace.specs.Chip.{Chip}
use Rattle.xt_trace.specs.Driven.{Drove}
use Rattle.xt_trace.specs.Runs.{Opening, world_at_start}
use Rattle.xt_trace.specs.Schedule.{place_before, places_from}
use Rattle.xt_trace.specs.Traces.{Traced, replies_past, reply_for, trace_over}
use Rattle.xt_trace.specs.Worlds.{Core, advance, finished_core, left_past}
use Rattle.xt_trace.proofs.Keeping.{advance_keeps, opened_reached}
use Rattle.xt_trace.proofs.Turns.{core, trace_turn}

-- ---- lists

calls_of_append : (c : ℕ) (xs ys : List Entry) → calls_of c (xs ++ ys) ≡ calls_of c xs ++ calls_of c ys
calls_of_append c [] ys = refl
calls_of_append c (x ∷ xs) ys =
    let more : (b : Bool) (l m n : List (Access × ℕ)) → l ≡ m ++ n → cond b ((x.access, x.reply) ∷ l) l ≡ cond b ((x.access, x.reply) ∷ m) m ++ n =
    λ b l m n e. elim b as (λ t. cond t ((x.access, x.reply) ∷ l) l ≡ cond t ((x.access, x.reply) ∷ m) m ++ n)
    [ true ↦ ap (λ (k : List (Access × ℕ)). (x.access, x.reply) ∷ k) e | false ↦ e ] in
    more _ _ _ _ (calls_of_append c xs ys)

pub replies_split : (c i : ℕ) (es : List Entry) → replies_of c (take i es) ++ replies_of c (drop i es) ≡ replies_of c es
replies_split c i es =
    let reply : Access × ℕ → ℕ = λ call. call.1 in
    sym (map-append reply (calls_of c (take i es)) (calls_of c (drop i es)))
    ∙ ap (map reply) (sym (calls_of_append c (take i es) (drop i es)))
    ∙ ap (replies_of c) (take-append-drop i es)

calls_in_append : (xs ys : List StepRecord) → calls_in (xs ++ ys) ≡ calls_in xs ++ calls_in ys
calls_in_append [] ys = refl
calls_in_append (x ∷ xs) ys =
    let more : (d : Option Access) (l m n : List (Access × ℕ)) → l ≡ m ++ n → call_before d x.reply l ≡ call_before d x.reply m ++ n =
    λ d l m n e. elim d as (λ t. call_before t x.reply l ≡ call_before t x.reply m ++ n)
    [ None ↦ e | Some a ↦ ap (λ (k : List (Access × ℕ)). (a, x.reply) ∷ k) e ] in
    more x.access _ _ _ (calls_in_append xs ys)

pub places_append : (i : ℕ) (xs ys : List StepRecord) → places_from i (xs ++ ys) ≡ places_from i xs ++ places_from (i + length xs) ys
places_append i [] ys = ap (λ (n : ℕ). places_from n ys) (let e : i ≡ i + 0 = omega arith in e)
places_append i (x ∷ xs) ys =
    let more : (d : Option Access) (l m n : List ℕ) → l ≡ m ++ n → place_before d i l ≡ place_before d i m ++ n =
    λ d l m n e. elim d as (λ t. place_before t i l ≡ place_before t i m ++ n) [ None ↦ e | Some a ↦ ap (λ (k : List ℕ). i ∷ k) e ] in
    more x.access _ _ _ (places_append (suc i) xs ys
    ∙ ap (λ (n : ℕ). places_from (suc i) xs ++ places_from n ys) (let e : suc i + length xs ≡ i + suc (length xs) = omega arith in e))

pub places_many : (i : ℕ) (xs : List StepRecord) → length (places_from i xs) ≡ length (calls_in xs)
places_many i [] = refl
places_many i (x ∷ xs) =
    let h : length (places_from (suc i) xs) ≡ length (calls_in xs) = places_many (suc i) xs in
    elim x.access as (λ d. length (place_before d i (places_from (suc i) xs)) ≡ length (call_before d x.reply (calls_in xs))) [ None ↦ h | Some a ↦ ap suc h ]

-- the element after a list, and the one after its end
get_behind : {A : Type 0} (xs : List A) (y : A) (ys : List A) → slice_get (xs ++ y ∷ ys) (length xs) ≡ Some y
get_behind [] y ys = refl
get_behind (x ∷ xs) y ys = get_behind xs y ys

get_end : {A : Type 0} (xs : List A) → slice_get xs (length xs) ≡ None
get_end [] = refl
get_end (x ∷ xs) = get_end xs

index_behind : (xs : List ℕ) (y : ℕ) (ys : List ℕ) (d : ℕ) → slice_index_or (xs ++ y ∷ ys) (length xs) d ≡ y
index_behind [] y ys d = refl
index_behind (x ∷ xs) y ys d = index_behind xs y ys d

index_end : (xs : List ℕ) (d : ℕ) → slice_index_or xs (length xs) d ≡ d
index_end [] d = refl
index_end (x ∷ xs) d = index_end xs d

-- ---- a trace as what was made of it, and the rest

pub record Splits {S : Type 0} (P : Chip S) (c : ℕ) (z : Traced S) (k : Core S) (es : List Entry) (i : ℕ) : Type 0 where
  pub records : z.records ≡ k.records ++ (trace_over P k.state k.left (replies_of c (drop i es))).records
  pub last : z.last ≡ (trace_over P k.state k.left (replies_of c (drop i es))).last
  pub calls : calls_in k.records ≡ calls_of c (take i es)

splits_from : {S : Type 0} (P : Chip S) (c : ℕ) (s : S) (n : ℕ) (k : Core S) (es h : List Entry) (i : ℕ) → Drove P (core s n []) k (calls_of c h) → h ≡ take i es
    → Splits P c (trace_over P s n (replies_of c es)) k es i
splits_from {S = S} P c s n k es h i d is =
    let rest = replies_of c (drop i es) in
    let here : finished_core P (core s n []) (replies_of c es) ≡ finished_core P k rest =
    ap (finished_core P (core s n [])) (sym (ap (λ (l : List Entry). replies_of c l ++ rest) is ∙ replies_split c i es)) ∙ sym (d.trace rest) in
    record {
      records = ap (λ (x : Core S). x.records) here;
      last = ap (λ (x : Core S). x.state) here;
      calls = d.calls ∙ ap (calls_of c) is;
    }

pub splits_zero : {S : Type 0} (P : Chip S) (o : Opening S) (list : List ℕ) (es : List Entry) (i : ℕ) → (advance P list (world_at_start o)).line.history ≡ take i es
    → Splits P 0 (trace_over P o.state0 o.turns0 (replies_of 0 es)) (advance P list (world_at_start o)).core0 es i
splits_zero P o list es i is =
    let w = advance P list (world_at_start o) in
    splits_from P 0 o.state0 o.turns0 w.core0 es w.line.history i (advance_keeps P o list (world_at_start o) (opened_reached P o)).zero is

pub splits_one : {S : Type 0} (P : Chip S) (o : Opening S) (list : List ℕ) (es : List Entry) (i : ℕ) → (advance P list (world_at_start o)).line.history ≡ take i es
    → Splits P 1 (trace_over P o.state1 o.turns1 (replies_of 1 es)) (advance P list (world_at_start o)).core1 es i
splits_one P o list es i is =
    let w = advance P list (world_at_start o) in
    splits_from P 1 o.state1 o.turns1 w.core1 es w.line.history i (advance_keeps P o list (world_at_start o) (opened_reached P o)).one is

-- ---- what comes next

-- The n-th call of these records is of this access, and `count` is its place; or there is none, and so many records.
pub record Shown (rs : List StepRecord) (n count : ℕ) (next : Option Access) : Type 0 where
  pub call : option_map (λ (x : Access × ℕ). x.0) (slice_get (calls_in rs) n) ≡ next
  pub place : slice_index_or (places_from 0 rs) n (length rs) ≡ count
  pub more : slice_get (places_from 0 rs) n ≡ option_map (λ (a : Access). count) next

end_shown : (rs : List StepRecord) (n : ℕ) → n ≡ length (calls_in rs) → Shown rs n (length rs) None
end_shown rs n e =
    let places : n ≡ length (places_from 0 rs) = e ∙ sym (places_many 0 rs) in
    record {
      call = ap (λ (m : ℕ). option_map (λ (x : Access × ℕ). x.0) (slice_get (calls_in rs) m)) e ∙ ap (option_map (λ (x : Access × ℕ). x.0)) (get_end (calls_in rs));
      place = ap (λ (m : ℕ). slice_index_or (places_from 0 rs) m (length rs)) places ∙ index_end (places_from 0 rs) (length rs);
      more = ap (slice_get (places_from 0 rs)) places ∙ get_end (places_from 0 rs);
    }

call_shown : (xs : List StepRecord) (x : StepRecord) (ys : List StepRecord) (a : Access) (n : ℕ) → x.access ≡ Some a → n ≡ length (calls_in xs)
    → Shown (xs ++ x ∷ ys) n (length xs) (Some a)
call_shown xs x ys a n asked e =
    let places : n ≡ length (places_from 0 xs) = e ∙ sym (places_many 0 xs) in
    let calls : calls_in (xs ++ x ∷ ys) ≡ calls_in xs ++ (a, x.reply) ∷ calls_in ys =
    calls_in_append xs (x ∷ ys) ∙ ap (λ (d : Option Access). calls_in xs ++ call_before d x.reply (calls_in ys)) asked in
    let at : places_from 0 (xs ++ x ∷ ys) ≡ places_from 0 xs ++ length xs ∷ places_from (suc (length xs)) ys =
    places_append 0 xs (x ∷ ys)
    ∙ ap (λ (m : ℕ). places_from 0 xs ++ places_from m (x ∷ ys)) (let z : 0 + length xs ≡ length xs = omega arith in z)
    ∙ ap (λ (d : Option Access). places_from 0 xs ++ place_before d (length xs) (places_from (suc (length xs)) ys)) asked in
    record {
      call = ap (λ (l : List (Access × ℕ)). option_map (λ (y : Access × ℕ). y.0) (slice_get l n)) calls
          ∙ ap (λ (m : ℕ). option_map (λ (y : Access × ℕ). y.0) (slice_get (calls_in xs ++ (a, x.reply) ∷ calls_in ys) m)) e
          ∙ ap (option_map (λ (y : Access × ℕ). y.0)) (get_behind (calls_in xs) (a, x.reply) (calls_in ys));
      place = ap (λ (l : List ℕ). slice_index_or l n (length (xs ++ x ∷ ys))) at
          ∙ ap (λ (m : ℕ). slice_index_or (places_from 0 xs ++ length xs ∷ places_from (suc (length xs)) ys) m (length (xs ++ x ∷ ys))) places
          ∙ index_behind (places_from 0 xs) (length xs) (places_from (suc (length xs)) ys) (length (xs ++ x ∷ ys));
      more = ap (λ (l : List ℕ). slice_get l n) at
          ∙ ap (slice_get (places_from 0 xs ++ length xs ∷ places_from (suc (length xs)) ys)) places
          ∙ get_behind (places_from 0 xs) (length xs) (places_from (suc (length xs)) ys);
    }

-- a core that has ended has made its whole trace
pub record Whole {S : Type 0} (z : Traced S) (k : Core S) : Type 0 where
  pub records : z.records ≡ k.records
  pub last : z.last ≡ k.state

pub whole : {S : Type 0} (P : Chip S) (c : ℕ) (z : Traced S) (k : Core S) (es : List Entry) (i : ℕ) → Splits P c z k es i → k.left ≡ 0 → Whole z k
whole {S = S} P c z k es i h none =
    let f = replies_of c (drop i es) in
    let ended : trace_over P k.state k.left f ≡ trace_over P k.state 0 f = ap (λ (n : ℕ). trace_over P k.state n f) none in
    record {
      records = h.records ∙ ap (λ (t : Traced S). k.records ++ t.records) ended ∙ append-nil k.records;
      last = h.last ∙ ap (λ (t : Traced S). t.last) ended;
    }

pub shown_end : {S : Type 0} (P : Chip S) (c : ℕ) (z : Traced S) (k : Core S) (es : List Entry) (i : ℕ) → Splits P c z k es i → k.left ≡ 0
    → Shown z.records (length (calls_of c (take i es))) (length k.records) None
shown_end P c z k es i h none =
    subst (λ (rs : List StepRecord). Shown rs (length (calls_of c (take i es))) (length k.records) None) (sym (whole P c z k es i h none).records)
    (end_shown k.records (length (calls_of c (take i es))) (ap length (sym h.calls)))

pub shown_call : {S : Type 0} (P : Chip S) (c : ℕ) (z : Traced S) (k : Core S) (es : List Entry) (i n : ℕ) (a : Access) → Splits P c z k es i → k.left ≡ suc n
    → P.demand k.state ≡ Some a → Shown z.records (length (calls_of c (take i es))) (length k.records) (Some a)
shown_call {S = S} P c z k es i n a h left asks =
    let f = replies_of c (drop i es) in
    let t = P.turn k.state (reply_for (Some a) f) in
    let after = trace_over P t.1 (left_past t.0 n) (replies_past (Some a) f) in
    let first : (trace_over P k.state k.left f).records ≡ t.0 ∷ after.records =
    ap (λ (m : ℕ). (trace_over P k.state m f).records) left ∙ ap (λ (x : Traced S). x.records) (trace_turn P k.state n (Some a) f asks) in
    subst (λ (rs : List StepRecord). Shown rs (length (calls_of c (take i es))) (length k.records) (Some a))
    (sym (h.records ∙ ap (λ (l : List StepRecord). k.records ++ l) first))
    (call_shown k.records t.0 after.records a (length (calls_of c (take i es))) (P.asks k.state (reply_for (Some a) f) ∙ asks) (ap length (sym h.calls)))
