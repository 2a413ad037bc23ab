-- The rest of the turns ends both cores, so the run of every list is a run of its opening.
use Rattle.std.proofs.Common.{◌≡◌, ℕ, zero, suc, ◌+◌, ◌<◌, ◌≤◌, true, false, cond, List, [], ◌∷◌, ◌++◌, length, take, get_or, replicate, refl, sym, ap, ◌∙◌, arith}
use Rattle.std.proofs.lemmas.List.{take_more, take_all, replicate_more}
use Rattle.xt_trace.specs.declared.record.StepRecord.{StepRecord}
use Rattle.xt_trace.specs.Calls.{is_stop}
use Rattle.xt_trace.specs.Chip.{Chip}
use Rattle.xt_map.specs.History.{calls_of}
use Rattle.xt_trace.specs.Worlds.{Core, Line, World, left_past, core_given, give, advance, rest_of, finished_world, answer}
use Rattle.xt_trace.specs.Runs.{Opening, world_at_start, run_at, IsRunOf, run_of}
use Rattle.xt_trace.proofs.Driven.{drove_ended}
use Rattle.xt_trace.proofs.Keeping.{advance_keeps, opened_reached}

pub advance_append : {S : Type 0} (P : Chip S) (xs ys : List ℕ) (w : World S) → advance P (xs ++ ys) w ≡ advance P ys (advance P xs w)
advance_append P [] ys w = refl
advance_append P (x ∷ xs) ys w = advance_append P xs ys (give P x w)

pub left_at_most : (x : StepRecord) (n m : ℕ) → n ≤ m → left_past x n ≤ m
left_at_most x n m h = elim (is_stop x.kind) as (λ b. cond b 0 n ≤ m) [ true ↦ omega arith | false ↦ h ]

left_given : {S : Type 0} (P : Chip S) (k : Core S) (b : Line) (l n : ℕ) → k.left ≡ l → l ≤ suc n → (core_given P l k b).left ≤ n
left_given P k b zero n e h = omega arith
left_given P k b (suc l) n e h = left_at_most (P.turn k.state (answer (P.demand k.state) b.memory)).0 l n (omega arith)

ends0 : {S : Type 0} (P : Chip S) (n : ℕ) (w : World S) → w.core0.left ≤ n → (advance P (replicate n 0) w).core0.left ≡ 0
ends0 P zero w h = omega arith
ends0 P (suc n) w h = ends0 P n (give P 0 w) (left_given P w.core0 w.line w.core0.left n refl h)

ends1 : {S : Type 0} (P : Chip S) (n : ℕ) (w : World S) → w.core1.left ≤ n → (advance P (replicate n 1) w).core1.left ≡ 0
ends1 P zero w h = omega arith
ends1 P (suc n) w h = ends1 P n (give P 1 w) (left_given P w.core1 w.line w.core1.left n refl h)

idle0 : {S : Type 0} (P : Chip S) (n : ℕ) (w : World S) → (advance P (replicate n 0) w).core1 ≡ w.core1
idle0 P zero w = refl
idle0 P (suc n) w = idle0 P n (give P 0 w)

idle1 : {S : Type 0} (P : Chip S) (n : ℕ) (w : World S) → (advance P (replicate n 1) w).core0 ≡ w.core0
idle1 P zero w = refl
idle1 P (suc n) w = idle1 P n (give P 1 w)

record Ended {S : Type 0} (P : Chip S) (w : World S) : Type 0 where
  zero : w.core0.left ≡ 0
  one : w.core1.left ≡ 0

finished_ended : {S : Type 0} (P : Chip S) (w : World S) → Ended P (finished_world P w)
finished_ended {S = S} P w =
    let v = advance P (replicate w.core0.left 0) w in
    let is = advance_append P (replicate w.core0.left 0) (replicate w.core1.left 1) w in
    record {
      zero = ap (λ (u : World S). u.core0.left) is ∙ ap (λ (k : Core S). k.left) (idle1 P w.core1.left v) ∙ ends0 P w.core0.left w (omega arith);
      one = ap (λ (u : World S). u.core1.left) is
          ∙ ends1 P w.core1.left v (let e : v.core1.left ≡ w.core1.left = ap (λ (k : Core S). k.left) (idle0 P w.core0.left w) in omega arith);
    }

-- the run of a list is a run of its opening
pub run_at_is_run : {S : Type 0} (P : Chip S) (o : Opening S) (list : List ℕ) → IsRunOf P o (run_at P o list)
run_at_is_run P o list =
    let v = advance P list (world_at_start o) in
    let w = finished_world P v in
    let h = advance_keeps P o (rest_of v) v (advance_keeps P o list (world_at_start o) (opened_reached P o)) in
    let e = finished_ended P v in
    record {
      legal = h.legal;
      cores = h.cores;
      trace0 = drove_ended P o.state0 o.turns0 w.core0 (calls_of 0 w.line.history) e.zero h.zero;
      trace1 = drove_ended P o.state1 o.turns1 w.core1 (calls_of 1 w.line.history) e.one h.one;
      calls0 = sym h.zero.calls;
      calls1 = sym h.one.calls;
    }

-- one turn more of a list, and one more of the same core
pub advance_more : {S : Type 0} (P : Chip S) (list : List ℕ) (i d : ℕ) (w v : World S) → i < length list → v ≡ advance P (take i list) w → give P (get_or list i d) v ≡ advance P (take (i + 1) list) w
advance_more P list i d w v lt e =
    ap (give P (get_or list i d)) e ∙ sym (advance_append P (take i list) (get_or list i d ∷ []) w) ∙ ap (λ (l : List ℕ). advance P l w) (sym (take_more list i d lt))

pub advance_same : {S : Type 0} (P : Chip S) (c i : ℕ) (w v : World S) → v ≡ advance P (replicate i c) w → give P c v ≡ advance P (replicate (i + 1) c) w
advance_same P c i w v e =
    ap (give P c) e ∙ sym (advance_append P (replicate i c) (c ∷ []) w) ∙ ap (λ (l : List ℕ). advance P l w) (replicate_more i c)

-- the list, core 0's rest and core 1's rest come to the run of the list
pub run_at_comes : {S : Type 0} (P : Chip S) (o : Opening S) (list : List ℕ) (i n m : ℕ) (u v w : World S) → length list ≤ i → n ≡ u.core0.left → m ≡ u.core1.left
    → u ≡ advance P (take i list) (world_at_start o) → v ≡ advance P (replicate n 0) u → w ≡ advance P (replicate m 1) v → run_of w ≡ run_at P o list
run_at_comes {S = S} P o list i n m u v w le n_is m_is e f g =
    ap (run_of) (g ∙ ap (advance P (replicate m 1)) f
    ∙ ap (λ (k : ℕ). advance P (replicate k 1) (advance P (replicate n 0) u)) m_is ∙ ap (λ (k : ℕ). advance P (replicate u.core1.left 1) (advance P (replicate k 0) u)) n_is
    ∙ sym (advance_append P (replicate u.core0.left 0) (replicate u.core1.left 1) u)
    ∙ ap (finished_world P) (e ∙ ap (λ (l : List ℕ). advance P l (world_at_start o)) (take_all i list le)))
