-- A run's own schedule walks the records of its traces.
use Rattle.std.proofs.Common.{◌≡◌, ℕ, zero, suc, ◌+◌, ◌-◌, ◌<◌, ◌≤◌, List, [], ◌∷◌, ◌++◌, length, replicate, refl, sym, ap, ◌∙◌, append_assoc, arith, length-append}
use Rattle.std.proofs.lemmas.List.{append-nil, append_cancel_left, nil_from_length, length-replicate}
use Rattle.xt_map.specs.declared.access.Access.{Access}
use Rattle.xt_map.specs.declared.access.Entry.{Entry}
use Rattle.xt_map.specs.History.{IsOfCores}
use Rattle.xt_trace.specs.Worlds.{entry}
use Rattle.xt_trace.specs.declared.record.StepRecord.{StepRecord}
use Rattle.xt_trace.specs.Chip.{Chip}
use Rattle.xt_trace.specs.Traces.{Traced}
use Rattle.xt_trace.specs.Calls.{calls_in}
use Rattle.xt_map.specs.History.{calls_of}
use Rattle.xt_trace.specs.Schedule.{cores_of, places_from}
use Rattle.xt_trace.specs.Worlds.{Core, Line, World, core_given, give, advance}
use Rattle.xt_trace.specs.Schedule.{schedule_from}
use Rattle.xt_trace.specs.Runs.{Opening, Run, world_at_start, IsRunOf, schedule_of}
use Rattle.xt_trace.specs.Short.{short_run, short_trace, IsRising}
use Rattle.xt_trace.specs.Walks.{next_record, IsWalk}
use Rattle.xt_trace.proofs.Own.{own_world}
use Rattle.xt_trace.proofs.Short.{run_has_places}

-- what one core's turn adds: one record, or nothing where it has none left
record Adds {S : Type 0} (P : Chip S) (k : Core S) (b : Line) (n : ℕ) : Type 0 where
  new : List StepRecord
  is : (core_given P n k b).records ≡ k.records ++ new
  most : length new ≤ 1
  none : length new ≡ 1 → (0 < n) × (new ≡ next_record P k b ∷ [])

adds : {S : Type 0} (P : Chip S) (k : Core S) (b : Line) (n : ℕ) → Adds P k b n
adds P k b zero = record { new = []; is = sym (append-nil k.records); most = omega arith; none = λ e. absurd (omega arith) }
adds P k b (suc n) = record { new = next_record P k b ∷ []; is = refl; most = omega arith; none = λ e. (omega arith, refl) }

-- what the turns of a list add
record Grows {S : Type 0} (P : Chip S) (list : List ℕ) (w : World S) : Type 0 where
  xs : List StepRecord
  ys : List StepRecord
  zero : (advance P list w).core0.records ≡ w.core0.records ++ xs
  one : (advance P list w).core1.records ≡ w.core1.records ++ ys
  most : length xs + length ys ≤ length list

grows : {S : Type 0} (P : Chip S) (list : List ℕ) (w : World S) → Grows P list w
grows P [] w = record { xs = []; ys = []; zero = sym (append-nil w.core0.records); one = sym (append-nil w.core1.records); most = omega arith }
grows P (zero ∷ cs) w =
    let a = adds P w.core0 w.line w.core0.left in
    let g = grows P cs (give P 0 w) in
    record {
      xs = a.new ++ g.xs;
      ys = g.ys;
      zero = g.zero ∙ ap (λ (l : List StepRecord). l ++ g.xs) a.is ∙ append_assoc w.core0.records a.new g.xs;
      one = g.one;
      most = omega (arith, length-append a.new g.xs, a.most, g.most);
    }
grows P (suc c ∷ cs) w =
    let a = adds P w.core1 w.line w.core1.left in
    let g = grows P cs (give P 1 w) in
    record {
      xs = g.xs;
      ys = a.new ++ g.ys;
      zero = g.zero;
      one = g.one ∙ ap (λ (l : List StepRecord). l ++ g.ys) a.is ∙ append_assoc w.core1.records a.new g.ys;
      most = omega (arith, length-append a.new g.ys, a.most, g.most);
    }

-- a list that adds a record for each of its numbers walks them
full_walk : {S : Type 0} (P : Chip S) (list : List ℕ) (w : World S) (xs ys : List StepRecord)
    → (advance P list w).core0.records ≡ w.core0.records ++ xs → (advance P list w).core1.records ≡ w.core1.records ++ ys
    → length xs + length ys ≡ length list → IsWalk P list w xs ys
full_walk P [] w xs ys e f h = (nil_from_length xs (omega arith), nil_from_length ys (omega arith))
full_walk P (zero ∷ cs) w xs ys e f h =
    let a = adds P w.core0 w.line w.core0.left in
    let g = grows P cs (give P 0 w) in
    let all : xs ≡ a.new ++ g.xs = append_cancel_left w.core0.records xs (a.new ++ g.xs) (sym e ∙ g.zero ∙ ap (λ (l : List StepRecord). l ++ g.xs) a.is ∙ append_assoc w.core0.records a.new g.xs) in
    let same : ys ≡ g.ys = append_cancel_left w.core1.records ys g.ys (sym f ∙ g.one) in
    let one = a.none (omega (arith, ap length all, ap length same, length-append a.new g.xs, a.most, g.most)) in
    let rest : xs ≡ next_record P w.core0 w.line ∷ g.xs = all ∙ ap (λ (l : List StepRecord). l ++ g.xs) one.1 in
    (g.xs, rest, one.0, full_walk P cs (give P 0 w) g.xs ys g.zero f (omega (arith, ap length rest)))
full_walk P (suc c ∷ cs) w xs ys e f h =
    let a = adds P w.core1 w.line w.core1.left in
    let g = grows P cs (give P 1 w) in
    let all : ys ≡ a.new ++ g.ys = append_cancel_left w.core1.records ys (a.new ++ g.ys) (sym f ∙ g.one ∙ ap (λ (l : List StepRecord). l ++ g.ys) a.is ∙ append_assoc w.core1.records a.new g.ys) in
    let same : xs ≡ g.xs = append_cancel_left w.core0.records xs g.xs (sym e ∙ g.zero) in
    let one = a.none (omega (arith, ap length all, ap length same, length-append a.new g.ys, a.most, g.most)) in
    let rest : ys ≡ next_record P w.core1 w.line ∷ g.ys = all ∙ ap (λ (l : List StepRecord). l ++ g.ys) one.1 in
    (g.ys, rest, one.0, full_walk P cs (give P 1 w) xs g.ys e g.one (omega (arith, ap length rest)))

-- a schedule has each step once
-- the length of the schedule of what is left
Measured : List Entry → Type 0
Measured es = (i : ℕ) (ps : List ℕ) (n j : ℕ) (qs : List ℕ) (m : ℕ) → IsRising i ps n → IsRising j qs m → i ≤ n → j ≤ m
    → length ps ≡ length (calls_of 0 es) → length qs ≡ length (calls_of 1 es) → length (schedule_from (cores_of es) i ps n j qs m) ≡ (n - i) + (m - j)

measured_at : (c : ℕ) (a : Access) (r : ℕ) (es : List Entry) → c < 2 → Measured es → Measured (entry c a r ∷ es)
unfolding Measured
measured_at zero a r es lt next i [] n j qs m up vp le me x y = absurd (omega arith)
measured_at zero a r es lt next i (p ∷ ps) n j qs m up vp le me x y =
    let rest = next (suc p) ps n j qs m up.2 vp (let h : p < n = up.1 in omega arith) me (omega arith) y in
    length-append (replicate (suc p - i) 0) (schedule_from (cores_of es) (suc p) ps n j qs m)
    ∙ (let l : length {A = ℕ} (replicate (suc p - i) 0) ≡ suc p - i = length-replicate (suc p - i) 0 in let h : p < n = up.1 in let g : i ≤ p = up.0 in omega (arith, l, rest))
measured_at (suc zero) a r es lt next i ps n j [] m up vp le me x y = absurd (omega arith)
measured_at (suc zero) a r es lt next i ps n j (q ∷ qs) m up vp le me x y =
    let rest = next i ps n (suc q) qs m up vp.2 le (let h : q < m = vp.1 in omega arith) x (omega arith) in
    length-append (replicate (suc q - j) 1) (schedule_from (cores_of es) i ps n (suc q) qs m)
    ∙ (let l : length {A = ℕ} (replicate (suc q - j) 1) ≡ suc q - j = length-replicate (suc q - j) 1 in let h : q < m = vp.1 in let g : j ≤ q = vp.0 in omega (arith, l, rest))
measured_at (suc (suc c)) a r es lt next i ps n j qs m up vp le me x y = absurd (omega arith)

measured : (es : List Entry) → IsOfCores es → Measured es
unfolding Measured
measured [] cores i ps n j qs m up vp le me x y =
    length-append (replicate (n - i) 0) (replicate (m - j) 1)
    ∙ (let k : length {A = ℕ} (replicate (n - i) 0) ≡ n - i = length-replicate (n - i) 0 in let l : length {A = ℕ} (replicate (m - j) 1) ≡ m - j = length-replicate (m - j) 1 in omega (arith, k, l))
measured (e ∷ es) cores i ps n j qs m up vp le me x y =
    measured_at e.core e.access e.reply es (cores 0 e refl) (measured es (λ k z at. cores (suc k) z at)) i ps n j qs m up vp le me x y

-- each step of a run's own schedule is one turn, whose record is the next of its core's trace
pub own_walk : {S : Type 0} (P : Chip S) (o : Opening S) (r : Run S) → IsRunOf P o r → IsWalk P (schedule_of r) (world_at_start o) r.trace0.records r.trace1.records
unfolding Measured
own_walk {S = S} P o r h =
    let w = advance P (schedule_of r) (world_at_start o) in
    let is = own_world P o r h in
    let s = run_has_places P o (short_run r) (record {
      legal = h.legal;
      cores = h.cores;
      trace0 = ap short_trace h.trace0;
      trace1 = ap short_trace h.trace1;
      calls0 = h.calls0 ∙ ap (λ (z : Traced S). calls_in z.records) h.trace0;
      calls1 = h.calls1 ∙ ap (λ (z : Traced S). calls_in z.records) h.trace1;
    }) in
    let long : length (schedule_of r) ≡ (length r.trace0.records - 0) + (length r.trace1.records - 0) =
    measured r.history h.cores 0 (places_from 0 r.trace0.records) (length r.trace0.records) 0 (places_from 0 r.trace1.records) (length r.trace1.records)
    s.rise0 s.rise1 (omega arith) (omega arith) s.calls0 s.calls1 in
    full_walk P (schedule_of r) (world_at_start o) r.trace0.records r.trace1.records
    (ap (λ (u : World S). u.core0.records) is ∙ ap (λ (z : Traced S). z.records) (sym h.trace0))
    (ap (λ (u : World S). u.core1.records) is ∙ ap (λ (z : Traced S). z.records) (sym h.trace1))
    (omega (arith, long))
