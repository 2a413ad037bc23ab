-- The same laws where the traces are not kept whole.
use Rattle.std.proofs.Common.{◌≡◌, ℕ, zero, suc, ◌+◌, ◌≤◌, Bool, true, false, ◌||◌, cond, Option, Some, None, List, [], ◌∷◌, ◌++◌, length, refl, sym, ap, ◌∙◌, arith}
use Rattle.std.proofs.lemmas.List.{length_push}
use Rattle.xt_map.specs.declared.access.Access.{Access}
use Rattle.xt_trace.specs.declared.record.StepRecord.{StepRecord}
use Rattle.xt_trace.specs.Calls.{is_stop}
use Rattle.xt_trace.specs.Chip.{Chip}
use Rattle.xt_trace.specs.Traces.{Traced, empty_trace, trace_over, reply_for, replies_past, has_stopped}
use Rattle.xt_trace.specs.Calls.{call_before, calls_in}
use Rattle.xt_map.specs.History.{IsOfCores, calls_of, replies_of}
use Rattle.xt_trace.specs.Schedule.{place_before, places_from}
use Rattle.xt_trace.specs.Worlds.{Core, Line, World, core_past, line_given, core_given, give, advance, left_past, answer}
use Rattle.xt_trace.specs.Runs.{Opening, Run, run_at, IsRunOf}
use Rattle.xt_trace.specs.Short.{ShortTrace, short_trace, ShortRun, short_run, IsShortRunOf, short_schedule, ShortCore, short_core, short_past, short_given, short_line, ShortWorld, short_world, short_give, short_advance, IsRising}
use Rattle.xt_trace.proofs.Ends.{run_at_is_run}
use Rattle.xt_trace.proofs.Own.{own_schedule}

-- the run of a list, short, is a run of its opening
pub short_run_at_is_run : {S : Type 0} (P : Chip S) (o : Opening S) (list : List ℕ) → IsShortRunOf P o (short_run (run_at P o list))
short_run_at_is_run {S = S} P o list =
    let r = run_at P o list in
    let h = run_at_is_run P o list in
    record {
      legal = h.legal;
      cores = h.cores;
      trace0 = ap (short_trace) h.trace0;
      trace1 = ap (short_trace) h.trace1;
      calls0 = h.calls0 ∙ ap (λ (z : Traced S). calls_in z.records) h.trace0;
      calls1 = h.calls1 ∙ ap (λ (z : Traced S). calls_in z.records) h.trace1;
    }

-- and every short run is that of its own schedule
pub short_own_schedule : {S : Type 0} (P : Chip S) (o : Opening S) (r : ShortRun S) → IsShortRunOf P o r → short_run (run_at P o (short_schedule r)) ≡ r
short_own_schedule {S = S} P o r h =
    let whole : Run S = record {
      history = r.history;
      trace0 = trace_over P o.state0 o.turns0 (replies_of 0 r.history);
      trace1 = trace_over P o.state1 o.turns1 (replies_of 1 r.history);
    } in
    let is : IsRunOf P o whole = record { legal = h.legal; cores = h.cores; trace0 = refl; trace1 = refl; calls0 = h.calls0; calls1 = h.calls1 } in
    let again : (x y : ShortTrace S) → ShortRun S = λ x y. record { history = r.history; trace0 = x; trace1 = y } in
    let short : r ≡ short_run whole = ap (λ (x : ShortTrace S). again x r.trace1) h.trace0 ∙ ap (again (short_trace whole.trace0)) h.trace1 in
    ap (λ (s : ShortRun S). short_run (run_at P o (short_schedule s))) short ∙ ap (short_run) (own_schedule P o whole is) ∙ sym short

-- one record more
place_before_append : (d : Option Access) (i : ℕ) (ps qs : List ℕ) → place_before d i (ps ++ qs) ≡ place_before d i ps ++ qs
place_before_append None i ps qs = refl
place_before_append (Some a) i ps qs = refl

pub places_push : (i : ℕ) (xs : List StepRecord) (x : StepRecord) → places_from i (xs ++ x ∷ []) ≡ places_from i xs ++ place_before x.access (i + length xs) []
places_push i [] x = ap (λ (n : ℕ). place_before x.access n []) (let e : i ≡ i + 0 = omega arith in e)
places_push i (y ∷ xs) x =
    ap (place_before y.access i) (places_push (suc i) xs x) ∙ place_before_append y.access i (places_from (suc i) xs) (place_before x.access (suc i + length xs) [])
    ∙ ap (λ (n : ℕ). place_before y.access i (places_from (suc i) xs) ++ place_before x.access n []) (let e : suc i + length xs ≡ i + suc (length xs) = omega arith in e)

pub stopped_push : (xs : List StepRecord) (x : StepRecord) → has_stopped (xs ++ x ∷ []) ≡ (has_stopped xs || is_stop x.kind)
stopped_push [] x = elim (is_stop x.kind) as (λ b. (b || false) ≡ (false || b)) [ true ↦ refl | false ↦ refl ]
stopped_push (y ∷ xs) x =
    elim (is_stop y.kind) as (λ b. (b || has_stopped (xs ++ x ∷ [])) ≡ ((b || has_stopped xs) || is_stop x.kind)) [ true ↦ refl | false ↦ stopped_push xs x ]

pub short_core_past : {S : Type 0} (P : Chip S) (k : Core S) (n r : ℕ) → short_core (core_past P k n r) ≡ short_past P (short_core k) n r
short_core_past {S = S} P k n r =
    let t = P.turn k.state r in
    let make : ℕ → List ℕ → Bool → ShortCore S = λ c ps b. record { state = t.1; left = left_past t.0 n; count = c; places = ps; stopped = b } in
    ap (λ (c : ℕ). make c (places_from 0 (k.records ++ t.0 ∷ [])) (has_stopped (k.records ++ t.0 ∷ []))) (length_push k.records t.0)
    ∙ ap (make (length k.records + 1) (places_from 0 (k.records ++ t.0 ∷ []))) (stopped_push k.records t.0)
    ∙ ap (λ (ps : List ℕ). make (length k.records + 1) ps (has_stopped k.records || is_stop t.0.kind)) (places_push 0 k.records t.0 ∙ ap (λ (i : ℕ). places_from 0 k.records ++ place_before t.0.access i []) (let e : 0 + length k.records ≡ length k.records = omega arith in e))

short_core_given : {S : Type 0} (P : Chip S) (n : ℕ) (k : Core S) (b : Line) → short_core (core_given P n k b) ≡ short_given P n (short_core k) b
short_core_given P zero k b = refl
short_core_given P (suc n) k b = short_core_past P k n (answer (P.demand k.state) b.memory)

-- the line's part sees the state alone
line_short : {S : Type 0} (P : Chip S) (c n : ℕ) (k : Core S) (b : Line) → line_given P c n k b ≡ short_line P c n k.state b
line_short P c zero k b = refl
line_short P c (suc n) k b = refl

pub short_world_given : {S : Type 0} (P : Chip S) (c : ℕ) (w : World S) → short_world (give P c w) ≡ short_give P c (short_world w)
short_world_given {S = S} P zero w =
    let make : Line → ShortCore S → ShortWorld S = λ b k. record { line = b; core0 = k; core1 = short_core w.core1 } in
    ap (λ (b : Line). make b (short_core (core_given P w.core0.left w.core0 w.line))) (line_short P 0 w.core0.left w.core0 w.line)
    ∙ ap (make (short_line P 0 w.core0.left w.core0.state w.line)) (short_core_given P w.core0.left w.core0 w.line)
short_world_given {S = S} P (suc c) w =
    let make : Line → ShortCore S → ShortWorld S = λ b k. record { line = b; core0 = short_core w.core0; core1 = k } in
    ap (λ (b : Line). make b (short_core (core_given P w.core1.left w.core1 w.line))) (line_short P 1 w.core1.left w.core1 w.line)
    ∙ ap (make (short_line P 1 w.core1.left w.core1.state w.line)) (short_core_given P w.core1.left w.core1 w.line)

-- so the turns of a list may keep no records
pub short_world_advanced : {S : Type 0} (P : Chip S) (list : List ℕ) (w : World S) → short_world (advance P list w) ≡ short_advance P list (short_world w)
short_world_advanced P [] w = refl
short_world_advanced P (c ∷ cs) w = short_world_advanced P cs (give P c w) ∙ ap (short_advance P cs) (short_world_given P c w)

-- a run of an opening has a schedule
pub trace_bound : {S : Type 0} (P : Chip S) (s : S) (n : ℕ) (rs : List ℕ) → length (trace_over P s n rs).records ≤ n
trace_bound P s zero rs = omega arith
trace_bound P s (suc n) rs =
    let t = P.turn s (reply_for (P.demand s) rs) in
    let rest = trace_over P t.1 n (replies_past (P.demand s) rs) in
    let h : length rest.records ≤ n = trace_bound P t.1 n (replies_past (P.demand s) rs) in
    elim (is_stop t.0.kind) as (λ b. suc (length (cond b (empty_trace t.1) rest).records) ≤ suc n) [ true ↦ omega arith | false ↦ omega arith ]

places_many : (i : ℕ) (xs : List StepRecord) → length (places_from i xs) ≡ length (calls_in xs)
places_many i [] = refl
places_many i (x ∷ xs) =
    let h : length (places_from (suc i) xs) ≡ length (calls_in xs) = places_many (suc i) xs in
    elim x.access as (λ d. length (place_before d i (places_from (suc i) xs)) ≡ length (call_before d x.reply (calls_in xs))) [ None ↦ h | Some a ↦ ap suc h ]

rising_weaker : (i j : ℕ) (ps : List ℕ) (n : ℕ) → j ≤ i → IsRising i ps n → IsRising j ps n
rising_weaker i j [] n le h = tt
rising_weaker i j (p ∷ ps) n le h = ((let g : i ≤ p = h.0 in omega arith), h.1, h.2)

places_rise : (i : ℕ) (xs : List StepRecord) (n : ℕ) → i + length xs ≡ n → IsRising i (places_from i xs) n
places_rise i [] n e = tt
places_rise i (x ∷ xs) n e =
    let h : IsRising (suc i) (places_from (suc i) xs) n = places_rise (suc i) xs n (omega arith) in
    elim x.access as (λ d. IsRising i (place_before d i (places_from (suc i) xs)) n) [ None ↦ rising_weaker (suc i) i (places_from (suc i) xs) n (omega arith) h | Some a ↦ (omega arith, omega arith, h) ]

-- the turns of each core are not too many, and the places of its accesses rise and are as many as its entries
pub record HasPlaces {S : Type 0} (P : Chip S) (o : Opening S) (r : ShortRun S) : Type 0 where
  pub cores : IsOfCores r.history
  pub turns0 : r.trace0.count ≤ o.turns0
  pub turns1 : r.trace1.count ≤ o.turns1
  pub rise0 : IsRising 0 r.trace0.places r.trace0.count
  pub rise1 : IsRising 0 r.trace1.places r.trace1.count
  pub calls0 : length r.trace0.places ≡ length (calls_of 0 r.history)
  pub calls1 : length r.trace1.places ≡ length (calls_of 1 r.history)

pub run_has_places : {S : Type 0} (P : Chip S) (o : Opening S) (r : ShortRun S) → IsShortRunOf P o r → HasPlaces P o r
run_has_places {S = S} P o r h =
    let t0 = trace_over P o.state0 o.turns0 (replies_of 0 r.history) in
    let t1 = trace_over P o.state1 o.turns1 (replies_of 1 r.history) in
    record {
      cores = h.cores;
      turns0 = rw h.trace0 (trace_bound P o.state0 o.turns0 (replies_of 0 r.history));
      turns1 = rw h.trace1 (trace_bound P o.state1 o.turns1 (replies_of 1 r.history));
      rise0 = rw h.trace0 (places_rise 0 t0.records (length t0.records) (omega arith));
      rise1 = rw h.trace1 (places_rise 0 t1.records (length t1.records) (omega arith));
      calls0 = ap (λ (z : ShortTrace S). length z.places) h.trace0 ∙ places_many 0 t0.records ∙ ap length (sym h.calls0);
      calls1 = ap (λ (z : ShortTrace S). length z.places) h.trace1 ∙ places_many 0 t1.records ∙ ap length (sym h.calls1);
    }
