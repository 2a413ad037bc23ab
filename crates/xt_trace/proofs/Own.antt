-- A run of an opening is the run of its own schedule.
use Rattle.std.proofs.Common.{◌≡◌, ℕ, zero, suc, ◌+◌, ◌-◌, ◌<◌, ◌≤◌, Option, Some, None, List, [], ◌∷◌, ◌++◌, length, replicate, refl, sym, ap, ◌∙◌, subst, append_assoc, arith}
use Rattle.std.proofs.lemmas.List.{append-nil}
use Rattle.xt_map.specs.declared.access.Access.{Access}
use Rattle.xt_map.specs.declared.access.Entry.{Entry}
use Rattle.xt_map.specs.Serving.{reply_to}
use Rattle.xt_map.specs.History.{memory_after, IsLegal, IsOfCores}
use Rattle.xt_trace.specs.Worlds.{entry, answer}
use Rattle.xt_trace.specs.declared.record.StepRecord.{StepRecord}
use Rattle.xt_trace.specs.Chip.{Chip}
use Rattle.xt_trace.specs.Traces.{Traced, trace_over, reply_for, replies_past}
use Rattle.xt_trace.specs.Calls.{call_before, calls_in}
use Rattle.xt_map.specs.History.{calls_of, replies_of}
use Rattle.xt_trace.specs.Schedule.{place_before, places_from, cores_of}
use Rattle.xt_trace.specs.Worlds.{Core, Line, World, line_past, left_past, core_past, line_given, core_given, give, advance, finished_world, finished_core}
use Rattle.xt_trace.specs.Schedule.{schedule_from}
use Rattle.xt_trace.specs.Runs.{Opening, Run, world_at_start, run_of, run_at, IsRunOf, schedule_of}
use Rattle.xt_trace.proofs.Turns.{core, trace_turn, closed_turn}
use Rattle.xt_trace.proofs.Ends.{advance_append, left_at_most}

-- the records that a core still makes over these replies
abbrev made : {S : Type 0} (P : Chip S) → Core S → List ℕ → List StepRecord
made P k f = (trace_over P k.state k.left f).records

-- A core's turns up to its next call, which is a with reply r, seen in a world that has the core and the line at one place:
-- after them the core is at `after` and has made as many steps as `place` + 1 more than i less.
record Segment {S : Type 0} (P : Chip S) (c : ℕ) (put : Core S → Line → World S) (k : Core S) (b : Line) (a : Access) (r : ℕ) (f : List ℕ) (i : ℕ) : Type 0 where
  next : Core S
  place : ℕ
  later : i ≤ place
  places : places_from i (made P k (r ∷ f)) ≡ place ∷ places_from (suc place) (made P next f)
  size : length (made P k (r ∷ f)) + i ≡ length (made P next f) + suc place
  calls : calls_in (made P k (r ∷ f)) ≡ (a, r) ∷ calls_in (made P next f)
  end : finished_core P k (r ∷ f) ≡ finished_core P next f
  leads : advance P (replicate (suc place - i) c) (put k b) ≡ put next (line_past c (Some a) b)

first_call : (x y : Access) (r q : ℕ) (xs ys : List (Access × ℕ)) → ◌≡◌ {A = List (Access × ℕ)} ((x, r) ∷ xs) ((y, q) ∷ ys) → x ≡ y
first_call x y r q xs ys e = let both : ◌≡◌ {A = Access × ℕ} (x, r) (y, q) = cc in ap (λ (p : Access × ℕ). p.0) both

other_calls : (x y : Access) (r q : ℕ) (xs ys : List (Access × ℕ)) → ◌≡◌ {A = List (Access × ℕ)} ((x, r) ∷ xs) ((y, q) ∷ ys) → xs ≡ ys
other_calls x y r q xs ys e = cc

made_turn : {S : Type 0} (P : Chip S) (s : S) (n : ℕ) (l : List StepRecord) (d : Option Access) (rs : List ℕ) → P.demand s ≡ d
    → made P (core s (suc n) l) rs
    ≡ (P.turn s (reply_for d rs)).0 ∷ made P (core_past P (core s (suc n) l) n (reply_for d rs)) (replies_past d rs)
made_turn {S = S} P s n l d rs e = ap (λ (z : Traced S). z.records) (trace_turn P s n d rs e)

module _ {S : Type 0} (P : Chip S) (c : ℕ) (put : Core S → Line → World S) (gives : (k : Core S) (b : Line) → give P c (put k b) ≡ put (core_given P k.left k b) (line_given P c k.left k b)) where
  give_turn : (s : S) (n : ℕ) (l : List StepRecord) (b : Line) (d : Option Access) → P.demand s ≡ d
      → give P c (put (core s (suc n) l) b) ≡ put (core_past P (core s (suc n) l) n (answer d b.memory)) (line_past c d b)
  give_turn s n l b d e =
      gives (core s (suc n) l) b ∙ ap (λ (x : Option Access). put (core_past P (core s (suc n) l) n (answer x b.memory)) (line_past c x b)) e

  local_turn : (s : S) (n : ℕ) (l : List StepRecord) (b : Line) (a : Access) (r : ℕ) (f : List ℕ) (i : ℕ) → P.demand s ≡ None
      → Segment P c put (core_past P (core s (suc n) l) n 0) b a r f (suc i) → Segment P c put (core s (suc n) l) b a r f i
  local_turn s n l b a r f i e g =
      let k = core s (suc n) l in
      let t = P.turn s 0 in
      let next = core_past P k n 0 in
      let is : made P k (r ∷ f) ≡ t.0 ∷ made P next (r ∷ f) = made_turn P s n l None (r ∷ f) e in
      let none : t.0.access ≡ None = P.asks s 0 ∙ e in
      record {
        next = g.next;
        place = g.place;
        later = omega (arith, g.later);
        places = ap (places_from i) is ∙ ap (λ (x : Option Access). place_before x i (places_from (suc i) (made P next (r ∷ f)))) none ∙ g.places;
        size = omega (arith, ap length is, g.size);
        calls = ap calls_in is ∙ ap (λ (x : Option Access). call_before x t.0.reply (calls_in (made P next (r ∷ f)))) none ∙ g.calls;
        end = closed_turn P s n l None (r ∷ f) e ∙ g.end;
        leads = ap (λ (j : ℕ). advance P (replicate j c) (put k b)) (let q : suc g.place - i ≡ suc (suc g.place - suc i) = omega (arith, g.later) in q)
            ∙ ap (advance P (replicate (suc g.place - suc i) c)) (give_turn s n l b None e) ∙ g.leads;
      }

  call_turn : (s : S) (n : ℕ) (l : List StepRecord) (b : Line) (a : Access) (f : List ℕ) (i : ℕ) → P.demand s ≡ Some a
      → Segment P c put (core s (suc n) l) b a (reply_to b.memory a) f i
  call_turn s n l b a f i e =
      let k = core s (suc n) l in
      let r = reply_to b.memory a in
      let t = P.turn s r in
      let next = core_past P k n r in
      let is : made P k (r ∷ f) ≡ t.0 ∷ made P next f = made_turn P s n l (Some a) (r ∷ f) e in
      let asked : t.0.access ≡ Some a = P.asks s r ∙ e in
      record {
        next = next;
        place = i;
        later = omega arith;
        places = ap (places_from i) is ∙ ap (λ (x : Option Access). place_before x i (places_from (suc i) (made P next f))) asked;
        size = omega (arith, ap length is);
        calls = ap calls_in is ∙ ap (λ (x : Option Access). call_before x t.0.reply (calls_in (made P next f))) asked
            ∙ ap (λ (x : ℕ). (a, x) ∷ calls_in (made P next f)) (P.keeps s a r e);
        end = closed_turn P s n l (Some a) (r ∷ f) e;
        leads = ap (λ (j : ℕ). advance P (replicate j c) (put k b)) (let q : suc i - i ≡ 1 = omega arith in q) ∙ give_turn s n l b (Some a) e;
      }

  segment : (N n : ℕ) (s : S) (l : List StepRecord) (b : Line) (a : Access) (f : List ℕ) (cs : List (Access × ℕ)) (i : ℕ) → n ≤ N
      → calls_in (made P (core s n l) (reply_to b.memory a ∷ f)) ≡ (a, reply_to b.memory a) ∷ cs
      → Segment P c put (core s n l) b a (reply_to b.memory a) f i
  segment N zero s l b a f cs i h e = absurd cc
  segment zero (suc n) s l b a f cs i h e = absurd (omega arith)
  segment (suc N) (suc n) s l b a f cs i h e =
      let r = reply_to b.memory a in
      elim (P.demand s) as (λ d. P.demand s ≡ d → Segment P c put (core s (suc n) l) b a r f i) [
        | None ↦ λ q.
            let t = P.turn s 0 in
            let is = made_turn P s n l None (r ∷ f) q in
            let none : t.0.access ≡ None = P.asks s 0 ∙ q in
            let rest = made P (core_past P (core s (suc n) l) n 0) (r ∷ f) in
            let calls : calls_in (made P (core s (suc n) l) (r ∷ f)) ≡ calls_in rest =
            ap calls_in is ∙ ap (λ (x : Option Access). call_before x t.0.reply (calls_in rest)) none in
            local_turn s n l b a r f i q (segment N (left_past t.0 n) t.1 (l ++ t.0 ∷ []) b a f cs (suc i) (left_at_most t.0 n N (omega arith)) (sym calls ∙ e))
        | Some z ↦ λ q.
            let t = P.turn s r in
            let is = made_turn P s n l (Some z) (r ∷ f) q in
            let asked : t.0.access ≡ Some z = P.asks s r ∙ q in
            let rest = made P (core_past P (core s (suc n) l) n r) f in
            let calls : calls_in (made P (core s (suc n) l) (r ∷ f)) ≡ (z, t.0.reply) ∷ calls_in rest =
            ap calls_in is ∙ ap (λ (x : Option Access). call_before x t.0.reply (calls_in rest)) asked in
            call_turn s n l b a f i (q ∙ ap (λ (x : Access). Some x) (first_call z a t.0.reply r (calls_in rest) cs (sym calls ∙ e)))
      ] refl

  -- the turns after the last call
  remaining : (N n : ℕ) (s : S) (l : List StepRecord) (b : Line) → n ≤ N → calls_in (made P (core s n l) []) ≡ []
      → advance P (replicate (length (made P (core s n l) [])) c) (put (core s n l) b) ≡ put (finished_core P (core s n l) []) b
  remaining N zero s l b h e = ap (λ (xs : List StepRecord). put (core s 0 xs) b) (sym (append-nil l))
  remaining zero (suc n) s l b h e = absurd (omega arith)
  remaining (suc N) (suc n) s l b h e =
      let k = core s (suc n) l in
      elim (P.demand s) as (λ d. P.demand s ≡ d → advance P (replicate (length (made P k [])) c) (put k b) ≡ put (finished_core P k []) b) [
        | None ↦ λ q.
            let t = P.turn s 0 in
            let is = made_turn P s n l None [] q in
            let none : t.0.access ≡ None = P.asks s 0 ∙ q in
            let next = core_past P k n 0 in
            let calls : calls_in (made P k []) ≡ calls_in (made P next []) =
            ap calls_in is ∙ ap (λ (x : Option Access). call_before x t.0.reply (calls_in (made P next []))) none in
            ap (λ (xs : List StepRecord). advance P (replicate (length xs) c) (put k b)) is
            ∙ ap (advance P (replicate (length (made P next [])) c)) (give_turn s n l b None q)
            ∙ remaining N (left_past t.0 n) t.1 (l ++ t.0 ∷ []) b (left_at_most t.0 n N (omega arith)) (sym calls ∙ e)
            ∙ ap (λ (j : Core S). put j b) (sym (closed_turn P s n l None [] q))
        | Some z ↦ λ q.
            let t = P.turn s 0 in
            let is = made_turn P s n l (Some z) [] q in
            let asked : t.0.access ≡ Some z = P.asks s 0 ∙ q in
            let rest = made P (core_past P k n 0) [] in
            let calls : calls_in (made P k []) ≡ (z, t.0.reply) ∷ calls_in rest =
            ap calls_in is ∙ ap (λ (x : Option Access). call_before x t.0.reply (calls_in rest)) asked in
            let both : ◌≡◌ {A = List (Access × ℕ)} ((z, t.0.reply) ∷ calls_in rest) [] = sym calls ∙ e in
            absurd cc
      ] refl

-- where a run comes to from a world, by these entries
abbrev pub line_after : Line → List Entry → Line
line_after b es = record { memory = memory_after b.memory es; history = b.history ++ es }

abbrev pub done : {S : Type 0} (P : Chip S) → World S → List Entry → World S
done P w es = record { line = line_after w.line es; core0 = finished_core P w.core0 (replies_of 0 es); core1 = finished_core P w.core1 (replies_of 1 es) }

-- what is left of a run: the entries to come, over which each core makes their calls, and where each core stands among its places
record Ahead {S : Type 0} (P : Chip S) (w : World S) (es : List Entry) (i : ℕ) (ps : List ℕ) (n j : ℕ) (qs : List ℕ) (m : ℕ) : Type 0 where
  legal : IsLegal w.line.memory es
  cores : IsOfCores es
  calls0 : calls_of 0 es ≡ calls_in (made P w.core0 (replies_of 0 es))
  calls1 : calls_of 1 es ≡ calls_in (made P w.core1 (replies_of 1 es))
  places0 : places_from i (made P w.core0 (replies_of 0 es)) ≡ ps
  places1 : places_from j (made P w.core1 (replies_of 1 es)) ≡ qs
  size0 : length (made P w.core0 (replies_of 0 es)) + i ≡ n
  size1 : length (made P w.core1 (replies_of 1 es)) + j ≡ m

abbrev put0 : {S : Type 0} → Core S → Core S → Line → World S
put0 other k b = record { line = b; core0 = k; core1 = other }

abbrev put1 : {S : Type 0} → Core S → Core S → Line → World S
put1 other k b = record { line = b; core0 = other; core1 = k }

run_answered : {S : Type 0} (P : Chip S) (c : ℕ) (a : Access) (es : List Entry) → c < 2
    → ((w : World S) (i : ℕ) (ps : List ℕ) (n j : ℕ) (qs : List ℕ) (m : ℕ) → Ahead P w es i ps n j qs m → advance P (schedule_from (cores_of es) i ps n j qs m) w ≡ done P w es)
    → (w : World S) (i : ℕ) (ps : List ℕ) (n j : ℕ) (qs : List ℕ) (m : ℕ)
    → (let e = entry c a (reply_to w.line.memory a) in Ahead P w (e ∷ es) i ps n j qs m → advance P (schedule_from (c ∷ cores_of es) i ps n j qs m) w ≡ done P w (e ∷ es))
run_answered {S = S} P zero a es lt next w i ps n j qs m h =
    let e = entry 0 a (reply_to w.line.memory a) in
    let f = replies_of 0 es in
    let g = segment P 0 (put0 w.core1) (λ k b. refl) w.core0.left w.core0.left w.core0.state w.core0.records w.line a f (calls_of 0 es) i (omega arith) (sym h.calls0) in
    let v = put0 w.core1 g.next (line_past 0 (Some a) w.line) in
    let qs' = places_from (suc g.place) (made P g.next f) in
    let ahead : Ahead P v es (suc g.place) qs' n j qs m = record {
      legal = λ k x at. h.legal (suc k) x at;
      cores = λ k x at. h.cores (suc k) x at;
      calls0 = other_calls a a e.reply e.reply (calls_of 0 es) (calls_in (made P g.next f)) (h.calls0 ∙ g.calls);
      calls1 = h.calls1;
      places0 = refl;
      places1 = h.places1;
      size0 = omega (arith, g.size, h.size0);
      size1 = h.size1;
    } in
    let rest = schedule_from (cores_of es) (suc g.place) qs' n j qs m in
    ap (λ (x : List ℕ). advance P (schedule_from (0 ∷ cores_of es) i x n j qs m) w) (sym h.places0 ∙ g.places)
    ∙ advance_append P (replicate (suc g.place - i) 0) rest w ∙ ap (advance P rest) g.leads ∙ next v (suc g.place) qs' n j qs m ahead
    ∙ ap (λ (k : Core S). put0 (finished_core P w.core1 (replies_of 1 es)) k (line_after v.line es)) (sym g.end)
    ∙ ap (λ (l : List Entry). put0 (finished_core P w.core1 (replies_of 1 es)) (finished_core P w.core0 (e.reply ∷ f)) (record { memory = memory_after v.line.memory es; history = l }))
    (append_assoc w.line.history (e ∷ []) es)
run_answered {S = S} P (suc zero) a es lt next w i ps n j qs m h =
    let e = entry 1 a (reply_to w.line.memory a) in
    let f = replies_of 1 es in
    let g = segment P 1 (put1 w.core0) (λ k b. refl) w.core1.left w.core1.left w.core1.state w.core1.records w.line a f (calls_of 1 es) j (omega arith) (sym h.calls1) in
    let v = put1 w.core0 g.next (line_past 1 (Some a) w.line) in
    let qs' = places_from (suc g.place) (made P g.next f) in
    let ahead : Ahead P v es i ps n (suc g.place) qs' m = record {
      legal = λ k x at. h.legal (suc k) x at;
      cores = λ k x at. h.cores (suc k) x at;
      calls0 = h.calls0;
      calls1 = other_calls a a e.reply e.reply (calls_of 1 es) (calls_in (made P g.next f)) (h.calls1 ∙ g.calls);
      places0 = h.places0;
      places1 = refl;
      size0 = h.size0;
      size1 = omega (arith, g.size, h.size1);
    } in
    let rest = schedule_from (cores_of es) i ps n (suc g.place) qs' m in
    ap (λ (x : List ℕ). advance P (schedule_from (1 ∷ cores_of es) i ps n j x m) w) (sym h.places1 ∙ g.places)
    ∙ advance_append P (replicate (suc g.place - j) 1) rest w ∙ ap (advance P rest) g.leads ∙ next v i ps n (suc g.place) qs' m ahead
    ∙ ap (λ (k : Core S). put1 (finished_core P w.core0 (replies_of 0 es)) k (line_after v.line es)) (sym g.end)
    ∙ ap (λ (l : List Entry). put1 (finished_core P w.core0 (replies_of 0 es)) (finished_core P w.core1 (e.reply ∷ f)) (record { memory = memory_after v.line.memory es; history = l }))
    (append_assoc w.line.history (e ∷ []) es)
run_answered {S = S} P (suc (suc c)) a es lt next w i ps n j qs m h = absurd (omega arith)

run_ahead : {S : Type 0} (P : Chip S) (es : List Entry) (w : World S) (i : ℕ) (ps : List ℕ) (n j : ℕ) (qs : List ℕ) (m : ℕ)
    → Ahead P w es i ps n j qs m → advance P (schedule_from (cores_of es) i ps n j qs m) w ≡ done P w es
run_ahead {S = S} P [] w i ps n j qs m h =
    let c0 = finished_core P w.core0 [] in
    let r0 : advance P (replicate (n - i) 0) w ≡ put0 w.core1 c0 w.line =
    ap (λ (x : ℕ). advance P (replicate x 0) w) (let q : n - i ≡ length (made P w.core0 []) = omega (arith, h.size0) in q)
    ∙ remaining P 0 (put0 w.core1) (λ k b. refl) w.core0.left w.core0.left w.core0.state w.core0.records w.line (omega arith) (sym h.calls0) in
    let r1 : advance P (replicate (m - j) 1) (put0 w.core1 c0 w.line) ≡ put1 c0 (finished_core P w.core1 []) w.line =
    ap (λ (x : ℕ). advance P (replicate x 1) (put1 c0 w.core1 w.line)) (let q : m - j ≡ length (made P w.core1 []) = omega (arith, h.size1) in q)
    ∙ remaining P 1 (put1 c0) (λ k b. refl) w.core1.left w.core1.left w.core1.state w.core1.records w.line (omega arith) (sym h.calls1) in
    advance_append P (replicate (n - i) 0) (replicate (m - j) 1) w ∙ ap (advance P (replicate (m - j) 1)) r0 ∙ r1
    ∙ ap (λ (l : List Entry). put1 c0 (finished_core P w.core1 []) (record { memory = w.line.memory; history = l })) (sym (append-nil w.line.history))
run_ahead {S = S} P (e ∷ es) w i ps n j qs m h =
    let F : ℕ → Type 0 = λ r. Ahead P w (entry e.core e.access r ∷ es) i ps n j qs m → advance P (schedule_from (e.core ∷ cores_of es) i ps n j qs m) w ≡ done P w (entry e.core e.access r ∷ es) in
    subst F (sym (h.legal 0 e refl)) (run_answered P e.core e.access es (h.cores 0 e refl) (run_ahead P es) w i ps n j qs m) h

-- The turns of a run's own schedule come to its history, its memory and both traces, and leave no turn.
pub own_world : {S : Type 0} (P : Chip S) (o : Opening S) (r : Run S) → IsRunOf P o r → advance P (schedule_of r) (world_at_start o) ≡ done P (world_at_start o) r.history
own_world {S = S} P o r h =
    let es = r.history in
    let t0 = r.trace0.records in
    let t1 = r.trace1.records in
    let same0 : made P (world_at_start o).core0 (replies_of 0 es) ≡ t0 = ap (λ (t : Traced S). t.records) (sym h.trace0) in
    let same1 : made P (world_at_start o).core1 (replies_of 1 es) ≡ t1 = ap (λ (t : Traced S). t.records) (sym h.trace1) in
    run_ahead P es (world_at_start o) 0 (places_from 0 t0) (length t0) 0 (places_from 0 t1) (length t1) (record {
      legal = h.legal;
      cores = h.cores;
      calls0 = h.calls0 ∙ ap calls_in (sym same0);
      calls1 = h.calls1 ∙ ap calls_in (sym same1);
      places0 = ap (places_from 0) same0;
      places1 = ap (places_from 0) same1;
      size0 = omega (arith, ap length same0);
      size1 = omega (arith, ap length same1);
    })

-- So the run is, record for record, the run of its own schedule.
pub own_schedule : {S : Type 0} (P : Chip S) (o : Opening S) (r : Run S) → IsRunOf P o r → run_at P o (schedule_of r) ≡ r
own_schedule {S = S} P o r h =
    let again : (x y : Traced S) → Run S = λ x y. record { history = r.history; trace0 = x; trace1 = y } in
    ap (λ (u : World S). run_of (finished_world P u)) (own_world P o r h)
    ∙ ap (λ (x : Traced S). again x (trace_over P o.state1 o.turns1 (replies_of 1 r.history))) (sym h.trace0)
    ∙ ap (again r.trace0) (sym h.trace1)
