-- A run of an image at each position, as two cores over one memory.
use Rattle.std.proofs.Common.{◌≡◌, ℕ, zero, suc, ◌+◌, ◌-◌, ◌<◌, ◌≤◌, Option, Some, None, List, length, take, drop, get_or, refl, sym, ap, ◌∙◌, subst, arith}
use Rattle.std.proofs.lemmas.List.{length_push}
use Rattle.xt_map.specs.declared.access.Access.{Access}
use Rattle.xt_map.specs.declared.contents.MemoryContents.{MemoryContents}
use Rattle.xt_map.specs.Serving.{reply_to}
use Rattle.xt_map.proofs.Sent.{access_sends}
use Rattle.xt_bus.proofs.Opening.{opening_sends_none}
use Rattle.xt_trace.specs.declared.run.Run.{Run}
use Rattle.xt_image.specs.declared.image.Image.{Image}
use Rattle.xt_trace.specs.Runs as runs
use Rattle.xt_trace.specs.Schedule.{cores_of, places_from, schedule}
use Rattle.xt_trace.specs.Walks.{state_at}
use Rattle.xt_trace.specs.Worlds.{Core, Line, World, core_past, left_past, line_past, entry, give, answer, memory_left}
use Rattle.xt_trace.proofs.Ends.{left_at_most}
use Rattle.xt_exec.specs.Chips.{processor}
use Rattle.xt_exec.specs.State.{State}
use Rattle.xt_exec.specs.Turn.{demand, turn}
use Rattle.xt_core.specs.Positions.{schedule_in, world_at}
use Rattle.xt_core.specs.Runs.{IsRunOf, code_of, memory_of, opening_of, records_of, stack_words}
use Rattle.xt_core.proofs.Scheduled.{has_schedule}
use Rattle.xt_replay.specs.Stands.{Fits, Side, Stand, entries_past, left_of, next_of, side_in, side_past, stand_in, stand_opening, stand_past}
use Rattle.xt_replay.proofs.Walking.{At, Turn, at, core_turned, history_at, line_turned, long, next_turn, state_on, turn0, turn1}

-- ---- one turn

side_turned : (code : ℕ → ℕ) (k : Core State) (n reply : ℕ) → n ≡ k.left - 1 → side_in (core_past (processor code) k n reply) ≡ side_past code (side_in k) reply
side_turned code k n reply e =
    let t = turn code k.state reply in
    let from : ℕ → ℕ → Side = λ left step. record { state = t.1; left = left; step = step } in
    ap (λ (s : ℕ). from (left_past t.0 n) s) (length_push k.records t.0) ∙ ap (λ (m : ℕ). from (left_past t.0 m) (length k.records + 1)) e

memory_turned : (c : ℕ) (d : Option Access) (b : Line) → (line_past c d b).memory ≡ memory_left d b.memory
memory_turned c None b = refl
memory_turned c (Some a) b = refl

entries_turned : (c : ℕ) (d : Option Access) (b : Line) → length (line_past c d b).history ≡ entries_past d (length b.history)
entries_turned c None b = refl
entries_turned c (Some a) b = length_push b.history (entry c a (reply_to b.memory a))

stand_zero : (code : ℕ → ℕ) (w : World State) → 0 < w.core0.left → stand_in (give (processor code) 0 w) ≡ stand_past code 0 (stand_in w)
stand_zero code w h =
    let P = processor code in
    let d = demand code w.core0.state in
    let from : Side → MemoryContents → ℕ → Stand = λ s m n. record { side0 = s; side1 = side_in w.core1; memory = m; entries = n } in
    ap (λ (k : Core State). let v : World State = record (give P 0 w) { core0 = k } in stand_in v) (core_turned P w.core0 w.line w.core0.left h)
    ∙ ap (λ (b : Line). let v : World State = record { line = b; core0 = core_past P w.core0 (w.core0.left - 1) (answer d w.line.memory); core1 = w.core1 } in stand_in v) (line_turned P 0 w.core0 w.line w.core0.left h)
    ∙ ap (λ (s : Side). from s (line_past 0 d w.line).memory (length (line_past 0 d w.line).history)) (side_turned code w.core0 (w.core0.left - 1) (answer d w.line.memory) refl)
    ∙ ap (λ (m : MemoryContents). from (side_past code (side_in w.core0) (answer d w.line.memory)) m (length (line_past 0 d w.line).history)) (memory_turned 0 d w.line)
    ∙ ap (from (side_past code (side_in w.core0) (answer d w.line.memory)) (memory_left d w.line.memory)) (entries_turned 0 d w.line)

stand_one : (code : ℕ → ℕ) (w : World State) → 0 < w.core1.left → stand_in (give (processor code) 1 w) ≡ stand_past code 1 (stand_in w)
stand_one code w h =
    let P = processor code in
    let d = demand code w.core1.state in
    let from : Side → MemoryContents → ℕ → Stand = λ s m n. record { side0 = side_in w.core0; side1 = s; memory = m; entries = n } in
    ap (λ (k : Core State). let v : World State = record (give P 1 w) { core1 = k } in stand_in v) (core_turned P w.core1 w.line w.core1.left h)
    ∙ ap (λ (b : Line). let v : World State = record { line = b; core0 = w.core0; core1 = core_past P w.core1 (w.core1.left - 1) (answer d w.line.memory) } in stand_in v) (line_turned P 1 w.core1 w.line w.core1.left h)
    ∙ ap (λ (s : Side). from s (line_past 1 d w.line).memory (length (line_past 1 d w.line).history)) (side_turned code w.core1 (w.core1.left - 1) (answer d w.line.memory) refl)
    ∙ ap (λ (m : MemoryContents). from (side_past code (side_in w.core1) (answer d w.line.memory)) m (length (line_past 1 d w.line).history)) (memory_turned 1 d w.line)
    ∙ ap (from (side_past code (side_in w.core1) (answer d w.line.memory)) (memory_left d w.line.memory)) (entries_turned 1 d w.line)

-- ---- room

left_sends : (d : Option Access) (m : MemoryContents) → length (memory_left d m).sent ≤ length m.sent + 1
left_sends None m = omega arith
left_sends (Some a) m = access_sends m a

entries_grow : (d : Option Access) (n : ℕ) → entries_past d n ≤ n + 1
entries_grow None n = omega arith
entries_grow (Some a) n = omega arith

pub fits_zero : (code : ℕ → ℕ) (s : Stand) (n m : ℕ) → 0 < left_of 0 s → Fits s n m → Fits (stand_past code 0 s) n m
fits_zero code s n m h f =
    let d = demand code s.side0.state in
    let t = turn code s.side0.state (answer d s.memory) in
    let less : left_past t.0 (s.side0.left - 1) ≤ s.side0.left - 1 = left_at_most t.0 (s.side0.left - 1) (s.side0.left - 1) (omega arith) in
    record {
      left0 = omega (arith, less, f.left0);
      left1 = f.left1;
      used = omega (arith, entries_grow d s.entries, f.used);
      sent = omega (arith, less, left_sends d s.memory, f.sent);
    }

pub fits_one : (code : ℕ → ℕ) (s : Stand) (n m : ℕ) → 0 < left_of 1 s → Fits s n m → Fits (stand_past code 1 s) n m
fits_one code s n m h f =
    let d = demand code s.side1.state in
    let t = turn code s.side1.state (answer d s.memory) in
    let less : left_past t.0 (s.side1.left - 1) ≤ s.side1.left - 1 = left_at_most t.0 (s.side1.left - 1) (s.side1.left - 1) (omega arith) in
    record {
      left0 = f.left0;
      left1 = omega (arith, less, f.left1);
      used = omega (arith, entries_grow d s.entries, f.used);
      sent = omega (arith, less, left_sends d s.memory, f.sent);
    }

-- ---- a run of an image as one of the processor

abbrev pub whole : Image → Run → runs.Run State
whole image r = record { history = r.history; trace0 = records_of 0 image r; trace1 = records_of 1 image r }

pub run_is : (image : Image) (r : Run) → IsRunOf image r → runs.IsRunOf (processor (code_of image)) (opening_of image r.options) (whole image r)
run_is image r h = record { legal = h.legal; cores = h.cores; trace0 = refl; trace1 = refl; calls0 = h.calls0; calls1 = h.calls1 }

pub schedule_is : (image : Image) (r : Run) → IsRunOf image r → schedule_in r ≡ runs.schedule_of (whole image r)
schedule_is image r h =
    let order : List ℕ → ℕ → List ℕ → ℕ → List ℕ = λ ps n qs m. schedule (cores_of r.history) ps n qs m in
    let z0 = records_of 0 image r in
    let z1 = records_of 1 image r in
    ap (λ (ps : List ℕ). order ps r.trace0.count r.trace1.places r.trace1.count) h.trace0.places_are
    ∙ ap (λ (n : ℕ). order (places_from 0 z0.records) n r.trace1.places r.trace1.count) h.trace0.count_is
    ∙ ap (λ (qs : List ℕ). order (places_from 0 z0.records) (length z0.records) qs r.trace1.count) h.trace1.places_are
    ∙ ap (order (places_from 0 z0.records) (length z0.records) (places_from 0 z1.records)) h.trace1.count_is

-- the schedule has each step once
pub schedule_long : (image : Image) (r : Run) → IsRunOf image r → length (schedule_in r) ≡ r.trace0.count + r.trace1.count
schedule_long image r h =
    ap length (schedule_is image r h)
    ∙ long (processor (code_of image)) (opening_of image r.options) (whole image r) (run_is image r h)
    ∙ ap (λ (n : ℕ). n + length (records_of 1 image r).records) (sym h.trace0.count_is)
    ∙ ap (λ (m : ℕ). r.trace0.count + m) (sym h.trace1.count_is)

-- ---- the next step

pub record Steps (image : Image) (r : Run) (p c : ℕ) : Type 0 where
  pub here : get_or (schedule_in r) p 0 ≡ c
  pub left : 0 < left_of c (stand_in (world_at image r p))
  pub next : next_of (drop (stand_in (world_at image r p)).entries r.history) (stand_in (world_at image r p)).side0.step r.trace0.count ≡ c
  pub on : stand_in (world_at image r (p + 1)) ≡ stand_past (code_of image) c (stand_in (world_at image r p))

pub data Step (image : Image) (r : Run) (p : ℕ) : Type 0 where
  steps0 : Steps image r p 0 → Step image r p
  steps1 : Steps image r p 1 → Step image r p

pub at_position : (image : Image) (r : Run) → IsRunOf image r → (p : ℕ) → p ≤ length (schedule_in r) → At (processor (code_of image)) (whole image r) p (world_at image r p)
at_position image r h p le =
    let P = processor (code_of image) in
    let o = opening_of image r.options in
    let x = whole image r in
    let F : List ℕ → Type 0 = λ l. At P x p (state_at P o l p) in
    let L : List ℕ → Type 0 = λ l. p ≤ length l in
    subst F (sym (schedule_is image r h)) (at P o x (run_is image r h) p (subst L (schedule_is image r h) le))

next_is : (image : Image) (r : Run) → IsRunOf image r → (p : ℕ) → p < length (schedule_in r) → Turn (processor (code_of image)) (whole image r) p (world_at image r p) → Step image r p
next_is image r h p lt (turn0 n) =
    let P = processor (code_of image) in
    let o = opening_of image r.options in
    let w = world_at image r p in
    let here : get_or (schedule_in r) p 0 ≡ 0 = ap (λ (l : List ℕ). get_or l p 0) (schedule_is image r h) ∙ n.here in
    steps0 (record {
      here = here;
      left = n.left;
      next = ap (next_of (drop (length w.line.history) r.history) (length w.core0.records)) h.trace0.count_is ∙ n.next;
      on = ap stand_in (state_on P o (schedule_in r) p 0 lt here) ∙ stand_zero (code_of image) w n.left;
    })
next_is image r h p lt (turn1 n) =
    let P = processor (code_of image) in
    let o = opening_of image r.options in
    let w = world_at image r p in
    let here : get_or (schedule_in r) p 0 ≡ 1 = ap (λ (l : List ℕ). get_or l p 0) (schedule_is image r h) ∙ n.here in
    steps1 (record {
      here = here;
      left = n.left;
      next = ap (next_of (drop (length w.line.history) r.history) (length w.core0.records)) h.trace0.count_is ∙ n.next;
      on = ap stand_in (state_on P o (schedule_in r) p 1 lt here) ∙ stand_one (code_of image) w n.left;
    })

pub next_step : (image : Image) (r : Run) → IsRunOf image r → (p : ℕ) → p < length (schedule_in r) → Step image r p
next_step image r h p lt =
    let L : List ℕ → Type 0 = λ l. p < length l in
    let le : p ≤ length (schedule_in r) = omega arith in
    next_is image r h p lt (next_turn (processor (code_of image)) (whole image r) p (world_at image r p) (at_position image r h p le) (subst L (schedule_is image r h) lt))

-- ---- every position

pub stand_start : (image : Image) (r : Run) → stand_in (world_at image r 0) ≡ stand_opening (opening_of image r.options)
stand_start image r = refl

fits_start : (image : Image) (r : Run) → Fits (stand_in (world_at image r 0)) r.options.turns0 r.options.turns1
fits_start image r =
    let none : length (memory_of image r.options).sent ≡ 0 = ap length (opening_sends_none image.segments (stack_words r.options)) in
    record { left0 = omega arith; left1 = omega arith; used = omega arith; sent = omega (arith, none) }

fits_more : (image : Image) (r : Run) (p : ℕ) → Fits (stand_in (world_at image r p)) r.options.turns0 r.options.turns1 → Step image r p
    → Fits (stand_in (world_at image r (p + 1))) r.options.turns0 r.options.turns1
fits_more image r p f (steps0 s) =
    let F : Stand → Type 0 = λ x. Fits x r.options.turns0 r.options.turns1 in
    subst F (sym s.on) (fits_zero (code_of image) (stand_in (world_at image r p)) r.options.turns0 r.options.turns1 s.left f)
fits_more image r p f (steps1 s) =
    let F : Stand → Type 0 = λ x. Fits x r.options.turns0 r.options.turns1 in
    subst F (sym s.on) (fits_one (code_of image) (stand_in (world_at image r p)) r.options.turns0 r.options.turns1 s.left f)

pub fits_at : (image : Image) (r : Run) → IsRunOf image r → (p : ℕ) → p ≤ length (schedule_in r) → Fits (stand_in (world_at image r p)) r.options.turns0 r.options.turns1
fits_at image r h zero le = fits_start image r
fits_at image r h (suc p) le =
    let F : ℕ → Type 0 = λ q. Fits (stand_in (world_at image r q)) r.options.turns0 r.options.turns1 in
    subst F (let e : p + 1 ≡ suc p = omega arith in e) (fits_more image r p (fits_at image r h p (omega arith)) (next_step image r h p (omega arith)))

-- the entries before a position are the first of the history
pub served_at : (image : Image) (r : Run) → IsRunOf image r → (p : ℕ)
    → (world_at image r p).line.history ≡ take (length (world_at image r p).line.history) r.history
served_at image r h p =
    let P = processor (code_of image) in
    let o = opening_of image r.options in
    let F : List ℕ → Type 0 = λ l. (state_at P o l p).line.history ≡ take (length (state_at P o l p).line.history) r.history in
    subst F (sym (schedule_is image r h)) (history_at P o (whole image r) (run_is image r h) p)

-- ---- how long the traces are

pub record Bounds (r : Run) : Type 0 where
  pub count0 : r.trace0.count ≤ 4000000
  pub count1 : r.trace1.count ≤ 4000000

pub bounds : (image : Image) (r : Run) → IsRunOf image r → Bounds r
bounds image r h =
    let has = has_schedule image r h in
    record {
      count0 = omega (arith, has.trace0.short, has.valid.turns0);
      count1 = omega (arith, has.trace1.short, has.valid.turns1);
    }
