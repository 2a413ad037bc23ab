-- The opening and the end of a run that is walked.
use Rattle.std.proofs.Common.{◌≡◌, ℕ, suc, ◌+◌, ◌-◌, ◌≤◌, Bool, true, false, cond, Option, Some, None, List, [], ◌∷◌, ◌++◌, length, map, take, drop, replicate, refl, sym, ap, ◌∙◌, subst, append_assoc, length-append, arith}
use Rattle.std.specs.List.{filter, range_with_len, slice_get}
use Rattle.std.specs.Prelude.{option_map}
use Rattle.std.proofs.lemmas.List.{length-map, length-replicate}
use Rattle.std.proofs.lemmas.List.FromFn.{length-range_with_len}
use Rattle.xt_map.specs.declared.access.Access.{Access}
use Rattle.xt_map.specs.declared.access.Entry.{Entry}
use Rattle.xt_map.specs.History.{IsLegal, IsOfCores, calls_of}
use Rattle.xt_trace.specs.declared.options.Options.{Options}
use Rattle.xt_trace.specs.declared.record.StepRecord.{StepRecord}
use Rattle.xt_trace.specs.declared.run.Run.{Run}
use Rattle.xt_trace.specs.declared.trace.Trace.{Trace}
use Rattle.xt_trace.specs.Calls.{calls_in}
use Rattle.xt_trace.specs.Validity.{IsValid}
use Rattle.xt_image.specs.declared.image.Image.{Image}
use Rattle.xt_bus.specs.States.{MemoryState, memory_state}
use Rattle.xt_trace.specs.Chip.{Chip}
use Rattle.xt_trace.specs.Runs.{world_at_start}
use Rattle.xt_trace.specs.Schedule.{cores_of, places_from, schedule_from}
use Rattle.xt_trace.specs.Short.{ShortCore, ShortWorld, short_advance, short_core}
use Rattle.xt_trace.specs.Traces.{Traced, stop_of}
use Rattle.xt_trace.specs.Worlds.{Core}
use Rattle.xt_trace.proofs.Short.{short_world_advanced}
use Rattle.xt_exec.specs.Chips.{processor}
use Rattle.xt_exec.specs.State.{State}
use Rattle.xt_core.specs.Cores.{CoreState, short_of, trace_of}
use Rattle.xt_core.specs.Cores as cores
use Rattle.xt_core.specs.Positions.{schedule_in, world_at}
use Rattle.xt_core.specs.Runs.{IsRunOf, code_of, entry_of, memory_of, opening_at, opening_of, records_of, turns_of}
use Rattle.xt_record.specs.declared.setting.Setting.{Setting}
use Rattle.xt_record.specs.Checkpoints.{checkpoint_of, checkpoints_of, is_due}
use Rattle.xt_record.specs.Format.{run_with}
use Rattle.xt_record.specs.TurnRules.{rest_finding}
use Rattle.xt_record.specs.declared.fault.RecordFault.TheVariants as fault
use Rattle.xt_record.specs.Walking.{Arrives, beside, line_at, point_of, points_along}
use Rattle.xt_record.specs.Standing.{StandsAt, opening_world, order_left}
use Rattle.xt_record.proofs.Prefix.{Whole, splits_one, splits_zero, whole}
use Rattle.xt_record.proofs.Steps.{IsWorld, reached, shown_beside, with_records, world_by}
use Rattle.xt_record.proofs.Turns.{advance_append}

-- ---- the opening

pub opens : (image : Image) (o : Options) (es : List Entry) (k0 k1 : CoreState) (s : Setting) → IsValid o → s.code ≡ image.segments
    → k0 ≡ cores.opening_core_state 0 (opening_at 0 (entry_of 0 image o) o) (turns_of 0 o) → k1 ≡ cores.opening_core_state 1 (opening_at 1 (entry_of 1 image o) o) (turns_of 1 o)
    → s.memory ≡ memory_state (memory_of image o) (o.turns0 + o.turns1) → s.points.items ≡ [] → (memory_of image o).sent ≡ [] → StandsAt image o es 0 k0 k1 s
opens image o es k0 k1 s valid code is0 is1 memory points quiet =
    let r = run_with image o es in
    let w0 = opening_world image o in
    let count0 : k0.count ≡ 0 = ap (λ (k : CoreState). k.count) is0 in
    let count1 : k1.count ≡ 0 = ap (λ (k : CoreState). k.count) is1 in
    let left0 : k0.left ≡ o.turns0 = ap (λ (k : CoreState). k.left) is0 in
    let left1 : k1.left ≡ o.turns1 = ap (λ (k : CoreState). k.left) is1 in
    let sent : length s.memory.contents.sent ≡ 0 = ap (λ (x : MemoryState). length x.contents.sent) memory ∙ ap length quiet in
    let room : s.memory.room ≡ o.turns0 + o.turns1 = ap (λ (x : MemoryState). x.room) memory in
    record {
      list = [];
      code_is = code;
      world = ap (λ (k : CoreState). beside 0 k k1 (line_at s.memory.contents [])) is0
          ∙ ap (λ (k : CoreState). beside 0 (cores.opening_core_state 0 (opening_at 0 (entry_of 0 image o) o) (turns_of 0 o)) k (line_at s.memory.contents [])) is1
          ∙ ap (λ (x : MemoryState). beside 0 (cores.opening_core_state 0 (opening_at 0 (entry_of 0 image o) o) (turns_of 0 o)) (cores.opening_core_state 1 (opening_at 1 (entry_of 1 image o) o) (turns_of 1 o)) (line_at x.contents [])) memory;
      counted = omega (arith, count0, count1);
      grown = omega arith;
      points = points;
      core0_is = ap (λ (k : CoreState). k.core) is0;
      core1_is = ap (λ (k : CoreState). k.core) is1;
      free = record {
        free0 = ap (λ (k : CoreState). k.waiting) is0;
        free1 = ap (λ (k : CoreState). k.waiting) is1;
        few = omega (arith, count0, count1, left0, left1, valid.turns0, valid.turns1);
        room = omega (arith, sent, room, left0, left1);
      };
      ordered = ap (λ (k : CoreState). order_left r 0 k k1) is0 ∙ ap (order_left r 0 (cores.opening_core_state 0 (opening_at 0 (entry_of 0 image o) o) (turns_of 0 o))) is1;
    }

-- ---- the end

-- a core's trace, of a core that has made the whole of it
traced : (core : ℕ) (z : Traced State) (k : CoreState) (w : Core State) → Whole z w → k.core ≡ core → short_core w ≡ short_of k
    → ◌≡◌ {A = Trace} (trace_of k) (record { core = core; count = length z.records; places = places_from 0 z.records; stop = stop_of z.records; pc = z.last.control.pc })
traced core z k w h is same =
    let made : ℕ → ShortCore State → Trace = λ c x. trace_of (record k { core = c; state = x.state; count = x.count; places = x.places; stopped = x.stopped }) in
    let from : List StepRecord → State → Trace = λ rs s. record { core = core; count = length rs; places = places_from 0 rs; stop = stop_of rs; pc = s.control.pc } in
    ap (λ (c : ℕ). made c (short_of k)) is ∙ ap (made core) (sym same)
    ∙ ap (λ (rs : List StepRecord). from rs w.state) (sym h.records) ∙ ap (from z.records) (sym h.last)

all_taken : {A : Type 0} (xs : List A) → take (length xs) xs ≡ xs
all_taken [] = refl
all_taken (x ∷ xs) = ap (λ l. x ∷ l) (all_taken xs)

none_left : {A : Type 0} (xs : List A) → drop (length xs) xs ≡ []
none_left [] = refl
none_left (x ∷ xs) = none_left xs

filter_few : (q : ℕ → Bool) (xs : List ℕ) → length (filter q xs) ≤ length xs
filter_few q [] = omega arith
filter_few q (x ∷ xs) =
    let h : length (filter q xs) ≤ length xs = filter_few q xs in
    elim (q x) as (λ b. length (cond b (x ∷ filter q xs) (filter q xs)) ≤ suc (length xs)) [ true ↦ omega arith | false ↦ omega arith ]

points_few : (P : Chip State) (w : ShortWorld State) (l : List ℕ) → length (points_along P w l) ≤ length l
points_few P w l =
    omega (
      arith,
      length-map (filter is_due (range_with_len 0 (length l))) (λ (p : ℕ). point_of p (short_advance P (take p l) w)),
      filter_few is_due (range_with_len 0 (length l)),
      length-range_with_len 0 (length l),
    )

-- what both cores come to
pub record HasEnded (image : Image) (o : Options) (es : List Entry) (k0 k1 : CoreState) (points : List (List ℕ)) : Type 0 where
  pub rest0 : rest_finding image (run_with image o es) 0 ≡ None
  pub rest1 : rest_finding image (run_with image o es) 1 ≡ None
  pub trace0 : trace_of k0 ≡ (run_with image o es).trace0
  pub trace1 : trace_of k1 ≡ (run_with image o es).trace1
  pub run : IsRunOf image (run_with image o es)
  pub points_are : points ≡ checkpoints_of image (run_with image o es)
  pub few_entries : length es ≤ 8000000
  pub few_points : length points ≤ 8000000

mapped : {A : Type 0} (f g : ℕ → A) → ((p : ℕ) → f p ≡ g p) → (l : List ℕ) → map f l ≡ map g l
mapped f g same [] = refl
mapped f g same (p ∷ l) = ap (λ x. x ∷ map f l) (same p) ∙ ap (λ xs. g p ∷ xs) (mapped f g same l)

points_of_run : (image : Image) (o : Options) (es : List Entry) → points_along (processor (code_of image)) (opening_world image o) (schedule_in (run_with image o es))
    ≡ checkpoints_of image (run_with image o es)
points_of_run image o es =
    let P = processor (code_of image) in
    let s = schedule_in (run_with image o es) in
    let each : (l : List ℕ) → map (λ (p : ℕ). point_of p (short_advance P (take p s) (opening_world image o))) l ≡ map (λ (p : ℕ). checkpoint_of p (world_at image (run_with image o es) p)) l =
    λ l. mapped (λ (p : ℕ). point_of p (short_advance P (take p s) (opening_world image o))) (λ (p : ℕ). checkpoint_of p (world_at image (run_with image o es) p))
    (λ p. ap (point_of p) (sym (short_world_advanced P (take p s) (world_at_start (opening_of image o))))) l in
    each (filter is_due (range_with_len 0 (length s)))

-- the finding of a core after its last entry
rest_is : (image : Image) (r : Run) (c : ℕ) (es : List Entry) (next : Option ℕ) → take (length es) es ≡ es
    → slice_get (places_from 0 (records_of c image r).records) (length (calls_of c (take (length es) es))) ≡ next → r.history ≡ es
    → rest_finding image r c ≡ option_map (fault.Turn c) next
rest_is image r c es next all is same =
    ap (λ (l : List Entry). option_map (fault.Turn c) (slice_get (places_from 0 (records_of c image r).records) (length (calls_of c l)))) (same ∙ sym all)
    ∙ ap (option_map (fault.Turn c)) is

pub has_ended : (image : Image) (o : Options) (es : List Entry) (k0 k1 k0' k1' : CoreState) (s : Setting) (mid points : List (List ℕ)) → IsValid o
    → StandsAt image o es (length es) k0 k1 s
    → Arrives (code_of image) 0 k0 k1 k0' s.memory.contents (length es) None s.points.items mid
    → Arrives (code_of image) 1 k1 k0' k1' s.memory.contents (length es) None mid points
    → HasEnded image o es k0' k1' points
has_ended image o es k0 k1 k0' k1' s mid points valid h a b =
    let P = processor (code_of image) in
    let w0 = opening_world image o in
    let O = opening_of image o in
    let r = run_with image o es in
    let n = length es in
    let m = s.memory.contents in
    let all : take n es ≡ es = all_taken es in
    let l0 = h.list ++ replicate a.turns 0 in
    let l1 = l0 ++ replicate b.turns 1 in
    let is0 : k0' ≡ a.free = a.next_is.1 in
    let is1 : k1' ≡ b.free = b.next_is.1 in
    let left0 : k0'.left ≡ 0 = ap (λ (k : CoreState). k.left) is0 ∙ a.next_is.0 in
    let left1 : k1'.left ≡ 0 = ap (λ (k : CoreState). k.left) is1 ∙ b.next_is.0 in
    let mid_world : IsWorld image o l0 (beside 0 k0' k1 (line_at m (take n es))) =
    ap (λ (k : CoreState). beside 0 k k1 (line_at m (take n es))) is0 ∙ a.went.leads (line_at m (take n es))
    ∙ ap (short_advance P (replicate a.turns 0)) h.world ∙ sym (advance_append P h.list (replicate a.turns 0) w0) in
    let world : IsWorld image o l1 (beside 1 k1' k0' (line_at m (take n es))) =
    ap (λ (k : CoreState). beside 1 k k0' (line_at m (take n es))) is1 ∙ b.went.leads (line_at m (take n es))
    ∙ ap (short_advance P (replicate b.turns 1)) mid_world ∙ sym (advance_append P l0 (replicate b.turns 1) w0) in
    let e = with_records image o l1 _ world in
    let w = world_by image o l1 in
    let line : w.line.history ≡ take n es = ap (λ (x : ShortWorld State). x.line.history) e in
    let core0 : short_core w.core0 ≡ short_of k0' = ap (λ (x : ShortWorld State). x.core0) e in
    let core1 : short_core w.core1 ≡ short_of k1' = ap (λ (x : ShortWorld State). x.core1) e in
    let z0 = records_of 0 image r in
    let z1 = records_of 1 image r in
    let sp0 = splits_zero P O l1 es n line in
    let sp1 = splits_one P O l1 es n line in
    let whole0 = whole P 0 z0 w.core0 es n sp0 (ap (λ (k : ShortCore State). k.left) core0 ∙ left0) in
    let whole1 = whole P 1 z1 w.core1 es n sp1 (ap (λ (k : ShortCore State). k.left) core1 ∙ left1) in
    let count0 : length z0.records ≡ k0'.count = ap length whole0.records ∙ ap (λ (k : ShortCore State). k.count) core0 in
    let count1 : length z1.records ≡ k1'.count = ap length whole1.records ∙ ap (λ (k : ShortCore State). k.count) core1 in
    let made0 : k0'.count ≡ k0.count + a.turns = ap (λ (k : CoreState). k.count) is0 ∙ a.went.count_is in
    let made1 : k1'.count ≡ k1.count + b.turns = ap (λ (k : CoreState). k.count) is1 ∙ b.went.count_is in
    let reach = reached image o l1 in
    let history : w.line.history ≡ es = line ∙ all in
    let order : l1 ≡ schedule_in r =
    append_assoc h.list (replicate a.turns 0) (replicate b.turns 1)
    ∙ ap (λ (x : ℕ). h.list ++ (replicate x 0 ++ replicate b.turns 1)) (let q : a.turns ≡ r.trace0.count - k0.count = omega (arith, count0, made0) in q)
    ∙ ap (λ (x : ℕ). h.list ++ (replicate (r.trace0.count - k0.count) 0 ++ replicate x 1)) (let q : b.turns ≡ r.trace1.count - k1.count = omega (arith, count1, made1) in q)
    ∙ ap (λ (l : List Entry). h.list ++ schedule_from (cores_of l) k0.count (drop (length k0.places) r.trace0.places) r.trace0.count k1.count (drop (length k1.places) r.trace1.places) r.trace1.count) (sym (none_left es))
    ∙ h.ordered in
    let plus : (x : ℕ) → x + 0 ≡ x = λ x. omega arith in
    let size : length l1 ≡ length h.list + a.turns + b.turns =
    omega (arith, length-append l0 (replicate b.turns 1), length-append h.list (replicate a.turns 0), length-replicate {A = ℕ} b.turns 1, length-replicate {A = ℕ} a.turns 0) in
    let mid_points : mid ≡ points_along P w0 l0 =
    a.adds (take n es) h.list w0 (ap length all) h.world h.counted h.points
    ∙ ap (λ (x : ℕ). points_along P w0 (h.list ++ replicate x 0)) (plus a.turns) in
    let end_points : points ≡ points_along P w0 l1 =
    b.adds (take n es) l0 w0 (ap length all) mid_world
    (omega (arith, made0, h.counted, length-append h.list (replicate a.turns 0), length-replicate {A = ℕ} a.turns 0)) mid_points
    ∙ ap (λ (x : ℕ). points_along P w0 (l0 ++ replicate x 1)) (plus b.turns) in
    record {
      rest0 = rest_is image r 0 es None all (shown_beside image o es n l1 0 k0' k1' m None (omega arith) world left0).more refl;
      rest1 = rest_is image r 1 es None all (shown_beside image o es n l1 1 k1' k0' m None (omega arith) world left1).more refl;
      trace0 = traced 0 z0 k0' w.core0 whole0 (ap (λ (k : CoreState). k.core) is0 ∙ a.went.core_is ∙ h.core0_is) core0;
      trace1 = traced 1 z1 k1' w.core1 whole1 (ap (λ (k : CoreState). k.core) is1 ∙ b.went.core_is ∙ h.core1_is) core1;
      run = record {
        valid = valid;
        legal = subst (IsLegal (memory_of image o)) history reach.legal;
        cores = subst IsOfCores history reach.cores;
        trace0 = record { core_is = refl; count_is = refl; places_are = refl; stop_is = refl; pc_is = refl };
        trace1 = record { core_is = refl; count_is = refl; places_are = refl; stop_is = refl; pc_is = refl };
        calls0 = ap (calls_of 0) (sym all) ∙ sym sp0.calls ∙ ap calls_in (sym whole0.records);
        calls1 = ap (calls_of 1) (sym all) ∙ sym sp1.calls ∙ ap calls_in (sym whole1.records);
      };
      points_are = end_points ∙ ap (points_along P w0) order ∙ points_of_run image o es;
      few_entries = omega (arith, h.grown, h.counted, h.free.few);
      few_points = omega (arith, ap length end_points, points_few P w0 l1, size, made0, made1, h.counted, h.free.few, a.went.left_is, b.went.left_is);
    }

-- ---- a core that asks for more

pub more_zero : (image : Image) (o : Options) (es : List Entry) (k0 k1 after : CoreState) (s : Setting) (a : Access) (points : List (List ℕ))
    → StandsAt image o es (length es) k0 k1 s → (h : Arrives (code_of image) 0 k0 k1 after s.memory.contents (length es) (Some a) s.points.items points)
    → rest_finding image (run_with image o es) 0 ≡ Some (fault.Turn 0 after.count)
more_zero image o es k0 k1 after s a points h x =
    let P = processor (code_of image) in
    let n = length es in
    let m = s.memory.contents in
    let list = h.list ++ replicate x.turns 0 in
    let world : IsWorld image o list (beside 0 x.free k1 (line_at m (take n es))) =
    x.went.leads (line_at m (take n es)) ∙ ap (short_advance P (replicate x.turns 0)) h.world ∙ sym (advance_append P h.list (replicate x.turns 0) (opening_world image o)) in
    rest_is image (run_with image o es) 0 es (Some x.free.count) (all_taken es)
    (shown_beside image o es n list 0 x.free k1 m (Some a) (omega arith) world (x.next_is.left, x.next_is.asks)).more refl
    ∙ ap (λ (c : ℕ). Some (fault.Turn 0 c)) (sym (ap (λ (k : CoreState). k.count) x.next_is.same))

-- core 1, after all turns of core 0
pub more_one : (image : Image) (o : Options) (es : List Entry) (k0 k1 k0' after : CoreState) (s : Setting) (a : Access) (mid points : List (List ℕ))
    → StandsAt image o es (length es) k0 k1 s → Arrives (code_of image) 0 k0 k1 k0' s.memory.contents (length es) None s.points.items mid
    → Arrives (code_of image) 1 k1 k0' after s.memory.contents (length es) (Some a) mid points
    → (rest_finding image (run_with image o es) 0 ≡ None) × (rest_finding image (run_with image o es) 1 ≡ Some (fault.Turn 1 after.count))
more_one image o es k0 k1 k0' after s a mid points h y x =
    let P = processor (code_of image) in
    let n = length es in
    let m = s.memory.contents in
    let w0 = opening_world image o in
    let l0 = h.list ++ replicate y.turns 0 in
    let l1 = l0 ++ replicate x.turns 1 in
    let is0 : k0' ≡ y.free = y.next_is.1 in
    let left0 : k0'.left ≡ 0 = ap (λ (k : CoreState). k.left) is0 ∙ y.next_is.0 in
    let mid_world : IsWorld image o l0 (beside 0 k0' k1 (line_at m (take n es))) =
    ap (λ (k : CoreState). beside 0 k k1 (line_at m (take n es))) is0 ∙ y.went.leads (line_at m (take n es))
    ∙ ap (short_advance P (replicate y.turns 0)) h.world ∙ sym (advance_append P h.list (replicate y.turns 0) w0) in
    let world : IsWorld image o l1 (beside 1 x.free k0' (line_at m (take n es))) =
    x.went.leads (line_at m (take n es)) ∙ ap (short_advance P (replicate x.turns 1)) mid_world ∙ sym (advance_append P l0 (replicate x.turns 1) w0) in (
      rest_is image (run_with image o es) 0 es None (all_taken es) (shown_beside image o es n l0 0 k0' k1 m None (omega arith) mid_world left0).more refl,
      rest_is image (run_with image o es) 1 es (Some x.free.count) (all_taken es)
          (shown_beside image o es n l1 1 x.free k0' m (Some a) (omega arith) world (x.next_is.left, x.next_is.asks)).more refl
          ∙ ap (λ (c : ℕ). Some (fault.Turn 1 c)) (sym (ap (λ (k : CoreState). k.count) x.next_is.same)),
    )
