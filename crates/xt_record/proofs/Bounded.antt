-- Carries a proof; nothing that a reader must believe.
-- How many entries and checkpoints a run has, and how long they are; and that the bus serves each entry.
use Rattle.std.proofs.Common.{◌≡◌, ℕ, zero, suc, ◌+◌, ◌*◌, ◌<◌, ◌≤◌, true, false, cond, Option, Some, None, List, [], ◌∷◌, ◌++◌, length, map, refl, sym, ap, ap₂, ◌∙◌, subst, length-append, arith}
use Rattle.std.specs.Prelude.{All, not, slice_index}
use Rattle.std.proofs.lemmas.List.Filters.{length-filter_both}
use Rattle.std.specs.Int.{w32, to_le_bytes}
use Rattle.std.proofs.lemmas.List.Elements.{All-cons, All-head, All-map, All-nil, All-tail}
use Rattle.std.specs.List.{filter, range_with_len}
use Rattle.std.proofs.lemmas.List.{length-map}
use Rattle.std.proofs.lemmas.List.FromFn.{length-map-range_with_len, length-range_with_len}
use Rattle.xt_isa.specs.Numbers.{br}
use Rattle.xt_map.specs.declared.access.Access.{Access}
use Rattle.xt_map.specs.declared.access.Entry.{Entry}
use Rattle.xt_map.specs.declared.contents.MemoryContents.{MemoryContents}
use Rattle.xt_map.specs.History.{IsOfCores, calls_of, replies_of}
use Rattle.xt_map.specs.Memory.{bytes_at}
use Rattle.xt_bus.specs.States.{part_bytes}
use Rattle.xt_map.specs.Regions.{is_mapped}
use Rattle.xt_special.specs.Control.{bit_of, ps_word}
use Rattle.xt_trace.specs.declared.record.StepRecord.{StepRecord}
use Rattle.xt_trace.specs.declared.run.Run.{Run}
use Rattle.xt_trace.specs.Calls.{call_before, calls_in, is_stop}
use Rattle.xt_image.specs.declared.image.Image.{Image}
use Rattle.xt_trace.specs.Chip.{Chip}
use Rattle.xt_trace.specs.Runs as chip
use Rattle.xt_trace.specs.Runs.{world_at_start, schedule_of}
use Rattle.xt_trace.specs.Schedule.{cores_of, places_from, schedule, schedule_in}
use Rattle.xt_trace.specs.Traces.{empty_trace, replies_past, reply_for, trace_over}
use Rattle.xt_trace.specs.Walks.{IsWalk}
use Rattle.xt_trace.specs.Worlds.{World, entry, give}
use Rattle.xt_trace.proofs.Short.{trace_bound}
use Rattle.xt_trace.proofs.Walks.{own_walk}
use Rattle.xt_exec.specs.Chips.{processor, turn_asks}
use Rattle.xt_exec.specs.TurnLaws.{IsServed}
use Rattle.xt_exec.specs.State.{State}
use Rattle.xt_exec.specs.Turn.{demand}
use Rattle.xt_exec.proofs.Served.{demand_served}
use Rattle.xt_core.specs.Runs.{IsRunOf, code_of, opening_of, records_of}
use Rattle.xt_record.specs.Checkpoints.{checkpoint_bytes, checkpoint_of, checkpoints_of, file_bytes, is_due, last_numbers, loop_numbers, saved_numbers, special_bytes, state_bytes}
use Rattle.xt_record.specs.Fields.{checkpoint_size, words}
use Rattle.xt_core.specs.Positions.{world_at}

-- ---- how many

calls_few : (rs : List StepRecord) → length (calls_in rs) ≤ length rs
calls_few [] = omega arith
calls_few (x ∷ xs) =
    let h : length (calls_in xs) ≤ length xs = calls_few xs in
    elim x.access as (λ d. length (call_before d x.reply (calls_in xs)) ≤ suc (length xs)) [ None ↦ omega arith | Some a ↦ omega arith ]

split_at : (c : ℕ) (a : Access) (y : ℕ) (es : List Entry) → c < 2 → length es ≡ length (calls_of 0 es) + length (calls_of 1 es)
    → suc (length es) ≡ length (calls_of 0 (entry c a y ∷ es)) + length (calls_of 1 (entry c a y ∷ es))
split_at zero a y es lt h = omega arith
split_at (suc zero) a y es lt h = omega arith
split_at (suc (suc c)) a y es lt h = absurd (omega arith)

calls_all : (es : List Entry) → IsOfCores es → length es ≡ length (calls_of 0 es) + length (calls_of 1 es)
calls_all [] h = refl
calls_all (e ∷ es) h = split_at e.core e.access e.reply es (h 0 e refl) (calls_all es (λ k x at. h (suc k) x at))

walk_long : {S : Type 0} (P : Chip S) (list : List ℕ) (w : World S) (xs ys : List StepRecord) → IsWalk P list w xs ys → length list ≡ length xs + length ys
walk_long P [] w xs ys h = sym (ap₂ (λ (l m : List StepRecord). length l + length m) h.0 h.1)
walk_long P (zero ∷ cs) w xs ys h =
    let next : length cs ≡ length h.0 + length ys = walk_long P cs (give P 0 w) h.0 ys h.3 in
    omega (arith, next, ap length h.1)
walk_long P (suc c ∷ cs) w xs ys h =
    let next : length cs ≡ length xs + length h.0 = walk_long P cs (give P 1 w) xs h.0 h.3 in
    omega (arith, next, ap length h.1)

-- the run with its records
recorded : Image → Run → chip.Run State
recorded image r = record { history = r.history; trace0 = records_of 0 image r; trace1 = records_of 1 image r }

recorded_run : (image : Image) (r : Run) → IsRunOf image r → chip.IsRunOf (processor (code_of image)) (opening_of image r.options) (recorded image r)
unfolding recorded
recorded_run image r h = record { legal = h.legal; cores = h.cores; trace0 = refl; trace1 = refl; calls0 = h.calls0; calls1 = h.calls1 }

same_schedule : (image : Image) (r : Run) → IsRunOf image r → schedule_of (recorded image r) ≡ schedule_in r
unfolding recorded
same_schedule image r h =
    let cs = cores_of r.history in
    ap₂ (λ ps n. schedule cs ps n (places_from 0 (records_of 1 image r).records) (length (records_of 1 image r).records)) (sym h.trace0.places_are) (sym h.trace0.count_is)
    ∙ ap₂ (schedule cs r.trace0.places r.trace0.count) (sym h.trace1.places_are) (sym h.trace1.count_is)

schedule_few : (image : Image) (r : Run) → IsRunOf image r → length (schedule_in r) ≤ 8000000
unfolding recorded
schedule_few image r h =
    let P = processor (code_of image) in
    let o = opening_of image r.options in
    let long : length (schedule_of (recorded image r)) ≡ length (records_of 0 image r).records + length (records_of 1 image r).records =
    walk_long P (schedule_of (recorded image r)) (world_at_start o) _ _ (own_walk P o (recorded image r) (recorded_run image r h)) in
    omega (
      arith,
      long,
      ap length (same_schedule image r h),
      trace_bound P o.state0 o.turns0 (replies_of 0 r.history),
      trace_bound P o.state1 o.turns1 (replies_of 1 r.history),
      h.valid.turns0,
      h.valid.turns1,
    )

pub entries_few : (image : Image) (r : Run) → IsRunOf image r → length r.history ≤ 8000000
entries_few image r h =
    let P = processor (code_of image) in
    let o = opening_of image r.options in
    omega (
      arith,
      calls_all r.history h.cores,
      ap length h.calls0,
      ap length h.calls1,
      calls_few (records_of 0 image r).records,
      calls_few (records_of 1 image r).records,
      trace_bound P o.state0 o.turns0 (replies_of 0 r.history),
      trace_bound P o.state1 o.turns1 (replies_of 1 r.history),
      h.valid.turns0,
      h.valid.turns1,
    )

pub points_few : (image : Image) (r : Run) → IsRunOf image r → length (checkpoints_of image r) ≤ 8000000
points_few image r h =
    let l = schedule_in r in
    omega (
      arith,
      schedule_few image r h,
      length-map (filter is_due (range_with_len 0 (length l))) (λ (p : ℕ). checkpoint_of p (world_at image r p)),
      length-filter_both is_due (λ (p : ℕ). not (is_due p)) (λ p. refl) (range_with_len 0 (length l)),
      length-range_with_len 0 (length l),
    )

-- ---- how long a checkpoint is

words_long : (ws : List ℕ) → length (words ws) ≡ 4 * length ws
words_long [] = refl
words_long (w ∷ ws) =
    length-append (to_le_bytes w32 w) (words ws) ∙ ap (λ (n : ℕ). 4 + n) (words_long ws)
    ∙ (let e : 4 + 4 * length ws ≡ 4 * length (w ∷ ws) = omega arith in e)

bytes_long : (m : MemoryContents) (a n : ℕ) → length (bytes_at m a n) ≡ n
bytes_long m a zero = refl
bytes_long m a (suc n) = ap suc (bytes_long m (a + 1) n)

file_long : (regs : List ℕ) → length (file_bytes regs) ≡ 256
unfolding file_bytes
file_long regs = words_long (map (slice_index regs) (range_with_len 0 64)) ∙ ap (λ (n : ℕ). 4 * n) (length-map-range_with_len (slice_index regs) 0 64)

special_long : (special numbers : List ℕ) → length (special_bytes special numbers) ≡ 4 * length numbers
unfolding special_bytes
special_long special numbers = words_long (map (slice_index special) numbers) ∙ ap (λ (n : ℕ). 4 * n) (length-map numbers (slice_index special))

long_eight : (a b c d e f g h : List ℕ) → length (((((((a ++ b) ++ c) ++ d) ++ e) ++ f) ++ g) ++ h)
    ≡ length a + length b + length c + length d + length e + length f + length g + length h
long_eight a b c d e f g h = simp length-append (omega arith)

state_long : (step : ℕ) (s : State) → length (state_bytes step s) ≡ 444
unfolding state_bytes
state_long step s =
    let c = s.control in
    long_eight (words (c.pc ∷ bit_of c.waits ∷ step ∷ s.base ∷ s.start ∷ [])) (file_bytes s.regs) (special_bytes c.special loop_numbers) (words (slice_index c.special br ∷ []))
    (special_bytes c.special saved_numbers) (words (ps_word c.ps ∷ [])) (special_bytes c.special last_numbers) (words (c.threadptr ∷ []))
    ∙ ap₂ (λ x y. 20 + x + y + 4 + length (special_bytes c.special saved_numbers) + 4 + length (special_bytes c.special last_numbers) + 4) (file_long s.regs) (special_long c.special loop_numbers)
    ∙ ap₂ (λ x y. 20 + 256 + 12 + 4 + x + 4 + y + 4) (special_long c.special saved_numbers) (special_long c.special last_numbers)

long_six : (a b c d e f : List ℕ) → length (((a ++ b) ++ c) ++ ((d ++ e) ++ f)) ≡ length a + length b + length c + (length d + length e + length f)
long_six a b c d e f = simp length-append (omega arith)

checkpoint_long : (position entries step0 : ℕ) (state0 : State) (step1 : ℕ) (state1 : State) (m : MemoryContents)
    → length (checkpoint_bytes position entries step0 state0 step1 state1 m) ≡ checkpoint_size
unfolding checkpoint_bytes checkpoint_size part_bytes
checkpoint_long position entries step0 state0 step1 state1 m =
    long_six (words (position ∷ entries ∷ [])) (state_bytes step0 state0) (state_bytes step1 state1) (bytes_at m 0x3FF80000 8192) (bytes_at m 0x3FFAE000 335872)
    (bytes_at m 0x50000000 8192)
    ∙ ap₂ (λ x y. 8 + x + y + (length (bytes_at m 0x3FF80000 8192) + length (bytes_at m 0x3FFAE000 335872) + length (bytes_at m 0x50000000 8192))) (state_long step0 state0) (state_long step1 state1)
    ∙ ap₂ (λ x y. 8 + 444 + 444 + (x + y + length (bytes_at m 0x50000000 8192))) (bytes_long m 0x3FF80000 8192) (bytes_long m 0x3FFAE000 335872)
    ∙ ap (λ x. 8 + 444 + 444 + (8192 + 335872 + x)) (bytes_long m 0x50000000 8192)

all_every : {A : Type 0} (Q : A → Type 0) → ((x : A) → Q x) → (l : List A) → All Q l
all_every Q h [] = All-nil Q
all_every Q h (x ∷ l) = All-cons Q x l (h x) (all_every Q h l)

pub points_long : (image : Image) (r : Run) → All (λ (p : List ℕ). length p ≡ checkpoint_size) (checkpoints_of image r)
points_long image r =
    All-map (λ (p : List ℕ). length p ≡ checkpoint_size) (λ (p : ℕ). checkpoint_of p (world_at image r p)) (filter is_due (range_with_len 0 (length (schedule_in r))))
    (all_every (λ (p : ℕ). length (checkpoint_of p (world_at image r p)) ≡ checkpoint_size)
    (λ p. let w = world_at image r p in checkpoint_long p (length w.line.history) (length w.core0.records) w.core0.state (length w.core1.records) w.core1.state w.line.memory)
    (filter is_due (range_with_len 0 (length (schedule_in r)))))

-- ---- each access is served

abbrev IsServedCall : Access × ℕ → Type 0
IsServedCall call = is_mapped call.0 ≡ true

call_more : (d : Option Access) (reply : ℕ) (l : List (Access × ℕ)) → IsServed d → All IsServedCall l → All IsServedCall (call_before d reply l)
call_more None reply l served h = h
call_more (Some a) reply l served h = All-cons IsServedCall (a, reply) l served h

calls_served : (code : ℕ → ℕ) (s : State) (n : ℕ) (replies : List ℕ) → All IsServedCall (calls_in (trace_over (processor code) s n replies).records)
calls_served code s zero replies = All-nil IsServedCall
calls_served code s (suc n) replies =
    let P = processor code in
    let reply = reply_for (demand code s) replies in
    let t = P.turn s reply in
    let rest = trace_over P t.1 n (replies_past (demand code s) replies) in
    let h : All IsServedCall (calls_in rest.records) = calls_served code t.1 n (replies_past (demand code s) replies) in
    call_more t.0.access t.0.reply _ (subst IsServed (sym (turn_asks code s reply)) (demand_served code s))
    (elim (is_stop t.0.kind) as (λ b. All IsServedCall (calls_in (cond b (empty_trace t.1) rest).records)) [ true ↦ All-nil IsServedCall | false ↦ h ])

abbrev pub IsServedEntry : Entry → Type 0
IsServedEntry e = is_mapped e.access ≡ true

served_more : (c : ℕ) (a : Access) (y : ℕ) (es : List Entry) → c < 2 → (All IsServedCall (calls_of 0 es) → All IsServedCall (calls_of 1 es) → All IsServedEntry es)
    → All IsServedCall (calls_of 0 (entry c a y ∷ es)) → All IsServedCall (calls_of 1 (entry c a y ∷ es)) → All IsServedEntry (entry c a y ∷ es)
served_more zero a y es lt next h k =
    let l = calls_of 0 es in
    All-cons IsServedEntry (entry 0 a y) es (All-head IsServedCall (a, y) l h) (next (All-tail IsServedCall (a, y) l h) k)
served_more (suc zero) a y es lt next h k =
    let l = calls_of 1 es in
    All-cons IsServedEntry (entry 1 a y) es (All-head IsServedCall (a, y) l k) (next h (All-tail IsServedCall (a, y) l k))
served_more (suc (suc c)) a y es lt next h k = absurd (omega arith)

served_all : (es : List Entry) → IsOfCores es → All IsServedCall (calls_of 0 es) → All IsServedCall (calls_of 1 es) → All IsServedEntry es
served_all [] cores h k = All-nil IsServedEntry
served_all (e ∷ es) cores h k = served_more e.core e.access e.reply es (cores 0 e refl) (served_all es (λ i x at. cores (suc i) x at)) h k

pub entries_served : (image : Image) (r : Run) → IsRunOf image r → All IsServedEntry r.history
entries_served image r h =
    let o = opening_of image r.options in
    served_all r.history h.cores
    (subst (All IsServedCall) (sym h.calls0) (calls_served (code_of image) o.state0 o.turns0 (replies_of 0 r.history)))
    (subst (All IsServedCall) (sym h.calls1) (calls_served (code_of image) o.state1 o.turns1 (replies_of 1 r.history)))
