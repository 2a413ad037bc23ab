-- One entry more of a run that is walked.
use Rattle.std.proofs.Common.{◌≡◌, ℕ, zero, suc, ◌+◌, ◌-◌, ◌<◌, Bool, false, cond, eqb, Option, Some, None, List, [], ◌∷◌, ◌++◌, length, take, drop, replicate, refl, sym, ap, ◌∙◌, subst, append_assoc, length-append, arith}
use Rattle.std.proofs.lemmas.List.{drop_at, length-replicate}
use Rattle.std.specs.List.{slice_get}
use Rattle.std.specs.Option.{option_map_or}
use Rattle.std.specs.Prelude.{not, option_map}
use Rattle.xt_map.specs.declared.access.Access.{Access}
use Rattle.xt_map.specs.declared.access.Entry.{Entry}
use Rattle.xt_map.specs.declared.contents.MemoryContents.{MemoryContents}
use Rattle.xt_map.specs.History.{calls_of, memory_after, replies_of}
use Rattle.xt_map.specs.Serving.{reply_to}
use Rattle.xt_trace.specs.declared.options.Options.{Options}
use Rattle.xt_trace.specs.declared.record.StepRecord.{StepRecord}
use Rattle.xt_trace.specs.declared.run.Run.{Run}
use Rattle.xt_trace.specs.Calls.{calls_in}
use Rattle.xt_image.specs.declared.image.Image.{Image}
use Rattle.xt_trace.specs.Reached.{Reached}
use Rattle.xt_trace.specs.Runs.{world_at_start}
use Rattle.xt_trace.specs.Schedule.{cores_of, places_from, schedule_from}
use Rattle.xt_trace.specs.Short.{ShortCore, ShortWorld, short_advance, short_core, short_world}
use Rattle.xt_trace.specs.Traces.{Traced, trace_over}
use Rattle.xt_trace.specs.Worlds.{World, advance}
use Rattle.xt_trace.proofs.Keeping.{advance_keeps, opened_reached}
use Rattle.xt_trace.proofs.Short.{short_world_advanced}
use Rattle.xt_exec.specs.Chips.{processor}
use Rattle.xt_exec.specs.State.{State}
use Rattle.xt_exec.specs.Turn.{demand}
use Rattle.xt_core.specs.Cores.{CoreState, short_of}
use Rattle.xt_core.specs.Runs.{code_of, memory_of, opening_of, records_of}
use Rattle.xt_record.specs.declared.fault.RecordFault.TheVariants as fault
use Rattle.xt_record.specs.declared.setting.Setting.{Setting}
use Rattle.xt_record.specs.Format.{run_with}
use Rattle.xt_image.specs.Findings.{fails}
use Rattle.xt_record.specs.Rules.{Finding}
use Rattle.xt_record.specs.TurnRules.{calls_before, entry_finding, is_call, place_of, right_reply, same_access}
use Rattle.xt_record.specs.Walking.{Comes, HasRoom, IsWanted, Took, beside, finding_at, line_at}
use Rattle.xt_record.specs.Standing.{StandsAt, opening_world, order_left}
use Rattle.xt_record.proofs.Prefix.{Shown, Splits, places_append, shown_call, shown_end, splits_one, splits_zero}
use Rattle.xt_record.proofs.Turns.{advance_append}

-- ---- the world that was walked to

-- the turns of a list, with the records of both cores
abbrev pub world_by : Image → Options → List ℕ → World State
world_by image o list = advance (processor (code_of image)) list (world_at_start (opening_of image o))

abbrev pub IsWorld : Image → Options → List ℕ → ShortWorld State → Type 0
IsWorld image o list w = w ≡ short_advance (processor (code_of image)) list (opening_world image o)

pub with_records : (image : Image) (o : Options) (list : List ℕ) (w : ShortWorld State) → IsWorld image o list w → short_world (world_by image o list) ≡ w
with_records image o list w is = short_world_advanced (processor (code_of image)) list (world_at_start (opening_of image o)) ∙ sym is

pub reached : (image : Image) (o : Options) (list : List ℕ) → Reached (processor (code_of image)) (opening_of image o) (world_by image o list)
reached image o list = let P = processor (code_of image) in advance_keeps P (opening_of image o) list (world_at_start (opening_of image o)) (opened_reached P (opening_of image o))

-- memory is what the entries leave
memory_is : (image : Image) (o : Options) (list : List ℕ) (c0 c1 : ShortCore State) (m : MemoryContents) (h : List Entry)
    → IsWorld image o list (record { line = line_at m h; core0 = c0; core1 = c1 }) → memory_after (memory_of image o) h ≡ m
memory_is image o list c0 c1 m h is =
    let e = with_records image o list _ is in
    ap (memory_after (memory_of image o)) (sym (ap (λ (w : ShortWorld State). w.line.history) e))
    ∙ sym (reached image o list).memory ∙ ap (λ (w : ShortWorld State). w.line.memory) e

pub memory_beside : (image : Image) (o : Options) (list : List ℕ) (number : ℕ) (own other : CoreState) (m : MemoryContents) (h : List Entry)
    → IsWorld image o list (beside number own other (line_at m h)) → memory_after (memory_of image o) h ≡ m
memory_beside image o list zero own other m h is = memory_is image o list (short_of own) (short_of other) m h is
memory_beside image o list (suc c) own other m h is = memory_is image o list (short_of other) (short_of own) m h is

-- ---- what a core asks for next is the next call of its trace

shown_where : (image : Image) (c : ℕ) (z : Traced State) (k : ShortCore State) (records : List StepRecord) (es : List Entry) (i : ℕ) (next : Option Access) (own : CoreState)
    → Splits (processor (code_of image)) c z (record { state = k.state; left = k.left; records = records }) es i → k ≡ short_of own → length records ≡ own.count
    → IsWanted (code_of image) next own → Shown z.records (length (calls_of c (take i es))) own.count next
shown_where image c z k records es i None own s is count wanted =
    subst (λ (n : ℕ). Shown z.records (length (calls_of c (take i es))) n None) count
    (shown_end (processor (code_of image)) c z _ es i s (ap (λ (x : ShortCore State). x.left) is ∙ wanted))
shown_where image c z k records es i (Some a) own s is count wanted =
    subst (λ (n : ℕ). Shown z.records (length (calls_of c (take i es))) n (Some a)) count
    (shown_call (processor (code_of image)) c z _ es i (own.left - 1) a s
    (ap (λ (x : ShortCore State). x.left) is ∙ (let some : 0 < own.left = wanted.0 in let e : own.left ≡ suc (own.left - 1) = omega arith in e))
    (ap (λ (x : ShortCore State). demand (code_of image) x.state) is ∙ wanted.1))

pub shown_beside : (image : Image) (o : Options) (es : List Entry) (i : ℕ) (list : List ℕ) (number : ℕ) (own other : CoreState) (m : MemoryContents) (next : Option Access) → number < 2
    → IsWorld image o list (beside number own other (line_at m (take i es))) → IsWanted (code_of image) next own
    → Shown (records_of number image (run_with image o es)).records (length (calls_of number (take i es))) own.count next
shown_beside image o es i list zero own other m next lt is wanted =
    let P = processor (code_of image) in
    let e = with_records image o list _ is in
    let k = (world_by image o list).core0 in
    shown_where image 0 _ (short_core k) k.records es i next own
    (splits_zero P (opening_of image o) list es i (ap (λ (w : ShortWorld State). w.line.history) e))
    (ap (λ (w : ShortWorld State). w.core0) e) (ap (λ (w : ShortWorld State). w.core0.count) e) wanted
shown_beside image o es i list (suc zero) own other m next lt is wanted =
    let P = processor (code_of image) in
    let e = with_records image o list _ is in
    let k = (world_by image o list).core1 in
    shown_where image 1 _ (short_core k) k.records es i next own
    (splits_one P (opening_of image o) list es i (ap (λ (w : ShortWorld State). w.line.history) e))
    (ap (λ (w : ShortWorld State). w.core1) e) (ap (λ (w : ShortWorld State). w.core1.count) e) wanted
shown_beside image o es i list (suc (suc c)) own other m next lt is wanted = absurd (omega arith)

called : (x : Option (Access × ℕ)) (a : Access)
    → option_map_or (λ (y : Access × ℕ). same_access y.0 a) x false ≡ option_map_or (λ (b : Access). same_access b a) (option_map (λ (y : Access × ℕ). y.0) x) false
called None a = refl
called (Some y) a = refl

-- the entry's finding, where its core has this number
abbrev finding_as : ℕ → Image → Run → ℕ → Entry → Finding
finding_as c image r i e =
    let z = records_of c image r in
    let k = calls_before r c i in
    let right = right_reply image r i e.access in
    cond (is_call z k e.access) (fails (not (eqb e.reply right)) (fault.Illegal i e.reply right)) (Some (fault.Turn c (place_of z k)))

judged : (c i count right place : ℕ) (m : MemoryContents) (e : Entry) (next : Option Access) (t : Bool) → t ≡ option_map_or (λ (b : Access). same_access b e.access) next false
    → place ≡ count → right ≡ reply_to m e.access
    → cond t (fails (not (eqb e.reply right)) (fault.Illegal i e.reply right)) (Some (fault.Turn c place)) ≡ finding_at next c i count e m
judged c i count right place m e next t test at is =
    ap (λ (n : ℕ). cond t (fails (not (eqb e.reply n)) (fault.Illegal i e.reply n)) (Some (fault.Turn c place))) is
    ∙ ap (λ (n : ℕ). cond t (fails (not (eqb e.reply (reply_to m e.access))) (fault.Illegal i e.reply (reply_to m e.access))) (Some (fault.Turn c n))) at
    ∙ ap (λ (b : Bool). cond b (fails (not (eqb e.reply (reply_to m e.access))) (fault.Illegal i e.reply (reply_to m e.access))) (Some (fault.Turn c count))) test
    ∙ elim next as (λ x. cond (option_map_or (λ (b : Access). same_access b e.access) x false)
    (fails (not (eqb e.reply (reply_to m e.access))) (fault.Illegal i e.reply (reply_to m e.access))) (Some (fault.Turn c count)) ≡ finding_at x c i count e m)
    [ None ↦ refl | Some a ↦ refl ]

-- what the core comes to shows the entry's finding
pub finding_is : (image : Image) (o : Options) (es : List Entry) (i : ℕ) (list : List ℕ) (number : ℕ) (before other : CoreState) (m : MemoryContents) (e : Entry) (turns : ℕ) (finding : Finding)
    → number < 2 → e.core ≡ number → IsWorld image o list (beside number before other (line_at m (take i es)))
    → Comes (code_of image) number before other m i e turns finding → entry_finding image (run_with image o es) i e ≡ finding
finding_is image o es i list number before other m e turns finding lt core is h =
    let P = processor (code_of image) in
    let r = run_with image o es in
    let later : IsWorld image o (list ++ replicate turns number) (beside number h.free other (line_at m (take i es))) =
    h.leads (line_at m (take i es)) ∙ ap (short_advance P (replicate turns number)) is ∙ sym (advance_append P list (replicate turns number) (opening_world image o)) in
    let s = shown_beside image o es i (list ++ replicate turns number) number h.free other m h.next lt later h.wanted in
    let z = records_of number image r in
    let k = calls_before r number i in
    ap (λ (c : ℕ). finding_as c image r i e) core
    ∙ judged number i h.free.count (right_reply image r i e.access) (place_of z k) m e h.next (is_call z k e.access)
    (called (slice_get (calls_in z.records) k) e.access ∙ ap (λ (x : Option Access). option_map_or (λ (b : Access). same_access b e.access) x false) s.call)
    s.place
    (ap (λ (x : MemoryContents). reply_to x e.access) (memory_beside image o list number before other m (take i es) is))
    ∙ sym h.finding_is

-- ---- the run's schedule

-- the places of a trace are those of a core so far, and more
places_so_far : (z : List StepRecord) (records rest : List StepRecord) (places : List ℕ) → z ≡ records ++ rest → places_from 0 records ≡ places
    → places_from 0 z ≡ places ++ places_from (0 + length records) rest
places_so_far z records rest places is e =
    ap (places_from 0) is ∙ places_append 0 records rest ∙ ap (λ (l : List ℕ). l ++ places_from (0 + length records) rest) e

-- the schedule that is left of the core of this number, whose turns, places and count come first, and of the other
abbrev order_by : ℕ → List ℕ → ℕ → List ℕ → ℕ → ℕ → List ℕ → ℕ → List ℕ
order_by zero cs i ps n j qs m = schedule_from cs i ps n j qs m
order_by (suc c) cs i ps n j qs m = schedule_from cs j qs m i ps n

order_head : (c : ℕ) (cs : List ℕ) (before p : ℕ) (more : List ℕ) (n j : ℕ) (qs : List ℕ) (m : ℕ) → c < 2
    → order_by c (c ∷ cs) before (p ∷ more) n j qs m ≡ replicate (suc p - before) c ++ order_by c cs (suc p) more n j qs m
order_head zero cs before p more n j qs m lt = refl
order_head (suc zero) cs before p more n j qs m lt = refl
order_head (suc (suc c)) cs before p more n j qs m lt = absurd (omega arith)

order_next : (c : ℕ) (cs : List ℕ) (before p : ℕ) (all places more : List ℕ) (n j : ℕ) (qs : List ℕ) (m turns : ℕ) → c < 2
    → all ≡ (places ++ p ∷ []) ++ more → p ≡ before + turns
    → order_by c (c ∷ cs) before (drop (length places) all) n j qs m
    ≡ replicate (turns + 1) c ++ order_by c cs (before + (turns + 1)) (drop (length (places ++ p ∷ [])) all) n j qs m
order_next c cs before p all places more n j qs m turns lt is e =
    let first : drop (length places) all ≡ p ∷ more =
    ap (drop (length places)) (is ∙ append_assoc places (p ∷ []) more) ∙ drop_at places (p ∷ more) (length places) refl in
    let rest : more ≡ drop (length (places ++ p ∷ [])) all =
    sym (ap (drop (length (places ++ p ∷ []))) is ∙ drop_at (places ++ p ∷ []) more (length (places ++ p ∷ [])) refl) in
    ap (λ (l : List ℕ). order_by c (c ∷ cs) before l n j qs m) first
    ∙ order_head c cs before p more n j qs m lt
    ∙ ap (λ (k : ℕ). replicate k c ++ order_by c cs (suc p) more n j qs m) (let d : suc p - before ≡ turns + 1 = omega arith in d)
    ∙ ap (λ (k : ℕ). replicate (turns + 1) c ++ order_by c cs k more n j qs m) (let d : suc p ≡ before + (turns + 1) = omega arith in d)
    ∙ ap (λ (l : List ℕ). replicate (turns + 1) c ++ order_by c cs (before + (turns + 1)) l n j qs m) rest

-- ---- one entry more

pub record IsEntryAt (es : List Entry) (i : ℕ) (e : Entry) : Type 0 where
  pub front : take (i + 1) es ≡ take i es ++ e ∷ []
  pub behind : drop i es ≡ e ∷ drop (i + 1) es
  pub size : length (take i es) ≡ i

-- the world after it, where a core makes it
world_more : (image : Image) (o : Options) (es : List Entry) (i number : ℕ) (own other own' : CoreState) (s s' : Setting) (e : Entry) (list : List ℕ)
    → IsWorld image o list (beside number own other (line_at s.memory.contents (take i es))) → (t : Took (code_of image) number own other own' s s' i e) → IsEntryAt es i e
    → IsWorld image o (list ++ replicate (t.turns + 1) number) (beside number own' other (line_at s'.memory.contents (take (i + 1) es)))
world_more image o es i number own other own' s s' e list world t at =
    let P = processor (code_of image) in
    let more = replicate (t.turns + 1) number in
    ap (λ (l : List Entry). beside number own' other (line_at s'.memory.contents l)) at.front ∙ t.leads (take i es)
    ∙ ap (short_advance P more) world ∙ sym (advance_append P list more (opening_world image o))

ordered_more : (c : ℕ) (es : List Entry) (i : ℕ) (e : Entry) (own own' : CoreState) (list all more : List ℕ) (n j : ℕ) (qs : List ℕ) (m turns : ℕ) → c < 2 → e.core ≡ c
    → IsEntryAt es i e → own'.count ≡ own.count + (turns + 1) → own'.places ≡ own.places ++ (own.count + turns) ∷ []
    → all ≡ (own.places ++ (own.count + turns) ∷ []) ++ more
    → (list ++ replicate (turns + 1) c) ++ order_by c (cores_of (drop (i + 1) es)) own'.count (drop (length own'.places) all) n j qs m
    ≡ list ++ order_by c (cores_of (drop i es)) own.count (drop (length own.places) all) n j qs m
ordered_more c es i e own own' list all more n j qs m turns lt core at count_is places_is all_is =
    let ahead = replicate (turns + 1) c in
    let cs = cores_of (drop (i + 1) es) in
    append_assoc list ahead (order_by c cs own'.count (drop (length own'.places) all) n j qs m)
    ∙ ap (λ (l : List ℕ). list ++ l)
    (ap (λ (k : ℕ). ahead ++ order_by c cs k (drop (length own'.places) all) n j qs m) count_is
    ∙ ap (λ (l : List ℕ). ahead ++ order_by c cs (own.count + (turns + 1)) (drop (length l) all) n j qs m) places_is
    ∙ sym (order_next c cs own.count (own.count + turns) all own.places more n j qs m turns lt all_is refl)
    ∙ ap (λ (k : ℕ). order_by c (k ∷ cs) own.count (drop (length own.places) all) n j qs m) (sym core)
    ∙ ap (λ (l : List Entry). order_by c (cores_of l) own.count (drop (length own.places) all) n j qs m) (sym at.behind))

longer : (list : List ℕ) (turns number : ℕ) → length (list ++ replicate turns number) ≡ length list + turns
longer list turns number = length-append list (replicate turns number) ∙ ap (λ (n : ℕ). length list + n) (length-replicate {A = ℕ} turns number)

pub more_zero : (image : Image) (o : Options) (es : List Entry) (i : ℕ) (k0 k1 k0' : CoreState) (s s' : Setting) (e : Entry) → StandsAt image o es i k0 k1 s
    → Took (code_of image) 0 k0 k1 k0' s s' i e → e.core ≡ 0 → IsEntryAt es i e → StandsAt image o es (i + 1) k0' k1 s'
more_zero image o es i k0 k1 k0' s s' e h t core at =
    let P = processor (code_of image) in
    let w0 = opening_world image o in
    let r = run_with image o es in
    let turns = t.turns in
    let list = h.list ++ replicate (turns + 1) 0 in
    let world = world_more image o es i 0 k0 k1 k0' s s' e h.list h.world t at in
    let e0 = with_records image o list _ world in
    let k = (world_by image o list).core0 in
    let sp = splits_zero P (opening_of image o) list es (i + 1) (ap (λ (w : ShortWorld State). w.line.history) e0) in
    let rest = (trace_over P k.state k.left (replies_of 0 (drop (i + 1) es))).records in
    let places : r.trace0.places ≡ (k0.places ++ (k0.count + turns) ∷ []) ++ places_from (0 + length k.records) rest =
    places_so_far (records_of 0 image r).records k.records rest (k0.places ++ (k0.count + turns) ∷ []) sp.records
    (ap (λ (w : ShortWorld State). w.core0.places) e0 ∙ t.places_is) in
    let ordered : list ++ order_left r (i + 1) k0' k1 ≡ h.list ++ order_left r i k0 k1 =
    ordered_more 0 es i e k0 k0' h.list r.trace0.places (places_from (0 + length k.records) rest) r.trace0.count k1.count (drop (length k1.places) r.trace1.places) r.trace1.count
    turns (omega arith) core at t.count_is t.places_is places in
    record {
      list = list;
      code_is = t.code_is ∙ h.code_is;
      world = world;
      counted = omega (arith, t.count_is, h.counted, longer h.list (turns + 1) 0);
      grown = omega (arith, h.grown, longer h.list (turns + 1) 0);
      points = t.adds (take i es) h.list w0 at.size h.world h.counted h.points;
      core0_is = t.core_is ∙ h.core0_is;
      core1_is = h.core1_is;
      free = record {
        free0 = t.free_is;
        free1 = h.free.free1;
        few = omega (arith, t.count_is, t.left_is, h.free.few);
        room = t.room_is h.free.room;
      };
      ordered = ordered ∙ h.ordered;
    }

swapped_room : (k0 k1 : CoreState) (s : Setting) → HasRoom k0 k1 s.memory → HasRoom k1 k0 s.memory
swapped_room k0 k1 s h = omega (arith, h)

pub more_one : (image : Image) (o : Options) (es : List Entry) (i : ℕ) (k0 k1 k1' : CoreState) (s s' : Setting) (e : Entry) → StandsAt image o es i k0 k1 s
    → Took (code_of image) 1 k1 k0 k1' s s' i e → e.core ≡ 1 → IsEntryAt es i e → StandsAt image o es (i + 1) k0 k1' s'
more_one image o es i k0 k1 k1' s s' e h t core at =
    let P = processor (code_of image) in
    let w0 = opening_world image o in
    let r = run_with image o es in
    let turns = t.turns in
    let list = h.list ++ replicate (turns + 1) 1 in
    let world = world_more image o es i 1 k1 k0 k1' s s' e h.list h.world t at in
    let e0 = with_records image o list _ world in
    let k = (world_by image o list).core1 in
    let sp = splits_one P (opening_of image o) list es (i + 1) (ap (λ (w : ShortWorld State). w.line.history) e0) in
    let rest = (trace_over P k.state k.left (replies_of 1 (drop (i + 1) es))).records in
    let places : r.trace1.places ≡ (k1.places ++ (k1.count + turns) ∷ []) ++ places_from (0 + length k.records) rest =
    places_so_far (records_of 1 image r).records k.records rest (k1.places ++ (k1.count + turns) ∷ []) sp.records
    (ap (λ (w : ShortWorld State). w.core1.places) e0 ∙ t.places_is) in
    let ordered : list ++ order_left r (i + 1) k0 k1' ≡ h.list ++ order_left r i k0 k1 =
    ordered_more 1 es i e k1 k1' h.list r.trace1.places (places_from (0 + length k.records) rest) r.trace1.count k0.count (drop (length k0.places) r.trace0.places) r.trace0.count
    turns (omega arith) core at t.count_is t.places_is places in
    record {
      list = list;
      code_is = t.code_is ∙ h.code_is;
      world = world;
      counted = omega (arith, t.count_is, h.counted, longer h.list (turns + 1) 1);
      grown = omega (arith, h.grown, longer h.list (turns + 1) 1);
      points = t.adds (take i es) h.list w0 at.size h.world (let c : k1.count + k0.count ≡ length h.list = omega (arith, h.counted) in c) h.points;
      core0_is = h.core0_is;
      core1_is = t.core_is ∙ h.core1_is;
      free = record {
        free0 = h.free.free0;
        free1 = t.free_is;
        few = omega (arith, t.count_is, t.left_is, h.free.few);
        room = swapped_room k1' k0 s' (t.room_is (swapped_room k0 k1 s h.free.room));
      };
      ordered = ordered ∙ h.ordered;
    }
