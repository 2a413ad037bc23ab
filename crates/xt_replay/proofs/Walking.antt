-- A run of an opening at each position of its own schedule.
use Rattle.std.proofs.Common.{◌≡◌, ℕ, zero, suc, ◌+◌, ◌-◌, ◌<◌, ◌≤◌, Option, Some, None, List, [], ◌∷◌, ◌++◌, length, take, drop, get_or, refl, sym, ap, ◌∙◌, subst, append_assoc, arith}
use Rattle.std.specs.Prelude.{slice_get}
use Rattle.std.proofs.lemmas.List.{append-nil, length_push, take_more, drop_more, take-append-drop}
use Rattle.std.proofs.Math.Seq.{take-append_seam}
use Rattle.xt_map.specs.declared.access.Access.{Access}
use Rattle.xt_map.specs.declared.access.Entry.{Entry}
use Rattle.xt_map.specs.Serving.{reply_to}
use Rattle.xt_trace.specs.declared.record.StepRecord.{StepRecord}
use Rattle.xt_trace.specs.Chip.{Chip}
use Rattle.xt_trace.specs.Runs.{Opening, Run, world_at_start, IsRunOf, schedule_of}
use Rattle.xt_trace.specs.Schedule.{cores_of, places_from, schedule_from}
use Rattle.xt_trace.specs.Walks.{IsWalk, next_record, state_at}
use Rattle.xt_trace.specs.Worlds.{Core, Line, World, entry, line_past, core_past, line_given, core_given, give, advance, answer}
use Rattle.xt_trace.proofs.Ends.{advance_append}
use Rattle.xt_trace.proofs.Own.{done, own_world}
use Rattle.xt_trace.proofs.Walks.{own_walk}
use Rattle.xt_replay.specs.Stands.{next_of}
use Rattle.xt_replay.proofs.Listing.{Ahead, One, Split, Zero, ended, listed, past, split, step0, step1}

-- ---- one turn of a core that has one left

abbrev demanded : {S : Type 0} (P : Chip S) → Core S → Option Access
demanded P k = P.demand k.state

pub core_turned : {S : Type 0} (P : Chip S) (k : Core S) (b : Line) (n : ℕ) → 0 < n → core_given P n k b ≡ core_past P k (n - 1) (answer (P.demand k.state) b.memory)
core_turned P k b zero h = absurd (omega arith)
core_turned P k b (suc n) h = ap (λ (m : ℕ). core_past P k m (answer (P.demand k.state) b.memory)) (let e : n ≡ suc n - 1 = omega arith in e)

pub line_turned : {S : Type 0} (P : Chip S) (c : ℕ) (k : Core S) (b : Line) (n : ℕ) → 0 < n → line_given P c n k b ≡ line_past c (P.demand k.state) b
line_turned P c k b zero h = absurd (omega arith)
line_turned P c k b (suc n) h = refl

more_records : {S : Type 0} (P : Chip S) (k : Core S) (b : Line) → 0 < k.left → length (core_given P k.left k b).records ≡ suc (length k.records)
more_records {S = S} P k b h =
    ap (λ (x : Core S). length x.records) (core_turned P k b k.left h) ∙ length_push k.records (P.turn k.state (answer (P.demand k.state) b.memory)).0
    ∙ (let e : length k.records + 1 ≡ suc (length k.records) = omega arith in e)

drop_one : {X : Type 0} (n : ℕ) (xs : List X) (x : X) (rest : List X) → drop n xs ≡ x ∷ rest → drop (suc n) xs ≡ rest
drop_one {X = X} zero xs x rest e = ap (drop 1) e
drop_one {X = X} (suc n) [] x rest e = absurd cc
drop_one {X = X} (suc n) (y ∷ xs) x rest e = drop_one n xs x rest e

drop_none : {X : Type 0} (n : ℕ) (xs : List X) → drop n xs ≡ [] → drop (suc n) xs ≡ []
drop_none {X = X} zero xs e = ap (drop 1) e
drop_none {X = X} (suc n) [] e = refl
drop_none {X = X} (suc n) (y ∷ xs) e = drop_none n xs e

entries_past : (n : ℕ) (a : Access) (h es : List Entry) → drop n h ≡ es → drop (suc n) h ≡ past (Some a) es
entries_past n a h [] e = drop_none n h e
entries_past n a h (x ∷ es) e = drop_one n h x es e

entries_on : (c : ℕ) (d : Option Access) (b : Line) (h es : List Entry) → drop (length b.history) h ≡ es → drop (length (line_past c d b).history) h ≡ past d es
entries_on c None b h es e = e
entries_on c (Some a) b h es e =
    ap (λ (n : ℕ). drop n h) (length_push b.history (entry c a (reply_to b.memory a)) ∙ (let q : length b.history + 1 ≡ suc (length b.history) = omega arith in q))
    ∙ entries_past (length b.history) a h es e

-- ---- where a run stands

pub record At {S : Type 0} (P : Chip S) (r : Run S) (p : ℕ) (w : World S) : Type 0 where
  pub es : List Entry
  pub xs : List StepRecord
  pub ys : List StepRecord
  pub list : drop p (schedule_of r) ≡ listed es (length w.core0.records) xs (length w.core1.records) ys
  pub ahead : Ahead es xs ys
  pub walk : IsWalk P (drop p (schedule_of r)) w xs ys
  pub count0 : length w.core0.records + length xs ≡ length r.trace0.records
  pub count1 : length w.core1.records + length ys ≡ length r.trace1.records
  pub entries : drop (length w.line.history) r.history ≡ es
  pub all0 : w.core0.records ++ xs ≡ r.trace0.records
  pub all1 : w.core1.records ++ ys ≡ r.trace1.records
  pub sum : length w.core0.records + length w.core1.records ≡ p

abbrev pub side : {S : Type 0} → ℕ → World S → Core S
side zero w = w.core0
side (suc c) w = w.core1

abbrev pub made : {S : Type 0} → ℕ → World S → ℕ
made c w = length (side c w).records

abbrev pub recorded : {S : Type 0} → ℕ → Run S → List StepRecord
recorded zero r = r.trace0.records
recorded (suc c) r = r.trace1.records

-- the next step is one turn of this core
pub record Next {S : Type 0} (P : Chip S) (r : Run S) (p : ℕ) (w : World S) (c : ℕ) : Type 0 where
  pub here : get_or (schedule_of r) p 0 ≡ c
  pub left : 0 < (side c w).left
  pub next : next_of (drop (length w.line.history) r.history) (length w.core0.records) (length r.trace0.records) ≡ c
  pub on : At P r (p + 1) (give P c w)
  pub record_is : slice_get (recorded c r) (made c w) ≡ Some (next_record P (side c w) w.line)

at_seam : (xs : List StepRecord) (x : StepRecord) (ys : List StepRecord) → slice_get (xs ++ (x ∷ ys)) (length xs) ≡ Some x
at_seam [] x ys = refl
at_seam (y ∷ xs) x ys = at_seam xs x ys

-- the record after those that were made
record_there : (xs : List StepRecord) (x : StepRecord) (ys all : List StepRecord) → xs ++ (x ∷ ys) ≡ all → slice_get all (length xs) ≡ Some x
record_there xs x ys all e = sym (ap (λ (l : List StepRecord). slice_get l (length xs)) e) ∙ at_seam xs x ys

-- all records are those that were made, the next one, and the rest
made_next : (xs left : List StepRecord) (x y : StepRecord) (rest all : List StepRecord) → left ≡ y ∷ rest → y ≡ x → xs ++ left ≡ all → xs ++ (x ∷ rest) ≡ all
made_next xs left x y rest all splits same whole =
    ap (λ (l : List StepRecord). xs ++ l) (sym (splits ∙ ap (λ (z : StepRecord). z ∷ rest) same)) ∙ whole

-- the same after the turn
made_more : {S : Type 0} (P : Chip S) (k : Core S) (b : Line) (rest all : List StepRecord) → 0 < k.left → k.records ++ (next_record P k b ∷ rest) ≡ all
    → (core_given P k.left k b).records ++ rest ≡ all
made_more {S = S} P k b rest all h whole =
    ap (λ (x : Core S). x.records ++ rest) (core_turned P k b k.left h) ∙ append_assoc k.records (next_record P k b ∷ []) rest ∙ whole

head_is : (p : ℕ) (l : List ℕ) (c : ℕ) (t : List ℕ) → p < length l → drop p l ≡ c ∷ t → (get_or l p 0 ≡ c) × (drop (p + 1) l ≡ t)
head_is p l c t lt e =
    let both : get_or l p 0 ∷ drop (p + 1) l ≡ c ∷ t = sym (drop_more l p 0 lt) ∙ e in
    (cc, cc)

first_is : (x y : StepRecord) (xs ys : List StepRecord) → x ∷ xs ≡ y ∷ ys → (x ≡ y) × (xs ≡ ys)
first_is x y xs ys e = (cc, cc)

next_zero : {S : Type 0} (P : Chip S) (r : Run S) (p : ℕ) (w : World S) (a : At P r p w) → p < length (schedule_of r)
    → Zero a.es (length w.core0.records) a.xs (length w.core1.records) a.ys → Next P r p w 0
next_zero {S = S} P r p w a lt z =
    let l = schedule_of r in
    let i = length w.core0.records in
    let j = length w.core1.records in
    let x = next_record P w.core0 w.line in
    let rest_list = listed (past z.first.access a.es) (suc i) z.rest j a.ys in
    let here = head_is p l 0 rest_list lt (a.list ∙ z.list) in
    let W : List ℕ → Type 0 = λ q. IsWalk P q w a.xs a.ys in
    let walk = subst W (a.list ∙ z.list) a.walk in
    let same = first_is z.first x z.rest walk.0 (sym z.splits ∙ walk.1) in
    let asked : z.first.access ≡ P.demand w.core0.state =
    ap (λ (s : StepRecord). s.access) same.0 ∙ P.asks w.core0.state (answer (P.demand w.core0.state) w.line.memory) in
    let w2 = give P 0 w in
    let es2 = past z.first.access a.es in
    let more : suc i ≡ length w2.core0.records = sym (more_records P w.core0 w.line walk.2) in
    let whole = made_next w.core0.records a.xs x z.first z.rest r.trace0.records z.splits same.0 a.all0 in
    let V : List StepRecord → Type 0 = λ xs. IsWalk P (drop (p + 1) l) w2 xs a.ys in
    let U : List ℕ → Type 0 = λ q. IsWalk P q w2 walk.0 a.ys in
    let long : length a.xs ≡ suc (length z.rest) = ap length z.splits in
    record {
      here = here.0;
      left = walk.2;
      next = ap (λ (es : List Entry). next_of es i (length r.trace0.records)) a.entries ∙ ap (next_of a.es i) (sym a.count0) ∙ z.next;
      on = record {
        es = es2;
        xs = z.rest;
        ys = a.ys;
        list = here.1 ∙ ap (λ (k : ℕ). listed es2 k z.rest j a.ys) more;
        ahead = z.ahead;
        walk = subst V (sym same.1) (subst U (sym here.1) walk.3);
        count0 = omega (arith, more, long, a.count0);
        count1 = a.count1;
        entries = ap (λ (b : Line). drop (length b.history) r.history) (line_turned P 0 w.core0 w.line w.core0.left walk.2)
            ∙ entries_on 0 (P.demand w.core0.state) w.line r.history a.es a.entries
            ∙ ap (λ (d : Option Access). past d a.es) (sym asked);
        all0 = made_more P w.core0 w.line z.rest r.trace0.records walk.2 whole;
        all1 = a.all1;
        sum = omega (arith, more, a.sum);
      };
      record_is = record_there w.core0.records x z.rest r.trace0.records whole;
    }

next_one : {S : Type 0} (P : Chip S) (r : Run S) (p : ℕ) (w : World S) (a : At P r p w) → p < length (schedule_of r)
    → One a.es (length w.core0.records) a.xs (length w.core1.records) a.ys → Next P r p w 1
next_one {S = S} P r p w a lt z =
    let l = schedule_of r in
    let i = length w.core0.records in
    let j = length w.core1.records in
    let x = next_record P w.core1 w.line in
    let rest_list = listed (past z.first.access a.es) i a.xs (suc j) z.rest in
    let here = head_is p l 1 rest_list lt (a.list ∙ z.list) in
    let W : List ℕ → Type 0 = λ q. IsWalk P q w a.xs a.ys in
    let walk = subst W (a.list ∙ z.list) a.walk in
    let same = first_is z.first x z.rest walk.0 (sym z.splits ∙ walk.1) in
    let asked : z.first.access ≡ P.demand w.core1.state =
    ap (λ (s : StepRecord). s.access) same.0 ∙ P.asks w.core1.state (answer (P.demand w.core1.state) w.line.memory) in
    let w2 = give P 1 w in
    let es2 = past z.first.access a.es in
    let more : suc j ≡ length w2.core1.records = sym (more_records P w.core1 w.line walk.2) in
    let whole = made_next w.core1.records a.ys x z.first z.rest r.trace1.records z.splits same.0 a.all1 in
    let V : List StepRecord → Type 0 = λ ys. IsWalk P (drop (p + 1) l) w2 a.xs ys in
    let U : List ℕ → Type 0 = λ q. IsWalk P q w2 a.xs walk.0 in
    let long : length a.ys ≡ suc (length z.rest) = ap length z.splits in
    record {
      here = here.0;
      left = walk.2;
      next = ap (λ (es : List Entry). next_of es i (length r.trace0.records)) a.entries ∙ ap (next_of a.es i) (sym a.count0) ∙ z.next;
      on = record {
        es = es2;
        xs = a.xs;
        ys = z.rest;
        list = here.1 ∙ ap (λ (k : ℕ). listed es2 i a.xs k z.rest) more;
        ahead = z.ahead;
        walk = subst V (sym same.1) (subst U (sym here.1) walk.3);
        count0 = a.count0;
        count1 = omega (arith, more, long, a.count1);
        entries = ap (λ (b : Line). drop (length b.history) r.history) (line_turned P 1 w.core1 w.line w.core1.left walk.2)
            ∙ entries_on 1 (P.demand w.core1.state) w.line r.history a.es a.entries
            ∙ ap (λ (d : Option Access). past d a.es) (sym asked);
        all0 = a.all0;
        all1 = made_more P w.core1 w.line z.rest r.trace1.records walk.2 whole;
        sum = omega (arith, more, a.sum);
      };
      record_is = record_there w.core1.records x z.rest r.trace1.records whole;
    }

pub data Turn {S : Type 0} (P : Chip S) (r : Run S) (p : ℕ) (w : World S) : Type 0 where
  turn0 : Next P r p w 0 → Turn P r p w
  turn1 : Next P r p w 1 → Turn P r p w

next_by : {S : Type 0} (P : Chip S) (r : Run S) (p : ℕ) (w : World S) (a : At P r p w) → p < length (schedule_of r)
    → Split a.es (length w.core0.records) a.xs (length w.core1.records) a.ys → Turn P r p w
next_by P r p w a lt (step0 z) = turn0 (next_zero P r p w a lt z)
next_by P r p w a lt (step1 z) = turn1 (next_one P r p w a lt z)
next_by P r p w a lt (ended z) =
    absurd (let none : get_or (schedule_of r) p 0 ∷ drop (p + 1) (schedule_of r) ≡ [] = sym (drop_more (schedule_of r) p 0 lt) ∙ a.list ∙ z.list in cc)

pub next_turn : {S : Type 0} (P : Chip S) (r : Run S) (p : ℕ) (w : World S) → At P r p w → p < length (schedule_of r) → Turn P r p w
next_turn P r p w a lt = next_by P r p w a lt (split a.es (length w.core0.records) a.xs (length w.core1.records) a.ys a.ahead)

-- ---- every position

pub state_on : {S : Type 0} (P : Chip S) (o : Opening S) (l : List ℕ) (p c : ℕ) → p < length l → get_or l p 0 ≡ c → state_at P o l (p + 1) ≡ give P c (state_at P o l p)
state_on {S = S} P o l p c lt here =
    ap (λ (q : List ℕ). advance P q (world_at_start o)) (take_more l p 0 lt) ∙ advance_append P (take p l) (get_or l p 0 ∷ []) (world_at_start o)
    ∙ ap (λ (k : ℕ). give P k (state_at P o l p)) here

at_start : {S : Type 0} (P : Chip S) (o : Opening S) (r : Run S) → IsRunOf P o r → At P r 0 (state_at P o (schedule_of r) 0)
at_start {S = S} P o r h =
    let from_start : ℕ → ℕ → List ℕ = λ n m. schedule_from (cores_of r.history) 0 (places_from 0 r.trace0.records) n 0 (places_from 0 r.trace1.records) m in record {
      es = r.history;
      xs = r.trace0.records;
      ys = r.trace1.records;
      list = ap (λ (n : ℕ). from_start n (length r.trace1.records)) (let e : length r.trace0.records ≡ 0 + length r.trace0.records = omega arith in e)
          ∙ ap (from_start (0 + length r.trace0.records)) (let e : length r.trace1.records ≡ 0 + length r.trace1.records = omega arith in e);
      ahead = record { cores = h.cores; calls0 = h.calls0; calls1 = h.calls1 };
      walk = own_walk P o r h;
      count0 = omega arith;
      count1 = omega arith;
      entries = refl;
      all0 = refl;
      all1 = refl;
      sum = omega arith;
    }

at_more : {S : Type 0} (P : Chip S) (o : Opening S) (r : Run S) (p : ℕ) → p < length (schedule_of r) → Turn P r p (state_at P o (schedule_of r) p)
    → At P r (p + 1) (state_at P o (schedule_of r) (p + 1))
at_more {S = S} P o r p lt (turn0 n) =
    let F : World S → Type 0 = λ w. At P r (p + 1) w in subst F (sym (state_on P o (schedule_of r) p 0 lt n.here)) n.on
at_more {S = S} P o r p lt (turn1 n) =
    let F : World S → Type 0 = λ w. At P r (p + 1) w in subst F (sym (state_on P o (schedule_of r) p 1 lt n.here)) n.on

pub at : {S : Type 0} (P : Chip S) (o : Opening S) (r : Run S) → IsRunOf P o r → (p : ℕ) → p ≤ length (schedule_of r) → At P r p (state_at P o (schedule_of r) p)
at P o r h zero le = at_start P o r h
at {S = S} P o r h (suc p) le =
    let lt : p < length (schedule_of r) = omega arith in
    let F : ℕ → Type 0 = λ q. At P r q (state_at P o (schedule_of r) q) in
    subst F (let e : p + 1 ≡ suc p = omega arith in e)
    (at_more P o r p lt (next_turn P r p (state_at P o (schedule_of r) p) (at P o r h p (omega arith)) lt))

-- the schedule has each step once
listed_long : (N : ℕ) (es : List Entry) (i : ℕ) (xs : List StepRecord) (j : ℕ) (ys : List StepRecord) → length xs + length ys ≤ N → Ahead es xs ys
    → length (listed es i xs j ys) ≡ length xs + length ys
listed_long zero es i xs j ys le h =
    elim (split es i xs j ys h) [
      | step0 z ↦ absurd (omega (arith, ap length z.splits))
      | step1 z ↦ absurd (omega (arith, ap length z.splits))
      | ended z ↦ omega (arith, ap length z.list, ap length z.xs_is, ap length z.ys_is)
    ]
listed_long (suc N) es i xs j ys le h =
    elim (split es i xs j ys h) [
      | step0 z ↦
          let long : length xs ≡ suc (length z.rest) = ap length z.splits in
          let rest : length (listed (past z.first.access es) (suc i) z.rest j ys) ≡ length z.rest + length ys =
          listed_long N (past z.first.access es) (suc i) z.rest j ys (omega arith) z.ahead in
          omega (arith, ap length z.list)
      | step1 z ↦
          let long : length ys ≡ suc (length z.rest) = ap length z.splits in
          let rest : length (listed (past z.first.access es) i xs (suc j) z.rest) ≡ length xs + length z.rest =
          listed_long N (past z.first.access es) i xs (suc j) z.rest (omega arith) z.ahead in
          omega (arith, ap length z.list)
      | ended z ↦ omega (arith, ap length z.list, ap length z.xs_is, ap length z.ys_is)
    ]

pub long : {S : Type 0} (P : Chip S) (o : Opening S) (r : Run S) → IsRunOf P o r → length (schedule_of r) ≡ length r.trace0.records + length r.trace1.records
unfolding at_start
long {S = S} P o r h =
    let a : At P r 0 (state_at P o (schedule_of r) 0) = at_start P o r h in
    ap length a.list
    ∙ listed_long (length r.trace0.records + length r.trace1.records) r.history 0 r.trace0.records 0 r.trace1.records (omega arith) a.ahead

-- ---- the entries before a position are the first of the history

record Grows (old new : List Entry) : Type 0 where
  more : List Entry
  is : new ≡ old ++ more

past_grows : (c : ℕ) (d : Option Access) (b : Line) → Grows b.history (line_past c d b).history
past_grows c None b = record { more = []; is = sym (append-nil b.history) }
past_grows c (Some a) b = record { more = entry c a (reply_to b.memory a) ∷ []; is = refl }

line_grows : {S : Type 0} (P : Chip S) (c n : ℕ) (k : Core S) (b : Line) → Grows b.history (line_given P c n k b).history
line_grows P c zero k b = record { more = []; is = sym (append-nil b.history) }
line_grows P c (suc n) k b = past_grows c (P.demand k.state) b

give_grows : {S : Type 0} (P : Chip S) (c : ℕ) (w : World S) → Grows w.line.history (give P c w).line.history
give_grows P zero w = line_grows P 0 w.core0.left w.core0 w.line
give_grows P (suc c) w = line_grows P 1 w.core1.left w.core1 w.line

advance_grows : {S : Type 0} (P : Chip S) (list : List ℕ) (w : World S) → Grows w.line.history (advance P list w).line.history
advance_grows P [] w = record { more = []; is = sym (append-nil w.line.history) }
advance_grows P (c ∷ cs) w =
    let g = give_grows P c w in
    let h = advance_grows P cs (give P c w) in
    record { more = g.more ++ h.more; is = h.is ∙ ap (λ (l : List Entry). l ++ h.more) g.is ∙ append_assoc w.line.history g.more h.more }

pub history_at : {S : Type 0} (P : Chip S) (o : Opening S) (r : Run S) → IsRunOf P o r → (p : ℕ)
    → (state_at P o (schedule_of r) p).line.history ≡ take (length (state_at P o (schedule_of r) p).line.history) r.history
history_at {S = S} P o r h p =
    let l = schedule_of r in
    let w = state_at P o l p in
    let g = advance_grows P (drop p l) w in
    let whole : advance P (drop p l) w ≡ done P (world_at_start o) r.history =
    sym (advance_append P (take p l) (drop p l) (world_at_start o)) ∙ ap (λ (q : List ℕ). advance P q (world_at_start o)) (take-append-drop p l) ∙ own_world P o r h in
    let all : w.line.history ++ g.more ≡ r.history = sym g.is ∙ ap (λ (v : World S). v.line.history) whole in
    sym (take-append_seam w.line.history g.more) ∙ ap (take (length w.line.history)) all
