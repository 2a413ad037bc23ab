-- One turn keeps what holds of every world that turns lead to.
use Rattle.std.proofs.Common.{◌≡◌, ℕ, zero, suc, ◌<◌, ◌==◌, Bool, true, false, cond, Option, Some, None, List, [], ◌∷◌, ◌++◌, refl, sym, ap, ◌∙◌, arith}
use Rattle.std.proofs.lemmas.List.{append-nil}
use Rattle.xt_map.specs.declared.access.Access.{Access}
use Rattle.xt_map.specs.declared.contents.MemoryContents.{MemoryContents}
use Rattle.xt_map.specs.Serving.{memory_past, reply_to}
use Rattle.xt_map.specs.History.{memory_after, IsLegal, IsOfCores}
use Rattle.xt_trace.specs.Worlds.{entry, answer}
use Rattle.xt_map.proofs.Grown.{calls_of_push, memory_after_push, legal_push, of_cores_push}
use Rattle.xt_trace.specs.Chip.{Chip}
use Rattle.xt_trace.specs.Calls.{call_before}
use Rattle.xt_map.specs.History.{calls_of}
use Rattle.xt_trace.specs.Worlds.{Core, Line, World, core_past, line_past, line_given, core_given, give, advance}
use Rattle.xt_trace.specs.Runs.{Opening, world_at_start}
use Rattle.xt_trace.specs.Driven.{Drove}
use Rattle.xt_trace.specs.Reached.{Reached}
use Rattle.xt_trace.proofs.Driven.{drove_none, drove_local, drove_call}

-- the calls of the core that made the turn
calls_of_own : (c : ℕ) (d : Option Access) (b : Line) → (c == c) ≡ true
    → calls_of c (line_past c d b).history ≡ calls_of c b.history ++ call_before d (answer d b.memory) []
calls_of_own c None b same = sym (append-nil (calls_of c b.history))
calls_of_own c (Some a) b same =
    calls_of_push c b.history (entry c a (reply_to b.memory a))
    ∙ ap (λ (t : Bool). calls_of c b.history ++ cond t ((a, reply_to b.memory a) ∷ []) []) same

-- and those of the other core
calls_of_other : (c o : ℕ) (d : Option Access) (b : Line) → (c == o) ≡ false → calls_of o (line_past c d b).history ≡ calls_of o b.history
calls_of_other c o None b apart = refl
calls_of_other c o (Some a) b apart =
    calls_of_push o b.history (entry c a (reply_to b.memory a))
    ∙ ap (λ (t : Bool). calls_of o b.history ++ cond t ((a, reply_to b.memory a) ∷ []) []) apart
    ∙ append-nil (calls_of o b.history)

core_call : {S : Type 0} (P : Chip S) (c : ℕ) (from k : Core S) (b : Line) (n : ℕ) (d : Option Access) → (c == c) ≡ true → k.left ≡ suc n → P.demand k.state ≡ d
    → Drove P from k (calls_of c b.history) → Drove P from (core_past P k n (answer d b.memory)) (calls_of c (line_past c d b).history)
core_call P c from k b n None same left e h = drove_local P from k (calls_of c b.history) n left e h
core_call P c from k b n (Some a) same left e h =
    rw (calls_of_own c (Some a) b same) (drove_call P from k (calls_of c b.history) n a (reply_to b.memory a) left e h)

core_turn : {S : Type 0} (P : Chip S) (c : ℕ) (from k : Core S) (b : Line) (n : ℕ) → (c == c) ≡ true → k.left ≡ n → Drove P from k (calls_of c b.history)
    → Drove P from (core_given P n k b) (calls_of c (line_given P c n k b).history)
core_turn P c from k b zero same left h = h
core_turn P c from k b (suc n) same left h = core_call P c from k b n (P.demand k.state) same left refl h

core_idle : {S : Type 0} (P : Chip S) (c o : ℕ) (from k mine : Core S) (b : Line) (n : ℕ) → (c == o) ≡ false → Drove P from k (calls_of o b.history)
    → Drove P from k (calls_of o (line_given P c n mine b).history)
core_idle P c o from k mine b zero apart h = h
core_idle P c o from k mine b (suc n) apart h = rw (calls_of_other c o (P.demand mine.state) b apart) h

-- the line's part
record LineReached (m : MemoryContents) (b : Line) : Type 0 where
  legal : IsLegal m b.history
  memory : b.memory ≡ memory_after m b.history
  cores : IsOfCores b.history

line_step : (m : MemoryContents) (c : ℕ) (d : Option Access) (b : Line) → c < 2 → LineReached m b → LineReached m (line_past c d b)
line_step m c None b lt h = h
line_step m c (Some a) b lt h =
    let e = entry c a (reply_to b.memory a) in
    record {
      legal = legal_push m b.history e h.legal (ap (λ (l : MemoryContents). reply_to l a) h.memory);
      memory = ap (λ (l : MemoryContents). memory_past l a) h.memory ∙ sym (memory_after_push m b.history e);
      cores = of_cores_push b.history e h.cores lt;
    }

line_turn : {S : Type 0} (P : Chip S) (m : MemoryContents) (c : ℕ) (k : Core S) (b : Line) (n : ℕ) → c < 2 → LineReached m b → LineReached m (line_given P c n k b)
line_turn P m c k b zero lt h = h
line_turn P m c k b (suc n) lt h = line_step m c (P.demand k.state) b lt h

line_in : {S : Type 0} (P : Chip S) (o : Opening S) (w : World S) → Reached P o w → LineReached o.memory w.line
line_in P o w h = record { legal = h.legal; memory = h.memory; cores = h.cores }

-- one turn of a core keeps the invariant
pub give_keeps : {S : Type 0} (P : Chip S) (o : Opening S) (c : ℕ) (w : World S) → Reached P o w → Reached P o (give P c w)
give_keeps P o zero w h =
    let l = line_turn P o.memory 0 w.core0 w.line w.core0.left (omega arith) (line_in P o w h) in
    record {
      legal = l.legal;
      memory = l.memory;
      cores = l.cores;
      zero = core_turn P 0 (world_at_start o).core0 w.core0 w.line w.core0.left refl refl h.zero;
      one = core_idle P 0 1 (world_at_start o).core1 w.core1 w.core0 w.line w.core0.left refl h.one;
    }
give_keeps P o (suc c) w h =
    let l = line_turn P o.memory 1 w.core1 w.line w.core1.left (omega arith) (line_in P o w h) in
    record {
      legal = l.legal;
      memory = l.memory;
      cores = l.cores;
      zero = core_idle P 1 0 (world_at_start o).core0 w.core0 w.core1 w.line w.core1.left refl h.zero;
      one = core_turn P 1 (world_at_start o).core1 w.core1 w.line w.core1.left refl refl h.one;
    }

pub advance_keeps : {S : Type 0} (P : Chip S) (o : Opening S) (list : List ℕ) (w : World S) → Reached P o w → Reached P o (advance P list w)
advance_keeps P o [] w h = h
advance_keeps P o (c ∷ cs) w h = advance_keeps P o cs (give P c w) (give_keeps P o c w h)

pub opened_reached : {S : Type 0} (P : Chip S) (o : Opening S) → Reached P o (world_at_start o)
opened_reached P o =
    record {
      legal = λ k e at. absurd cc;
      memory = refl;
      cores = λ k e at. absurd cc;
      zero = drove_none P (world_at_start o).core0;
      one = drove_none P (world_at_start o).core1;
    }
