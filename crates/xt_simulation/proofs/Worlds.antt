-- Two worlds that agree in what is known go on so.
use Rattle.std.proofs.Common.{◌≡◌, ℕ, zero, suc, ◌^◌, ◌<◌, Bool, true, false, cond, ◌&&◌, Option, Some, None, [], ◌∷◌, refl, sym, ap, ◌∙◌, subst, arith}
use Rattle.std.proofs.lemmas.Bool.{and_parts}
use Rattle.xt_map.specs.declared.access.Access.{Access}
use Rattle.xt_map.specs.declared.contents.MemoryContents.{MemoryContents}
use Rattle.xt_map.specs.Memory.{byte_at}
use Rattle.xt_map.specs.Touching.{IsMemory, is_store, touches}
use Rattle.xt_map.proofs.Small.{past_memory, to_small}
use Rattle.xt_trace.specs.declared.record.StepRecord.{StepRecord}
use Rattle.xt_trace.specs.declared.record.StepKind.{StepKind}
use Rattle.xt_trace.specs.Chip.{Chip}
use Rattle.xt_trace.specs.Calls.{is_stop}
use Rattle.xt_trace.specs.Worlds.{Core, Line, World, answer, core_given, give, left_past, line_given, line_past, memory_left}
use Rattle.xt_map.specs.Code.{AreBytes}
use Rattle.xt_map.specs.Fetching.{fetch_at}
use Rattle.xt_exec.specs.Chips.{processor}
use Rattle.xt_exec.specs.State.{State}
use Rattle.xt_exec.specs.Turn.{demand, planned_turn, turn}
use Rattle.xt_exec.specs.TurnLaws.{IsServed, IsShaped}
use Rattle.xt_exec.proofs.Served.{demand_served}
use Rattle.xt_exec.proofs.Shapes.{turn_shaped}
use Rattle.xt_uses.specs.Words.{masked}
use Rattle.xt_uses.specs.UseLaws.{AgreeIn}
use Rattle.xt_uses.specs.UseStep.{reply_mask}
use Rattle.xt_simulation.specs.SecretBytes.{mask_stored}
use Rattle.xt_uses.specs.FirstUse.{stored_byte}
use Rattle.xt_simulation.specs.Knowledge.{AreMasks, Knowledge, StatesAgree}
use Rattle.xt_simulation.specs.TurnUses.{common_used, found_used, kind_used, turn_used}
use Rattle.xt_simulation.specs.Learning.{stored_in}
use Rattle.xt_simulation.specs.SecretBytes.{MemoriesAgree, bytes_past}
use Rattle.xt_simulation.specs.SecretLaws.{AccessAgrees, FitsAccess, SentAgrees, TurnsAgree, executed}
use Rattle.xt_simulation.specs.SecretWorlds.{Learned, core_in, given_learned, given_used, next_used, next_learned}
use Rattle.xt_simulation.specs.WorldLaws.{IsLearned, IsShapedWorld, NextAgree, OrdersGoOnAlike, PublicAgree, WorldsAgree, WorldsGoOnAlike}
use Rattle.xt_simulation.proofs.Law.{accesses_agree, turns_with_known_uses_agree}
use Rattle.xt_simulation.proofs.Numbers.{reply_word}
use Rattle.xt_simulation.proofs.SecretMemories.{accesses_too}
use Rattle.xt_simulation.proofs.Staying.{masks_stay}

-- ---- replies

pub reply_small : (bytes : ℕ → ℕ) (a : Option Access) → IsServed a → reply_mask bytes a < 2 ^ 32
reply_small bytes None served = omega arith
reply_small bytes (Some a) served = reply_word bytes a served

answer_small : (m : MemoryContents) (a : Option Access) → IsMemory m → IsServed a → answer a m < 2 ^ 32
answer_small m None r served = omega arith
answer_small m (Some a) r served = to_small m a r served

pub reply_fits : (bytes : ℕ → ℕ) (a : Option Access) → FitsAccess a (reply_mask bytes a)
reply_fits bytes None = refl
reply_fits bytes (Some a) = tt

left_memory : (a : Option Access) (m : MemoryContents) → IsMemory m → IsMemory (memory_left a m)
left_memory None m r = r
left_memory (Some a) m r = past_memory m a r

-- ---- one turn of a core on memory

module _ (code : ℕ → ℕ) (bytes : AreBytes code) (m : Knowledge) (masks : AreMasks m) (kb : ℕ → ℕ) (small : (a : ℕ) → kb a < 2 ^ 8) (s t : State) (f : IsShaped s) (g : IsShaped t) (agree : StatesAgree m s t) (x y : MemoryContents) (r : IsMemory x)
    (w : IsMemory y) (same : MemoriesAgree kb x y) where
  abbrev reply : ℕ
  reply = reply_mask kb (demand code s)

  abbrev one : StepRecord × State
  one = turn code s (answer (demand code s) x)

  abbrev two : StepRecord × State
  two = turn code t (answer (demand code t) y)

  -- by what the record of the first turn tells
  abbrev Used : Type 0
  Used = turn_used code one.0.kind one.0.access (reply_mask kb one.0.access) m s ≡ true

  planned_used : Used → turn_used code (planned_turn code s).kind (planned_turn code s).access (reply_mask kb (planned_turn code s).access) m s ≡ true
  unfolding turn demand
  planned_used used = used

  found : Used → found_used (demand code s) reply ≡ true
  unfolding turn demand turn_used
  found used =
      let p = planned_turn code s in
      let a = and_parts (common_used m s) (kind_used p.kind (fetch_at code s.control.pc) m s && found_used p.access (reply_mask kb p.access)) used in
      (and_parts (kind_used p.kind (fetch_at code s.control.pc) m s) (found_used p.access (reply_mask kb p.access)) a.1).1

  -- the same access
  accesses : Used → AccessAgrees (stored_in (executed code s one.0) m s) (demand code s) (demand code t) × SentAgrees (demand code s) (demand code t)
  unfolding turn demand
  accesses used =
      let served = demand_served code s in
      accesses_agree code m s t (reply_mask kb (planned_turn code s).access) bytes masks f g agree (reply_small kb (planned_turn code s).access served) (reply_fits kb (planned_turn code s).access) used

  memories : Used
      → AgreeIn reply (answer (demand code s) x) (answer (demand code t) y) × MemoriesAgree (mask_stored (stored_in (executed code s one.0) m s) (demand code s) kb) (memory_left (demand code s) x) (memory_left (demand code t) y)
  memories used =
      let a = accesses used in
      accesses_too kb small x y r w same (stored_in (executed code s one.0) m s) (demand code s) (demand code t) (demand_served code s) a.0 a.1 (found used)

  pub turns : Used → TurnsAgree code reply m s one two
  unfolding turn demand
  turns used =
      let served = demand_served code s in
      turns_with_known_uses_agree code m s t reply (answer (demand code s) x) (answer (demand code t) y) bytes masks f g agree (reply_small kb (demand code s) served) (answer_small x (demand code s) r served)
      (answer_small y (demand code t) w (demand_served code t)) (memories used).0 (reply_fits kb (demand code s)) used

  -- the masks of bytes, where public bytes are the same
  past_bytes : (public : ℕ → Bool) → Used → ((a : ℕ) → public a ≡ true → byte_at (memory_left (demand code s) x) a ≡ byte_at (memory_left (demand code t) y) a)
      → MemoriesAgree (bytes_past public (stored_in (executed code s one.0) m s) (demand code s) kb) (memory_left (demand code s) x) (memory_left (demand code t) y)
  past_bytes public used equal = record {
    bytes = λ a. by_test a (public a) refl;
    sent = (memories used).1.sent;
  }
    where
      by_test : (a : ℕ) (b : Bool) → public a ≡ b
          → AgreeIn (cond b 255 (mask_stored (stored_in (executed code s one.0) m s) (demand code s) kb a)) (byte_at (memory_left (demand code s) x) a) (byte_at (memory_left (demand code t) y) a)
      by_test a true e = ap (masked 255) (equal a e)
      by_test a false e = (memories used).1.bytes a

-- masks of bytes stay below 256
bytes_small : (public : ℕ → Bool) (stored : ℕ) (access : Option Access) (kb : ℕ → ℕ) → ((a : ℕ) → kb a < 2 ^ 8) → (a : ℕ) → bytes_past public stored access kb a < 2 ^ 8
bytes_small public stored access kb small a = by_public (public a) access
  where
    stored_or : (b : Bool) (addr : ℕ) → cond b (stored_byte stored addr a) (kb a) < 2 ^ 8
    stored_or true addr = omega arith
    stored_or false addr = small a

    by_public : (b : Bool) (o : Option Access) → cond b 255 (mask_stored stored o kb a) < 2 ^ 8
    by_public true o = omega arith
    by_public false None = small a
    by_public false (Some x) = stored_or (is_store x.kind && touches x.addr x.size a) x.addr

-- ---- one core of two worlds

module _ (code : ℕ → ℕ) (bytes : AreBytes code) (public : ℕ → Bool) (m : Knowledge) (masks : AreMasks m) (kb : ℕ → ℕ) (small : (a : ℕ) → kb a < 2 ^ 8) (kv kw : Core State) (bv bw : Line) (f : IsShaped kv.state) (g : IsShaped kw.state)
    (agree : StatesAgree m kv.state kw.state) (r : IsMemory bv.memory) (w : IsMemory bw.memory) (same : MemoriesAgree kb bv.memory bw.memory) where
  abbrev first : StepRecord × State
  first = turn code kv.state (answer (demand code kv.state) bv.memory)

  abbrev second : StepRecord × State
  second = turn code kw.state (answer (demand code kw.state) bw.memory)

  abbrev Uses : Type 0
  Uses = turn_used code first.0.kind first.0.access (reply_mask kb first.0.access) m kv.state ≡ true

  pub agreed : Uses → TurnsAgree code (reply_mask kb (demand code kv.state)) m kv.state first second
  agreed used = turns code bytes m masks kb small kv.state kw.state f g agree bv.memory bw.memory r w same used

  -- with so many turns left after it
  left_same : Uses → (n : ℕ) → left_past first.0 n ≡ left_past second.0 n
  left_same used n = ap (λ (k : StepKind). cond (is_stop k) 0 n) (agreed used).kind

  line_memory : (c : ℕ) (a : Option Access) (b : Line) → (line_past c a b).memory ≡ memory_left a b.memory
  line_memory c None b = refl
  line_memory c (Some a) b = refl

  abbrev bytes_then : ℕ → ℕ
  bytes_then = bytes_past public (stored_in (executed code kv.state first.0) m kv.state) first.0.access kb

  memories_then : (c : ℕ) → Uses → ((a : ℕ) → public a ≡ true → byte_at (line_past c (demand code kv.state) bv).memory a ≡ byte_at (line_past c (demand code kw.state) bw).memory a)
      → MemoriesAgree bytes_then (line_past c (demand code kv.state) bv).memory (line_past c (demand code kw.state) bw).memory
  unfolding turn demand
  memories_then c used equal =
      let e = line_memory c (demand code kv.state) bv in
      let d = line_memory c (demand code kw.state) bw in
      subst (λ (p : MemoryContents). MemoriesAgree bytes_then p (line_past c (demand code kw.state) bw).memory) (sym e)
      (subst (λ (p : MemoryContents). MemoriesAgree bytes_then (memory_left (demand code kv.state) bv.memory) p) (sym d)
      (past_bytes code bytes m masks kb small kv.state kw.state f g agree bv.memory bw.memory r w same public used
      (λ a q. ap (λ (p : MemoryContents). byte_at p a) (sym e) ∙ (equal a q ∙ ap (λ (p : MemoryContents). byte_at p a) d))))

-- ---- worlds

module _ (code : ℕ → ℕ) (bytes : AreBytes code) (public : ℕ → Bool) (v w : World State) (k : Learned) (f : IsShapedWorld v) (g : IsShapedWorld w) (l : IsLearned k) (h : WorldsAgree k v w) where
  abbrev P : Chip State
  P = processor code

  -- a turn of core 0, where it has so many turns left
  abbrev zero_given : ℕ → World State → World State
  zero_given left u = record { line = line_given P 0 left u.core0 u.line; core0 = core_given P left u.core0 u.line; core1 = u.core1 }

  zero_goes : (left : ℕ) → next_used code left 0 v k ≡ true → PublicAgree public (zero_given left v) (zero_given left w)
      → NextAgree code left 0 k v w × WorldsAgree (next_learned code public left 0 v k) (zero_given left v) (zero_given left w)
  unfolding turn demand
  zero_goes zero used equal = (tt, h)
  zero_goes (suc n) used equal =
      let a = agreed code bytes public k.core0 l.core0 k.bytes l.bytes v.core0 w.core0 v.line w.line f.core0 g.core0 h.core0 f.memory g.memory h.memory used in (
        a,
        record {
          core0 = a.after;
          core1 = h.core1;
          left0 = left_same code bytes public k.core0 l.core0 k.bytes l.bytes v.core0 w.core0 v.line w.line f.core0 g.core0 h.core0 f.memory g.memory h.memory used n;
          left1 = h.left1;
          memory = memories_then code bytes public k.core0 l.core0 k.bytes l.bytes v.core0 w.core0 v.line w.line f.core0 g.core0 h.core0 f.memory g.memory h.memory 0 used equal;
        },
      )

  abbrev one_given : ℕ → World State → World State
  one_given left u = record { line = line_given P 1 left u.core1 u.line; core0 = u.core0; core1 = core_given P left u.core1 u.line }

  one_goes : (c left : ℕ) → next_used code left (suc c) v k ≡ true → PublicAgree public (one_given left v) (one_given left w)
      → NextAgree code left (suc c) k v w × WorldsAgree (next_learned code public left (suc c) v k) (one_given left v) (one_given left w)
  unfolding turn demand
  one_goes c zero used equal = (tt, h)
  one_goes c (suc n) used equal =
      let a = agreed code bytes public k.core1 l.core1 k.bytes l.bytes v.core1 w.core1 v.line w.line f.core1 g.core1 h.core1 f.memory g.memory h.memory used in (
        a,
        record {
          core0 = h.core0;
          core1 = a.after;
          left0 = h.left0;
          left1 = left_same code bytes public k.core1 l.core1 k.bytes l.bytes v.core1 w.core1 v.line w.line f.core1 g.core1 h.core1 f.memory g.memory h.memory used n;
          memory = memories_then code bytes public k.core1 l.core1 k.bytes l.bytes v.core1 w.core1 v.line w.line f.core1 g.core1 h.core1 f.memory g.memory h.memory 1 used equal;
        },
      )

  pub goes : (c : ℕ) → given_used code c v k ≡ true → PublicAgree public (give P c v) (give P c w)
      → NextAgree code (core_in c v).left c k v w × WorldsAgree (given_learned code public c v k) (give P c v) (give P c w)
  goes zero used equal =
      subst (λ (n : ℕ). NextAgree code v.core0.left 0 k v w × WorldsAgree (next_learned code public v.core0.left 0 v k) (zero_given v.core0.left v) (zero_given n w)) h.left0
      (zero_goes v.core0.left used (subst (λ (n : ℕ). PublicAgree public (zero_given v.core0.left v) (zero_given n w)) (sym h.left0) equal))
  goes (suc c) used equal =
      subst (λ (n : ℕ). NextAgree code v.core1.left (suc c) k v w × WorldsAgree (next_learned code public v.core1.left (suc c) v k) (one_given v.core1.left v) (one_given n w)) h.left1
      (one_goes c v.core1.left used (subst (λ (n : ℕ). PublicAgree public (one_given v.core1.left v) (one_given n w)) (sym h.left1) equal))

pub worlds_go_on_alike : WorldsGoOnAlike
worlds_go_on_alike code public c v w k bytes f g l h used equal = goes code bytes public v w k f g l h c used equal

-- ---- shapes stay

core_shaped : (code : ℕ → ℕ) → AreBytes code → (left : ℕ) (k : Core State) (b : Line) → IsShaped k.state → IsMemory b.memory → IsShaped (core_given (processor code) left k b).state
core_shaped code bytes zero k b f r = f
core_shaped code bytes (suc n) k b f r = turn_shaped code k.state (answer (demand code k.state) b.memory) bytes f (answer_small b.memory (demand code k.state) r (demand_served code k.state))

line_shaped : (code : ℕ → ℕ) (c left : ℕ) (k : Core State) (b : Line) → IsMemory b.memory → IsMemory (line_given (processor code) c left k b).memory
line_shaped code c zero k b r = r
line_shaped code c (suc n) k b r = by_access (demand code k.state)
  where
    by_access : (a : Option Access) → IsMemory (line_past c a b).memory
    by_access None = r
    by_access (Some a) = past_memory b.memory a r

pub given_shaped : (code : ℕ → ℕ) → AreBytes code → (c : ℕ) (w : World State) → IsShapedWorld w → IsShapedWorld (give (processor code) c w)
given_shaped code bytes zero w f = record { core0 = core_shaped code bytes w.core0.left w.core0 w.line f.core0 f.memory; core1 = f.core1; memory = line_shaped code 0 w.core0.left w.core0 w.line f.memory }
given_shaped code bytes (suc c) w f = record { core0 = f.core0; core1 = core_shaped code bytes w.core1.left w.core1 w.line f.core1 f.memory; memory = line_shaped code 1 w.core1.left w.core1 w.line f.memory }

pub next_is_learned : (code : ℕ → ℕ) → AreBytes code → (public : ℕ → Bool) (left c : ℕ) (w : World State) (k : Learned) → IsLearned k → IsLearned (next_learned code public left c w k)
unfolding turn demand
next_is_learned code bytes public zero c w k l = l
next_is_learned code bytes public (suc left) zero w k l = record {
  core0 = masks_stay code k.core0 w.core0.state (reply_mask k.bytes (demand code w.core0.state)) (answer (demand code w.core0.state) w.line.memory) bytes l.core0 (reply_small k.bytes (demand code w.core0.state) (demand_served code w.core0.state));
  core1 = l.core1;
  bytes = bytes_small public _ _ k.bytes l.bytes;
}
next_is_learned code bytes public (suc left) (suc c) w k l = record {
  core0 = l.core0;
  core1 = masks_stay code k.core1 w.core1.state (reply_mask k.bytes (demand code w.core1.state)) (answer (demand code w.core1.state) w.line.memory) bytes l.core1 (reply_small k.bytes (demand code w.core1.state) (demand_served code w.core1.state));
  bytes = bytes_small public _ _ k.bytes l.bytes;
}

pub orders_go_on_alike : OrdersGoOnAlike
orders_go_on_alike code public [] v w k bytes f g l h used equal = (tt, h)
orders_go_on_alike code public (c ∷ cs) v w k bytes f g l h used equal =
    let one = worlds_go_on_alike code public c v w k bytes f g l h used.0 equal.0 in
    let rest =
    orders_go_on_alike code public cs (give (processor code) c v) (give (processor code) c w) (given_learned code public c v k) bytes (given_shaped code bytes c v f) (given_shaped code bytes c w g)
    (next_is_learned code bytes public (core_in c v).left c v k l) one.1 used.1 equal.1 in
    ((one.0, rest.0), rest.1)
