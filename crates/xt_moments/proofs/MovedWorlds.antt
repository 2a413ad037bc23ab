-- Two worlds that agree in what is known go on so over the moves of an order with moments.
use Rattle.std.proofs.Common.{◌≡◌, ℕ, zero, suc, ◌+◌, ◌-◌, ◌^◌, ◌<◌, Bool, true, false, cond, ◌&&◌}
use Rattle.std.proofs.Common.{◌||◌, not}
use Rattle.std.proofs.Common.{Option, Some, None, eqb, [], ◌∷◌, bit_and, bit_or, refl, ap}
use Rattle.std.proofs.Common.{subst, arith}
use Rattle.std.proofs.lemmas.Bool.{and_parts}
use Rattle.std.proofs.lemmas.List.Elements.{All-head, All-tail}
use Rattle.std.proofs.lemmas.Nat.{and_le_l, or_lt}
use Rattle.xt_map.specs.declared.access.Access.{Access}
use Rattle.xt_map.specs.declared.contents.MemoryContents.{MemoryContents}
use Rattle.xt_map.specs.Touching.{IsMemory, is_store, touches}
use Rattle.xt_map.proofs.Small.{past_memory, to_small}
use Rattle.xt_special.specs.Access.{timer_bit, without_bits}
use Rattle.xt_special.specs.Control.{special_of}
use Rattle.xt_trace.specs.declared.record.StepRecord.{StepRecord}
use Rattle.xt_trace.specs.Calls.{is_stop}
use Rattle.xt_trace.specs.Worlds.{answer, memory_left}
use Rattle.xt_map.specs.Code.{AreBytes}
use Rattle.xt_map.specs.Fetching.{fetch_at}
use Rattle.xt_rows.specs.RowLaws.{IsWord}
use Rattle.xt_exec.specs.State.{State}
use Rattle.xt_exec.specs.Turn.{demand, planned_turn, turn}
use Rattle.xt_exec.specs.TurnLaws.{IsServed, IsShaped}
use Rattle.xt_exec.proofs.Served.{demand_served}
use Rattle.xt_exec.proofs.Shapes.{turn_shaped}
use Rattle.xt_timeless.specs.Time.{timer_bits}
use Rattle.xt_uses.specs.UseLaws.{AgreeIn}
use Rattle.xt_uses.specs.UseStep.{reply_mask, step_insn}
use Rattle.xt_uses.specs.FirstUse.{stored_byte}
use Rattle.xt_uses.proofs.Owb.{all_agree_word}
use Rattle.xt_simulation.specs.Knowledge.{Knowledge}
use Rattle.xt_simulation.specs.Learning.{stored_in}
use Rattle.xt_simulation.specs.SecretBytes.{MemoriesAgree, mask_stored}
use Rattle.xt_simulation.specs.SecretLaws.{AccessAgrees, SentAgrees, executed}
use Rattle.xt_simulation.specs.TurnUses.{found_used, turn_used}
use Rattle.xt_simulation.proofs.Likes.{like_same}
use Rattle.xt_simulation.proofs.SecretMemories.{accesses_too}
use Rattle.xt_simulation.proofs.Worlds.{reply_fits, reply_small}
use Rattle.xt_moments.specs.Moments.{IsMove, MomentCore, arms, core_fired}
use Rattle.xt_moments.specs.Moments.{core_past, core_turned, interrupt_past, is_armed, memory_past}
use Rattle.xt_moments.specs.Moments.{moved, with_special}
use Rattle.xt_moments.specs.declared.moves.Move.TheVariants as move
use Rattle.xt_moments.specs.MomentLaws.{IsMomentKnown, MomentsAgree, executes_clock, known_then}
use Rattle.xt_moments.specs.MomentLaws.{moment_used}
use Rattle.xt_moments.specs.WorldLaws.{CoresAgree}
use Rattle.xt_moments.specs.WorldLaws.{MovesGoOnAlike, OrdersGoOnAlike}
use Rattle.xt_moments.specs.WorldLaws.{begun, bytes_known, core_known, core_used}
use Rattle.xt_moments.specs.WorldLaws.{move_learned, reply_known, turn_of}
use Rattle.xt_moments.proofs.Moments.{moment_turns_agree, put_agree, put_shaped}

pub answer_small : (m : MemoryContents) (a : Option Access) → IsMemory m → IsServed a
    → answer a m < 2 ^ 32
answer_small m None r served = omega arith
answer_small m (Some a) r served = to_small m a r served

left_memory : (a : Option Access) (m : MemoryContents) → IsMemory m → IsMemory (memory_left a m)
left_memory None m r = r
left_memory (Some a) m r = past_memory m a r

fewer_small : (v k : ℕ) → v < 2 ^ 32 → without_bits v k < 2 ^ 32
unfolding without_bits
fewer_small v k small = omega (arith, and_le_l v (2 ^ 32 - 1 - k))

interrupt_small : (before armed after : ℕ) → before < 2 ^ 32 → after < 2 ^ 32
    → interrupt_past before armed after < 2 ^ 32
interrupt_small before armed after b a =
    or_lt 32 (without_bits after timer_bits) (without_bits (bit_and before timer_bits) armed)
    (fewer_small after timer_bits a)
    (fewer_small (bit_and before timer_bits) armed (omega (arith, b, and_le_l before timer_bits)))

stored_small : (stored : ℕ) (access : Option Access) (bytes : ℕ → ℕ) → ((a : ℕ) → bytes a < 2 ^ 8)
    → (a : ℕ) → mask_stored stored access bytes a < 2 ^ 8
stored_small stored None bytes small a = small a
stored_small stored (Some x) bytes small a = by_test (is_store x.kind && touches x.addr x.size a)
  where
    by_test : (b : Bool) → cond b (stored_byte stored x.addr a) (bytes a) < 2 ^ 8
    by_test true = omega arith
    by_test false = small a

-- a core keeps its shape
turned_shaped : (code : ℕ → ℕ) → AreBytes code → (a : ℕ) → IsWord a → (j : MomentCore)
    (x : MemoryContents) → IsShaped j.state → IsMemory x → IsShaped (core_turned code a j x).state
turned_shaped code bytes a wa j x f r =
    let s = begun a j in
    let fs = put_shaped 234 a j.state (omega arith) (omega arith) wa f in
    let reply = answer (demand code s) x in
    let u = turn_shaped code s reply bytes fs (answer_small x (demand code s) r (demand_served code
    s)) in
    let v = interrupt_past (special_of s.control 226) (arms code s)
    (special_of (turn code s reply).1.control 226) in
    put_shaped 226 v (turn code s reply).1 (omega arith) (omega arith)
    (interrupt_small (special_of s.control 226) (arms code s)
    (special_of (turn code s reply).1.control 226) (fs.control.words 226) (u.control.words 226)) u

-- ---- a turn of a core

module _ (code : ℕ → ℕ) (bytes : AreBytes code) (a b : ℕ) (wa : IsWord a) (wb : IsWord b)
    (m : Knowledge) (h : IsMomentKnown m) (kb : ℕ → ℕ) (small : (n : ℕ) → kb n < 2 ^ 8)
    (j k : MomentCore) (x y : MemoryContents) (f : IsShaped j.state) (g : IsShaped k.state)
    (agree : CoresAgree m j k) (r : IsMemory x) (q : IsMemory y) (same : MemoriesAgree kb x y) where
  abbrev s : State
  s = begun a j

  abbrev t : State
  t = begun b k

  abbrev reply : ℕ
  reply = reply_mask kb (demand code s)

  abbrev one : StepRecord × State
  one = turn code s (answer (demand code s) x)

  abbrev two : StepRecord × State
  two = turn code t (answer (demand code t) y)

  abbrev Used : Type 0
  Used = moment_used code reply m s ≡ true

  -- the turns agree, whatever is replied in what is known
  any : (v w : ℕ) → IsWord v → IsWord w → AgreeIn reply v w → Used
      → MomentsAgree code reply m s t (turn code s v) (turn code t w)
  unfolding demand
  any v w vs ws e used =
      moment_turns_agree code m j.state k.state a b reply v w bytes h f g agree.state wa wb
      (reply_small kb (planned_turn code s).access (demand_served code s)) vs ws e
      (reply_fits kb (planned_turn code s).access) used

  accesses : Used
      → AccessAgrees (stored_in (executed code s one.0) m s) (demand code s) (demand code t)
      × SentAgrees (demand code s) (demand code t)
  unfolding turn demand
  accesses used = let e = any 0 0 (omega arith) (omega arith) refl used in
      (e.turns.access, e.turns.sent)

  found : Used → found_used (demand code s) reply ≡ true
  unfolding demand
  found used =
      (and_parts (found_used (planned_turn code s).access (reply_mask kb (planned_turn code
      s).access))
      (executes_clock (step_insn (planned_turn code s).kind (fetch_at code s.control.pc))
      || turn_used code (planned_turn code s).kind (planned_turn code s).access
      (reply_mask kb (planned_turn code s).access) m s) used).0

  abbrev Then : Type 0
  Then =
      MemoriesAgree (mask_stored (stored_in (executed code s one.0) m s) (demand code s) kb)
      (memory_left (demand code s) x) (memory_left (demand code t) y)

  memories : Used → AgreeIn reply (answer (demand code s) x) (answer (demand code t) y) × Then
  memories used =
      let e = accesses used in
      accesses_too kb small x y r q same (stored_in (executed code s one.0) m s) (demand code s)
      (demand code t) (demand_served code s) e.0 e.1 (found used)

  turns : Used → MomentsAgree code reply m s t one two
  turns used =
      any (answer (demand code s) x) (answer (demand code t) y)
      (answer_small x (demand code s) r (demand_served code s))
      (answer_small y (demand code t) q (demand_served code t)) (memories used).0 used

  turned_agree : Used → CoresAgree (known_then code reply m s one) (core_turned code a j x)
      (core_turned code b k y)
  turned_agree used = let e = turns used in record {
    state = e.after;
    armed = λ i. bit_or (agree.armed i) (e.arms i);
    stopped = ap is_stop e.turns.kind;
  }

-- what holds of two cores and memories, of which so much is known
record BothAgree (m : Knowledge) (kb : ℕ → ℕ) (j k : MomentCore) (x y : MemoryContents) : Type 0
  where
    cores : CoresAgree m j k
    known : IsMomentKnown m
    shaped : IsShaped j.state
    other : IsShaped k.state
    memory : MemoriesAgree kb x y
    small : (n : ℕ) → kb n < 2 ^ 8
    first : IsMemory x
    second : IsMemory y

module _ (code : ℕ → ℕ) (bytes : AreBytes code) (a b : ℕ) (wa : IsWord a) (wb : IsWord b)
    (m : Knowledge) (kb : ℕ → ℕ) (j k : MomentCore) (x y : MemoryContents) (h : BothAgree m kb j k
    x y)
  where
    abbrev made_by : Bool → ℕ → MomentCore → MemoryContents → MomentCore
    made_by p n c u = cond p c (core_turned code n c u)

    abbrev left_by_core : Bool → ℕ → MomentCore → MemoryContents → MemoryContents
    left_by_core p n c u = cond p u (memory_left (demand code (begun n c)) u)

    abbrev masks_by : Bool → ℕ → ℕ
    masks_by p =
        cond p kb
        (mask_stored (stored_in (executed code (begun a j) (turn_of code a j x).0) m (begun a j))
        (demand code (begun a j)) kb)

    abbrev knows : Bool → Knowledge
    knows p = cond p m (known_then code (reply_known code a j kb) m (begun a j) (turn_of code a j
        x))

    by_stop : (p : Bool) → (p || moment_used code (reply_known code a j kb) m (begun a j)) ≡ true
        → BothAgree (knows p) (masks_by p) (made_by p a j x) (made_by p b k y) (left_by_core p a j
        x)
        (left_by_core p b k y)
    by_stop true used = h
    by_stop false used =
        let t = turns code bytes a b wa wb m h.known kb h.small j k x y h.shaped h.other h.cores
        h.first
        h.second h.memory used in
        record {
          cores = turned_agree code bytes a b wa wb m h.known kb h.small j k x y h.shaped h.other
              h.cores
              h.first h.second h.memory used;
          known = t.known;
          shaped = turned_shaped code bytes a wa j x h.shaped h.first;
          other = turned_shaped code bytes b wb k y h.other h.second;
          memory = (memories code bytes a b wa wb m h.known kb h.small j k x y h.shaped h.other
              h.cores
              h.first h.second h.memory used).1;
          small = stored_small _ _ kb h.small;
          first = left_memory (demand code (begun a j)) x h.first;
          second = left_memory (demand code (begun b k)) y h.second;
        }

    goes : core_used code a j kb m ≡ true
        → BothAgree (core_known code a j x kb m) (bytes_known code a j x kb m) (core_past code a j
        x)
        (core_past code b k y) (memory_past code a j x) (memory_past code b k y)
    goes used =
        subst (λ (p : Bool). BothAgree (knows j.stopped) (masks_by j.stopped) (made_by j.stopped a
        j x)
        (made_by p b k y) (left_by_core j.stopped a j x) (left_by_core p b k y))
        h.cores.stopped (by_stop j.stopped used)

-- ---- a timer that fires

bit_small : (n : ℕ) → timer_bit n < 2 ^ 32
unfolding timer_bit
bit_small n = by_tests (eqb n 240) (eqb n 241)
  where
    by_tests : (p q : Bool) → cond p (2 ^ 6) (cond q (2 ^ 15) (2 ^ 16)) < 2 ^ 32
    by_tests true q = omega arith
    by_tests false true = omega arith
    by_tests false false = omega arith

module _ (timer : ℕ) where
  abbrev bit : ℕ
  bit = timer_bit (240 + timer)

  abbrev raised : State → ℕ
  raised s = bit_or (special_of s.control 226) bit

  abbrev fired_by : Bool → MomentCore → MomentCore
  fired_by p k = cond p (record {
    state = with_special 226 (raised k.state) k.state;
    armed = without_bits k.armed bit;
    stopped = k.stopped;
  }) k

  raised_shaped : (s : State) → IsShaped s → IsShaped (with_special 226 (raised s) s)
  raised_shaped s f =
      put_shaped 226 (raised s) s (omega arith) (omega arith)
      (or_lt 32 (special_of s.control 226) bit (f.control.words 226) (bit_small (240 + timer))) f

  fired_shaped : (k : MomentCore) → IsShaped k.state → IsShaped (core_fired timer k).state
  fired_shaped k f = by_test (is_armed timer k)
    where
      by_test : (p : Bool) → IsShaped (fired_by p k).state
      by_test true = raised_shaped k.state f
      by_test false = f

  fired_agree : (m : Knowledge) → IsMomentKnown m → (j k : MomentCore) → IsShaped j.state
      → IsShaped k.state → CoresAgree m j k → CoresAgree m (core_fired timer j) (core_fired timer k)
  fired_agree m h j k f g agree =
      subst (λ (p : Bool). CoresAgree m (fired_by (is_armed timer j) j) (fired_by p k))
      (ap (λ (armed : ℕ). not (eqb (bit_and armed bit) 0)) agree.armed) (by_test (is_armed timer j))
    where
      same : special_of j.state.control 226 ≡ special_of k.state.control 226
      same =
          all_agree_word (special_of j.state.control 226) (special_of k.state.control 226)
          (f.control.words 226) (g.control.words 226)
          (subst (λ n. AgreeIn n (special_of j.state.control 226) (special_of k.state.control 226))
          (h.others 226 refl refl) (agree.state.special 226))

      by_test : (p : Bool) → CoresAgree m (fired_by p j) (fired_by p k)
      by_test true = record {
        state = put_agree m m.special j.state k.state 226 (raised j.state) (raised k.state) f g
            agree.state
            (like_same (m.special 226) (raised j.state) (raised k.state) (ap (λ n. bit_or n bit)
            same))
            (λ n d. refl);
        armed = ap (λ n. without_bits n bit) agree.armed;
        stopped = agree.stopped;
      }
      by_test false = agree

-- ---- a move, and the moves of an order

pub moves_go_on_alike : MovesGoOnAlike
moves_go_on_alike code a b (move.Turn zero) v w k bytes wa wb is h used =
    let t = goes code bytes a b wa wb k.core0 k.bytes v.core0 w.core0 v.memory w.memory (record {
      cores = h.agree.core0;
      known = h.learned.core0;
      shaped = h.shaped.core0;
      other = h.other.core0;
      memory = h.agree.memory;
      small = h.learned.bytes;
      first = h.shaped.memory;
      second = h.other.memory;
    }) used in
    record {
      shaped = record { core0 = t.shaped; core1 = h.shaped.core1; memory = t.first };
      other = record { core0 = t.other; core1 = h.other.core1; memory = t.second };
      learned = record { core0 = t.known; core1 = h.learned.core1; bytes = t.small };
      agree = record { core0 = t.cores; core1 = h.agree.core1; memory = t.memory };
    }
moves_go_on_alike code a b (move.Turn (suc c)) v w k bytes wa wb is h used =
    let t = goes code bytes a b wa wb k.core1 k.bytes v.core1 w.core1 v.memory w.memory (record {
      cores = h.agree.core1;
      known = h.learned.core1;
      shaped = h.shaped.core1;
      other = h.other.core1;
      memory = h.agree.memory;
      small = h.learned.bytes;
      first = h.shaped.memory;
      second = h.other.memory;
    }) used in
    record {
      shaped = record { core0 = h.shaped.core0; core1 = t.shaped; memory = t.first };
      other = record { core0 = h.other.core0; core1 = t.other; memory = t.second };
      learned = record { core0 = h.learned.core0; core1 = t.known; bytes = t.small };
      agree = record { core0 = h.agree.core0; core1 = t.cores; memory = t.memory };
    }
moves_go_on_alike code a b (move.Fires zero timer) v w k bytes wa wb is h used = record {
  shaped = record {
    core0 = fired_shaped timer v.core0 h.shaped.core0;
    core1 = h.shaped.core1;
    memory = h.shaped.memory;
  };
  other = record {
    core0 = fired_shaped timer w.core0 h.other.core0;
    core1 = h.other.core1;
    memory = h.other.memory;
  };
  learned = h.learned;
  agree = record {
    core0 = fired_agree timer k.core0 h.learned.core0 v.core0 w.core0 h.shaped.core0 h.other.core0
        h.agree.core0;
    core1 = h.agree.core1;
    memory = h.agree.memory;
  };
}
moves_go_on_alike code a b (move.Fires (suc c) timer) v w k bytes wa wb is h used = record {
  shaped = record {
    core0 = h.shaped.core0;
    core1 = fired_shaped timer v.core1 h.shaped.core1;
    memory = h.shaped.memory;
  };
  other = record {
    core0 = h.other.core0;
    core1 = fired_shaped timer w.core1 h.other.core1;
    memory = h.other.memory;
  };
  learned = h.learned;
  agree = record {
    core0 = h.agree.core0;
    core1 = fired_agree timer k.core1 h.learned.core1 v.core1 w.core1 h.shaped.core1 h.other.core1
        h.agree.core1;
    memory = h.agree.memory;
  };
}

pub orders_go_on_alike : OrdersGoOnAlike
orders_go_on_alike code counts others [] v w k bytes wc wo is h used = h
orders_go_on_alike code counts others (x ∷ xs) v w k bytes wc wo is h used =
    let one = moves_go_on_alike code (counts 0) (others 0) x v w k bytes (wc 0) (wo 0)
    (All-head IsMove x xs is) h
    used.0 in
    orders_go_on_alike code (λ n. counts (suc n)) (λ n. others (suc n)) xs (moved code (counts 0) x
    v)
    (moved code (others 0) x w) (move_learned code (counts 0) x v k) bytes (λ n. wc (suc n))
    (λ n. wo (suc n)) (All-tail IsMove x xs is) one used.1
