-- A core of a search after its next turn.
use Rattle.std.proofs.Common.{◌≡◌, ℕ, zero, suc, ◌-◌, ◌^◌, ◌<◌, Bool, true, false, cond, ◌||◌, List, [], ◌∷◌, slice_index, slice_set, Option, refl, sym, ap, ◌∙◌, subst, arith}
use Rattle.xt_map.specs.declared.access.Access.{Access}
use Rattle.xt_map.specs.declared.contents.MemoryContents.{MemoryContents}
use Rattle.xt_trace.specs.Calls.{is_stop}
use Rattle.xt_trace.specs.declared.record.StepRecord.{StepRecord}
use Rattle.xt_trace.specs.Worlds.{answer, left_past, memory_left}
use Rattle.xt_exec.specs.Chips.{processor}
use Rattle.xt_exec.specs.State.{State}
use Rattle.xt_exec.specs.Turn.{demand, turn}
use Rattle.xt_exec.specs.TurnLaws.{IsServed, IsShaped}
use Rattle.xt_exec.proofs.Served.{demand_served}
use Rattle.xt_exec.proofs.Shapes.{turn_shaped}
use Rattle.xt_map.specs.Code.{AreBytes}
use Rattle.xt_rows.specs.RowLaws.{IsWord}
use Rattle.xt_window.specs.Ring.{bit, place}
use Rattle.xt_exec.proofs.Specials.{IsShapedSpecial, set_shaped}
use Rattle.xt_outcomes.specs.Dead.{cleared, compare_cleared, dead_at, forgotten, has_compare, registers_in, side_forgotten}
use Rattle.xt_outcomes.specs.Nexts.{side_next}
use Rattle.xt_outcomes.proofs.Clearing.{cleared_long}
use Rattle.xt_outcomes.specs.Spots.{Side, memory_given, more_kept, side_given, state_kept}

one_less : (n : ℕ) → 0 < n → (k : ℕ) × (n ≡ suc k)
one_less zero h = absurd (omega arith)
one_less (suc k) h = (k, refl)

-- the access of a turn is the one that it asks for
pub access_is : (code : ℕ → ℕ) (s : State) (reply : ℕ) → (turn code s reply).0.access ≡ demand code s
unfolding turn
access_is code s reply = refl

module _ (code : ℕ → ℕ) (timed : Bool) where
  pub ended_side : (s : Side State) (m : MemoryContents) → s.left ≡ 0 → s ≡ side_given (processor code) timed s.left s m
  ended_side s m e = ap (λ (n : ℕ). side_given (processor code) timed n s m) (sym e)

  pub ended_next : (ms : List ℕ) (s : Side State) (m : MemoryContents) → s.left ≡ 0 → s ≡ side_next (processor code) timed ms s.left s m
  ended_next ms s m e = ap (λ (n : ℕ). side_next (processor code) timed ms n s m) (sym e)

  pub ended_memory : (s : Side State) (m : MemoryContents) → s.left ≡ 0 → m ≡ memory_given (processor code) s.left s.state m
  ended_memory s m e = ap (λ (n : ℕ). memory_given (processor code) n s.state m) (sym e)

  -- this record and state are those of the next turn, of a core that has one left
  module _ (s : Side State) (m : MemoryContents) (x : StepRecord) (u : State) (some : 0 < s.left) (is : (x, u) ≡ turn code s.state (answer (demand code s.state) m)) where
    pub past_is : ◌≡◌ {A = Side State} (record { state = state_kept timed u; left = left_past x (more_kept timed (s.left - 1)); stopped = s.stopped || is_stop x.kind }) (side_given (processor code) timed s.left s m)
    past_is =
        let n = one_less s.left some in
        let e = n.1 in
        let k : s.left - 1 ≡ n.0 = omega (arith, e) in
        let make : StepRecord × State → ℕ → Side State = λ t j. record { state = state_kept timed t.1; left = left_past t.0 (more_kept timed j); stopped = s.stopped || is_stop t.0.kind } in
        (λ i. make (is i) (k i)) ∙ ap (λ (j : ℕ). side_given (processor code) timed j s m) (sym e)

    pub asked_is : x.access ≡ demand code s.state
    asked_is = ap (λ (t : StepRecord × State). t.0.access) is ∙ access_is code s.state (answer (demand code s.state) m)

    pub memory_is : memory_left x.access m ≡ memory_given (processor code) s.left s.state m
    memory_is =
        let n = one_less s.left some in
        ap (λ (a : Option Access). memory_left a m) asked_is ∙ ap (λ (j : ℕ). memory_given (processor code) j s.state m) (sym n.1)

    pub next_is : (ms : List ℕ) → side_forgotten ms (side_given (processor code) timed s.left s m) ≡ side_next (processor code) timed ms s.left s m
    next_is ms =
        let n = one_less s.left some in
        ap (λ (j : ℕ). side_forgotten ms (side_given (processor code) timed j s m)) n.1 ∙ ap (λ (j : ℕ). side_next (processor code) timed ms j s m) (sym n.1)

-- ---- a turn that was begun

module _ (code : ℕ → ℕ) (s : State) (reply : ℕ) (x : StepRecord) (u : State) (is : (x, u) ≡ turn code s reply) where
  pub begun_served : IsServed x.access
  begun_served = subst IsServed (sym (ap (λ (t : StepRecord × State). t.0.access) is ∙ access_is code s reply)) (demand_served code s)

  pub begun_shaped : AreBytes code → IsShaped s → IsWord reply → IsShaped u
  begun_shaped bytes shaped word = subst IsShaped (sym (ap (λ (t : StepRecord × State). t.1) is)) (turn_shaped code s reply bytes shaped word)

-- ---- dead registers are put to 0

word_set : (xs : List ℕ) (k v j : ℕ) → ((i : ℕ) → slice_index xs i < 2 ^ 32) → v < 2 ^ 32 → slice_index (slice_set xs k v) j < 2 ^ 32
word_set [] k v j h w = h j
word_set (x ∷ xs) zero v zero h w = w
word_set (x ∷ xs) zero v (suc j) h w = h (suc j)
word_set (x ∷ xs) (suc k) v zero h w = h zero
word_set (x ∷ xs) (suc k) v (suc j) h w = word_set xs k v j (λ i. h (suc i)) w

words_when : (b : Bool) (xs : List ℕ) (k j : ℕ) → ((i : ℕ) → slice_index xs i < 2 ^ 32) → slice_index (cond b (slice_set xs k 0) xs) j < 2 ^ 32
words_when true xs k j h = word_set xs k 0 j h (omega arith)
words_when false xs k j h = h j

cleared_words : (mask base : ℕ) (xs : List ℕ) (n : ℕ) → ((i : ℕ) → slice_index xs i < 2 ^ 32) → (j : ℕ) → slice_index (cleared mask base xs n) j < 2 ^ 32
cleared_words mask base xs zero h j = h j
cleared_words mask base xs (suc n) h j = words_when (bit mask n) (cleared mask base xs n) (place base n) j (cleared_words mask base xs n h)

compare_shaped : (b : Bool) (xs : List ℕ) → IsShapedSpecial xs → IsShapedSpecial (compare_cleared b xs)
compare_shaped true xs h = set_shaped xs 12 0 (record { as_sar = λ e. absurd (omega (arith, e)); as_vecbase = λ e. absurd (omega (arith, e)) }) (omega arith) h
compare_shaped false xs h = h

pub forgotten_shaped : (ms : List ℕ) (s : State) → IsShaped s → IsShaped (forgotten ms s)
forgotten_shaped ms s h =
    let mask = dead_at ms s.control.pc in
    let special = compare_shaped (has_compare mask) s.control.special (record { count = h.control.count; words = h.control.words; shape = h.control.shape }) in
    record {
      count = cleared_long (registers_in mask) s.base s.regs 16 ∙ h.count;
      words = cleared_words (registers_in mask) s.base s.regs 16 h.words;
      base = h.base;
      start = h.start;
      control = record {
        pc = h.control.pc;
        count = special.count;
        words = special.words;
        shape = special.shape;
        ps = h.control.ps;
        threadptr = h.control.threadptr;
      };
    }
