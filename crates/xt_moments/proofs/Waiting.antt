-- A timer that fires before a turn that does not let it in, or after it.
use Rattle.std.proofs.Common.{◌≡◌, ◌≢◌, ℕ, zero, suc, ◌-◌, ◌/◌, ◌^◌, ◌<◌, Bool, true, false, cond}
use Rattle.std.proofs.Common.{eqb, not, ◌&&◌, ◌||◌, Option, Some, None, List, [], ◌∷◌, length}
use Rattle.std.proofs.Common.{slice_index, slice_set, bit_and, bit_or, refl, sym, ap, ◌∙◌, subst}
use Rattle.std.proofs.Common.{arith}
use Rattle.std.proofs.lemmas.List.{get_or-set_other, get_or-set_same, set-set}
use Rattle.xt_special.specs.Access.{timer_bit, without_bits}
use Rattle.xt_special.specs.Control.{special_of}
use Rattle.xt_special.specs.Interrupts.{pending_level, pending_of}
use Rattle.xt_special.specs.Numbers as number
use Rattle.xt_map.specs.declared.access.Access.{Access}
use Rattle.xt_map.specs.declared.contents.MemoryContents.{MemoryContents}
use Rattle.xt_trace.specs.declared.record.RegWrite.{RegWrite}
use Rattle.xt_trace.specs.declared.record.StepKind.{StepKind}
use Rattle.xt_trace.specs.Calls.{is_stop}
use Rattle.xt_trace.specs.Worlds.{answer}
use Rattle.xt_map.specs.Code.{AreBytes}
use Rattle.xt_map.specs.Fetching.{fetch_at}
use Rattle.xt_exec.specs.State.{State}
use Rattle.xt_exec.specs.Turn.{Planned, demand, planned_turn, turn, with_write, write_with_reply}
use Rattle.xt_timeless.specs.Time.{executes, fetches_time, timer_bits}
use Rattle.xt_timeless.specs.TimeLaws.{DifferInTimers, with_interrupt}
use Rattle.std.proofs.lemmas.Nat.{or_shr}
use Rattle.std.specs.Int.Bits.{or_zero_l, or_zero_r}
use lib.Bits.{or_step}
use lib.Arith.{bin_ind}
use Rattle.xt_timeless.proofs.Bits.{or_and, raised_0, raised_1, raised_2}
use Rattle.xt_timeless.proofs.Waiting.{timers_wait}
use Rattle.xt_moments.specs.Awaiting.{IsDeaf, bit_of}
use Rattle.xt_moments.specs.Moments.{MomentCore, armed_by_fetched, armed_in, arms, core_fired}
use Rattle.xt_moments.specs.Moments.{core_turned, interrupt_past, is_armed, with_special}
use Rattle.xt_moments.specs.Moments.{with_timers}

-- ---- lists

swapped : (xs : List ℕ) (i j a b : ℕ) → i ≢ j → slice_set (slice_set xs i a) j b
    ≡ slice_set (slice_set xs j b) i a
swapped [] i j a b d = refl
swapped (x ∷ xs) zero zero a b d = absurd (d refl)
swapped (x ∷ xs) zero (suc j) a b d = refl
swapped (x ∷ xs) (suc i) zero a b d = refl
swapped (x ∷ xs) (suc i) (suc j) a b d = ap (λ (l : List ℕ). x ∷ l) (swapped xs i j a b (λ e. d
    (ap suc e)))

or_assoc : (a b c : ℕ) → bit_or (bit_or a b) c ≡ bit_or a (bit_or b c)
or_assoc =
    bin_ind (λ (a : ℕ). (b c : ℕ) → bit_or (bit_or a b) c ≡ bit_or a (bit_or b c))
    (λ b c. ap (λ x. bit_or x c) (or_zero_l b) ∙ sym (or_zero_l (bit_or b c)))
    (λ a ih b c.
    let p : bit_or (bit_or a b / 2) (c / 2) ≡ bit_or (a / 2) (bit_or b c / 2) =
    ap (λ x. bit_or x (c / 2)) (or_shr a b 1) ∙ ih (b / 2) (c / 2)
    ∙ sym (ap (bit_or (a / 2)) (or_shr b c 1)) in
    omega (arith, or_step (bit_or a b) c, p, or_step a (bit_or b c), or_step a b, or_step b c))

-- ---- what a turn does with the other bits

kind_is : (code : ℕ → ℕ) (s : State) (reply : ℕ) → (turn code s reply).0.kind
    ≡ (planned_turn code s).kind
unfolding turn
kind_is code s reply = refl

demand_is : (code : ℕ → ℕ) (s : State) → demand code s ≡ (planned_turn code s).access
unfolding demand
demand_is code s = refl

after_is : (code : ℕ → ℕ) (s : State) (reply : ℕ) → (turn code s reply).1
    ≡ with_write (write_with_reply (planned_turn code s).write
    (planned_turn code s).awaited reply) (planned_turn code s).after
unfolding turn
after_is code s reply = refl

written : (w : Option RegWrite) (v : ℕ) (s : State) → with_write w (with_interrupt v s)
    ≡ with_interrupt v (with_write w s)
written None v s = refl
written (Some w) v s = refl

pub same_after : (code : ℕ → ℕ) (s t : State) (reply : ℕ) (d : DifferInTimers
    (planned_turn code s) (planned_turn code t))
    → (turn code t reply).1 ≡ with_interrupt d.interrupt (turn code s reply).1
same_after code s t reply d =
    let p = planned_turn code s in
    after_is code t reply
    ∙ (λ i. with_write (write_with_reply (sym d.write i) (sym d.awaited i) reply) (d.after i))
    ∙ written (write_with_reply p.write p.awaited reply) d.interrupt p.after
    ∙ sym (ap (with_interrupt d.interrupt) (after_is code s reply))

-- a register that is written is none of the special ones
kept_of : (w : Option RegWrite) (s : State) → special_of (with_write w s).control 226
    ≡ special_of s.control 226
kept_of None s = refl
kept_of (Some w) s = refl

-- ---- a core whose timer fires before its turn or after it

nothing : (b : Bool) → ◌≡◌ {A = ℕ} (cond b 0 0) 0
nothing true = refl
nothing false = refl

and_false : (b c : Bool) → c ≡ false → (b && c) ≡ false
and_false true c e = e
and_false false c e = refl

-- the bit of a timer is one of those of the timers
abbrev Fits : ℕ → Type 0
Fits bit = (bit_and (bit_and bit timer_bits) (2 ^ 32 - 1 - 0) ≡ bit) × ((v : ℕ)
    → without_bits (bit_or v bit) timer_bits ≡ without_bits v timer_bits)

bit_fits : (timer : ℕ) → timer < 3 → Fits (bit_of timer)
unfolding timer_bit
bit_fits zero few = (refl, raised_0)
bit_fits (suc zero) few = (refl, raised_1)
bit_fits (suc (suc zero)) few = (refl, raised_2)
bit_fits (suc (suc (suc n))) few = absurd (omega (arith, few))

-- INTERRUPT after a turn that arms no timer
past_bit : (before bit x y : ℕ) → Fits bit → without_bits x timer_bits ≡ without_bits y timer_bits
    → interrupt_past (bit_or before bit) 0 x ≡ bit_or (interrupt_past before 0 y) bit
unfolding without_bits
past_bit before bit x y fits same =
    let all = 2 ^ 32 - 1 - 0 in
    let w = without_bits y timer_bits in
    let p = bit_and (bit_and before timer_bits) all in
    let both : bit_and (bit_and (bit_or before bit) timer_bits) all ≡ bit_or p bit =
    ap (λ n. bit_and n all) (or_and timer_bits before bit) ∙ or_and all
    (bit_and before timer_bits) (bit_and bit timer_bits) ∙ ap (bit_or p) fits.0 in
    (λ i. bit_or (same i) (both i)) ∙ sym (or_assoc w p bit)

module _ (code : ℕ → ℕ) (bytes : AreBytes code) (count timer : ℕ) (k : MomentCore)
    (h : IsDeaf code timer k) where
  abbrev bit : ℕ
  bit = bit_of timer

  abbrev before : ℕ
  before = special_of k.state.control 226

  abbrev s : State
  s = with_special 234 count k.state

  abbrev t : State
  t = with_special 234 count (with_special 226 (bit_or before bit) k.state)

  abbrev put : List ℕ → State
  put l = record k.state { control = record k.state.control { special = l } }

  swap : slice_set (slice_set k.state.control.special 226 (bit_or before bit)) 234 count
      ≡ slice_set (slice_set k.state.control.special 234 count) 226 (bit_or before bit)
  swap = swapped k.state.control.special 226 234 (bit_or before bit) count (λ e. omega (arith, e))

  t_is : t ≡ with_interrupt (bit_or before bit) s
  t_is = ap put swap

  found : special_of s.control 226 ≡ before
  found = get_or-set_other k.state.control.special 234 226 count 0 (λ e. omega (arith, e))

  others : without_bits (bit_or before bit) timer_bits ≡ without_bits
      (special_of s.control 226) timer_bits
  others = (bit_fits timer h.few).1 before ∙ sym (ap (λ v. without_bits v timer_bits) found)

  counted : (xs : List ℕ) (j : ℕ) → j ≢ 234 → slice_index (slice_set xs 234 count) j
      ≡ slice_index xs j
  counted xs j d = get_or-set_other xs 234 j count 0 d

  abbrev level : List ℕ → ℕ
  level xs = pending_of (record k.state.control { special = xs })

  level_counted : (xs : List ℕ) → level (slice_set xs 234 count) ≡ level xs
  level_counted xs = λ i. pending_level (counted xs 226 (λ e. omega (arith, e)) i) (counted xs 228
      (λ e. omega (arith, e)) i) k.state.control.ps

  same_level : pending_of (with_interrupt (bit_or before bit) s).control ≡ pending_of s.control
  same_level =
      sym (ap level swap)
      ∙ level_counted (slice_set k.state.control.special 226 (bit_or before bit))
      ∙ h.pending ∙ sym (level_counted k.state.control.special)

  pub differ : DifferInTimers (planned_turn code s) (planned_turn code t)
  differ =
      subst (λ (u : State). DifferInTimers (planned_turn code s) (planned_turn code u)) (sym t_is)
      (timers_wait code s (bit_or before bit) bytes others same_level (and_false (executes
      (planned_turn code s).kind) (fetches_time (fetch_at code s.control.pc)) h.free))

  pub same_demand : demand code t ≡ demand code s
  same_demand = demand_is code t ∙ sym differ.access ∙ sym (demand_is code s)

  arms_s : arms code s ≡ 0
  arms_s = ap (λ (n : ℕ). cond (executes (planned_turn code s).kind) n 0) h.arms_none
      ∙ nothing (executes (planned_turn code s).kind)

  arms_t : arms code t ≡ 0
  arms_t = ap (λ (n : ℕ). cond (executes (planned_turn code t).kind) n 0) h.arms_none
      ∙ nothing (executes (planned_turn code t).kind)

  -- where the lists of special registers are as long as those of a state
  module _ (m : MemoryContents) (long : 226 < length k.state.control.special)
      (after_long : 226 < length (turn code s (answer (demand code s) m)).1.control.special) where
    abbrev reply : ℕ
    reply = answer (demand code s) m

    abbrev a : State
    a = (turn code s reply).1

    abbrev with_list : List ℕ → State
    with_list l = record a { control = record a.control { special = l } }

    after_t : (turn code t (answer (demand code t) m)).1 ≡ with_interrupt differ.interrupt a
    after_t = ap (λ (d : Option Access). (turn code t (answer d m)).1) same_demand
        ∙ same_after code s t reply differ

    begins : special_of t.control 226 ≡ bit_or before bit
    begins =
        counted (slice_set k.state.control.special 226 (bit_or before bit)) 226 (λ e. omega
        (arith, e))
        ∙ get_or-set_same k.state.control.special 226 (bit_or before bit) 0 long

    left : special_of (with_interrupt differ.interrupt a).control 226 ≡ differ.interrupt
    left = get_or-set_same a.control.special 226 differ.interrupt 0 after_long

    -- what is left of INTERRUPT in both orders
    abbrev past : ℕ
    past = interrupt_past before 0 (special_of a.control 226)

    rest : without_bits differ.interrupt timer_bits ≡ without_bits
        (special_of a.control 226) timer_bits
    rest = differ.others ∙ sym (ap (λ (v : ℕ). without_bits v timer_bits)
        (ap (λ (u : State). special_of u.control 226) (after_is code s reply)
        ∙ kept_of (write_with_reply (planned_turn code s).write
        (planned_turn code s).awaited reply) (planned_turn code s).after))

    fired_first : with_timers (special_of t.control 226) (arms code t) (turn code t (answer
        (demand code t) m)).1
        ≡ with_special 226 (bit_or past bit) a
    fired_first =
        (λ i. with_timers (begins i) (arms_t i) (after_t i))
        ∙ (λ i. with_special 226 (interrupt_past (bit_or before bit) 0 (left i))
        (with_interrupt differ.interrupt a))
        ∙ ap with_list (set-set a.control.special 226 differ.interrupt (interrupt_past
        (bit_or before bit) 0 differ.interrupt))
        ∙ ap (λ (v : ℕ). with_special 226 v a) (past_bit before bit differ.interrupt
        (special_of a.control 226) (bit_fits timer h.few) rest)

    turned : with_timers (special_of s.control 226) (arms code s) a ≡ with_special 226 past a
    turned = λ i. with_timers (found i) (arms_s i) a

    fired_last : with_special 226 (bit_or (special_of (with_special 226 past a).control 226) bit)
        (with_special 226 past a)
        ≡ with_special 226 (bit_or past bit) a
    fired_last =
        (λ i. with_special 226 (bit_or (get_or-set_same a.control.special 226 past 0 after_long i)
        bit) (with_special 226 past a))
        ∙ ap with_list (set-set a.control.special 226 past (bit_or past bit))

    stops : is_stop (turn code t (answer (demand code t) m)).0.kind
        ≡ is_stop (turn code s reply).0.kind
    stops = ap is_stop (kind_is code t (answer (demand code t) m) ∙ sym differ.kind
        ∙ sym (kind_is code s reply))

    abbrev core : State → ℕ → Bool → MomentCore
    core u armed stopped = record { state = u; armed = armed; stopped = stopped }

    -- the core after it has fired
    fired : core_fired timer k ≡ core (with_special 226 (bit_or before bit) k.state)
        (without_bits k.armed bit) k.stopped
    fired = ap (λ (b : Bool). cond b (core (with_special 226 (bit_or before bit) k.state)
        (without_bits k.armed bit) k.stopped) k) h.armed

    -- the core after its turn
    gone : core_turned code count k m ≡ core (with_special 226 past a) k.armed (is_stop
        (turn code s reply).0.kind)
    gone = λ i. core (turned i) ((ap (bit_or k.armed) arms_s
        ∙ or_zero_r k.armed) i) (is_stop (turn code s reply).0.kind)

    pub turn_waits : core_turned code count (core_fired timer k) m
        ≡ core_fired timer (core_turned code count k m)
    turn_waits =
        ap (λ (j : MomentCore). core_turned code count j m) fired
        ∙ (λ i. core (fired_first i) ((ap (bit_or (without_bits k.armed bit)) arms_t
        ∙ or_zero_r (without_bits k.armed bit)) i) (stops i))
        ∙ sym (
        ap (core_fired timer) gone
        ∙ ap (λ (b : Bool). cond b (core (with_special 226 (bit_or (special_of
        (with_special 226 past a).control 226) bit) (with_special 226 past a))
        (without_bits k.armed bit) (is_stop (turn code s reply).0.kind)) (core
        (with_special 226 past a) k.armed (is_stop (turn code s reply).0.kind))) h.armed
        ∙ ap (λ (u : State). core u (without_bits k.armed bit) (is_stop
        (turn code s reply).0.kind)) fired_last)
