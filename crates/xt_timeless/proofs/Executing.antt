-- Whether an instruction that reads a register of time is executed.
use Rattle.std.proofs.Common.{◌≡◌, ℕ, zero, suc, Bool, true, false, cond, eqb, nat_lt, not, ◌&&◌, Some, None, refl, sym, ap, ◌∙◌, lt-ltb, arith}
use Rattle.std.specs.Prelude.{is_none}
use Rattle.std.proofs.lemmas.Bool.{eqb-true, false_from_ne_true, true≢false}
use Rattle.xt_isa.specs.declared.Insn.{Insn}
use Rattle.xt_isa.specs.declared.Insn.TheVariants as insn
use Rattle.xt_isa.specs.declared.system.System.TheVariants as system
use Rattle.xt_special.specs.Interrupts.{pending_of}
use Rattle.xt_rows.specs.Settling.{settled_interrupt, settled_wait}
use Rattle.xt_map.specs.Fetching.{Fetched, Fetches, fetch_at}
use Rattle.xt_window.specs.Ring.{visible}
use Rattle.xt_exec.specs.State.{State}
use Rattle.xt_exec.specs.Turn.{Planned, turn_or_overflow, fetched_turn, in_window, is_illegal, overflow, planned_turn, raises, window_check}
use Rattle.xt_timeless.specs.Time.{executes, reads_time}
use Rattle.xt_timeless.proofs.Turning.{time_kind}

legal : (i : Insn) (s : State) → reads_time i ≡ true → is_illegal i s ≡ false
unfolding is_illegal
legal (insn.System (system.Special name t n)) s h = refl
legal _ s h = absurd (true≢false (sym h))

overflow_kind : (distance : ℕ) (s : State) → executes (overflow distance s).kind ≡ false
unfolding overflow
overflow_kind distance s = refl

suc_no : (n : ℕ) → eqb (suc n) 0 ≡ false
suc_no n = false_from_ne_true (eqb (suc n) 0) (λ t. let e = eqb-true (suc n) 0 t in omega arith)

-- the level of an interrupt is 0, or more than 0
level_test : (l : ℕ) → eqb l 0 ≡ not (nat_lt 0 l)
level_test zero = refl
level_test (suc l) = suc_no l ∙ ap not (sym (lt-ltb 0 (suc l) (omega arith)))

checked_kind : (distance : ℕ) (code : ℕ → ℕ) (i : Insn) (len : ℕ) (s : State) → reads_time i ≡ true → eqb distance 0 ≡ executes (turn_or_overflow distance code i len s).kind
checked_kind zero code i len s h = sym (ap executes (time_kind code i (visible s.regs s.base) s.control len s h))
checked_kind (suc distance) code i len s h = suc_no distance ∙ sym (overflow_kind (suc distance) s)

fetched_kind : (code : ℕ → ℕ) (i : Insn) (len : ℕ) (s : State) → reads_time i ≡ true → eqb (window_check i s) 0 ≡ executes (fetched_turn (Fetches i len) code s).kind
fetched_kind code i len s h =
    checked_kind (window_check i s) code i len s h ∙ ap (λ (b : Bool). executes (choice b).kind) (sym (legal i s h))
  where
    choice : Bool → Planned
    choice b = cond b (raises 0 s) (turn_or_overflow (window_check i s) code i len s)

-- no interrupt is taken, the core does not wait, and no window is in the way
pub executed : (code : ℕ → ℕ) (i : Insn) (len : ℕ) (s : State) → reads_time i ≡ true → fetch_at code s.control.pc ≡ Fetches i len
    → (eqb (pending_of s.control) 0 && (not s.control.waits && eqb (window_check i s) 0)) ≡ executes (planned_turn code s).kind
unfolding planned_turn
executed code i len s h e =
    ap (λ (b : Bool). b && (not s.control.waits && eqb (window_check i s) 0)) (level_test (pending_of s.control)) ∙ by_tests (nat_lt 0 (pending_of s.control)) s.control.waits
  where
    choice : Bool → Bool → Planned
    choice b w = cond b (in_window (settled_interrupt (pending_of s.control) s.control) s) (cond w (in_window (settled_wait s.control) s) (fetched_turn (fetch_at code s.control.pc) code s))

    by_tests : (b w : Bool) → (not b && (not w && eqb (window_check i s) 0)) ≡ executes (choice b w).kind
    by_tests true w = refl
    by_tests false true = refl
    by_tests false false = fetched_kind code i len s h ∙ ap (λ (f : Fetched). executes (fetched_turn f code s).kind) (sym e)

-- ---- what the code sees

pub none_when : (b : Bool) (n : ℕ) → is_none (cond b None (Some n)) ≡ b
none_when true n = refl
none_when false n = refl

pub seen : (x f r t : Bool) → f ≡ t → t ≡ true → r ≡ x → r ≡ (x && f)
seen x f r true e h same = same ∙ and_true x ∙ ap (λ (b : Bool). x && b) (sym e)
  where
    and_true : (y : Bool) → y ≡ (y && true)
    and_true true = refl
    and_true false = refl
seen x f r false e h same = absurd (true≢false (sym h))

pub unseen : (x f : Bool) → f ≡ false → false ≡ (x && f)
unseen x f e = and_false x ∙ ap (λ (b : Bool). x && b) (sym e)
  where
    and_false : (y : Bool) → false ≡ (y && false)
    and_false true = refl
    and_false false = refl
