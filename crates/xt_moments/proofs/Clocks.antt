-- Turns that write a register of which nothing is known.
use Rattle.std.proofs.Common.{◌≡◌, ℕ, zero, suc, ◌^◌, ◌<◌, Bool, true, false, cond, nat_lt, ◌||◌}
use Rattle.std.proofs.Common.{Option}
use Rattle.std.proofs.Common.{Some, None, List, slice_index, slice_set, refl, sym, ap, ◌∙◌, subst}
use Rattle.std.proofs.Common.{⊎_elim, arith}
use Rattle.std.proofs.lemmas.Bool.{cases_eq, true≢false}
use Rattle.xt_isa.specs.declared.Insn.{Insn}
use Rattle.xt_isa.specs.declared.Insn.TheVariants as insn
use Rattle.xt_isa.specs.declared.system.System.TheVariants as system
use Rattle.xt_isa.specs.declared.system.SpecialName.TheVariants as SpecialName
use Rattle.xt_special.specs.Access.{ps_written, timer_bit, value_read, value_kept, with_sets}
use Rattle.xt_special.specs.Access.{without_bits, written_by}
use Rattle.xt_special.specs.Control.{Control, special_of}
use Rattle.xt_special.specs.Interrupts.{pending_level, pending_of}
use Rattle.xt_window.specs.Ring.{visible}
use Rattle.xt_trace.specs.declared.record.StepKind.{StepKind}
use Rattle.xt_trace.specs.declared.record.StepKind.TheVariants as kind
use Rattle.xt_map.specs.Fetching.{Fetched, Fetches, Fails, SpellsNothing, fetch_at}
use Rattle.xt_rows.specs.declared.outcome.Effect.{Effect}
use Rattle.xt_rows.specs.declared.outcome.Outcome.TheVariants.{Does}
use Rattle.xt_rows.specs.Effects.{no_change, write_to}
use Rattle.xt_rows.specs.Kinds.{moved_to}
use Rattle.xt_rows.specs.Operands.{reads, special_reads}
use Rattle.xt_rows.specs.Outcomes.{outcome, outcome_at, system_outcome}
use Rattle.xt_rows.specs.Settling.{settled_interrupt, settled_wait}
use Rattle.xt_exec.specs.State.{State}
use Rattle.xt_exec.specs.Turn.{Planned, fetched_turn, in_window, is_illegal, outcome_turn, overflow}
use Rattle.xt_exec.specs.Turn.{demand, planned_turn, turn, turn_or_overflow, window_check}
use Rattle.xt_uses.specs.Words.{all_bits}
use Rattle.xt_uses.specs.Known.{result_mask, system_mask}
use Rattle.xt_uses.specs.UseLaws.{AgreeIn, WritesAgree, pointer_mask}
use Rattle.xt_uses.specs.UseStep.{step_insn}
use Rattle.xt_uses.proofs.Agreeing.{agree_none}
use Rattle.xt_simulation.specs.Knowledge.{Knowledge}
use Rattle.xt_simulation.specs.SecretLaws.{FitsAccess, TurnsAgree}
use Rattle.xt_simulation.specs.Learning.{doubtful, ticked_masks}
use Rattle.xt_simulation.proofs.Controls.{Commons, Effects, effect_agrees, tick_agrees}
use Rattle.xt_simulation.proofs.Likes.{Like, like_same}
use Rattle.xt_simulation.proofs.SecretPlans.{Agrees, Plans, overflows, raised}
use Rattle.xt_simulation.proofs.Readings.{Two, other, specials}
use Rattle.xt_simulation.proofs.SecretReplied.{turn_access, turn_after, turn_kind, turn_sent, turn_writes}
use Rattle.xt_simulation.proofs.SecretSpecials.{Specials, set_alike, unequal}
use Rattle.xt_moments.specs.MomentLaws.{executes_clock, is_clock, writes_clock}

-- what holds of each clock
by_clock : (P : ℕ → Type 0) → P 234 → P 240 → P 241 → P 242 → (n : ℕ) → is_clock n ≡ true → P n
by_clock P a b c d n is = ⊎_elim
    (λ (e : n ≡ 234). subst P (sym e) a)
    (λ p. ⊎_elim
    (λ (e : n ≡ 240). subst P (sym e) b)
    (λ q. ⊎_elim
    (λ (e : n ≡ 241). subst P (sym e) c)
    (λ r. ⊎_elim
    (λ (e : n ≡ 242). subst P (sym e) d)
    (λ s. absurd (none p q r s))
    (cases_eq n 242))
    (cases_eq n 241))
    (cases_eq n 240))
    (cases_eq n 234)
  where
    none : (n ≡ 234 → ⊥) → (n ≡ 240 → ⊥) → (n ≡ 241 → ⊥) → (n ≡ 242 → ⊥) → ⊥
    none p q r s = true≢false (sym is ∙ (λ i. unequal n 234 p i || (unequal n 240 q i || (unequal n
        241 r i || unequal n 242 s i))))

like_dark : (mask x y : ℕ) → mask ≡ 0 → Like mask x y
like_dark mask x y dark = record {
  bits = subst (λ k. AgreeIn k x y) (sym dark) (agree_none x y);
  whole = λ whole. absurd (omega (arith, dark, whole));
}

-- an instruction that writes no clock executes no such write
none_clock : (k : StepKind) (i : Insn) (len : ℕ) → writes_clock i ≡ false
    → executes_clock (step_insn k (Fetches i len)) ≡ false
unfolding step_insn
none_clock kind.Insn i len h = h
none_clock (kind.Window vector) i len h = refl
none_clock (kind.Exc cause) i len h = refl
none_clock (kind.Interrupt level) i len h = refl
none_clock kind.Wait i len h = refl
none_clock kind.Stop i len h = refl

module _ (code : ℕ → ℕ) (m : Knowledge) (s : State) (rs ys : List ℕ) (k : ℕ) (h : Two m s rs ys k)
    (known : Commons m.special) (interrupts : special_of s.control 226 ≡ slice_index ys 226)
    (enabled : special_of s.control 228 ≡ slice_index ys 228) (count : m.special 234 ≡ 0)
    (compare0 : m.special 240 ≡ 0) (compare1 : m.special 241 ≡ 0) (compare2 : m.special 242
    ≡ 0) where
  abbrev t : State
  t = other s rs ys k

  abbrev Agree : Option Insn → Planned → Planned → Type 0
  Agree o p q = Agrees m s rs ys k h known o p q

  -- ---- what is written

  put : (n x y : ℕ) → m.special n ≡ 0
      → Specials m.special (slice_set s.control.special n x) (slice_set ys n y)
  put n x y dark =
      set_alike m.special s.control.special ys n x y (specials m s rs ys k h)
      (like_dark (m.special n) x y dark)

  -- a write of CCOUNT
  counted : (x y v w : ℕ)
      → Specials m.special (with_sets (written_by 234 x v) s.control.special)
      (with_sets (written_by 234 y w) ys)
  unfolding value_kept
  counted x y v w = put 234 x y count

  -- a write of CCOMPARE takes the bit of its timer away
  compared : (n x y : ℕ) → m.special n ≡ 0
      → Specials m.special
      (slice_set (slice_set s.control.special n x) 226
      (without_bits (special_of s.control 226) (timer_bit n)))
      (slice_set (slice_set ys n y) 226 (without_bits (slice_index ys 226) (timer_bit n)))
  compared n x y dark =
      set_alike m.special (slice_set s.control.special n x) (slice_set ys n y) 226 _ _ (put n x y
      dark)
      (like_same (m.special 226) _ _ (ap (λ v. without_bits v (timer_bit n)) interrupts))

  -- an effect on both
  plans : (mask stored : ℕ) (a b : Effect) (len : ℕ)
      → Effects m.special m.threadptr s.control.special ys a b → WritesAgree mask a.write b.write
      → Plans (WritesAgree mask) stored (ticked_masks m.special) m.threadptr s.regs rs
      (outcome_turn (Does a) len s) (outcome_turn (Does b) len t)
  plans mask stored a b len effects writes = record {
    kind = refl;
    write = writes;
    access = tt;
    sent = tt;
    silent = tt;
    awaited = refl;
    base = refl;
    start = refl;
    first_regs = refl;
    second_regs = refl;
    control = tick_agrees m.special m.threadptr _ _
        (effect_agrees m.special m.threadptr known a b len s.control t.control refl effects);
  }

  -- ---- the rows

  abbrev writes : ℕ → ℕ → ℕ → Control → Effect
  writes n x v c =
      record (no_change c.ps c.threadptr) { sets = written_by n x v; ps = ps_written n x c.ps }

  abbrev exchanges : ℕ → ℕ → ℕ → ℕ → ℕ → Control → Effect
  exchanges r n x u v c =
      record (no_change c.ps c.threadptr) {
        write = write_to r (value_read n u c.ps);
        sets = written_by n x v;
        ps = ps_written n x c.ps;
      }

  module _ (r len : ℕ) where
    abbrev wsr : ℕ → Insn
    wsr n = insn.System (system.Special SpecialName.Wsr r n)

    abbrev xsr : ℕ → Insn
    xsr n = insn.System (system.Special SpecialName.Xsr r n)

    abbrev x : ℕ
    x = visible s.regs s.base r

    abbrev y : ℕ
    y = visible rs s.base r

    abbrev v : ℕ
    v = special_of s.control 226

    abbrev w : ℕ
    w = slice_index ys 226

    abbrev Row : Insn → Type 0
    Row i =
        Agree
        (step_insn (outcome_turn (outcome_at code i (visible s.regs s.base) s.control) len s).kind
        (Fetches i len))
        (outcome_turn (outcome_at code i (visible s.regs s.base) s.control) len s)
        (outcome_turn (outcome_at code i (visible rs s.base) t.control) len t)

    effects : (a b : Effect)
        → Specials m.special (with_sets a.sets s.control.special) (with_sets b.sets ys)
        → a.ps ≡ b.ps → a.threadptr ≡ s.control.threadptr → b.threadptr ≡ k → a.flow ≡ b.flow
        → a.waits ≡ b.waits → Effects m.special m.threadptr s.control.special ys a b
    effects a b sets ps mine theirs flow waits = record {
      sets = sets;
      ps = ps;
      threadptr = subst (λ n. AgreeIn m.threadptr n b.threadptr) (sym mine)
          (subst (λ n. AgreeIn m.threadptr s.control.threadptr n) (sym theirs) h.agree.threadptr);
      flow = flow;
      waits = waits;
    }

    wsr_count : Row (wsr 234)
    unfolding outcome system_outcome reads special_reads doubtful moved_to pointer_mask value_kept step_insn result_mask system_mask
    wsr_count =
        let a = writes 234 x 0 s.control in
        let b = writes 234 y 0 t.control in (
          plans all_bits all_bits a b len (effects a b (counted x y 0 0) refl refl refl refl refl)
              tt,
          tt,
          tt,
        )

    wsr_compare0 : Row (wsr 240)
    unfolding outcome system_outcome reads special_reads doubtful moved_to pointer_mask step_insn result_mask system_mask
    wsr_compare0 =
        let a = writes 240 x v s.control in
        let b = writes 240 y w t.control in (
          plans all_bits all_bits a b len (effects a b (compared 240 x y compare0) refl refl refl
              refl refl) tt,
          tt,
          tt,
        )

    wsr_compare1 : Row (wsr 241)
    unfolding outcome system_outcome reads special_reads doubtful moved_to pointer_mask step_insn result_mask system_mask
    wsr_compare1 =
        let a = writes 241 x v s.control in
        let b = writes 241 y w t.control in (
          plans all_bits all_bits a b len (effects a b (compared 241 x y compare1) refl refl refl
              refl refl) tt,
          tt,
          tt,
        )

    wsr_compare2 : Row (wsr 242)
    unfolding outcome system_outcome reads special_reads doubtful moved_to pointer_mask step_insn result_mask system_mask
    wsr_compare2 =
        let a = writes 242 x v s.control in
        let b = writes 242 y w t.control in (
          plans all_bits all_bits a b len (effects a b (compared 242 x y compare2) refl refl refl
              refl refl) tt,
          tt,
          tt,
        )

    xsr_count : Row (xsr 234)
    unfolding outcome system_outcome reads special_reads doubtful moved_to pointer_mask value_kept step_insn result_mask system_mask
    xsr_count =
        let a = exchanges r 234 x (special_of s.control 234) 0 s.control in
        let b = exchanges r 234 y (slice_index ys 234) 0 t.control in (
          plans (m.special 234) all_bits a b len (effects a b (counted x y 0 0) refl refl refl refl
              refl)
              (refl, h.agree.special 234),
          tt,
          tt,
        )

    xsr_compare0 : Row (xsr 240)
    unfolding outcome system_outcome reads special_reads doubtful moved_to pointer_mask step_insn result_mask system_mask
    xsr_compare0 =
        let a = exchanges r 240 x (special_of s.control 240) v s.control in
        let b = exchanges r 240 y (slice_index ys 240) w t.control in (
          plans (m.special 240) all_bits a b len (effects a b (compared 240 x y compare0) refl refl
              refl refl refl)
              (refl, h.agree.special 240),
          tt,
          tt,
        )

    xsr_compare1 : Row (xsr 241)
    unfolding outcome system_outcome reads special_reads doubtful moved_to pointer_mask step_insn result_mask system_mask
    xsr_compare1 =
        let a = exchanges r 241 x (special_of s.control 241) v s.control in
        let b = exchanges r 241 y (slice_index ys 241) w t.control in (
          plans (m.special 241) all_bits a b len (effects a b (compared 241 x y compare1) refl refl
              refl refl refl)
              (refl, h.agree.special 241),
          tt,
          tt,
        )

    xsr_compare2 : Row (xsr 242)
    unfolding outcome system_outcome reads special_reads doubtful moved_to pointer_mask step_insn result_mask system_mask
    xsr_compare2 =
        let a = exchanges r 242 x (special_of s.control 242) v s.control in
        let b = exchanges r 242 y (slice_index ys 242) w t.control in (
          plans (m.special 242) all_bits a b len (effects a b (compared 242 x y compare2) refl refl
              refl refl refl)
              (refl, h.agree.special 242),
          tt,
          tt,
        )

    wsr_row : (n : ℕ) → is_clock n ≡ true → Row (wsr n)
    wsr_row n is = by_clock (λ n. Row (wsr n)) wsr_count wsr_compare0 wsr_compare1 wsr_compare2 n is

    xsr_row : (n : ℕ) → is_clock n ≡ true → Row (xsr n)
    xsr_row n is = by_clock (λ n. Row (xsr n)) xsr_count xsr_compare0 xsr_compare1 xsr_compare2 n is

    -- ---- an instruction, unless its window is in the way

    abbrev Comes : Insn → Planned → Planned → Type 0
    Comes i p q = Agree (step_insn p.kind (Fetches i len)) p q

    checked : (i : Insn) → Row i → (distance : ℕ)
        → Comes i (turn_or_overflow distance code i len s) (turn_or_overflow distance code i len t)
    unfolding step_insn overflow
    checked i row zero = row
    checked i row (suc distance) = overflows m s rs ys k h known (suc distance)

    wsr_comes : (n : ℕ) → is_clock n ≡ true
        → Comes (wsr n) (fetched_turn (Fetches (wsr n) len) code s) (fetched_turn (Fetches (wsr n)
        len) code t)
    unfolding is_illegal
    wsr_comes n is = checked (wsr n) (wsr_row n is) (window_check (wsr n) s)

    xsr_comes : (n : ℕ) → is_clock n ≡ true
        → Comes (xsr n) (fetched_turn (Fetches (xsr n) len) code s) (fetched_turn (Fetches (xsr n)
        len) code t)
    unfolding is_illegal
    xsr_comes n is = checked (xsr n) (xsr_row n is) (window_check (xsr n) s)

  -- ---- what is fetched

  abbrev Goes : Fetched → Type 0
  Goes f =
      executes_clock (step_insn (fetched_turn f code s).kind f) ≡ true
      → Agree (step_insn (fetched_turn f code s).kind f) (fetched_turn f code s) (fetched_turn f
      code t)

  wsr_goes : (r n len : ℕ) (b : Bool) → is_clock n ≡ b → Goes (Fetches (wsr r len n) len)
  wsr_goes r n len true is e = wsr_comes r len n is
  wsr_goes r n len false is e =
      absurd (true≢false (sym e ∙ none_clock (fetched_turn (Fetches (wsr r len n) len) code s).kind
      (wsr r len n) len is))

  xsr_goes : (r n len : ℕ) (b : Bool) → is_clock n ≡ b → Goes (Fetches (xsr r len n) len)
  xsr_goes r n len true is e = xsr_comes r len n is
  xsr_goes r n len false is e =
      absurd (true≢false (sym e ∙ none_clock (fetched_turn (Fetches (xsr r len n) len) code s).kind
      (xsr r len n) len is))

  other_goes : (i : Insn) (len : ℕ) → writes_clock i ≡ false → Goes (Fetches i len)
  other_goes i len no_clock e =
      absurd (true≢false (sym e ∙ none_clock (fetched_turn (Fetches i len) code s).kind i len
      no_clock))

  insn_goes : (i : Insn) (len : ℕ) → Goes (Fetches i len)
  insn_goes (insn.System (system.Special SpecialName.Wsr r n)) len = wsr_goes r n len (is_clock n)
      refl
  insn_goes (insn.System (system.Special SpecialName.Xsr r n)) len = xsr_goes r n len (is_clock n)
      refl
  insn_goes i len = other_goes i len refl

  goes : (f : Fetched) → Goes f
  unfolding step_insn
  goes (Fails address) e = raised m s rs ys k h known 2 (Some address)
  goes SpellsNothing e = raised m s rs ys k h known 0 None
  goes (Fetches i len) e = insn_goes i len e

  -- ---- the turn

  abbrev at_pc : Fetched
  at_pc = fetch_at code s.control.pc

  pending : pending_of s.control ≡ pending_of t.control
  pending = λ i. pending_level (interrupts i) (enabled i) s.control.ps

  pub clock_planned : executes_clock (step_insn (planned_turn code s).kind at_pc) ≡ true
      → Agree (step_insn (planned_turn code s).kind at_pc) (planned_turn code s) (planned_turn code
      t)
  unfolding planned_turn step_insn
  clock_planned e =
      subst (λ (l : ℕ). Agree (step_insn (body (pending_of s.control) s).kind at_pc) (body
      (pending_of s.control) s) (body l t)) pending
      (by_tests (nat_lt 0 (pending_of s.control)) s.control.waits e)
    where
      choice : Bool → Bool → ℕ → State → Planned
      choice b w l u =
          cond b (in_window (settled_interrupt l u.control) u)
          (cond w (in_window (settled_wait u.control) u) (fetched_turn (fetch_at code u.control.pc)
          code u))

      body : ℕ → State → Planned
      body l u = choice (nat_lt 0 l) u.control.waits l u

      by_tests : (b w : Bool) → executes_clock (step_insn (choice b w (pending_of s.control)
          s).kind at_pc) ≡ true
          → Agree (step_insn (choice b w (pending_of s.control) s).kind at_pc) (choice b w
          (pending_of s.control) s) (choice b w (pending_of s.control) t)
      by_tests true w e = absurd (true≢false (sym e))
      by_tests false true e = absurd (true≢false (sym e))
      by_tests false false e = goes at_pc e

  module _ (reply v w : ℕ) (small : reply < 2 ^ 32) (vs : v < 2 ^ 32) (ws : w < 2 ^ 32)
      (replies : AgreeIn reply v w) (fits : FitsAccess (planned_turn code s).access reply) where
    pub clocks_agree : executes_clock (step_insn (planned_turn code s).kind at_pc) ≡ true
        → TurnsAgree code reply m s (turn code s v) (turn code t w)
    unfolding turn demand
    clocks_agree e =
        let p = planned_turn code s in
        let q = planned_turn code t in
        let o = step_insn p.kind at_pc in
        let agree = clock_planned e in
        record {
          place = refl;
          kind = turn_kind m s rs ys k h known p q reply v w small vs ws replies fits o agree;
          access = turn_access m s rs ys k h known p q reply v w small vs ws replies fits o agree;
          sent = turn_sent m s rs ys k h known p q reply v w small vs ws replies fits o agree;
          write = turn_writes m s rs ys k h known p q reply v w small vs ws replies fits o agree;
          after = turn_after m s rs ys k h known p q reply v w small vs ws replies fits o agree;
        }
