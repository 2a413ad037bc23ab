-- A step over two inputs that differ in OWB alone.
use Rattle.std.specs.Int.{bit_at}
use Rattle.std.proofs.Common.{◌≡◌, ℕ, ◌+◌, ◌-◌, ◌/◌, ◌%◌, ◌^◌, ◌<◌, ◌≤◌, ◌≢◌, ◌⊎◌, inl, inr, Bool, true, false, ◌&&◌, ◌∷◌, [], ltb, eqb, List, Option, Some, None, sym, ap, ◌∙◌, refl, arith, ⊎_elim, subst, get_or, cond, length}
use Rattle.std.proofs.Math.ListN.{set}
use Rattle.std.proofs.lemmas.Bool.{cases_eq, cases_lt, ltb-true}
use Rattle.std.proofs.lemmas.List.{get_or-set_other, length-set}
use Rattle.xt_isa.specs.declared.Insn.{Insn}
use Rattle.xt_map.specs.declared.access.Access.{Access}
use Rattle.xt_special.specs.declared.ps.Ps.{Ps}
use Rattle.xt_special.specs.Shape.{IsPs}
use Rattle.xt_special.specs.Control.{Control, bit_of, ps_word, special_of}
use Rattle.xt_special.specs.Interrupts.{after_high_level, after_interrupt, pending_level, pending_of}
use Rattle.xt_trace.specs.declared.record.RegWrite.{RegWrite}
use Rattle.xt_uses.specs.declared.discipline.Discipline.TheVariants.{Strict}
use Rattle.xt_uses.specs.Words.{masked}
use Rattle.xt_uses.specs.Used.{counted_bits}
use Rattle.xt_uses.specs.UseLaws.{AgreeIn}
use Rattle.xt_uses.proofs.Agreeing.{agree_from}
use Rattle.xt_uses.proofs.Bits.{bit_at_div, bit_at_rest}
use Rattle.xt_simulation.specs.Knowing.{with_owb}
use Rattle.std.proofs.lemmas.Bool.{or_right, false≢true, le-leb, and_from}
use Rattle.std.proofs.lemmas.List.{get_or-set_same, get_or_past}
use Rattle.xt_special.specs.Access.{is_eps}
use Rattle.xt_special.specs.Exceptions.{after_exception}
use Rattle.xt_special.specs.Interrupts.{interrupt_cause}
use Rattle.xt_special.specs.Numbers as number
use Rattle.xt_special.specs.Timers.{after_tick}
use Rattle.xt_exec.proofs.Specials.{level_small}
use Rattle.xt_map.specs.Fetching.{Fetched, Fetches, Fails, SpellsNothing, fetch_at}
use Rattle.xt_rows.specs.declared.outcome.Flow.TheVariants.{Falls}
use Rattle.xt_rows.specs.declared.outcome.Outcome.{Outcome}
use Rattle.xt_rows.specs.declared.outcome.Outcome.TheVariants.{Does, Raises, Asks, Stops, Windowed}
use Rattle.xt_rows.specs.declared.outcome.WindowStep.{WindowStep}
use Rattle.xt_rows.specs.declared.outcome.WindowStep.TheVariants.{Enters, Returns, Reads, Sets, Exchanges, EndsOverflow, EndsUnderflow, Rotates, MovesStack}
use Rattle.xt_rows.specs.Outcomes.{outcome_at}
use Rattle.xt_rows.specs.Settling.{after_flow, after_outcome, settled_interrupt, settled_wait, write_with_reply}
use Rattle.xt_frames.specs.declared.holes.Nested.{Nested}
use Rattle.xt_frames.specs.Frames.{Frame, FrameState, value_or_zero, seen_after_write}
use Rattle.xt_frames.specs.FrameStep.{FrameTurn, done_in_frame, fetched_step, in_frame, step_with_inputs, return_in_frame, return_to_frame, entry_in_frame, exception_in_frame, windowed_in_frame}
use Rattle.xt_frames.proofs.StackSteps.{step_fetches, step_taken, step_waits}
use Rattle.xt_simulation.proofs.Evenly.{even_awake, even_ticked}
use Rattle.xt_simulation.proofs.InnerSteps.{ticked_saved}
use Rattle.xt_uses.specs.Words.{all_bits}
use Rattle.xt_uses.specs.UseLaws.{WritesAgree}
use Rattle.xt_uses.specs.UseStep.{step_insn}
use Rattle.xt_simulation.proofs.Specials.{eps_lost, eps_saved}
use Rattle.xt_simulation.proofs.OwbRows.{OutcomesNear, rows_near, shows_owb_in}
use Rattle.xt_simulation.proofs.OwbControl.{ControlNear, done_near, flow_owb, near_equal, raised_near, raised_owb, waited_near}

-- ---- two words of PS
bit_small : (b : Bool) → bit_of b ≤ 1
bit_small true = omega arith
bit_small false = omega arith

low_same : (p : Ps) (w : ℕ) → ps_word p % 2 ^ 8 ≡ ps_word (record p { owb = w }) % 2 ^ 8
unfolding ps_word
low_same p w = omega arith

high_same : (p : Ps) (w : ℕ) → IsPs p → w < 16 → ps_word p / 2 ^ 12 ≡ ps_word (record p { owb = w }) / 2 ^ 12
unfolding ps_word
high_same p w is small =
    let a = is.intlevel_fits in
    let b = is.ring_fits in
    let c = is.owb_fits in
    let x = bit_small p.excm in
    let y = bit_small p.um in
    omega (arith, a, b, c, x, y, small)

counted_one : (i : ℕ) → bit_at (counted_bits Strict 230) i ≡ 1 → (i < 8) ⊎ (12 ≤ i)
counted_one i one = ⊎_elim (λ low. inl low) (λ above. ⊎_elim (λ mid. absurd (middle i above mid one)) (λ high. inr high) (cases_lt i 12)) (cases_lt i 8)
  where
    middle : (i : ℕ) → 8 ≤ i → i < 12 → bit_at (counted_bits Strict 230) i ≡ 1 → ⊥
    middle i above mid one = ⊎_elim
        (λ e. eight (subst (λ j. bit_at (counted_bits Strict 230) j ≡ 1) e one))
        (λ n8. ⊎_elim
        (λ e. nine (subst (λ j. bit_at (counted_bits Strict 230) j ≡ 1) e one))
        (λ n9. ⊎_elim
        (λ e. ten (subst (λ j. bit_at (counted_bits Strict 230) j ≡ 1) e one))
        (λ n10. ⊎_elim
        (λ e. eleven (subst (λ j. bit_at (counted_bits Strict 230) j ≡ 1) e one))
        (λ n11. absurd (omega (arith, above, mid)))
        (cases_eq i 11))
        (cases_eq i 10))
        (cases_eq i 9))
        (cases_eq i 8)
      where
        eight : bit_at (counted_bits Strict 230) 8 ≡ 1 → ⊥
        eight e = absurd cc

        nine : bit_at (counted_bits Strict 230) 9 ≡ 1 → ⊥
        nine e = absurd cc

        ten : bit_at (counted_bits Strict 230) 10 ≡ 1 → ⊥
        ten e = absurd cc

        eleven : bit_at (counted_bits Strict 230) 11 ≡ 1 → ⊥
        eleven e = absurd cc

pub words_near : (p : Ps) (w : ℕ) → IsPs p → w < 16 → AgreeIn (counted_bits Strict 230) (ps_word p) (ps_word (record p { owb = w }))
words_near p w is small =
    let q : Ps = record p { owb = w } in
    agree_from (counted_bits Strict 230) (ps_word p) (ps_word q)
    (λ i one. ⊎_elim
    (λ low. sym (bit_at_rest (ps_word p) 8 i low) ∙ (ap (λ n. bit_at n i) (low_same p w) ∙ bit_at_rest (ps_word q) 8 i low))
    (λ high. at_high i (i - 12) (omega (arith, high)))
    (counted_one i one))
  where
    at_high : (i j : ℕ) → i ≡ 12 + j → bit_at (ps_word p) i ≡ bit_at (ps_word (record p { owb = w })) i
    at_high i j e =
        ap (bit_at (ps_word p)) e ∙ (sym (bit_at_div (ps_word p) 12 j) ∙ (ap (λ n. bit_at n j) (high_same p w is small) ∙ (bit_at_div (ps_word (record p { owb = w })) 12 j ∙ sym (ap (bit_at (ps_word (record p { owb = w }))) e))))

-- ---- what is pending
pub pending_same : (w : ℕ) (c : Control) → pending_of (with_owb w c) ≡ pending_of c
unfolding pending_level
pending_same w c = refl

-- ---- an interrupt
near_ticked : {c d : Control} → ControlNear c d → ControlNear (after_tick c) (after_tick d)
near_ticked {c = c} {d = d} n = record {
  even = λ z. even_ticked (with_owb z c) (with_owb z d) (n.even z);
  saved = λ k h. ap (masked (counted_bits Strict k)) (ticked_saved c k (eps_saved k h)) ∙ (n.saved k h ∙ sym (ap (masked (counted_bits Strict k)) (ticked_saved d k (eps_saved k h))));
}

near_awake : {c d : Control} → ControlNear c d → ControlNear (record c { waits = false }) (record d { waits = false })
near_awake {c = c} {d = d} n = record { even = λ z. even_awake (with_owb z c) (with_owb z d) (n.even z); saved = n.saved }

set_agrees : (m : ℕ) (xs : List ℕ) (k v w n : ℕ) → AgreeIn m v w → AgreeIn m (get_or (set xs k v) n 0) (get_or (set xs k w) n 0)
set_agrees m xs k v w n h =
    ⊎_elim
    (λ (is : n ≡ k). ⊎_elim
    (λ within. subst (λ j. AgreeIn m (get_or (set xs k v) j 0) (get_or (set xs k w) j 0)) (sym is) (ap (masked m) (get_or-set_same xs k v 0 within) ∙ (h ∙ sym (ap (masked m) (get_or-set_same xs k w 0 within)))))
    (λ past. ap (masked m) (get_or_past (set xs k v) n 0 (let l = length-set xs k v in omega (arith, l, is, past)) ∙ sym (get_or_past (set xs k w) n 0 (let l = length-set xs k w in omega (arith, l, is, past)))))
    (cases_lt k (length xs)))
    (λ other. ap (masked m) (get_or-set_other xs k n v 0 other ∙ sym (get_or-set_other xs k n w 0 other)))
    (cases_eq n k)

counted_eps : (n : ℕ) → is_eps n ≡ true → counted_bits Strict n ≡ counted_bits Strict 230
counted_eps n h = ap (λ b. cond (b && true) 0xFFFFF0FF all_bits) (or_right (eqb n 230) (is_eps n) h)

level_eps : (level : ℕ) → 2 ≤ level → level ≤ 5 → is_eps (192 + level) ≡ true
level_eps level a b = and_from _ _ (le-leb 194 (192 + level) (omega (arith, a))) (le-leb (192 + level) 199 (omega (arith, b)))

high_near : (level w : ℕ) (c : Control) → 2 ≤ level → level ≤ 5 → IsPs c.ps → w < 16 → ControlNear (after_high_level level c) (after_high_level level (with_owb w c))
high_near level w c least most is small =
    let a : List ℕ = set c.special (176 + level) c.pc in
    let v : ℕ = ps_word c.ps in
    let u : ℕ = ps_word (record c.ps { owb = w }) in
    record {
      even = λ z. record {
        pc = refl;
        ps = refl;
        threadptr = refl;
        waits = refl;
        special = record {
          size = length-set a (192 + level) v ∙ sym (length-set a (192 + level) u);
          only = eps_lost;
          at = λ j value_or_zero.
              let other : j ≢ 192 + level = λ e. absurd (false≢true (sym value_or_zero ∙ (ap is_eps e ∙ level_eps level least most))) in
              get_or-set_other a (192 + level) j v 0 other ∙ sym (get_or-set_other a (192 + level) j u 0 other);
        };
      };
      saved = λ n h. set_agrees (counted_bits Strict n) a (192 + level) v u n (subst (λ m. AgreeIn m v u) (sym (counted_eps n h)) (words_near c.ps w is small));
    }

pub interrupt_near : (level w : ℕ) (c : Control) → 0 < level → level ≤ 5 → IsPs c.ps → w < 16 → ControlNear (after_tick (after_interrupt level c)) (after_tick (after_interrupt level (with_owb w c)))
unfolding after_interrupt
interrupt_near level w c some most is small = near_ticked (near_awake (by_level (eqb level 1) refl))
  where
    by_level : (b : Bool) → eqb level 1 ≡ b → ControlNear (cond b (after_exception interrupt_cause None c) (after_high_level level c)) (cond b (after_exception interrupt_cause None (with_owb w c)) (after_high_level level (with_owb w c)))
    by_level true e = near_equal (after_exception interrupt_cause None c) (after_exception interrupt_cause None (with_owb w c)) (λ z. raised_owb interrupt_cause None c z ∙ sym (raised_owb interrupt_cause None (with_owb w c) z))
    by_level false e = high_near level w c (⊎_elim (λ one. absurd (false≢true (sym e ∙ ap (λ n. eqb n 1) one))) (λ more. omega (arith, some, more)) (cases_eq level 1)) most is small

-- ---- a step
-- Of what is written and of the registers after it: they are equal, or the instruction o has written values that agree.
pub data SeenNear (m : ℕ) (o : Option Insn) (a b : Option RegWrite) (xs ys : List (Option ℕ)) : Type 0 where
  Alike : a ≡ b → xs ≡ ys → SeenNear m o a b xs ys
  Shown : (i : Insn) (n v w : ℕ) (old : List (Option ℕ)) → o ≡ Some i → a ≡ Some (record { reg = n; value = v }) → b ≡ Some (record { reg = n; value = w }) → xs ≡ set old n (Some v) → ys ≡ set old n (Some w) → AgreeIn m v w → SeenNear m o a b xs ys

pub record StepsNear (n : Option Nested) (m : ℕ) (at : Fetched) (u v : FrameTurn) : Type 0 where
  pub kind : u.kind ≡ v.kind
  pub access : u.access ≡ v.access
  pub frames : u.after.frames ≡ v.after.frames
  pub unset : u.after.unset ≡ v.after.unset
  pub first : u.after.nested ≡ n
  pub nested : v.after.nested ≡ n
  pub control : ControlNear u.after.control v.after.control
  pub seen : SeenNear m (step_insn u.kind at) u.write v.write u.after.seen v.after.seen

abbrev pub told : ℕ → FrameState → FrameState
told w g = record g { control = with_owb w g.control }

module _ (m : ℕ) (at : Fetched) (w : ℕ) (g : FrameState) where
  raised_steps : (cause : ℕ) (addr : Option ℕ) → StepsNear g.nested m at (exception_in_frame cause addr g) (exception_in_frame cause addr (told w g))
  raised_steps cause addr = record { kind = refl; access = refl; frames = refl; unset = refl; first = refl; nested = refl; control = raised_near cause addr w g.control; seen = Alike refl refl }

  steps_if : (b : Bool) (x y u v : FrameTurn) → StepsNear g.nested m at x u → StepsNear g.nested m at y v → StepsNear g.nested m at (cond b x y) (cond b u v)
  steps_if true x y u v h k = h
  steps_if false x y u v h k = k

  pushed_steps : (number value len : ℕ) → StepsNear g.nested m at (entry_in_frame number value len g) (entry_in_frame number value len (told w g))
  unfolding entry_in_frame
  pushed_steps number value len = record {
    kind = refl;
    access = refl;
    frames = refl;
    unset = refl;
    first = refl;
    nested = refl;
    control = near_equal (after_tick (after_flow Falls len g.control)) (after_tick (after_flow Falls len (with_owb w g.control))) (λ z. ap after_tick (flow_owb Falls len g.control z ∙ sym (flow_owb Falls len (with_owb w g.control) z)));
    seen = Alike refl refl;
  }

  popped_steps : (frames : List Frame) (a0 : ℕ) → StepsNear g.nested m at (return_to_frame frames a0 g) (return_to_frame frames a0 (told w g))
  popped_steps [] a0 = raised_steps 0 None
  popped_steps (f ∷ rest) a0 = record { kind = refl; access = refl; frames = refl; unset = refl; first = refl; nested = refl; control = near_equal _ _ (λ z. refl); seen = Alike refl refl }

  stays : (step : WindowStep) (len reply : ℕ) → StepsNear g.nested m at (in_frame (after_outcome (Windowed step) len g.control) reply g) (in_frame (after_outcome (Windowed step) len (with_owb w g.control)) reply (told w g))
  stays step len reply = record { kind = refl; access = refl; frames = refl; unset = refl; first = refl; nested = refl; control = waited_near w g.control; seen = Alike refl refl }

  windowed_steps : (step : WindowStep) (len reply : ℕ) → StepsNear g.nested m at (windowed_in_frame step len reply g) (windowed_in_frame step len reply (told w g))
  unfolding return_in_frame
  windowed_steps (Enters number value) len reply = steps_if g.control.ps.excm _ _ _ _ (raised_steps 0 None) (pushed_steps number value len)
  windowed_steps (Returns a0) len reply = steps_if g.control.ps.excm _ _ _ _ (raised_steps 0 None) (popped_steps g.frames a0)
  windowed_steps (Reads a b) len reply = stays (Reads a b) len reply
  windowed_steps (Sets a b) len reply = stays (Sets a b) len reply
  windowed_steps (Exchanges a b c) len reply = stays (Exchanges a b c) len reply
  windowed_steps (EndsOverflow a) len reply = stays (EndsOverflow a) len reply
  windowed_steps (EndsUnderflow a) len reply = stays (EndsUnderflow a) len reply
  windowed_steps (Rotates a) len reply = stays (Rotates a) len reply
  windowed_steps (MovesStack a b) len reply = stays (MovesStack a b) len reply

written_near : (m : ℕ) (i : Insn) (o : Option Insn) → o ≡ Some i → (a b : Option RegWrite) (seen : List (Option ℕ)) → WritesAgree m a b → SeenNear m o a b (seen_after_write a seen) (seen_after_write b seen)
written_near m i o e None None seen h = Alike refl refl
written_near m i o e (Some a) (Some b) seen h =
    Shown i a.reg a.value b.value seen e refl (ap (λ n. Some (record { reg = n; value = b.value })) (sym h.0)) refl (ap (λ n. set seen n (Some b.value)) (sym h.0)) h.1
written_near m i o e None (Some b) seen h = absurd h
written_near m i o e (Some a) None seen h = absurd h

module _ (m : ℕ) (i : Insn) (len w : ℕ) (g : FrameState) where
  abbrev Near : Outcome → Outcome → ℕ → Type 0
  Near o p reply = StepsNear g.nested m (Fetches i len) (done_in_frame o len reply g) (done_in_frame p len reply (told w g))

  pub done_steps : (o p : Outcome) (reply : ℕ) → OutcomesNear m o p → Near o p reply
  unfolding step_insn
  done_steps (Does d) (Does e) reply h = record { kind = refl; access = refl; frames = refl; unset = refl; first = refl; nested = refl; control = done_near m d e h len w g.control; seen = written_near m i (Some i) refl d.write e.write g.seen h.write }
  done_steps (Asks a x d) (Asks b y e) reply h = record {
    kind = refl;
    access = ap (λ (z : Access). Some z) h.0;
    frames = refl;
    unset = refl;
    first = refl;
    nested = refl;
    control = done_near m d e h.1.1 len w g.control;
    seen = Alike (ap (λ z. write_with_reply None z reply) h.1.0) (ap (λ z. seen_after_write (write_with_reply None z reply) g.seen) h.1.0);
  }
  done_steps (Raises cause addr) p reply h = subst (λ z. Near (Raises cause addr) z reply) h (raised_steps m (Fetches i len) w g cause addr)
  done_steps Stops p reply h = subst (λ z. Near Stops z reply) h (record { kind = refl; access = refl; frames = refl; unset = refl; first = refl; nested = refl; control = waited_near w g.control; seen = Alike refl refl })
  done_steps (Windowed step) p reply h = subst (λ z. Near (Windowed step) z reply) h (windowed_steps m (Fetches i len) w g step len reply)
  done_steps (Does d) (Raises a b) reply h = absurd cc
  done_steps (Does d) (Asks a b e) reply h = absurd cc
  done_steps (Does d) Stops reply h = absurd cc
  done_steps (Does d) (Windowed s) reply h = absurd cc
  done_steps (Asks a x d) (Does e) reply h = absurd cc
  done_steps (Asks a x d) (Raises b y) reply h = absurd cc
  done_steps (Asks a x d) Stops reply h = absurd cc
  done_steps (Asks a x d) (Windowed s) reply h = absurd cc

module _ (m : ℕ) (code : ℕ → ℕ) (reply w : ℕ) (g : FrameState) (is : IsPs g.control.ps) (small : w < 16)
    (shown : (i : Insn) (len : ℕ) → fetch_at code g.control.pc ≡ Fetches i len → shows_owb_in i ≡ true → m ≡ counted_bits Strict 230) where
  abbrev here : Fetched
  here = fetch_at code g.control.pc

  fetched_near : (at : Fetched) → here ≡ at → StepsNear g.nested m at (fetched_step at code reply g) (fetched_step at code reply (told w g))
  fetched_near (Fails addr) e = raised_steps m (Fails addr) w g 2 (Some addr)
  fetched_near SpellsNothing e = raised_steps m SpellsNothing w g 0 None
  fetched_near (Fetches i len) e =
      done_steps m i len w g (outcome_at code i (value_or_zero g.seen) g.control) (outcome_at code i (value_or_zero g.seen) (with_owb w g.control)) reply
      (rows_near m code i g.control.pc _ _ _ _ g.control.ps (record g.control.ps { owb = w }) g.control.threadptr (λ z. refl)
      (λ shows. subst (λ k. AgreeIn k (ps_word g.control.ps) (ps_word (record g.control.ps { owb = w }))) (sym (shown i len e shows)) (words_near g.control.ps w is small)))

  pub laid_near : StepsNear g.nested m here (step_with_inputs code reply g) (step_with_inputs code reply (told w g))
  laid_near = by_pending (ltb 0 (pending_of g.control)) refl
    where
      same : pending_of (told w g).control ≡ pending_of g.control
      same = pending_same w g.control

      both : (x y : FrameTurn) → step_with_inputs code reply g ≡ x → step_with_inputs code reply (told w g) ≡ y → StepsNear g.nested m here x y → StepsNear g.nested m here (step_with_inputs code reply g) (step_with_inputs code reply (told w g))
      both x y e f n = subst (λ z. StepsNear g.nested m here z (step_with_inputs code reply (told w g))) (sym e) (subst (StepsNear g.nested m here x) (sym f) n)

      by_waits : (b : Bool) → g.control.waits ≡ b → ltb 0 (pending_of g.control) ≡ false → StepsNear g.nested m here (step_with_inputs code reply g) (step_with_inputs code reply (told w g))
      by_waits true waits none =
          both (in_frame (settled_wait g.control) reply g) (in_frame (settled_wait (with_owb w g.control)) reply (told w g)) (step_waits code reply g none waits) (step_waits code reply (told w g) (ap (λ n. ltb 0 n) same ∙ none) waits)
          (record { kind = refl; access = refl; frames = refl; unset = refl; first = refl; nested = refl; control = waited_near w g.control; seen = Alike refl refl })
      by_waits false runs none =
          both (fetched_step here code reply g) (fetched_step here code reply (told w g)) (step_fetches code reply g none runs) (step_fetches code reply (told w g) (ap (λ n. ltb 0 n) same ∙ none) runs) (fetched_near here refl)

      by_pending : (b : Bool) → ltb 0 (pending_of g.control) ≡ b → StepsNear g.nested m here (step_with_inputs code reply g) (step_with_inputs code reply (told w g))
      by_pending true pends =
          both (in_frame (settled_interrupt (pending_of g.control) g.control) reply g) (in_frame (settled_interrupt (pending_of g.control) (with_owb w g.control)) reply (told w g))
          (step_taken code reply g pends)
          (step_taken code reply (told w g) (ap (λ n. ltb 0 n) same ∙ pends) ∙ ap (λ n. in_frame (settled_interrupt n (with_owb w g.control)) reply (told w g)) same)
          (record {
            kind = refl;
            access = refl;
            frames = refl;
            unset = refl;
            first = refl;
            nested = refl;
            control = interrupt_near (pending_of g.control) w g.control (ltb-true 0 (pending_of g.control) pends) (level_small (special_of g.control number.interrupt) (special_of g.control number.intenable) g.control.ps) is small;
            seen = Alike refl refl;
          })
      by_pending false none = by_waits g.control.waits refl none
