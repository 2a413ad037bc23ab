-- A row that asks for a reply, beside the machine of uses, where the reply is another in the bits that are not known.
use Rattle.std.proofs.Common.{◌≡◌, ℕ, ◌^◌, ◌<◌, ◌⊎◌, inl, inr, true, false, Option, Some, None, sym, refl, arith, ⊎_elim, subst, length}
use Rattle.std.proofs.lemmas.Bool.{cases_lt}
use Rattle.std.proofs.lemmas.Nat.Bits.{bit_at_above, bit_at_ones}
use Rattle.xt_isa.specs.declared.Insn.{Insn}
use Rattle.xt_isa.specs.declared.Insn.TheVariants as insn
use Rattle.xt_isa.specs.declared.memory.Memory.{Memory}
use Rattle.xt_isa.specs.declared.memory.Memory.TheVariants as memory
use Rattle.xt_isa.specs.declared.memory.HalfName.TheVariants as HalfName
use Rattle.xt_isa.specs.declared.density.Density.{Density}
use Rattle.xt_isa.specs.declared.density.Density.TheVariants as density
use Rattle.xt_map.specs.declared.access.Access.{Access}
use Rattle.xt_trace.specs.declared.record.RegWrite.{RegWrite}
use Rattle.xt_map.specs.Fetching.{Fetches}
use Rattle.xt_rows.specs.declared.outcome.ReplyTarget.{ReplyTarget}
use Rattle.xt_rows.specs.declared.outcome.Effect.{Effect}
use Rattle.xt_rows.specs.declared.outcome.Outcome.{Outcome}
use Rattle.xt_rows.specs.declared.outcome.Outcome.TheVariants.{Does, Asks, Raises, Stops, Windowed}
use Rattle.xt_rows.specs.declared.outcome.WindowStep.{WindowStep}
use Rattle.xt_rows.specs.declared.outcome.WindowStep.TheVariants.{Enters, Returns, EndsOverflow, EndsUnderflow, Rotates, MovesStack, Reads, Sets, Exchanges}
use Rattle.xt_rows.specs.Kinds.{Fits, is_movsp, is_windowing, names_window_register}
use Rattle.xt_rows.specs.Numbers.{loaded_value}
use Rattle.xt_rows.specs.Operands.{reads}
use Rattle.xt_rows.specs.Outcomes.{outcome_at, value_of}
use Rattle.xt_rows.specs.Settling.{after_outcome, write_with_reply}
use Rattle.xt_rows.proofs.Fitting.{outcome_fits}
use Rattle.xt_frames.specs.Frames.{FrameState, value_or_zero}
use Rattle.xt_frames.specs.FrameStep.{FrameTurn, done_in_frame, fetched_step, in_frame, windowed_in_frame}
use Rattle.xt_uses.specs.declared.discipline.Discipline.{Discipline}
use Rattle.xt_uses.specs.declared.words.Word.{Word}
use Rattle.xt_uses.specs.Words.{all_bits}
use Rattle.xt_uses.specs.Known.{density_mask, loaded_mask, memory_mask, result_mask}
use Rattle.xt_uses.specs.Used.{used_are_known}
use Rattle.xt_uses.specs.UseState.{UseState, first_word, second_word, special_operand}
use Rattle.xt_uses.specs.UseLaws.{AgreeIn, OutcomesAgree, RepliesAgree, WritesAgree}
use Rattle.xt_uses.proofs.Agreeing.{agree_at, agree_from}
use Rattle.xt_uses.proofs.RowsReplies.{AwaitsMask, outcome_masked}
use Rattle.xt_simulation.specs.Knowing.{NowFit}
use Rattle.xt_simulation.proofs.Operands.{row_masks}
use Rattle.xt_simulation.proofs.Rows.{EntersWord, Executes, Ordinary, Pops, Pushes, Rests, RowStep, asks_ordinary, awaited_named, result, row_step}

-- ---- masks
-- the mask of what a row writes does not depend on the reply, or is whole where the reply is known
memory_whole : (i : Memory) (x : Word) (r : ℕ) → (memory_mask i x r ≡ memory_mask i x all_bits) ⊎ (memory_mask i x all_bits ≡ all_bits)
unfolding memory_mask loaded_value
memory_whole (memory.Byte name t s offset) x r = inr refl
memory_whole (memory.Half HalfName.L16ui t s offset) x r = inr refl
memory_whole (memory.Half HalfName.L16si t s offset) x r = inr refl
memory_whole (memory.Half HalfName.S16i t s offset) x r = inr refl
memory_whole (memory.Word name t s offset) x r = inr refl
memory_whole (memory.S32c1i t s offset) x r = inr refl
memory_whole (memory.Window name t s offset) x r = inr refl
memory_whole (memory.L32r t offset) x r = inr refl
memory_whole (memory.Movi t n) x r = inl refl
memory_whole (memory.Addi t s n) x r = inl refl
memory_whole (memory.Addmi t s n) x r = inl refl

density_whole : (i : Density) (x y : Word) (r : ℕ) → (density_mask i x y r ≡ density_mask i x y all_bits) ⊎ (density_mask i x y all_bits ≡ all_bits)
unfolding density_mask loaded_value
density_whole (density.Word name t s offset) x y r = inr refl
density_whole (density.Add a s t) x y r = inl refl
density_whole (density.Addi a s n) x y r = inl refl
density_whole (density.Mov t s) x y r = inl refl
density_whole _ x y r = inl refl

result_whole : (by : Discipline) (i : Insn) (x y u : Word) (pointer r : ℕ) → (result_mask by i x y u pointer r ≡ result_mask by i x y u pointer all_bits) ⊎ (result_mask by i x y u pointer all_bits ≡ all_bits)
unfolding result_mask
result_whole by (insn.Three i) x y u pointer r = inl refl
result_whole by (insn.Shift i) x y u pointer r = inl refl
result_whole by (insn.Memory i) x y u pointer r = memory_whole i x r
result_whole by (insn.Control i) x y u pointer r = inl refl
result_whole by (insn.System i) x y u pointer r = inl refl
result_whole by (insn.Density i) x y u pointer r = density_whole i x y r
result_whole by (insn.Boolean i) x y u pointer r = inl refl

-- what agrees in each bit agrees in those of a mask
whole_agrees : (mask x y : ℕ) → mask < 2 ^ 32 → AgreeIn all_bits x y → AgreeIn mask x y
whole_agrees mask x y small h = agree_from mask x y
    (λ i one. ⊎_elim
    (λ low. agree_at all_bits x y i h (bit_at_ones 32 i low))
    (λ high. let z = bit_at_above mask 32 i small high in absurd (omega (arith, one, z)))
    (cases_lt i 32))

remasked : (m k : ℕ) → ((x y : ℕ) → AgreeIn m x y → AgreeIn k x y) → (v w : Option RegWrite) → WritesAgree m v w → WritesAgree k v w
remasked m k f None None h = tt
remasked m k f (Some v) (Some w) h = (h.0, f v.value w.value h.1)
remasked m k f None (Some w) h = absurd h
remasked m k f (Some v) None h = absurd h

pub masked_row : {i : Insn} {s : UseState} {g h : FrameState} {m k : ℕ} {u v : FrameTurn} → ((x y : ℕ) → AgreeIn m x y → AgreeIn k x y) → RowStep i s g h m u v → RowStep i s g h k u v
masked_row {m = m} {k = k} {u = u} {v = v} f (Executes x) = Executes (record {
  kind = x.kind;
  kind_too = x.kind_too;
  write = remasked m k f u.write v.write x.write;
  access = x.access;
  control = x.control;
  is = x.is;
  is_too = x.is_too;
  narrow = x.narrow;
  stored = x.stored;
  sent = x.sent;
  no_entry = x.no_entry;
  no_return = x.no_return;
})
masked_row f (Rests x why) = Rests x why
masked_row f (Pushes number value len low entry size is small eu ev) = Pushes number value len low entry size is small eu ev
masked_row f (Pops a0 low return_ eu ev) = Pops a0 low return_ eu ev

-- ---- what does not ask does not look at the reply
windowed_alone : (w : WindowStep) (len a b : ℕ) (g : FrameState) → windowed_in_frame w len a g ≡ windowed_in_frame w len b g
windowed_alone (Enters number value) len a b g = refl
windowed_alone (Returns a0) len a b g = refl
windowed_alone (EndsOverflow epc1) len a b g = refl
windowed_alone (EndsUnderflow epc1) len a b g = refl
windowed_alone (Rotates n) len a b g = refl
windowed_alone (MovesStack number value) len a b g = refl
windowed_alone (Reads register number) len a b g = refl
windowed_alone (Sets register value) len a b g = refl
windowed_alone (Exchanges register number value) len a b g = refl

module _ (replies : RepliesAgree) {s : UseState} {g h : FrameState} (f : NowFit s g h) (code : ℕ → ℕ) (i : Insn) (count : length g.control.special ≡ 256) (small : value_of (value_or_zero g.seen) (reads i).0 < 2 ^ 32)
    (r n m : ℕ) (r_small : r < 2 ^ 32) (n_small : n < 2 ^ 32) (m_small : m < 2 ^ 32) (same : AgreeIn r n m) (word : result f code i count small r < 2 ^ 32) where
  abbrev o : Outcome
  o = outcome_at code i (value_or_zero g.seen) g.control

  abbrev p : Outcome
  p = outcome_at code i (value_or_zero h.seen) h.control

  abbrev mask : ℕ → ℕ
  mask k = result f code i count small k

  to_mask : (x y : ℕ) → AgreeIn (mask all_bits) x y → AgreeIn (mask r) x y
  to_mask x y q = ⊎_elim
      (λ e. subst (λ z. AgreeIn z x y) (sym e) q)
      (λ e. whole_agrees (mask r) x y word (subst (λ z. AgreeIn z x y) e q))
      (result_whole s.masks.discipline i (first_word i s h) (second_word i s h) (special_operand i s h) s.masks.threadptr r)

  -- what is received agrees in what is known of the reply
  received : (v w : Option ReplyTarget) → v ≡ w → ((z : ReplyTarget) → v ≡ Some z → mask r ≡ loaded_mask z.signed r) → WritesAgree (mask r) (write_with_reply None v n) (write_with_reply None w m)
  received v w e awaits = subst (λ (z : Option ReplyTarget). WritesAgree (mask r) (write_with_reply None v n) (write_with_reply None z m)) e (by v awaits)
    where
      by : (z : Option ReplyTarget) → ((y : ReplyTarget) → z ≡ Some y → mask r ≡ loaded_mask y.signed r) → WritesAgree (mask r) (write_with_reply None z n) (write_with_reply None z m)
      by None q = tt
      by (Some z) q = (refl, subst (λ k. AgreeIn k (loaded_value z.signed n) (loaded_value z.signed m)) (sym (q z refl)) (replies z.signed r n m r_small n_small m_small same))

  awaits_mask : (c : Access) (v : Option ReplyTarget) (e : Effect) → o ≡ Asks c v e → (z : ReplyTarget) → v ≡ Some z → mask r ≡ loaded_mask z.signed r
  awaits_mask c v e q z is =
      let a = outcome_masked s.masks.discipline code i (first_word i s h) (second_word i s h) (special_operand i s h) s.masks.threadptr r g.control.pc _ _ _ _ g.control.ps g.control.threadptr in
      let b : AwaitsMask (mask r) r (Asks c v e) = subst (AwaitsMask (mask r) r) q a in
      let d : AwaitsMask (mask r) r (Asks c (Some z) e) = subst (λ (k : Option ReplyTarget). AwaitsMask (mask r) r (Asks c k e)) is b in
      d

  asked_row : (len : ℕ) (c d : Access) (v w : Option ReplyTarget) (a e : Effect) → o ≡ Asks c v a → p ≡ Asks d w e → OutcomesAgree s.masks.discipline i (row_masks i s h) (Asks c v a) (Asks d w e) → used_are_known s.masks.discipline i (first_word i s h) (second_word i s h) ≡ true
      → Ordinary i s g h (mask r) (in_frame (after_outcome (Asks c v a) len g.control) n g) (in_frame (after_outcome (Asks d w e) len h.control) m h)
  asked_row len c d v w a e q k agree used =
      let x = asks_ordinary f code i count small len m (mask r) c d v w a e q k agree.0 agree.1 used agree.2 in
      let fo : Fits i (Asks c v a) = subst (Fits i) q (outcome_fits code i g.control.pc _ _ _ _ g.control.ps g.control.threadptr) in
      record {
        kind = x.kind;
        kind_too = x.kind_too;
        write = received v w agree.1 (awaits_mask c v a q);
        access = x.access;
        control = x.control;
        is = refl;
        is_too = x.is_too;
        narrow = awaited_named i v n fo.0;
        stored = x.stored;
        sent = x.sent;
        no_entry = x.no_entry;
        no_return = x.no_return;
      }

  by_outcomes : (len : ℕ) (y z : Outcome) → o ≡ y → p ≡ z → OutcomesAgree s.masks.discipline i (row_masks i s h) y z → used_are_known s.masks.discipline i (first_word i s h) (second_word i s h) ≡ true
      → RowStep i s g h (mask all_bits) (done_in_frame y len m g) (done_in_frame z len m h) → RowStep i s g h (mask r) (done_in_frame y len n g) (done_in_frame z len m h)
  by_outcomes len (Asks c v a) (Asks d w e) q k agree used row = Executes (asked_row len c d v w a e q k agree used)
  by_outcomes len (Does a) z q k agree used row = masked_row to_mask row
  by_outcomes len (Raises cause addr) z q k agree used row = masked_row to_mask row
  by_outcomes len Stops z q k agree used row = masked_row to_mask row
  by_outcomes len (Windowed w) z q k agree used row = masked_row to_mask (subst (λ t. RowStep i s g h (mask all_bits) t (done_in_frame z len m h)) (windowed_alone w len m n g) row)
  by_outcomes len (Asks c v a) (Does e) q k agree used row = absurd cc
  by_outcomes len (Asks c v a) (Raises cause addr) q k agree used row = absurd cc
  by_outcomes len (Asks c v a) Stops q k agree used row = absurd cc
  by_outcomes len (Asks c v a) (Windowed w) q k agree used row = absurd cc

  -- n is the reply of the filling, and m that of the record
  pub replied_row : (len : ℕ) → OutcomesAgree s.masks.discipline i (row_masks i s h) o p → EntersWord o → used_are_known s.masks.discipline i (first_word i s h) (second_word i s h) ≡ true → is_windowing i ≡ false → is_movsp i ≡ false → names_window_register i ≡ false
      → RowStep i s g h (mask r) (fetched_step (Fetches i len) code n g) (fetched_step (Fetches i len) code m h)
  replied_row len agree proper used a b c = by_outcomes len o p refl refl agree used (row_step f code i count small len m all_bits agree proper used a b c (λ e q. refl))
