-- A judged step keeps the chain of stack pointers.
use Rattle.std.proofs.Common.{◌||◌, ◌≡◌, ℕ, ◌*◌, ◌-◌, ◌/◌, ◌%◌, ◌^◌, ◌<◌, ◌≢◌, ℤ, pos, negsuc, Bool, true, false, not, eqb, ltb, List, [], ◌∷◌, Option, Some, None, sym, ◌∙◌, refl, ap, arith, ⊎_elim, cond, subst}
use Rattle.std.proofs.Math.ListN.{set}
use Rattle.std.proofs.lemmas.Bool.{eqb-false, or_from, cond-true, cond-false, cases_Bool, not-false, or_parts, and_parts, ltb-true}
use Rattle.std.proofs.lemmas.List.{get_or-set_other, length-set, get_or-take, get_or_append_left}
use Rattle.xt_isa.specs.declared.Insn.{Insn}
use Rattle.xt_isa.specs.declared.Insn.TheVariants as insn
use Rattle.xt_isa.specs.declared.control.Control.TheVariants as control
use Rattle.xt_isa.specs.Ranges.{in_range, one_register, multiple_within}
use Rattle.xt_special.specs.Control.{Control}
use Rattle.xt_special.specs.Interrupts.{pending_of}
use Rattle.xt_trace.specs.declared.record.StepRecord.{StepRecord}
use Rattle.xt_trace.specs.declared.record.RegWrite.{RegWrite}
use Rattle.xt_rows.specs.declared.outcome.Outcome.{Outcome}
use Rattle.xt_rows.specs.declared.outcome.Outcome.TheVariants.{Does, Raises, Asks, Stops, Windowed}
use Rattle.xt_rows.specs.declared.outcome.WindowStep.TheVariants.{Enters, Returns, EndsOverflow, EndsUnderflow, Rotates, MovesStack, Reads, Sets, Exchanges}
use Rattle.xt_map.specs.Fetching.{Fetched, Fetches, Fails, SpellsNothing, fetch_at}
use Rattle.xt_rows.specs.Effects.{illegal_instruction}
use Rattle.xt_rows.specs.Numbers.{minus, natural}
use Rattle.xt_rows.specs.Operands.{reads}
use Rattle.xt_rows.specs.Outcomes.{outcome, control_outcome, outcome_at}
use Rattle.xt_rows.specs.Settling.{settled_interrupt, settled_wait, write_with_reply}
use Rattle.xt_frames.specs.Frames.{Frame, FrameState, value_or_zero, seen_after_write}
use Rattle.xt_frames.specs.FrameStep.{FrameTurn, Inputs, with_inputs, in_frame, exception_in_frame, entry_in_frame, return_in_frame, return_to_frame, done_in_frame, fetched_step, step_with_inputs}
use Rattle.xt_frames.specs.SaveAreas.{Range}
use Rattle.xt_frames.specs.Breaches.{Bounds, laid_breach, first_shown, fetched_tests, other_frame_size, small_frame, leaves_range, outside, misaligns_sp, opens_nothing}
use Rattle.xt_frames.specs.Stacks.{Stack, IsFrame, Moves, Stays, Calls, Leaves}
use Rattle.xt_rows.specs.Kinds.{Fits}
use Rattle.xt_rows.proofs.Fitting.{outcome_fits}
use Rattle.xt_frames.proofs.Shown.{none_shown, sound, Keeping, keeping_of, KeepsSp, keeps_sp, sp_written, entry_number}
use Rattle.xt_frames.proofs.Stacked.{enters_stack, leaves_stack, known_is}
use Rattle.xt_frames.specs.Stacks.{KeepsStack, MovesFrames}
use Rattle.std.specs.Prelude.{unwrap_or, take}
use Rattle.xt_frames.specs.SaveAreas.{sp_of}
use Rattle.xt_frames.specs.Frames.{seen_after_return}

-- ---- the three kinds of step
pub step_taken : (code : ℕ → ℕ) (reply : ℕ) (g : FrameState) → ltb 0 (pending_of g.control) ≡ true → step_with_inputs code reply g ≡ in_frame (settled_interrupt (pending_of g.control) g.control) reply g
unfolding step_with_inputs
step_taken code reply g e = cond-true (ltb 0 (pending_of g.control)) _ _ e

pub step_waits : (code : ℕ → ℕ) (reply : ℕ) (g : FrameState) → ltb 0 (pending_of g.control) ≡ false → g.control.waits ≡ true → step_with_inputs code reply g ≡ in_frame (settled_wait g.control) reply g
unfolding step_with_inputs
step_waits code reply g e w = cond-false (ltb 0 (pending_of g.control)) _ _ e ∙ cond-true g.control.waits _ _ w

pub step_fetches : (code : ℕ → ℕ) (reply : ℕ) (g : FrameState) → ltb 0 (pending_of g.control) ≡ false → g.control.waits ≡ false → step_with_inputs code reply g ≡ fetched_step (fetch_at code g.control.pc) code reply g
unfolding step_with_inputs
step_fetches code reply g e w = cond-false (ltb 0 (pending_of g.control)) _ _ e ∙ cond-false g.control.waits _ _ w

pub breach_fetches : (b : Bounds) (fresh : Bool) (code : ℕ → ℕ) (live stale : ℕ → Bool) (rec : StepRecord) (g : FrameState) → ltb 0 (pending_of g.control) ≡ false → g.control.waits ≡ false
    → laid_breach b fresh code live stale rec g ≡ first_shown (fetched_tests b fresh live stale (fetch_at code g.control.pc) rec g (step_with_inputs code rec.reply g))
unfolding laid_breach
breach_fetches b fresh code live stale rec g e w = cond-false (ltb 0 (pending_of g.control) || g.control.waits) _ _ (or_from _ _ e w)

pub write_stack : {lo hi : ℕ} {seen : List (Option ℕ)} {frames : List Frame} → Stack lo hi seen frames → (o : Option RegWrite) → KeepsSp o → Stack lo hi (seen_after_write o seen) frames
write_stack k None other = k
write_stack {seen = seen} k (Some w) other =
    let apart : 1 ≢ w.reg = λ e. other (sym e) in
    let same = get_or-set_other seen w.reg 1 (Some w.value) None apart in
    let at = known_is (set seen w.reg (Some w.value)) 1 (value_or_zero seen 1) (same ∙ k.sp) in
    record {
      range = k.range;
      wide = length-set seen w.reg (Some w.value) ∙ k.wide;
      shaped = k.shaped;
      sp = rw at (same ∙ k.sp);
      chain = rw at k.chain;
    }

entry_outcome : (code : ℕ → ℕ) (number : ℕ) (size : ℤ) (value : ℕ) (ar : ℕ → ℕ) (c : Control) → outcome_at code (insn.Control (control.Entry number size)) ar c ≡ Windowed (Enters number value) → minus (ar number) (natural size) ≡ value
unfolding outcome control_outcome reads
entry_outcome code number size value ar c e = cc

pub turn_if : (P : FrameTurn → Type 0) (b : Bool) (x y : FrameTurn) → P x → P y → P (cond b x y)
turn_if P true x y p q = p
turn_if P false x y p q = q

kept_sp : (seen : List (Option ℕ)) (n : ℕ) → 0 < n → value_or_zero (take (4 * n) seen) 1 ≡ value_or_zero seen 1
kept_sp seen n some = ap (λ (o : Option ℕ). unwrap_or o 0) (get_or-take (4 * n) seen 1 None (omega arith))

back_sp : (f : Frame) (seen : List (Option ℕ)) → IsFrame f → value_or_zero (seen_after_return f.kept seen f.by) 1 ≡ sp_of f
back_sp f seen k =
    let keeps = k.keeps in
    let some = k.moves in
    ap (λ (o : Option ℕ). unwrap_or o 0) (get_or_append_left f.kept (take (16 - 4 * f.by) seen) None 1 (omega arith))

abbrev pub KeepsChain : Range → FrameState → FrameTurn → Type 0
KeepsChain r g u = Stack r.lo r.hi u.after.seen u.after.frames × Moves g u.after

pub stays : {r : Range} {g : FrameState} (u : FrameTurn) → Stack r.lo r.hi g.seen g.frames → u.after.seen ≡ g.seen → u.after.frames ≡ g.frames → KeepsChain r g u
stays {r} {g} u k e f = (rw (e, f) k, Stays f (ap (λ (s : List (Option ℕ)). value_or_zero s 1) e))

writes : {r : Range} {g : FrameState} (u : FrameTurn) (o : Option RegWrite) → Stack r.lo r.hi g.seen g.frames → KeepsSp o → u.after.seen ≡ seen_after_write o g.seen → u.after.frames ≡ g.frames → KeepsChain r g u
writes {r} {g} u o k other e f = (rw (e, f) (write_stack k o other), Stays f (ap (λ (s : List (Option ℕ)). value_or_zero s 1) e ∙ sp_written g.seen o other))

entry_value : (code : ℕ → ℕ) (i : Insn) (number : ℕ) (size : ℤ) (value : ℕ) (ar : ℕ → ℕ) (c : Control) → i ≡ insn.Control (control.Entry number size) → outcome_at code i ar c ≡ Windowed (Enters number value) → minus (ar number) (natural size) ≡ value
entry_value code i number size value ar c e q = entry_outcome code number size value ar c (rw e at q)

-- ENTRY's tests
entry_large : (r : Range) (number : ℕ) (size : ℤ) (g : FrameState) → other_frame_size r (insn.Control (control.Entry number size)) g ≡ false → small_frame r.hi (value_or_zero g.seen 1) (natural size) g.control.ps.callinc g.frames ≡ false
unfolding other_frame_size
entry_large r number size g h = (or_parts (not (eqb number 1)) (small_frame r.hi (value_or_zero g.seen 1) (natural size) g.control.ps.callinc g.frames) h).1

entry_inside : (r : Range) (number : ℕ) (size : ℤ) (g : FrameState) → leaves_range r (insn.Control (control.Entry number size)) g ≡ false → outside r.lo r.hi (minus (value_or_zero g.seen 1) (natural size)) ≡ false
unfolding leaves_range
entry_inside r number size g h = h

entry_aligned : (number : ℕ) (size : ℤ) (g : FrameState) → misaligns_sp (insn.Control (control.Entry number size)) g ≡ false → eqb (minus (value_or_zero g.seen 1) (natural size) % 16) 0 ≡ true
unfolding misaligns_sp
entry_aligned number size g h = not-false _ h

entry_called : (number : ℕ) (size : ℤ) (g : FrameState) → opens_nothing (insn.Control (control.Entry number size)) g ≡ false → 0 < g.control.ps.callinc
unfolding opens_nothing
entry_called number size g h = let z : g.control.ps.callinc ≢ 0 = eqb-false _ _ h in omega arith

natural_small : (size : ℤ) → multiple_within 8 4096 size ≡ true → natural size < 2 ^ 16
unfolding multiple_within natural
natural_small (pos n) h = let l = ltb-true (n / 8) 4096 (and_parts (eqb (n % 8) 0) (ltb (n / 8) 4096) h).1 in omega arith
natural_small (negsuc n) h = omega arith

entry_small : (number : ℕ) (size : ℤ) → in_range (insn.Control (control.Entry number size)) ≡ true → natural size < 2 ^ 16
entry_small number size h = natural_small size (and_parts (one_register number) (multiple_within 8 4096 size) h).1

module _ (b : Bounds) (rec : StepRecord) (code : ℕ → ℕ) (g : FrameState) (k : Stack b.range.lo b.range.hi g.seen g.frames) (calls : g.control.ps.callinc < 4) where
  pops : (frames : List Frame) → g.frames ≡ frames → (a0 : ℕ) → KeepsChain b.range g (return_to_frame frames a0 g)
  pops [] e a0 = stays (return_to_frame [] a0 g) k refl refl
  pops (f ∷ rest) e a0 =
      let s : Stack b.range.lo b.range.hi g.seen (f ∷ rest) = rw e at k in
      (leaves_stack b.range.lo b.range.hi g.seen f rest s, Leaves f e (back_sp f g.seen s.shaped.0))

  pushes_entry : (number : ℕ) (size : ℤ) (value len : ℕ) {u : FrameTurn} → in_range (insn.Control (control.Entry number size)) ≡ true → Keeping b (insn.Control (control.Entry number size)) rec g u → minus (value_or_zero g.seen number) (natural size) ≡ value → KeepsChain b.range g (entry_in_frame number value len g)
  unfolding entry_in_frame
  pushes_entry number size value len ok o v =
      let one = entry_number number size b.range g o.size in
      let q = enters_stack b.range.lo b.range.hi g.seen g.frames g.control.ps.callinc (natural size) k (entry_called number size g o.opens) (omega arith) (entry_small number size ok) (entry_large b.range number size g o.size) (entry_inside b.range number size g o.low) (entry_aligned number size g o.align) in
      let w : minus (value_or_zero g.seen 1) (natural size) ≡ value = rw one at v in
      (rw (one, ← w) q, Calls (record { by = g.control.ps.callinc; kept = take (4 * g.control.ps.callinc) g.seen }) refl (kept_sp g.seen g.control.ps.callinc (entry_called number size g o.opens)))

  pushes : (i : Insn) (number : ℕ) (size : ℤ) (value len : ℕ) {u : FrameTurn} → in_range i ≡ true → Keeping b i rec g u → i ≡ insn.Control (control.Entry number size) → minus (value_or_zero g.seen number) (natural size) ≡ value → KeepsChain b.range g (entry_in_frame number value len g)
  pushes i number size value len ok o e v = pushes_entry number size value len (rw e at ok) (rw e at o) v

  done_keeps : (i : Insn) (len reply : ℕ) (x : Outcome) → outcome_at code i (value_or_zero g.seen) g.control ≡ x → Fits i x → in_range i ≡ true → Keeping b i rec g (done_in_frame x len reply g) → KeepsChain b.range g (done_in_frame x len reply g)
  unfolding return_in_frame
  done_keeps i len reply (Does e) q f ok o = writes (done_in_frame (Does e) len reply g) e.write k (keeps_sp i rec.write e.write f.2 o.movsp o.written) refl refl
  done_keeps i len reply (Raises cause addr) q f ok o = stays (done_in_frame (Raises cause addr) len reply g) k refl refl
  done_keeps i len reply (Asks access awaited e) q f ok o = writes (done_in_frame (Asks access awaited e) len reply g) (write_with_reply None awaited reply) k (keeps_sp i rec.write (write_with_reply None awaited reply) f.2 o.movsp o.written) refl refl
  done_keeps i len reply Stops q f ok o = stays (done_in_frame Stops len reply g) k refl refl
  done_keeps i len reply (Windowed (Enters number value)) q f ok o =
      let P : FrameTurn → Type 0 = KeepsChain b.range g in
      turn_if P g.control.ps.excm (exception_in_frame illegal_instruction None g) (entry_in_frame number value len g) (stays (exception_in_frame illegal_instruction None g) k refl refl) (pushes i number f.0 value len ok o f.1 (entry_value code i number f.0 value (value_or_zero g.seen) g.control f.1 q))
  done_keeps i len reply (Windowed (Returns a0)) q f ok o =
      let P : FrameTurn → Type 0 = KeepsChain b.range g in
      turn_if P g.control.ps.excm (exception_in_frame illegal_instruction None g) (return_to_frame g.frames a0 g) (stays (exception_in_frame illegal_instruction None g) k refl refl) (pops g.frames refl a0)
  done_keeps i len reply (Windowed (EndsOverflow epc1)) q f ok o = stays (done_in_frame (Windowed (EndsOverflow epc1)) len reply g) k refl refl
  done_keeps i len reply (Windowed (EndsUnderflow epc1)) q f ok o = stays (done_in_frame (Windowed (EndsUnderflow epc1)) len reply g) k refl refl
  done_keeps i len reply (Windowed (Rotates n)) q f ok o = stays (done_in_frame (Windowed (Rotates n)) len reply g) k refl refl
  done_keeps i len reply (Windowed (MovesStack number value)) q f ok o = stays (done_in_frame (Windowed (MovesStack number value)) len reply g) k refl refl
  done_keeps i len reply (Windowed (Reads register number)) q f ok o = stays (done_in_frame (Windowed (Reads register number)) len reply g) k refl refl
  done_keeps i len reply (Windowed (Sets register value)) q f ok o = stays (done_in_frame (Windowed (Sets register value)) len reply g) k refl refl
  done_keeps i len reply (Windowed (Exchanges register number value)) q f ok o = stays (done_in_frame (Windowed (Exchanges register number value)) len reply g) k refl refl

  pub fetched_keeps : (at : Fetched) (reply : ℕ) → ((i : Insn) (len : ℕ) → at ≡ Fetches i len → in_range i ≡ true) → ((i : Insn) (len : ℕ) → at ≡ Fetches i len → Keeping b i rec g (fetched_step (Fetches i len) code reply g)) → KeepsChain b.range g (fetched_step at code reply g)
  fetched_keeps (Fails addr) reply ok o = stays (fetched_step (Fails addr) code reply g) k refl refl
  fetched_keeps SpellsNothing reply ok o = stays (fetched_step SpellsNothing code reply g) k refl refl
  fetched_keeps (Fetches i len) reply ok o = done_keeps i len reply (outcome_at code i (value_or_zero g.seen) g.control) refl (outcome_fits code i g.control.pc _ _ _ _ g.control.ps g.control.threadptr) (ok i len refl) (o i len refl)

-- what the tests of a fetched instruction deny
denied : (b : Bounds) (fresh : Bool) (code : ℕ → ℕ) (live stale : ℕ → Bool) (rec : StepRecord) (g : FrameState) (at : Fetched) (reply : ℕ) → first_shown (fetched_tests b fresh live stale at rec g (fetched_step at code reply g)) ≡ None → (i : Insn) (len : ℕ) → at ≡ Fetches i len → Keeping b i rec g (fetched_step (Fetches i len) code reply g)
denied b fresh code live stale rec g at reply none i len e =
    let h = subst (λ x. first_shown (fetched_tests b fresh live stale x rec g (fetched_step x code reply g)) ≡ None) e none in
    let u = fetched_step (Fetches i len) code reply g in
    keeping_of b fresh live stale i rec g u (sound b fresh live stale i rec g u (none_shown (fetched_tests b fresh live stale (Fetches i len) rec g u) h))

keeps_both : (code : ℕ → ℕ) (b : Bounds) (fresh : Bool) (live stale : ℕ → Bool) (rec : StepRecord) (g : FrameState)
    → Stack b.range.lo b.range.hi g.seen g.frames → g.control.ps.callinc < 4
    → ((i : Insn) (len : ℕ) → ltb 0 (pending_of g.control) ≡ false → g.control.waits ≡ false → fetch_at code g.control.pc ≡ Fetches i len → in_range i ≡ true)
    → laid_breach b fresh code live stale rec g ≡ None → KeepsChain b.range g (step_with_inputs code rec.reply g)
keeps_both code b fresh live stale rec g k calls ok none =
    let reply = rec.reply in
    ⊎_elim
    (λ level. subst (KeepsChain b.range g) (sym (step_taken code reply g level)) (stays (in_frame (settled_interrupt (pending_of g.control) g.control) reply g) k refl refl))
    (λ quiet. ⊎_elim
    (λ w. subst (KeepsChain b.range g) (sym (step_waits code reply g quiet w)) (stays (in_frame (settled_wait g.control) reply g) k refl refl))
    (λ w.
    let u = step_fetches code reply g quiet w in
    let h0 : first_shown (fetched_tests b fresh live stale (fetch_at code g.control.pc) rec g (step_with_inputs code reply g)) ≡ None = sym (breach_fetches b fresh code live stale rec g quiet w) ∙ none in
    let h1 = subst (λ v. first_shown (fetched_tests b fresh live stale (fetch_at code g.control.pc) rec g v) ≡ None) u h0 in
    subst (KeepsChain b.range g) (sym u) (fetched_keeps b rec code g k calls (fetch_at code g.control.pc) reply (λ i len e. ok i len quiet w e) (denied b fresh code live stale rec g (fetch_at code g.control.pc) reply h1)))
    (cases_Bool g.control.waits))
    (cases_Bool (ltb 0 (pending_of g.control)))

pub keeps_stack : KeepsStack
keeps_stack code b fresh live stale rec g k calls ok none = (keeps_both code b fresh live stale rec g k calls ok none).0

pub moves_frames : MovesFrames
moves_frames code b fresh live stale rec g k calls ok none = (keeps_both code b fresh live stale rec g k calls ok none).1

-- the inputs of a record change neither the frames nor the visible registers
pub moves_as : (inp : Inputs) (f u : FrameState) → Moves (with_inputs inp f) u → Moves f u
moves_as inp f u (Stays frames sp) = Stays frames sp
moves_as inp f u (Calls g frames sp) = Calls g frames sp
moves_as inp f u (Leaves g frames sp) = Leaves g frames sp

-- nor do the numbers of special registers
pub moves_unset : (f u : FrameState) (unset : List Bool) → Moves f u → Moves f (record u { unset = unset })
moves_unset f u unset (Stays frames sp) = Stays frames sp
moves_unset f u unset (Calls g frames sp) = Calls g frames sp
moves_unset f u unset (Leaves g frames sp) = Leaves g frames sp
