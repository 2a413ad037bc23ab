-- One instruction, in a frame state that has the processor's numbers and in the machine of uses.
use Rattle.std.specs.Prelude.{bit_and}
use Rattle.std.proofs.Common.{◌≡◌, ◌≢◌, ◌⊎◌, inl, inr, ℕ, ◌*◌, ◌^◌, ◌%◌, ◌<◌, true, false, ℤ, Option, Some, None, sym, ap, ◌∙◌, refl, arith, ⊎_elim, subst, length}
use Rattle.std.proofs.lemmas.Nat.{and_le_l, and_mod, mod_below, pow_pos}
use Rattle.std.proofs.Math.Nat.{mod-eq_of_lt}
use Rattle.std.proofs.lemmas.Bool.{both_ways, cases_Bool, cond-false, cond-true, eqb-true, false≢true}
use Rattle.xt_isa.specs.declared.Insn.{Insn}
use Rattle.xt_isa.specs.declared.Insn.TheVariants as insn
use Rattle.xt_isa.specs.declared.control.Control.TheVariants as control
use Rattle.xt_isa.specs.declared.control.ReturnName.TheVariants as ReturnName
use Rattle.xt_isa.specs.declared.density.Density.TheVariants as density
use Rattle.xt_isa.specs.declared.density.BareName.TheVariants as BareName
use Rattle.xt_isa.specs.declared.system.System.TheVariants as system
use Rattle.xt_isa.specs.declared.system.UserName.TheVariants as UserName
use Rattle.xt_map.specs.declared.access.Access.{Access}
use Rattle.xt_map.specs.Regions.{uart_transmit}
use Rattle.xt_map.specs.Touching.{is_store}
use Rattle.xt_map.specs.declared.access.Kind.{Kind}
use Rattle.xt_map.specs.declared.access.Kind.TheVariants.{Load, Store, Cas}
use Rattle.xt_special.specs.Control.{special_of}
use Rattle.xt_special.specs.Access.{SpecialWrites, no_sets}
use Rattle.xt_special.specs.declared.ps.Ps.{Ps}
use Rattle.xt_trace.specs.declared.record.StepKind.TheVariants as step
use Rattle.xt_rows.specs.declared.outcome.ReplyTarget.{ReplyTarget}
use Rattle.xt_rows.specs.declared.outcome.Effect.{Effect}
use Rattle.xt_rows.specs.declared.outcome.Outcome.{Outcome}
use Rattle.xt_rows.specs.declared.outcome.Outcome.TheVariants.{Does, Asks, Raises, Stops, Windowed}
use Rattle.xt_rows.specs.declared.outcome.WindowStep.{WindowStep}
use Rattle.xt_rows.specs.declared.outcome.WindowStep.TheVariants.{Enters, Returns, EndsOverflow, EndsUnderflow, Rotates, MovesStack, Reads, Sets, Exchanges}
use Rattle.xt_map.specs.Fetching.{Fetched, Fetches}
use Rattle.xt_rows.specs.Effects.{illegal_instruction, no_change}
use Rattle.xt_rows.specs.RowLaws.{AsksWith}
use Rattle.xt_rows.specs.Kinds.{AwaitsNamed, Fits, FitsStep, WritesNamed, IsReturn, SetsOne, is_entry, is_movsp, is_return, is_saved, is_windowing, moved_to, names_window_register}
use Rattle.xt_rows.specs.Operands.{reads, special_reads}
use Rattle.xt_rows.specs.Outcomes.{control_outcome, density_outcome, outcome, outcome_at, value_of}
use Rattle.xt_rows.specs.Settling.{after_outcome, settled_interrupt, settled_wait, write_with_reply}
use Rattle.xt_rows.proofs.Fitting.{outcome_alone, outcome_fits}
use Rattle.xt_frames.specs.Frames.{FrameState, value_or_zero, seen_after_write}
use Rattle.xt_frames.specs.FrameStep.{FrameTurn, done_in_frame, fetched_step, in_frame, return_in_frame, entry_in_frame, exception_in_frame, windowed_in_frame}
use Rattle.xt_frames.specs.Breaches.{is_exception}
use Rattle.xt_simulation.proofs.InnerRows.{stops_move_none}
use Rattle.xt_uses.specs.declared.words.Word.{Word}
use Rattle.xt_uses.specs.Words.{all_bits, masked}
use Rattle.xt_uses.specs.UseState.{UseState, first_word, second_word, special_operand}
use Rattle.xt_uses.specs.UseStep.{step_insn}
use Rattle.xt_uses.specs.Known.{result_mask}
use Rattle.xt_uses.specs.UseLaws.{AccessesAgree, EffectsAgree, IsSent, OutcomesAgree, WritesAgree, pointer_mask}
use Rattle.xt_uses.proofs.Owb.{but_owb}
use Rattle.xt_simulation.specs.Knowing.{ControlLeft, NowFit}
use Rattle.xt_simulation.proofs.Effects.{GivesTo, effect_fits, moved_masks}
use Rattle.xt_simulation.proofs.Operands.{row_masks, word_fits, word_value}
use Rattle.xt_simulation.proofs.Pointer.{LeavesPointer, pointer_left}
use Rattle.xt_uses.specs.Used.{low_bits, used_are_known}
use Rattle.xt_simulation.proofs.Sent.{HasSent, KindSent, second_sent}
use Rattle.xt_simulation.proofs.Seen.{cut_twice}
use Rattle.xt_rows.proofs.Stored.{HasStored, KindStored, second_stored}
use Rattle.xt_simulation.proofs.Specials.{SetsTo, left_fits, moved_sets, raised_fits, taken_fits, ticked_fits}

-- ---- THREADPTR
-- the word that a row leaves there fits the number
pub pointer_cut : (i : Insn) (mask x a bits t u : ℕ) → masked mask x ≡ a → masked bits t ≡ u → masked (pointer_mask i mask bits) (pointer_mask i x t) ≡ pointer_mask i a u
unfolding pointer_mask
pointer_cut (insn.System (system.User UserName.Wur r n)) mask x a bits t u h k = h
pointer_cut _ mask x a bits t u h k = k

-- ---- kinds of rows
not_return : (code : ℕ → ℕ) (i : Insn) (pc x y u v : ℕ) (ps : Ps) (t : ℕ) (e : Effect) → outcome code i pc x y u v ps t ≡ Does e → is_return i ≡ false
unfolding is_return outcome control_outcome density_outcome
not_return code (insn.Control (control.Return ReturnName.Retw)) pc x y u v ps t e q = absurd cc
not_return code (insn.Density (density.Bare BareName.Retw)) pc x y u v ps t e q = absurd cc
not_return code _ pc x y u v ps t e q = refl

asks_not_return : (code : ℕ → ℕ) (i : Insn) (pc x y u v : ℕ) (ps : Ps) (t : ℕ) (a : Access) (w : Option ReplyTarget) (e : Effect) → outcome code i pc x y u v ps t ≡ Asks a w e → is_return i ≡ false
unfolding is_return outcome control_outcome density_outcome
asks_not_return code (insn.Control (control.Return ReturnName.Retw)) pc x y u v ps t a w e q = absurd cc
asks_not_return code (insn.Density (density.Bare BareName.Retw)) pc x y u v ps t a w e q = absurd cc
asks_not_return code _ pc x y u v ps t a w e q = refl

-- the stack pointer that ENTRY makes is a word
abbrev pub EntersWord : Outcome → Type 0
EntersWord o = (n k : ℕ) → o ≡ Windowed (Enters n k) → k < 2 ^ 32

-- ---- what an executed row does
abbrev pub AskedAlike : ℕ → Option Access → Option Access → Type 0
AskedAlike mask None None = Unit {0}
AskedAlike mask (Some a) (Some b) = AccessesAgree mask a b
AskedAlike mask _ _ = ⊥

-- what is stored is cut to the mask
abbrev pub KindIn : ℕ → Kind → Type 0
KindIn mask (Store v) = masked mask v ≡ v
KindIn mask _ = Unit {0}

abbrev pub StoredIn : ℕ → Option Access → Type 0
StoredIn mask None = Unit {0}
StoredIn mask (Some a) = KindIn mask a.kind

-- the low bits of a value that is cut are cut
pub low_cut : (mask v k : ℕ) → masked mask v ≡ v → masked mask (v % 2 ^ k) ≡ v % 2 ^ k
low_cut mask v k h =
    let low : v % 2 ^ k < 2 ^ k = mod_below v (2 ^ k) (pow_pos k) in
    let a : bit_and (v % 2 ^ k) mask % 2 ^ k ≡ bit_and (v % 2 ^ k % 2 ^ k) (mask % 2 ^ k) = and_mod (v % 2 ^ k) mask k in
    let b : v % 2 ^ k % 2 ^ k ≡ v % 2 ^ k = mod-eq_of_lt low in
    let c : bit_and v mask % 2 ^ k ≡ bit_and (v % 2 ^ k) (mask % 2 ^ k) = and_mod v mask k in
    let d : bit_and (v % 2 ^ k) mask < 2 ^ k = omega (arith, and_le_l (v % 2 ^ k) mask, low) in
    sym (mod-eq_of_lt d) ∙ (a ∙ (ap (λ z. bit_and z (mask % 2 ^ k)) b ∙ (sym c ∙ ap (λ z. z % 2 ^ k) h)))

stored_kind : (mask y size : ℕ) (k : Kind) → masked mask y ≡ y → KindStored y size k → KindIn mask k
stored_kind mask y size Load h s = tt
stored_kind mask y size (Store v) h s = ap (masked mask) s ∙ (low_cut mask y (8 * size) h ∙ sym s)
stored_kind mask y size (Cas e n) h s = tt

sent_kind : (b : Word) (addr : ℕ) (k : Kind) → KindSent b addr k → is_store k ≡ true → addr ≡ uart_transmit → masked b.mask (low_bits 8) ≡ low_bits 8
sent_kind b addr (Store v) h store at = eqb-true _ _ (h at)
sent_kind b addr Load h store at = absurd (false≢true store)
sent_kind b addr (Cas e n) h store at = absurd (false≢true store)

pub awaited_named : (i : Insn) (awaited : Option ReplyTarget) (reply : ℕ) → AwaitsNamed i awaited → WritesNamed i (write_with_reply None awaited reply)
awaited_named i None reply h = tt
awaited_named i (Some a) reply h = h

-- both execute it; the register that they write, if they do, has the mask `mask`
pub record Ordinary (i : Insn) (s : UseState) (g h : FrameState) (mask : ℕ) (u v : FrameTurn) : Type 0 where
  pub kind : u.kind ≡ step.Insn
  pub kind_too : v.kind ≡ step.Insn
  pub write : WritesAgree mask u.write v.write
  pub access : AskedAlike (second_word i s h).mask u.access v.access
  pub control : ControlLeft s.masks.discipline (moved_masks (moved_to i) (first_word i s h).mask s.masks.special) (pointer_mask i (first_word i s h).mask s.masks.threadptr) u.after.control v.after.control
  pub is : u.after ≡ record g { seen = seen_after_write u.write g.seen; control = u.after.control }
  pub is_too : v.after ≡ record h { seen = seen_after_write v.write h.seen; control = v.after.control }
  pub narrow : WritesNamed i u.write
  pub stored : StoredIn (second_word i s h).mask v.access
  pub sent : IsSent (second_word i s h).mask v.access
  pub no_entry : is_entry i ≡ false
  pub no_return : is_return i ≡ false

-- neither executes one: an exception, an interrupt, a turn of waiting, or BREAK
pub record Quiet (s : UseState) (g h : FrameState) (u v : FrameTurn) : Type 0 where
  pub kind : u.kind ≡ v.kind
  pub idle : (at : Fetched) → step_insn v.kind at ≡ None
  pub write : u.write ≡ None
  pub write_too : v.write ≡ None
  pub access : u.access ≡ None
  pub access_too : v.access ≡ None
  pub control : ControlLeft s.masks.discipline s.masks.special s.masks.threadptr u.after.control v.after.control
  pub is : u.after ≡ record g { control = u.after.control }
  pub is_too : v.after ≡ record h { control = v.after.control }

pub data RowStep (i : Insn) (s : UseState) (g h : FrameState) (mask : ℕ) (u v : FrameTurn) : Type 0 where
  Executes : Ordinary i s g h mask u v → RowStep i s g h mask u v
  Rests : Quiet s g h u v → (is_exception u.kind ≡ true) ⊎ (moved_to i ≡ None) → RowStep i s g h mask u v
  Pushes : (number value len : ℕ) → g.control.ps.excm ≡ false → is_entry i ≡ true → (size : ℤ) → i ≡ insn.Control (control.Entry number size) → value < 2 ^ 32 → u ≡ entry_in_frame number value len g → v ≡ entry_in_frame number value len h → RowStep i s g h mask u v
  Pops : (a0 : ℕ) → g.control.ps.excm ≡ false → is_return i ≡ true → u ≡ return_in_frame a0 g → v ≡ return_in_frame a0 h → RowStep i s g h mask u v

module _ {s : UseState} {g h : FrameState} (f : NowFit s g h) where
  pub raise_quiet : (cause : ℕ) (addr : Option ℕ) → Quiet s g h (exception_in_frame cause addr g) (exception_in_frame cause addr h)
  unfolding step_insn
  raise_quiet cause addr = record {
    kind = refl;
    idle = λ at. refl;
    write = refl;
    write_too = refl;
    access = refl;
    access_too = refl;
    control = left_fits (ticked_fits (raised_fits f.control cause addr));
    is = refl;
    is_too = refl;
  }

  pub taken_quiet : (level reply : ℕ) → level < 16 → Quiet s g h (in_frame (settled_interrupt level g.control) reply g) (in_frame (settled_interrupt level h.control) reply h)
  unfolding step_insn
  taken_quiet level reply small = record {
    kind = refl;
    idle = λ at. refl;
    write = refl;
    write_too = refl;
    access = refl;
    access_too = refl;
    control = left_fits (ticked_fits (taken_fits f.control level small));
    is = refl;
    is_too = refl;
  }

  pub waits_quiet : (reply : ℕ) → Quiet s g h (in_frame (settled_wait g.control) reply g) (in_frame (settled_wait h.control) reply h)
  unfolding step_insn
  waits_quiet reply = record {
    kind = refl;
    idle = λ at. refl;
    write = refl;
    write_too = refl;
    access = refl;
    access_too = refl;
    control = left_fits (ticked_fits f.control);
    is = refl;
    is_too = refl;
  }

  stops_quiet : (len reply : ℕ) → Quiet s g h (in_frame (after_outcome Stops len g.control) reply g) (in_frame (after_outcome Stops len h.control) reply h)
  unfolding step_insn
  stops_quiet len reply = record {
    kind = refl;
    idle = λ at. refl;
    write = refl;
    write_too = refl;
    access = refl;
    access_too = refl;
    control = left_fits (ticked_fits f.control);
    is = refl;
    is_too = refl;
  }

module _ {s : UseState} {g h : FrameState} (f : NowFit s g h) (code : ℕ → ℕ) (i : Insn) (count : length g.control.special ≡ 256) (small : value_of (value_or_zero g.seen) (reads i).0 < 2 ^ 32) where
  abbrev a : Word
  a = first_word i s h

  abbrev x : ℕ
  x = value_of (value_or_zero g.seen) (reads i).0

  abbrev o : Outcome
  o = outcome_at code i (value_or_zero g.seen) g.control

  abbrev p : Outcome
  p = outcome_at code i (value_or_zero h.seen) h.control

  same_operand : value_of (value_or_zero h.seen) (reads i).0 ≡ a.value
  same_operand = sym (word_value s h (reads i).0)

  gives : (e : Effect) → o ≡ Does e → GivesTo (moved_to i) x e.sets
  gives e q r is mark = let k : SetsTo r.1 x (Does e) = subst (SetsTo r.1 x) q (moved_sets code i g.control.pc x _ _ _ g.control.ps g.control.threadptr r is mark) in k

  gives_too : (e : Effect) → p ≡ Does e → GivesTo (moved_to i) a.value e.sets
  gives_too e q r is mark =
      let k : SetsTo r.1 (value_of (value_or_zero h.seen) (reads i).0) (Does e) = subst (SetsTo r.1 (value_of (value_or_zero h.seen) (reads i).0)) q (moved_sets code i h.control.pc (value_of (value_or_zero h.seen) (reads i).0) _ _ _ h.control.ps h.control.threadptr r is mark) in
      subst (λ z. SetsTo r.1 z (Does e)) same_operand k

  pointers : (m e : ℕ) → m ≡ pointer_mask i x g.control.threadptr → e ≡ pointer_mask i (value_of (value_or_zero h.seen) (reads i).0) h.control.threadptr → masked (pointer_mask i a.mask s.masks.threadptr) m ≡ e
  pointers m e q r =
      let k = pointer_cut i a.mask x a.value s.masks.threadptr g.control.threadptr h.control.threadptr (word_fits f (reads i).0) f.control.pointer in
      ap (masked (pointer_mask i a.mask s.masks.threadptr)) q ∙ (k ∙ (ap (λ z. pointer_mask i z h.control.threadptr) (sym same_operand) ∙ sym r))

  -- ---- without an access
  pub does_ordinary : (len reply : ℕ) (m e : Effect) → o ≡ Does m → p ≡ Does e → EffectsAgree s.masks.discipline i (row_masks i s h) m e → Ordinary i s g h (row_masks i s h).result (in_frame (after_outcome (Does m) len g.control) reply g) (in_frame (after_outcome (Does e) len h.control) reply h)
  does_ordinary len reply m e q r agree =
      let fo : Fits i (Does m) = subst (Fits i) q (outcome_fits code i g.control.pc _ _ _ _ g.control.ps g.control.threadptr) in
      let fp : Fits i (Does e) = subst (Fits i) r (outcome_fits code i h.control.pc _ _ _ _ h.control.ps h.control.threadptr) in
      let tm : LeavesPointer (pointer_mask i x g.control.threadptr) (Does m) = subst (LeavesPointer (pointer_mask i x g.control.threadptr)) q (pointer_left code i g.control.pc x _ _ _ g.control.ps g.control.threadptr) in
      let te : LeavesPointer (pointer_mask i (value_of (value_or_zero h.seen) (reads i).0) h.control.threadptr) (Does e) = subst (LeavesPointer (pointer_mask i (value_of (value_or_zero h.seen) (reads i).0) h.control.threadptr)) r (pointer_left code i h.control.pc (value_of (value_or_zero h.seen) (reads i).0) _ _ _ h.control.ps h.control.threadptr) in
      record {
        kind = refl;
        kind_too = refl;
        write = agree.write;
        access = tt;
        control = ticked_fits (effect_fits (moved_to i) f.control count x a (word_fits f (reads i).0) m e agree.sets fo.1 fp.1 (gives m q) (gives_too e r) len (pointer_mask i a.mask s.masks.threadptr) small (but_owb s.masks.discipline m.ps e.ps agree.ps) agree.flow agree.waits (pointers m.threadptr e.threadptr tm te));
        is = refl;
        is_too = refl;
        narrow = fo.0;
        stored = tt;
        sent = tt;
        no_entry = fo.2;
        no_return = not_return code i g.control.pc _ _ _ _ g.control.ps g.control.threadptr m q;
      }

  -- ---- with one
  received_alike : (mask reply : ℕ) (v w : Option ReplyTarget) → v ≡ w → WritesAgree mask (write_with_reply None v reply) (write_with_reply None w reply)
  received_alike mask reply v w e = subst (λ (z : Option ReplyTarget). WritesAgree mask (write_with_reply None v reply) (write_with_reply None z reply)) e (same v)
    where
      same : (z : Option ReplyTarget) → WritesAgree mask (write_with_reply None z reply) (write_with_reply None z reply)
      same None = tt
      same (Some z) = (refl, refl)

  none_set : (e : Effect) → moved_to i ≡ None → e.sets ≡ no_sets → (n : ℕ) → is_saved n ≡ true → SetsOne (moved_to i) n e.sets
  none_set e none sets n saved = subst (λ (w : SpecialWrites). SetsOne (moved_to i) n w) (sym sets) (subst (λ (r : Option (ℕ × ℕ)). SetsOne r n no_sets) (sym none) (tt, tt, tt))

  none_given : (y : ℕ) (sets : SpecialWrites) → moved_to i ≡ None → GivesTo (moved_to i) y sets
  none_given y sets none r is mark = absurd cc

  pub asks_ordinary : (len reply mask : ℕ) (c d : Access) (v w : Option ReplyTarget) (m e : Effect) → o ≡ Asks c v m → p ≡ Asks d w e → AccessesAgree (second_word i s h).mask c d → v ≡ w → used_are_known s.masks.discipline i (first_word i s h) (second_word i s h) ≡ true → EffectsAgree s.masks.discipline i (row_masks i s h) m e
      → Ordinary i s g h mask (in_frame (after_outcome (Asks c v m) len g.control) reply g) (in_frame (after_outcome (Asks d w e) len h.control) reply h)
  asks_ordinary len reply mask c d v w m e q r accesses awaited used agree =
      let fo : Fits i (Asks c v m) = subst (Fits i) q (outcome_fits code i g.control.pc _ _ _ _ g.control.ps g.control.threadptr) in
      let none : moved_to i ≡ None = fo.1 in
      let am : AsksWith (no_change g.control.ps g.control.threadptr) (Asks c v m) = subst (AsksWith (no_change g.control.ps g.control.threadptr)) q (outcome_alone code i g.control.pc _ _ _ _ g.control.ps g.control.threadptr) in
      let ae : AsksWith (no_change h.control.ps h.control.threadptr) (Asks d w e) = subst (AsksWith (no_change h.control.ps h.control.threadptr)) r (outcome_alone code i h.control.pc _ _ _ _ h.control.ps h.control.threadptr) in
      let sm : m.sets ≡ no_sets = ap (λ (z : Effect). z.sets) am in
      let se : e.sets ≡ no_sets = ap (λ (z : Effect). z.sets) ae in
      let tm : LeavesPointer (pointer_mask i x g.control.threadptr) (Asks c v m) = subst (LeavesPointer (pointer_mask i x g.control.threadptr)) q (pointer_left code i g.control.pc x _ _ _ g.control.ps g.control.threadptr) in
      let te : LeavesPointer (pointer_mask i (value_of (value_or_zero h.seen) (reads i).0) h.control.threadptr) (Asks d w e) = subst (LeavesPointer (pointer_mask i (value_of (value_or_zero h.seen) (reads i).0) h.control.threadptr)) r (pointer_left code i h.control.pc (value_of (value_or_zero h.seen) (reads i).0) _ _ _ h.control.ps h.control.threadptr) in
      record {
        kind = refl;
        kind_too = refl;
        write = received_alike mask reply v w awaited;
        access = accesses;
        control = ticked_fits (effect_fits (moved_to i) f.control count x a (word_fits f (reads i).0) m e agree.sets (none_set m none sm) (none_set e none se) (none_given x m.sets none) (none_given a.value e.sets none) len (pointer_mask i a.mask s.masks.threadptr) small (but_owb s.masks.discipline m.ps e.ps agree.ps) agree.flow agree.waits (pointers m.threadptr e.threadptr tm te));
        is = refl;
        is_too = refl;
        narrow = awaited_named i v reply fo.0;
        stored = (
            let y = value_of (value_or_zero h.seen) (reads i).1 in
            let k : HasStored y (Asks d w e) = subst (HasStored y) r (second_stored code i h.control.pc _ y _ _ h.control.ps h.control.threadptr) in
            let b : masked (second_word i s h).mask y ≡ y = ap (masked (second_word i s h).mask) (sym (word_value s h (reads i).1)) ∙ (ap (masked (second_word i s h).mask) (sym (word_fits f (reads i).1)) ∙ (cut_twice (second_word i s h).mask (value_of (value_or_zero g.seen) (reads i).1) ∙ (word_fits f (reads i).1 ∙ word_value s h (reads i).1))) in
            stored_kind (second_word i s h).mask y d.size d.kind b k);
        sent = (
            let b : Word = second_word i s h in
            let k0 = second_sent s.masks.discipline code i a b h.control.pc (value_of (special_of h.control) (special_reads i).0) (value_of (special_of h.control) (special_reads i).1) h.control.ps h.control.threadptr used in
            let k1 : HasSent b (outcome code i h.control.pc (value_of (value_or_zero h.seen) (reads i).0) b.value (value_of (special_of h.control) (special_reads i).0) (value_of (special_of h.control) (special_reads i).1) h.control.ps h.control.threadptr) = subst (λ z. HasSent b (outcome code i h.control.pc z b.value (value_of (special_of h.control) (special_reads i).0) (value_of (special_of h.control) (special_reads i).1) h.control.ps h.control.threadptr)) (word_value s h (reads i).0) k0 in
            let k2 : HasSent b p = subst (λ z. HasSent b (outcome code i h.control.pc (value_of (value_or_zero h.seen) (reads i).0) z (value_of (special_of h.control) (special_reads i).0) (value_of (special_of h.control) (special_reads i).1) h.control.ps h.control.threadptr)) (word_value s h (reads i).1) k1 in
            let k3 : HasSent b (Asks d w e) = subst (HasSent b) r k2 in
            sent_kind b d.addr d.kind k3);
        no_entry = fo.2;
        no_return = asks_not_return code i g.control.pc _ _ _ _ g.control.ps g.control.threadptr c v m q;
      }

  -- ---- ENTRY and RETW
  entry_is : (number : ℕ) (size : ℤ) → i ≡ insn.Control (control.Entry number size) → is_entry i ≡ true
  unfolding is_entry
  entry_is number size e = rw e refl

  return_is : IsReturn i → is_return i ≡ true
  unfolding is_return
  return_is r = ⊎_elim (λ e. rw e refl) (λ e. rw e refl) r

  pub windowed_row : (len reply mask : ℕ) (w : WindowStep) → FitsStep i w → ((n k : ℕ) → w ≡ Enters n k → k < 2 ^ 32) → is_windowing i ≡ false → is_movsp i ≡ false → names_window_register i ≡ false → RowStep i s g h mask (windowed_in_frame w len reply g) (windowed_in_frame w len reply h)
  windowed_row len reply mask (Enters number value) fit proper a0 b0 c0 =
      let same : g.control.ps.excm ≡ h.control.ps.excm = ap (λ (q : Ps). q.excm) f.control.even.ps in
      ⊎_elim
      (λ high.
      let p = cond-true g.control.ps.excm (exception_in_frame illegal_instruction None g) (entry_in_frame number value len g) high in
      let q = cond-true h.control.ps.excm (exception_in_frame illegal_instruction None h) (entry_in_frame number value len h) (sym same ∙ high) in
      subst (λ u. RowStep i s g h mask u (windowed_in_frame (Enters number value) len reply h)) (sym p) (subst (RowStep i s g h mask (exception_in_frame illegal_instruction None g)) (sym q) (Rests (raise_quiet f illegal_instruction None) (inl refl))))
      (λ low. Pushes number value len low (entry_is number fit.0 fit.1) fit.0 fit.1 (proper number value refl)
      (cond-false g.control.ps.excm (exception_in_frame illegal_instruction None g) (entry_in_frame number value len g) low)
      (cond-false h.control.ps.excm (exception_in_frame illegal_instruction None h) (entry_in_frame number value len h) (sym same ∙ low)))
      (cases_Bool g.control.ps.excm)
  windowed_row len reply mask (Returns ret) fit proper a0 b0 c0 =
      let same : g.control.ps.excm ≡ h.control.ps.excm = ap (λ (q : Ps). q.excm) f.control.even.ps in
      ⊎_elim
      (λ high.
      let p = cond-true g.control.ps.excm (exception_in_frame illegal_instruction None g) (return_in_frame ret g) high in
      let q = cond-true h.control.ps.excm (exception_in_frame illegal_instruction None h) (return_in_frame ret h) (sym same ∙ high) in
      subst (λ u. RowStep i s g h mask u (windowed_in_frame (Returns ret) len reply h)) (sym p) (subst (RowStep i s g h mask (exception_in_frame illegal_instruction None g)) (sym q) (Rests (raise_quiet f illegal_instruction None) (inl refl))))
      (λ low. Pops ret low (return_is fit)
      (cond-false g.control.ps.excm (exception_in_frame illegal_instruction None g) (return_in_frame ret g) low)
      (cond-false h.control.ps.excm (exception_in_frame illegal_instruction None h) (return_in_frame ret h) (sym same ∙ low)))
      (cases_Bool g.control.ps.excm)
  windowed_row len reply mask (EndsOverflow epc1) fit proper a0 b0 c0 = absurd (both_ways _ a0 fit)
  windowed_row len reply mask (EndsUnderflow epc1) fit proper a0 b0 c0 = absurd (both_ways _ a0 fit)
  windowed_row len reply mask (Rotates n) fit proper a0 b0 c0 = absurd (both_ways _ a0 fit)
  windowed_row len reply mask (MovesStack number value) fit proper a0 b0 c0 = absurd (both_ways _ b0 fit)
  windowed_row len reply mask (Reads register number) fit proper a0 b0 c0 = absurd (both_ways _ c0 fit)
  windowed_row len reply mask (Sets register value) fit proper a0 b0 c0 = absurd (both_ways _ c0 fit)
  windowed_row len reply mask (Exchanges register number value) fit proper a0 b0 c0 = absurd (both_ways _ c0 fit)

  -- ---- the row, by both outcomes
  abbrev pub result : ℕ → ℕ
  result r = result_mask s.masks.discipline i (first_word i s h) (second_word i s h) (special_operand i s h) s.masks.threadptr r

  by_outcomes : (len reply r : ℕ) (y z : Outcome) → o ≡ y → p ≡ z → OutcomesAgree s.masks.discipline i (row_masks i s h) y z → Fits i y → EntersWord y → used_are_known s.masks.discipline i (first_word i s h) (second_word i s h) ≡ true → is_windowing i ≡ false → is_movsp i ≡ false → names_window_register i ≡ false
      → ((m : Effect) → o ≡ Does m → r ≡ all_bits) → RowStep i s g h (result r) (done_in_frame y len reply g) (done_in_frame z len reply h)
  by_outcomes len reply r (Does m) (Does e) q k agree fit proper used a0 b0 c0 full =
      subst (λ t. RowStep i s g h (result t) (done_in_frame (Does m) len reply g) (done_in_frame (Does e) len reply h)) (sym (full m q)) (Executes (does_ordinary len reply m e q k agree))
  by_outcomes len reply r (Asks c v m) (Asks d w e) q k agree fit proper used a0 b0 c0 full = Executes (asks_ordinary len reply (result r) c d v w m e q k agree.0 agree.1 used agree.2)
  by_outcomes len reply r (Raises cause addr) z q k agree fit proper used a0 b0 c0 full = subst (λ y. RowStep i s g h (result r) (exception_in_frame cause addr g) (done_in_frame y len reply h)) agree (Rests (raise_quiet f cause addr) (inl refl))
  by_outcomes len reply r Stops z q k agree fit proper used a0 b0 c0 full = subst (λ y. RowStep i s g h (result r) (done_in_frame Stops len reply g) (done_in_frame y len reply h)) agree (Rests (stops_quiet f len reply) (inr (stops_move_none code i g.control.pc _ _ _ _ g.control.ps g.control.threadptr q)))
  by_outcomes len reply r (Windowed w) z q k agree fit proper used a0 b0 c0 full = subst (λ y. RowStep i s g h (result r) (done_in_frame (Windowed w) len reply g) (done_in_frame y len reply h)) agree (windowed_row len reply (result r) w fit (λ n k e. proper n k (ap (λ (z : WindowStep). Windowed z) e)) a0 b0 c0)
  by_outcomes len reply r (Does m) z q k agree fit proper used a0 b0 c0 full = absurd cc
  by_outcomes len reply r (Asks c v m) z q k agree fit proper used a0 b0 c0 full = absurd cc

  pub row_step : (len reply r : ℕ) → OutcomesAgree s.masks.discipline i (row_masks i s h) o p → EntersWord o → used_are_known s.masks.discipline i (first_word i s h) (second_word i s h) ≡ true → is_windowing i ≡ false → is_movsp i ≡ false → names_window_register i ≡ false
      → ((m : Effect) → o ≡ Does m → r ≡ all_bits) → RowStep i s g h (result r) (fetched_step (Fetches i len) code reply g) (fetched_step (Fetches i len) code reply h)
  row_step len reply r agree proper used a0 b0 c0 full = by_outcomes len reply r o p refl refl agree (outcome_fits code i g.control.pc _ _ _ _ g.control.ps g.control.threadptr) proper used a0 b0 c0 full
