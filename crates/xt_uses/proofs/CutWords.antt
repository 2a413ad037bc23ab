-- The machine of frames keeps words in its registers, and its control state in shape.
use Rattle.std.proofs.Common.{◌≡◌, ℕ, zero, suc, ◌+◌, ◌-◌, ◌*◌, ◌%◌, ◌^◌, ◌<◌, Bool, true, false, cond, ltb, List, [], ◌∷◌, ◌++◌, Option, Some, None, get_or, slice_set, take, drop, replicate, refl, sym, ◌∙◌, ⊎_elim, subst, arith}
use Rattle.std.proofs.Math.ListN.{set}
use Rattle.std.specs.Prelude.{unwrap_or}
use Rattle.std.proofs.lemmas.Bool.Decides.{nat_tests}
use Rattle.std.proofs.lemmas.Option.{none-some, same_Some}
use Rattle.xt_isa.specs.declared.Insn.{Insn}
use Rattle.xt_isa.specs.declared.Insn.TheVariants as insn
use Rattle.xt_isa.specs.declared.three.Three.TheVariants as three
use Rattle.xt_isa.specs.declared.shift.Shift.TheVariants as shift
use Rattle.xt_isa.specs.Ranges.{in_range}
use Rattle.xt_isa.specs.Spelling.{spelled_insn, fields_at, length_of}
use Rattle.xt_isa.proofs.Ranged.{spelled_at_in_range}
use Rattle.xt_map.specs.Regions.{region_of, is_executable}
use Rattle.xt_special.specs.declared.ps.Ps.{Ps}
use Rattle.xt_special.specs.Control.{Control, special_of}
use Rattle.xt_special.specs.Interrupts.{pending_of}
use Rattle.xt_special.specs.Shape.{IsPs}
use Rattle.xt_trace.specs.declared.record.RegWrite.{RegWrite}
use Rattle.xt_trace.specs.declared.record.StepRecord.{StepRecord}
use Rattle.xt_map.specs.Code.{AreBytes}
use Rattle.xt_map.specs.Fetching.{Fetched, Fetches, Fails, SpellsNothing, can_fetch, fetch_at, fetched_length, fetched_past, read_as, unfetchable}
use Rattle.xt_rows.specs.declared.outcome.ReplyTarget.{ReplyTarget}
use Rattle.xt_rows.specs.declared.outcome.Flow.TheVariants.{Falls}
use Rattle.xt_rows.specs.declared.outcome.Outcome.{Outcome}
use Rattle.xt_rows.specs.declared.outcome.Outcome.TheVariants.{Does, Raises, Asks, Stops, Windowed}
use Rattle.xt_rows.specs.declared.outcome.WindowStep.{WindowStep}
use Rattle.xt_rows.specs.declared.outcome.WindowStep.TheVariants.{Enters, Returns}
use Rattle.xt_rows.specs.Effects.{fetch_error, illegal_instruction}
use Rattle.xt_rows.specs.RowLaws.{IsProper, IsProperAddress, IsProperStep, IsProperWrite, IsShiftAmount, IsWord}
use Rattle.xt_rows.specs.Operands.{reads, special_reads}
use Rattle.xt_rows.specs.Outcomes.{outcome_at, value_of}
use Rattle.xt_rows.specs.Settling.{Settled, return_pc, after_outcome, settled_exception, settled_interrupt, settled_wait, write_with_reply}
use Rattle.xt_rows.proofs.Bounds.{extended_small}
use Rattle.xt_rows.proofs.Proper.{outcome_words}
use Rattle.xt_special.specs.Opening.{opening_control, prid_of}
use Rattle.xt_exec.specs.State.{opening_state}
use Rattle.xt_exec.specs.TurnLaws.{IsShapedControl}
use Rattle.xt_exec.proofs.Shapes.{opening_shaped}
use Rattle.xt_exec.proofs.Specials.{IsShapedSpecial, effect_shaped, exception_shaped, flow_shaped, interrupt_shaped, level_small, set_shaped, ticked_shaped}
use Rattle.xt_frames.specs.declared.holes.Nested.{Nested}
use Rattle.xt_frames.specs.Frames.{Frame, FrameState, value_or_zero, opening_seen, seen_after_write}
use Rattle.xt_frames.specs.FrameStep.{FrameTurn, Inputs, done_in_frame, fetched_step, in_frame, with_inputs, step_with_inputs, return_in_frame, return_to_frame, entry_in_frame, exception_in_frame, windowed_in_frame}
use Rattle.xt_frames.specs.Marks.{mark_read, marked_seen, marked_write}
use Rattle.xt_frames.specs.Nesting.{begins, nested_entry, ends_nested, nested_view, nested_fetched, nested_insn, turn_in}
use Rattle.xt_frames.specs.Breaches.{inputs_of}
use Rattle.xt_frames.specs.Judging.{step_on, value_in}
use Rattle.xt_frames.proofs.StackSteps.{turn_if}
use Rattle.xt_frames.specs.Verdict.{is_nested}
use Rattle.xt_frames.specs.FirstBreach.{Course, frame_before, phase_before}
use Rattle.xt_frames.proofs.Prefixes.{own_frame}
use Rattle.xt_uses.specs.UseLaws.{IsOpening, IsOrdinary}
use Rattle.xt_uses.proofs.LaterHistories.{judged_or_idle}
use Rattle.xt_uses.proofs.WholeIdle.{idle_frame, opening_at}
use Rattle.xt_uses.proofs.WholeLists.{AreWords, InnerAreWords, held, replicated}

-- ---- lists of words
pub words_set : (xs : List (Option ℕ)) (k : ℕ) (v : Option ℕ) → AreWords xs → ((n : ℕ) → v ≡ Some n → IsWord n) → AreWords (set xs k v)
words_set xs k v w h i n = held xs k i v None (λ o. o ≡ Some n → IsWord n) (λ e at. h n at) (w i n)

words_take : (k : ℕ) (xs : List (Option ℕ)) → AreWords xs → AreWords (take k xs)
words_take zero xs w i n e = absurd (none-some n e)
words_take (suc k) [] w i n e = absurd (none-some n e)
words_take (suc k) (x ∷ xs) w zero n e = w 0 n e
words_take (suc k) (x ∷ xs) w (suc i) n e = words_take k xs (λ j. w (suc j)) i n e

words_drop : (k : ℕ) (xs : List (Option ℕ)) → AreWords xs → AreWords (drop k xs)
words_drop zero xs w = w
words_drop (suc k) [] w = w
words_drop (suc k) (x ∷ xs) w = words_drop k xs (λ j. w (suc j))

words_append : (xs ys : List (Option ℕ)) → AreWords xs → AreWords ys → AreWords (xs ++ ys)
words_append [] ys v w i n e = w i n e
words_append (x ∷ xs) ys v w zero n e = v 0 n e
words_append (x ∷ xs) ys v w (suc i) n e = words_append xs ys (λ j. v (suc j)) w i n e

words_none : (k : ℕ) → AreWords (replicate k None)
words_none k i n e = absurd (none-some n (sym (replicated {A = Option ℕ} k i None) ∙ e))

known_word : (xs : List (Option ℕ)) (i : ℕ) → AreWords xs → IsWord (value_or_zero xs i)
known_word xs i w = by (get_or xs i None) refl
  where
    by : (o : Option ℕ) → get_or xs i None ≡ o → IsWord (unwrap_or o 0)
    by None e = omega arith
    by (Some n) e = w i n e

-- ---- frame states
abbrev pub KeepWords : List Frame → Type 0
KeepWords [] = Unit {0}
KeepWords (g ∷ rest) = AreWords g.kept × KeepWords rest

pub record IsShapedInner (x : Nested) : Type 0 where
  pub pc : IsWord x.pc
  pub seen : AreWords x.seen
  pub ps : IsPs x.ps

abbrev pub IsShapedNested : Option Nested → Type 0
IsShapedNested None = Unit {0}
IsShapedNested (Some x) = IsShapedInner x

pub record IsShapedFrame (f : FrameState) : Type 0 where
  pub control : IsShapedControl f.control
  pub seen : AreWords f.seen
  pub kept : KeepWords f.frames
  pub nested : IsShapedNested f.nested

pub record AreInputs (inp : Inputs) : Type 0 where
  pub ccount : IsWord inp.ccount
  pub interrupt : IsWord inp.interrupt
  pub owb : inp.owb < 16
  pub reply : IsWord inp.reply

special_of_control : (c : Control) → IsShapedControl c → IsShapedSpecial c.special
special_of_control c f = record { count = f.count; words = f.words; shape = f.shape }

laid_shaped : (inp : Inputs) (f : FrameState) → AreInputs inp → IsShapedFrame f → IsShapedFrame (with_inputs inp f)
laid_shaped inp f a k =
    let c = k.control in
    let special : IsShapedSpecial (slice_set (slice_set f.control.special 234 inp.ccount) 226 inp.interrupt) =
    set_shaped (slice_set f.control.special 234 inp.ccount) 226 inp.interrupt (record { as_sar = λ e. absurd (omega (arith, e)); as_vecbase = λ e. absurd (omega (arith, e)) }) a.interrupt
    (set_shaped f.control.special 234 inp.ccount (record { as_sar = λ e. absurd (omega (arith, e)); as_vecbase = λ e. absurd (omega (arith, e)) }) a.ccount (special_of_control f.control c)) in
    record {
      control = record {
        pc = c.pc;
        count = special.count;
        words = special.words;
        shape = special.shape;
        ps = record { intlevel_fits = c.ps.intlevel_fits; ring_fits = c.ps.ring_fits; owb_fits = a.owb; callinc_fits = c.ps.callinc_fits };
        threadptr = c.threadptr;
      };
      seen = k.seen;
      kept = k.kept;
      nested = k.nested;
    }

-- PC and PS of one control state, and the rest of another
placed : (c : Control) (pc : ℕ) (ps : Ps) → IsShapedControl c → IsWord pc → IsPs ps → IsShapedControl (record c { pc = pc; ps = ps })
placed c pc ps f p q = record { pc = p; count = f.count; words = f.words; shape = f.shape; ps = q; threadptr = f.threadptr }

inside_shaped : (x : Nested) (f : FrameState) → IsShapedFrame f → IsShapedInner x → IsShapedFrame (nested_view x f)
inside_shaped x f k i = record { control = placed f.control x.pc x.ps k.control i.pc i.ps; seen = i.seen; kept = k.kept; nested = k.nested }

-- ---- a register that is written
abbrev pub IsWordWrite : Option RegWrite → Type 0
IsWordWrite None = Unit {0}
IsWordWrite (Some w) = IsWord w.value

word_write : (write : Option RegWrite) (awaited : Option ReplyTarget) (reply : ℕ) → IsProperWrite (λ n. IsWord n) write → IsWord reply → IsWordWrite (write_with_reply write awaited reply)
word_write None None reply p q = tt
word_write (Some w) None reply p q = p.1
word_write write (Some a) reply p q = extended_small a.signed reply q

write_words : (o : Option RegWrite) (seen : List (Option ℕ)) → IsWordWrite o → AreWords seen → AreWords (seen_after_write o seen)
write_words None seen p w = w
write_words (Some r) seen p w = words_set seen r.reg (Some r.value) w (λ n e. subst (λ k. IsWord k) (same_Some r.value n e) p)

abbrev LeavesShape : FrameTurn → Type 0
LeavesShape u = IsShapedFrame u.after × IsWordWrite u.write

settles : (t : Settled) (reply : ℕ) (f : FrameState) → IsShapedFrame f → IsShapedControl t.control → IsWordWrite (write_with_reply t.write t.awaited reply) → LeavesShape (in_frame t reply f)
settles t reply f k c w = (record { control = c; seen = write_words (write_with_reply t.write t.awaited reply) f.seen w k.seen; kept = k.kept; nested = k.nested }, w)

raises : (cause : ℕ) (address : Option ℕ) (f : FrameState) → cause < 64 → IsProperAddress address → IsShapedFrame f → LeavesShape (exception_in_frame cause address f)
raises cause address f p a k = settles (settled_exception cause address f.control) 0 f k (ticked_shaped _ (exception_shaped cause address f.control p a k.control)) tt

-- ---- calls and returns
pushes : (number value len : ℕ) (f : FrameState) → IsWord value → IsShapedFrame f → LeavesShape (entry_in_frame number value len f)
unfolding entry_in_frame
pushes number value len f p k =
    let n = f.control.ps.callinc in (
      record {
        control = ticked_shaped _ (flow_shaped Falls len f.control tt k.control);
        seen = words_set (drop (4 * n) f.seen ++ replicate (4 * n) None) number (Some value)
            (words_append (drop (4 * n) f.seen) (replicate (4 * n) None) (words_drop (4 * n) f.seen k.seen) (words_none (4 * n)))
            (λ m e. subst (λ q. IsWord q) (same_Some value m e) p);
        kept = (words_take (4 * n) f.seen k.seen, k.kept);
        nested = k.nested;
      },
      p,
    )

pops : (frames : List Frame) (a0 : ℕ) (f : FrameState) → KeepWords frames → IsShapedFrame f → LeavesShape (return_to_frame frames a0 f)
pops [] a0 f h k = raises illegal_instruction None f (omega arith) tt k
pops (g ∷ rest) a0 f h k =
    let c = k.control in
    let pc : f.control.pc < 2 ^ 32 = c.pc in (
      record {
        control = ticked_shaped _ (placed f.control (return_pc f.control.pc a0) f.control.ps c (omega arith) c.ps);
        seen = words_append g.kept (take (16 - 4 * g.by) f.seen) h.0 (words_take (16 - 4 * g.by) f.seen k.seen);
        kept = h.1;
        nested = k.nested;
      },
      tt,
    )

windows : (step : WindowStep) (len reply : ℕ) (f : FrameState) → IsProperStep step → IsShapedFrame f → LeavesShape (windowed_in_frame step len reply f)
unfolding return_in_frame
windows (Enters number value) len reply f p k = turn_if LeavesShape f.control.ps.excm _ _ (raises illegal_instruction None f (omega arith) tt k) (pushes number value len f p.1 k)
windows (Returns a0) len reply f p k = turn_if LeavesShape f.control.ps.excm _ _ (raises illegal_instruction None f (omega arith) tt k) (pops f.frames a0 f k.kept k)
windows step len reply f p k = settles (after_outcome (Windowed step) len f.control) reply f k (ticked_shaped f.control k.control) tt

done : (o : Outcome) (len reply : ℕ) (f : FrameState) → IsProper (λ n. IsWord n) o → IsWord reply → IsShapedFrame f → LeavesShape (done_in_frame o len reply f)
done (Does e) len reply f p q k = settles (after_outcome (Does e) len f.control) reply f k (ticked_shaped _ (effect_shaped e len f.control p k.control)) (word_write e.write None reply p.write q)
done (Raises cause address) len reply f p q k = settles (settled_exception cause address f.control) reply f k (ticked_shaped _ (exception_shaped cause address f.control p.0 p.1 k.control)) tt
done (Asks access awaited e) len reply f p q k = settles (after_outcome (Asks access awaited e) len f.control) reply f k (ticked_shaped _ (effect_shaped e len f.control p.2 k.control)) (word_write None awaited reply tt q)
done Stops len reply f p q k = settles (after_outcome Stops len f.control) reply f k (ticked_shaped f.control k.control) tt
done (Windowed step) len reply f p q k = windows step len reply f p k

-- ---- what is fetched
value_word : (g : ℕ → ℕ) (o : Option ℕ) → ((k : ℕ) → IsWord (g k)) → IsWord (value_of g o)
value_word g None words = omega arith
value_word g (Some k) words = words k

amount : (i : Insn) (g : ℕ → ℕ) → g 3 < 2 ^ 6 → IsShiftAmount i (value_of g (special_reads i).0)
unfolding special_reads
amount (insn.Three (three.Src r s t)) g h = h
amount (insn.Three _) g h = omega arith
amount (insn.Shift (shift.ShiftRight name r t)) g h = h
amount (insn.Shift (shift.Sll r s)) g h = h
amount (insn.Shift _) g h = omega arith
amount (insn.Memory i) g h = tt
amount (insn.Control i) g h = tt
amount (insn.System i) g h = tt
amount (insn.Density i) g h = tt
amount (insn.Boolean i) g h = tt

executable_small : (a : ℕ) → is_executable (region_of a) ≡ true → a + 4 < 2 ^ 32
unfolding region_of
executable_small a h = grind (arith, nat_tests)

unfetchable_word : (a n b : ℕ) → a < 2 ^ 32 → unfetchable a n ≡ Some b → IsWord b
unfetchable_word a zero b p e = absurd cc
unfetchable_word a (suc n) b p e =
    by_test (can_fetch a) refl (λ can same. unfetchable_word (a + 1) n b (let small = executable_small a can in omega arith) same) e
  where
    by_test : (t : Bool) → can_fetch a ≡ t → (can_fetch a ≡ true → unfetchable (a + 1) n ≡ Some b → IsWord b)
        → cond t (unfetchable (a + 1) n) (Some a) ≡ Some b → IsWord b
    by_test true can behind same = behind can same
    by_test false can behind same = let is : a ≡ b = cc in omega (arith, is)

IsGood : Fetched → Type 0
IsGood (Fetches i len) = in_range i ≡ true
IsGood (Fails address) = IsWord address
IsGood SpellsNothing = Unit {0}

fetched_good : (code : ℕ → ℕ) (pc : ℕ) → AreBytes code → IsWord pc → IsGood (fetch_at code pc)
unfolding fetch_at IsGood
fetched_good code pc bytes p = by_test (unfetchable pc (fetched_length code pc)) refl
  where
    read : (x : Option Insn) → x ≡ spelled_insn (fields_at (code pc) (code (pc + 1)) (code (pc + 2))) → IsGood (read_as x (length_of (code pc)))
    read None e = tt
    read (Some i) e = spelled_at_in_range (code pc) (code (pc + 1)) (code (pc + 2)) i (bytes pc) (bytes (pc + 1)) (bytes (pc + 2)) e

    by_test : (o : Option ℕ) → unfetchable pc (fetched_length code pc) ≡ o → IsGood (fetched_past o code pc)
    by_test None e = read (spelled_insn (fields_at (code pc) (code (pc + 1)) (code (pc + 2)))) refl
    by_test (Some a) e = unfetchable_word pc (fetched_length code pc) a p e

fetches : (at : Fetched) (code : ℕ → ℕ) (reply : ℕ) (f : FrameState) → AreBytes code → IsGood at → IsWord reply → IsShapedFrame f → LeavesShape (fetched_step at code reply f)
unfolding IsGood
fetches (Fails address) code reply f bytes good q k = raises fetch_error (Some address) f (omega arith) good k
fetches SpellsNothing code reply f bytes good q k = raises illegal_instruction None f (omega arith) tt k
fetches (Fetches i len) code reply f bytes good q k =
    let c = k.control in
    done (outcome_at code i (value_or_zero f.seen) f.control) len reply f
    (outcome_words code i f.control.pc _ _ _ _ f.control.ps f.control.threadptr bytes
    (record {
      range = good;
      pc_word = c.pc;
      x_word = value_word (value_or_zero f.seen) (reads i).0 (λ j. known_word f.seen j k.seen);
      y_word = value_word (value_or_zero f.seen) (reads i).1 (λ j. known_word f.seen j k.seen);
      u_word = value_word (special_of f.control) (special_reads i).0 c.words;
      v_word = value_word (special_of f.control) (special_reads i).1 c.words;
      sar = amount i (special_of f.control) c.shape.sar_fits;
      fields = c.ps;
      threadptr_word = c.threadptr;
    }))
    q k

laid_leaves : (code : ℕ → ℕ) (reply : ℕ) (f : FrameState) → AreBytes code → IsWord reply → IsShapedFrame f → LeavesShape (step_with_inputs code reply f)
unfolding step_with_inputs
laid_leaves code reply f bytes q k =
    turn_if LeavesShape (ltb 0 (pending_of f.control)) _ _
    (settles (settled_interrupt (pending_of f.control) f.control) reply f k (ticked_shaped _ (interrupt_shaped (pending_of f.control) f.control (level_small _ _ _) k.control)) tt)
    (turn_if LeavesShape f.control.waits _ _
    (settles (settled_wait f.control) reply f k (ticked_shaped f.control k.control) tt)
    (fetches (fetch_at code f.control.pc) code reply f bytes (fetched_good code f.control.pc bytes k.control.pc) q k))

-- ---- nested interrupts
begins_leaves : (f : FrameState) → IsShapedFrame f → LeavesShape (nested_entry f)
begins_leaves f k =
    let c = ticked_shaped _ (interrupt_shaped 5 f.control (omega arith) k.control) in (
      record {
        control = placed _ f.control.pc f.control.ps c k.control.pc k.control.ps;
        seen = k.seen;
        kept = k.kept;
        nested = record { pc = c.pc; seen = words_none 16; ps = c.ps };
      },
      tt,
    )

marked_words : (mark : Option ℕ) (write : Option RegWrite) (seen : List (Option ℕ)) → AreWords seen → AreWords (marked_seen mark write seen)
marked_words None write seen w = w
marked_words (Some k) None seen w = w
marked_words (Some k) (Some r) seen w = words_set seen r.reg None w (λ n e. absurd (none-some n e))

marked_word : (mark : Option ℕ) (value : ℕ) (write : Option RegWrite) → IsWord value → IsWordWrite write → IsWordWrite (marked_write mark value write)
marked_word None value write v w = w
marked_word (Some k) value None v w = tt
marked_word (Some k) value (Some r) v w = v

-- the value of a mark is that of the record
abbrev LeavesWords : ℕ → FrameTurn → Type 0
LeavesWords value u = IsShapedFrame u.after × (IsWord value → IsWordWrite u.write)

module _ (x : Nested) (f : FrameState) (k : IsShapedFrame f) (u : FrameTurn) (h : LeavesShape u) where
  abbrev kept_control : IsShapedControl (record u.after.control { pc = f.control.pc; ps = f.control.ps })
  kept_control = placed u.after.control f.control.pc f.control.ps h.0.control k.control.pc k.control.ps

  insn_leaves : (i : Insn) (value : ℕ) → LeavesWords value (nested_insn i value x f u)
  insn_leaves i value = turn_if (LeavesWords value) (ends_nested i) _ _
      (record { control = kept_control; seen = k.seen; kept = k.kept; nested = tt }, λ v. h.1) (
        record { control = kept_control; seen = k.seen; kept = k.kept; nested = record { pc = h.0.control.pc; seen = marked_words (mark_read i x.saved) u.write u.after.seen h.0.seen; ps = h.0.control.ps } },
        λ v. marked_word (mark_read i x.saved) value u.write v h.1,
      )

  nested_leaves : (at : Fetched) (value : ℕ) → LeavesWords value (nested_fetched at value x f u)
  nested_leaves (Fetches i len) value = insn_leaves i value
  nested_leaves (Fails address) value = (record { control = kept_control; seen = k.seen; kept = k.kept; nested = record { pc = h.0.control.pc; seen = h.0.seen; ps = h.0.control.ps } }, λ v. h.1)
  nested_leaves SpellsNothing value = (record { control = kept_control; seen = k.seen; kept = k.kept; nested = record { pc = h.0.control.pc; seen = h.0.seen; ps = h.0.control.ps } }, λ v. h.1)

-- ---- each step
module _ (code : ℕ → ℕ) (bytes : AreBytes code) (inp : Inputs) (a : AreInputs inp) (f : FrameState) (k : IsShapedFrame f) where
  turn_leaves : (n : Option Nested) → f.nested ≡ n → (value : ℕ) → LeavesWords value (turn_in n code value inp f)
  turn_leaves None e value =
      let h = laid_leaves code inp.reply (with_inputs inp f) bytes a.reply (laid_shaped inp f a k) in
      (record { control = h.0.control; seen = h.0.seen; kept = h.0.kept; nested = h.0.nested }, λ v. h.1)
  turn_leaves (Some x) e value =
      let inner : IsShapedInner x = subst IsShapedNested e k.nested in
      let h = laid_leaves code inp.reply (with_inputs inp (nested_view x f)) bytes a.reply (laid_shaped inp (nested_view x f) a (inside_shaped x f k inner)) in
      nested_leaves x f k (step_with_inputs code inp.reply (with_inputs inp (nested_view x f))) h (fetch_at code (with_inputs inp (nested_view x f)).control.pc) value

pub step_leaves : (code : ℕ → ℕ) (nested : Bool) (rec : StepRecord) (f : FrameState) → AreBytes code → AreInputs (inputs_of rec) → IsShapedFrame f
    → IsShapedFrame (step_on code nested rec f).after × (IsWord (value_in rec.write) → IsWordWrite (step_on code nested rec f).write)
step_leaves code nested rec f bytes a k = turn_if (LeavesWords (value_in rec.write)) (begins nested rec.kind f) _ _
    (let b = begins_leaves (with_inputs (inputs_of rec) f) (laid_shaped (inputs_of rec) f a k) in (b.0, λ v. b.1))
    (turn_leaves code bytes (inputs_of rec) a f k f.nested refl (value_in rec.write))

pub inputs_words : (rec : StepRecord) → IsWord rec.ccount × IsWord rec.interrupt × IsWord rec.reply → AreInputs (inputs_of rec)
inputs_words rec i = record { ccount = i.0; interrupt = i.1; owb = omega arith; reply = i.2 }

-- ---- as a core opens
words_zero : (k : ℕ) → AreWords (replicate k (Some 0))
words_zero zero i n e = absurd (none-some n e)
words_zero (suc k) zero n e = subst (λ q. IsWord q) (same_Some 0 n e) (omega arith)
words_zero (suc k) (suc i) n e = words_zero k i n e

control_opens : (core pc vecbase : ℕ) → IsWord pc → IsWord vecbase → vecbase % 2 ^ 10 ≡ 0 → IsShapedControl (opening_control pc (prid_of core) vecbase)
unfolding opening_state
control_opens core pc vecbase p v aligned = (opening_shaped core pc vecbase 64 p aligned v (omega arith) (omega arith)).control

frame_opens : (f : FrameState) → IsOpening f → IsShapedFrame f
unfolding opening_seen
frame_opens f o = subst (λ g. IsShapedFrame g) (sym o.opens) (record {
  control = control_opens o.core o.pc o.vecbase o.pc_word o.vecbase_word o.vectors;
  seen = words_set (slice_set (replicate 16 (Some 0)) 1 (Some (o.stack_end - 64))) 8 (Some (2 ^ 31))
      (words_set (replicate 16 (Some 0)) 1 (Some (o.stack_end - 64)) (words_zero 16) (λ n e. subst (λ q. IsWord q) (same_Some (o.stack_end - 64) n e) (let w : o.stack_end < 2 ^ 32 = o.stack_word in omega arith)))
      (λ n e. subst (λ q. IsWord q) (same_Some (2 ^ 31) n e) (omega arith));
  kept = tt;
  nested = tt;
})

-- ---- before each turn
pub frame_shaped : (r : Course) → IsOrdinary r → (core p : ℕ) → IsShapedFrame (frame_before r core p)
frame_shaped r o core zero = subst (λ f. IsShapedFrame f) (sym (opening_at r core)) (frame_opens (r.opening core) (o.opens core))
frame_shaped r o core (suc p) = ⊎_elim
    (λ j.
    subst (λ f. IsShapedFrame f) (sym (own_frame r p core j.0 j.1.turn j.1.judged))
    (step_leaves r.code (is_nested (phase_before r core p)) j.0 (frame_before r core p) o.code (inputs_words j.0 (o.inputs p core j.0 j.1.turn)) (frame_shaped r o core p)).0)
    (λ idle. subst (λ f. IsShapedFrame f) (sym (idle_frame r p core idle)) (frame_shaped r o core p))
    (judged_or_idle r p core)

pub inner_words : (n : Option Nested) → IsShapedNested n → InnerAreWords n
inner_words None k = tt
inner_words (Some x) k = k.seen
