-- The frame machine's step on a record, and what the judge sees in it, in states and records that are equal but for time.
use Rattle.std.proofs.Common.{◌≡◌, ℕ, Bool, true, false, cond, Option, Some, None, List, slice_set, refl, sym, ap, ◌∙◌, subst, arith}
use Rattle.std.specs.Prelude.{replicate}
use Rattle.xt_isa.specs.declared.Insn.{Insn}
use Rattle.xt_special.specs.Control.{special_of}
use Rattle.xt_special.specs.Access.{without_bits}
use Rattle.xt_special.specs.Interrupts.{after_interrupt}
use Rattle.xt_special.specs.Numbers as number
use Rattle.xt_trace.specs.declared.record.RegWrite.{RegWrite}
use Rattle.xt_trace.specs.declared.record.StepKind.{StepKind}
use Rattle.xt_trace.specs.declared.record.StepRecord.{StepRecord}
use Rattle.xt_map.specs.Fetching.{Fetched, Fetches, Fails, SpellsNothing, fetch_at}
use Rattle.xt_rows.specs.Settling.{Taken, settled_interrupt}
use Rattle.xt_frames.specs.declared.holes.Nested.{Nested}
use Rattle.xt_frames.specs.Frames.{FrameState}
use Rattle.xt_frames.specs.FrameStep.{FrameTurn, in_frame, with_inputs, step_with_inputs}
use Rattle.xt_frames.specs.Marks.{mark_read, marked_seen, marked_write, marks_after, moved_to, own_marks, saved_by, unset_written}
use Rattle.xt_frames.specs.Nesting.{begins, nested_entry, current, current_in, ends_nested, frame_step, nested_view, with_kept_frame, nested_after, nested_fetched, nested_insn, nested_other, nested_turn, plain_turn, turn_in, unset_after}
use Rattle.xt_frames.specs.Breaches.{inputs_of}
use Rattle.xt_frames.specs.Judging.{step_on, value_in}
use Rattle.xt_timeless.specs.Time.{timer_bits}
use Rattle.xt_timeless.specs.Alike.{AreAlike, Difference, fetches_difference, may_differ}
use Rattle.xt_timeless.proofs.Keeping.{kept_interrupt, with_special}
use Rattle.xt_timeless.proofs.Lists.{alike_put}
use Rattle.xt_judged.proofs.Untimed.{AreKeptTurns, AreRanged, IsQuiet, bare_kept, in_frame_kept, laid_step_kept}
use Rattle.xt_judged.specs.Forgotten.{IsKeptFrame}

-- what a record tells of time is the same but for what may differ
pub record IsSameTime (gap : Difference) (rec : StepRecord) (ccount interrupt : ℕ) : Type 0 where
  pub bits : without_bits rec.interrupt timer_bits ≡ without_bits interrupt timer_bits
  pub levels : may_differ gap 226 ≡ false → rec.interrupt ≡ interrupt
  pub count : may_differ gap 234 ≡ false → rec.ccount ≡ ccount

-- ---- parts of a frame state that have no time

with_unset : {gap : Difference} → (p q : FrameState) (x y : List Bool) → IsKeptFrame gap p q → x ≡ y → IsKeptFrame gap (record p { unset = x }) (record q { unset = y })
with_unset p q x y k e =
    let make : FrameState → List Bool → FrameState = λ s z. record s { unset = z } in
    let back : y ≡ x = sym e in
    record { list = k.list; alike = k.alike; is = λ i. make (k.is i) (back i) }

with_nested : {gap : Difference} → (p q : FrameState) (x y : Option Nested) → IsKeptFrame gap p q → x ≡ y → IsKeptFrame gap (record p { nested = x }) (record q { nested = y })
with_nested p q x y k e =
    let make : FrameState → Option Nested → FrameState = λ s z. record s { nested = z } in
    let back : y ≡ x = sym e in
    record { list = k.list; alike = k.alike; is = λ i. make (k.is i) (back i) }

-- what only depends on the control state's special registers
pub unlike_special : {A : Type 0} {gap : Difference} (h : FrameState → A) (p q : FrameState) → ((list : List ℕ) → h (record p { control = with_special p.control list }) ≡ h p) → IsKeptFrame gap p q → h p ≡ h q
unlike_special h p q same k = sym (same k.list) ∙ sym (ap h k.is)

module _ {gap : Difference} (f : FrameState) (ys : List ℕ) (a : AreAlike gap f.control.special ys) (rec : StepRecord) (ccount interrupt : ℕ) (same : IsSameTime gap rec ccount interrupt) where
  abbrev g : FrameState
  g = record f { control = with_special f.control ys }

  abbrev rec' : StepRecord
  rec' = record rec { ccount = ccount; interrupt = interrupt }

  put_alike : (xs zs : List ℕ) → AreAlike gap xs zs → AreAlike gap (slice_set (slice_set xs 234 rec.ccount) 226 rec.interrupt) (slice_set (slice_set zs 234 ccount) 226 interrupt)
  put_alike xs zs al =
      alike_put (slice_set xs 234 rec.ccount) (slice_set zs 234 ccount) 226 rec.interrupt interrupt same.levels (λ h. same.bits)
      (alike_put xs zs 234 rec.ccount ccount same.count (λ e. absurd (omega arith)) al)

  -- ---- what the step finds

  current_special : (n : Option Nested) → (current_in n f).control.special ≡ f.control.special
  current_special None = refl
  current_special (Some x) = refl

  pub current_kept : (n : Option Nested) → current_in n g ≡ record (current_in n f) { control = with_special (current_in n f).control ys }
  current_kept None = refl
  current_kept (Some x) = refl

  pub found_kept : (n : Option Nested) → IsKeptFrame gap (with_inputs (inputs_of rec) (current_in n f)) (with_inputs (inputs_of rec') (current_in n g))
  found_kept n = record {
    list = slice_set (slice_set ys 234 ccount) 226 interrupt;
    alike = put_alike (current_in n f).control.special ys (subst (λ (l : List ℕ). AreAlike gap l ys) (sym (current_special n)) a);
    is = ap (with_inputs (inputs_of rec')) (current_kept n);
  }

  begun_kept : IsKeptFrame gap (with_inputs (inputs_of rec) f) (with_inputs (inputs_of rec') g)
  begun_kept = record { list = slice_set (slice_set ys 234 ccount) 226 interrupt; alike = put_alike f.control.special ys a; is = refl }

  -- ---- the step that is found

  module _ (code : ℕ → ℕ) (ranged : AreRanged gap code) where
    step_kept : (p q : FrameState) (reply : ℕ) → IsKeptFrame gap p q → IsQuiet gap (special_of p.control 228) → fetches_difference gap (fetch_at code p.control.pc) ≡ false
        → AreKeptTurns gap (step_with_inputs code reply p) (step_with_inputs code reply q)
    step_kept p q reply k none free = subst (λ (s : FrameState). AreKeptTurns gap (step_with_inputs code reply p) (step_with_inputs code reply s)) (sym k.is) (laid_step_kept p k.list k.alike code reply ranged none free)

    -- ---- outside nested interrupts

    plain_kept : IsQuiet gap (special_of (with_inputs (inputs_of rec) f).control 228) → fetches_difference gap (fetch_at code f.control.pc) ≡ false → AreKeptTurns gap (plain_turn code (inputs_of rec) f) (plain_turn code (inputs_of rec') g)
    plain_kept none free =
        let p = with_inputs (inputs_of rec) f in
        let q = with_inputs (inputs_of rec') g in
        let k = step_kept p q rec.reply begun_kept none free in
        let u = step_with_inputs code rec.reply p in
        let v = step_with_inputs code rec.reply q in
        record {
          kind = k.kind;
          write = k.write;
          access = k.access;
          after = with_unset u.after v.after (unset_after u.kind (fetch_at code f.control.pc) f.unset) (unset_after v.kind (fetch_at code f.control.pc) f.unset) k.after
              (ap (λ (what : StepKind). unset_after what (fetch_at code f.control.pc) f.unset) k.kind);
        }

    -- ---- in one

    kept_keeping : (p q : FrameState) → IsKeptFrame gap p q → IsKeptFrame gap (with_kept_frame f p) (with_kept_frame g q)
    kept_keeping p q k = record { list = k.list; alike = k.alike; is = ap (with_kept_frame f) k.is }

    module _ (x : Nested) (u v : FrameTurn) (k : AreKeptTurns gap u v) where
      after_as : (h : FrameState → Nested) → ((s : FrameState) (list : List ℕ) → h (record s { control = with_special s.control list }) ≡ h s) → h u.after ≡ h v.after
      after_as h same = unlike_special h u.after v.after (λ list. same u.after list) k.after

      nested_as : (i : Insn) (mark : Option ℕ) → nested_after i mark x u ≡ nested_after i mark x v
      nested_as i mark =
          let make : Option RegWrite → FrameState → Nested = λ w s. record {
            pc = s.control.pc;
            seen = marked_seen mark w s.seen;
            ps = s.control.ps;
            marks = marks_after mark w x.marks;
            saved = saved_by (moved_to i) x.marks x.saved;
          } in
          ap (λ (w : Option RegWrite). make w u.after) k.write ∙ after_as (make v.write) (λ s list. refl)

      insn_kept : (i : Insn) (value : ℕ) → AreKeptTurns gap (nested_insn i value x f u) (nested_insn i value x g v)
      insn_kept i value = by_test (ends_nested i)
        where
          mark : Option ℕ
          mark = mark_read i x.saved

          on : FrameState → FrameTurn → FrameTurn
          on s t = record t {
            write = marked_write mark value t.write;
            after = record (with_kept_frame s t.after) { unset = unset_written i x.marks s.unset; nested = Some (nested_after i mark x t) };
          }

          by_test : (b : Bool) → AreKeptTurns gap (cond b (record u { after = record (with_kept_frame f u.after) { nested = None } }) (on f u)) (cond b (record v { after = record (with_kept_frame g v.after) { nested = None } }) (on g v))
          by_test true = record { kind = k.kind; write = k.write; access = k.access; after = with_nested (with_kept_frame f u.after) (with_kept_frame g v.after) None None (kept_keeping u.after v.after k.after) refl }
          by_test false = record {
            kind = k.kind;
            write = ap (marked_write mark value) k.write;
            access = k.access;
            after = with_nested (record (with_kept_frame f u.after) { unset = unset_written i x.marks f.unset }) (record (with_kept_frame g v.after) { unset = unset_written i x.marks f.unset })
                (Some (nested_after i mark x u)) (Some (nested_after i mark x v))
                (with_unset (with_kept_frame f u.after) (with_kept_frame g v.after) (unset_written i x.marks f.unset) (unset_written i x.marks f.unset) (kept_keeping u.after v.after k.after) refl)
                (ap (λ (n : Nested). let o : Option Nested = Some n in o) (nested_as i mark));
          }

      other_kept : AreKeptTurns gap (nested_other x f u) (nested_other x g v)
      other_kept =
          let make : FrameState → Nested = λ s. record x { pc = s.control.pc; seen = s.seen; ps = s.control.ps } in
          record {
            kind = k.kind;
            write = k.write;
            access = k.access;
            after = with_nested (with_kept_frame f u.after) (with_kept_frame g v.after) (Some (make u.after)) (Some (make v.after)) (kept_keeping u.after v.after k.after)
                (ap (λ (n : Nested). let o : Option Nested = Some n in o) (after_as make (λ s list. refl)));
          }

      nested_kept_at : (at : Fetched) (value : ℕ) → AreKeptTurns gap (nested_fetched at value x f u) (nested_fetched at value x g v)
      nested_kept_at (Fetches i len) value = insn_kept i value
      nested_kept_at (Fails address) value = other_kept
      nested_kept_at SpellsNothing value = other_kept

    nested_kept : (x : Nested) (value : ℕ) → IsQuiet gap (special_of (with_inputs (inputs_of rec) (nested_view x f)).control 228) → fetches_difference gap (fetch_at code x.pc) ≡ false
        → AreKeptTurns gap (nested_turn code value (inputs_of rec) x f) (nested_turn code value (inputs_of rec') x g)
    nested_kept x value none free =
        let p = with_inputs (inputs_of rec) (nested_view x f) in
        let q = with_inputs (inputs_of rec') (nested_view x g) in
        nested_kept_at x (step_with_inputs code rec.reply p) (step_with_inputs code rec.reply q) (step_kept p q rec.reply (found_kept (Some x)) none free) (fetch_at code x.pc) value

    -- ---- the beginning of one

    begin_kept : AreKeptTurns gap (nested_entry (with_inputs (inputs_of rec) f)) (nested_entry (with_inputs (inputs_of rec') g))
    begin_kept =
        let p = with_inputs (inputs_of rec) f in
        let q = with_inputs (inputs_of rec') g in
        let list = slice_set (slice_set ys 234 ccount) 226 interrupt in
        let u = in_frame (settled_interrupt 5 p.control) 0 p in
        let v = in_frame (settled_interrupt 5 q.control) 0 q in
        let k = in_frame_kept (settled_interrupt 5 p.control) (settled_interrupt 5 q.control) 0 p q.control (bare_kept (Taken 5) None (after_interrupt 5 p.control) (after_interrupt 5 q.control) (kept_interrupt p.control list (put_alike f.control.special ys a) 5)) in
        let make : FrameState → Nested = λ s. record { pc = s.control.pc; seen = replicate 16 None; ps = s.control.ps; marks = own_marks; saved = replicate 256 None } in
        let unset = slice_set (slice_set f.unset (number.epc 5) true) (number.eps 5) true in
        let inner = unlike_special make u.after v.after (λ l. refl) k.after in
        let kept : IsKeptFrame gap (with_kept_frame p u.after) (with_kept_frame q v.after) = record { list = k.after.list; alike = k.after.alike; is = ap (with_kept_frame p) k.after.is } in
        record {
          kind = k.kind;
          write = k.write;
          access = k.access;
          after = with_nested (record (with_kept_frame p u.after) { unset = unset }) (record (with_kept_frame q v.after) { unset = unset }) (Some (make u.after)) (Some (make v.after))
              (with_unset (with_kept_frame p u.after) (with_kept_frame q v.after) unset unset kept refl)
              (ap (λ (n : Nested). let o : Option Nested = Some n in o) inner);
        }

    -- ---- any step

    turn_kept : (n : Option Nested) (value : ℕ) → IsQuiet gap (special_of (with_inputs (inputs_of rec) (current_in n f)).control 228) → fetches_difference gap (fetch_at code (current_in n f).control.pc) ≡ false
        → AreKeptTurns gap (turn_in n code value (inputs_of rec) f) (turn_in n code value (inputs_of rec') g)
    turn_kept None value none free = plain_kept none free
    turn_kept (Some x) value none free = nested_kept x value none free

    pub found_turns : IsQuiet gap (special_of (with_inputs (inputs_of rec) (current f)).control 228) → fetches_difference gap (fetch_at code (current f).control.pc) ≡ false
        → AreKeptTurns gap (step_with_inputs code rec.reply (with_inputs (inputs_of rec) (current f))) (step_with_inputs code rec.reply (with_inputs (inputs_of rec') (current g)))
    found_turns none free = step_kept (with_inputs (inputs_of rec) (current f)) (with_inputs (inputs_of rec') (current g)) rec.reply (found_kept f.nested) none free

    pub on_kept : (nested : Bool) → IsQuiet gap (special_of (with_inputs (inputs_of rec) (current f)).control 228) → fetches_difference gap (fetch_at code (current f).control.pc) ≡ false
        → AreKeptTurns gap (step_on code nested rec f) (step_on code nested rec' g)
    on_kept nested none free = by_test (begins nested rec.kind f)
      where
        by_test : (b : Bool) → AreKeptTurns gap (frame_step code b (value_in rec.write) (inputs_of rec) f) (frame_step code b (value_in rec.write) (inputs_of rec') g)
        by_test true = begin_kept
        by_test false = turn_kept f.nested (value_in rec.write) none free
