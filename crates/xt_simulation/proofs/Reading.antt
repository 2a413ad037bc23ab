-- Before a judged step each register that its row reads is filled: the frame state then has all that the row reads.
use Rattle.std.specs.Prelude.{unwrap_or, is_some}
use Rattle.std.proofs.Common.{◌≡◌, ℕ, ◌+◌, ◌/◌, ◌^◌, ◌<◌, Bool, true, false, ◌&&◌, not, List, Option, Some, None, sym, ap, ◌∙◌, refl, arith, ⊎_elim, subst, length, get_or}
use Rattle.std.proofs.Math.ListN.{set}
use Rattle.std.proofs.lemmas.Bool.{cases_Bool, cases_eq, or_from}
use Rattle.std.proofs.lemmas.List.{get_or-set_same, get_or-set_other}
use Rattle.xt_isa.specs.declared.Insn.{Insn}
use Rattle.xt_isa.specs.declared.Insn.TheVariants as insn
use Rattle.xt_isa.specs.declared.control.Control.TheVariants as control
use Rattle.xt_isa.specs.declared.control.ReturnName.TheVariants as ReturnName
use Rattle.xt_isa.specs.declared.density.Density.TheVariants as density
use Rattle.xt_isa.specs.declared.density.BareName.TheVariants as BareName
use Rattle.xt_isa.specs.Ranges.{in_range}
use Rattle.xt_special.specs.declared.ps.Ps.{Ps}
use Rattle.xt_special.specs.Shape.{IsPs}
use Rattle.xt_special.specs.Control.{special_of}
use Rattle.xt_window.specs.Ring.{place, visible}
use Rattle.xt_rows.specs.Kinds.{IsAtMost, is_entry}
use Rattle.xt_rows.specs.RowLaws.{IsHeld}
use Rattle.xt_rows.specs.Operands.{highest_register, reads, special_reads}
use Rattle.xt_rows.specs.Outcomes.{value_of}
use Rattle.xt_rows.proofs.Registers.{reads_named, shift_amount}
use Rattle.xt_exec.specs.State.{State}
use Rattle.xt_exec.specs.TurnLaws.{IsShaped}
use Rattle.xt_exec.specs.Turn.{is_illegal, window_check}
use Rattle.xt_frames.specs.Frames.{Frame, FrameState, value_or_zero, windows_moved}
use Rattle.xt_frames.specs.FrameStep.{with_inputs}
use Rattle.xt_frames.specs.SaveAreas.{Range}
use Rattle.xt_frames.specs.Breaches.{Bounds, is_unset, lacks, lost_of, names_high, other_frame_size, reads_lost}
use Rattle.xt_frames.specs.Marks.{holds_marks}
use Rattle.xt_frames.proofs.Shown.{entry_number}
use Rattle.xt_simulation.specs.Relation.{Level, inputs, lost_at}
use Rattle.xt_simulation.specs.Cores.{Related}
use Rattle.xt_simulation.proofs.Evenly.{cleared}
use Rattle.xt_simulation.proofs.Judged.{has_room}
use Rattle.xt_simulation.proofs.Laid.{laid_length}
use Rattle.xt_simulation.proofs.Windowed.{some_value, visible_value}
use Rattle.xt_uses.specs.UseBreaches.{has_no_number}
use Rattle.xt_uses.specs.UseState.{UseState}
use Rattle.xt_simulation.specs.Knowing.{Knows}
use Rattle.xt_simulation.proofs.Filled.{filled_knows, filled_related, with_seen}
use Rattle.xt_simulation.proofs.Operands.{IsGivenAt}
use Rattle.xt_simulation.proofs.SpecialFilled.{special_knows, special_related, with_special}

-- ---- there is room for the register in the core's own windows
abbrev pub HasSeat : List Frame → Option ℕ → Type 0
HasSeat ring None = Unit {0}
HasSeat ring (Some r) = (r < 16) × (windows_moved ring + r / 4 < 16)

pub low_seat : {vecbase : ℕ} {lost : ℕ → Bool} {s : State} {g : FrameState} {ring spilled : List Frame} → Level vecbase lost s g ring spilled → (r : ℕ) → r < 4 → HasSeat ring (Some r)
low_seat l r low = let fit = l.windows.fits in (omega arith, omega arith)

named_seat : {vecbase : ℕ} {lost : ℕ → Bool} {s : State} {g : FrameState} {ring spilled : List Frame} → Level vecbase lost s g ring spilled → (i : Insn) → in_range i ≡ true → is_entry i ≡ false → names_high i g ≡ false → window_check i s ≡ 0 → (o : Option ℕ) → IsAtMost (highest_register i) o → HasSeat ring o
named_seat l i ok entry high free None h = tt
named_seat {ring = ring} l i ok entry high free (Some r) h = has_room l i ok entry high free (Some (record { reg = r; value = 0 })) h

-- ENTRY reads a1 and RETW reads a0, also where they are illegal
pub read_seats : {vecbase : ℕ} {lost : ℕ → Bool} {s : State} {g : FrameState} {ring spilled : List Frame} → Level vecbase lost s g ring spilled → (i : Insn) → (r : Range) → in_range i ≡ true → names_high i g ≡ false → other_frame_size r i g ≡ false
    → (is_illegal i s ≡ false → window_check i s ≡ 0) → HasSeat ring (reads i).0 × HasSeat ring (reads i).1
unfolding reads is_illegal is_entry
read_seats {g = g} l (insn.Control (control.Entry number size)) r ok high size_ free = let one = entry_number number size r g size_ in (low_seat l number (omega arith), tt)
read_seats l (insn.Control (control.Return ReturnName.Retw)) r ok high size_ free = (low_seat l 0 (omega arith), tt)
read_seats l (insn.Density (density.Bare BareName.Retw)) r ok high size_ free = (low_seat l 0 (omega arith), tt)
read_seats l i r ok high size_ free = let each = reads_named i in let c = free refl in (named_seat l i ok refl high c (reads i).0 each.0, named_seat l i ok refl high c (reads i).1 each.1)

-- ---- visible registers
pub lacks_set : (xs : List (Option ℕ)) (r v : ℕ) (o : Option ℕ) → r < length xs → lacks xs o ≡ false → lacks (set xs r (Some v)) o ≡ false
lacks_set xs r v None low h = refl
lacks_set xs r v (Some k) low h = ⊎_elim
    (λ is. ap (λ (o : Option ℕ). not (is_some o)) (ap (λ j. get_or (set xs r (Some v)) j None) is ∙ get_or-set_same xs r (Some v) None low))
    (λ other. ap (λ (o : Option ℕ). not (is_some o)) (get_or-set_other xs r k (Some v) None other) ∙ h)
    (cases_eq k r)

pub lacks_here : (xs : List (Option ℕ)) (r v : ℕ) → r < length xs → lacks (set xs r (Some v)) (Some r) ≡ false
lacks_here xs r v low = ap (λ (o : Option ℕ). not (is_some o)) (get_or-set_same xs r (Some v) None low)

-- f2 is f with one register more
pub record OneMore (b : Bounds) (m : ℕ → ℕ) (fresh : Bool) (s : State) (ring spilled : List Frame) (u : UseState) (o : Option ℕ) (f : FrameState) : Type 0 where
  pub frame : FrameState
  pub related : Related m b (lost_at fresh frame) s frame ring spilled
  pub knows : Knows frame u
  pub nested : frame.nested ≡ f.nested
  pub unset : frame.unset ≡ f.unset
  pub here : lacks frame.seen o ≡ false
  pub others : (p : Option ℕ) → lacks f.seen p ≡ false → lacks frame.seen p ≡ false

module _ {b : Bounds} {m : ℕ → ℕ} {fresh : Bool} {s : State} {ring spilled : List Frame} {u : UseState} where
  fill_one : (f : FrameState) (o : Option ℕ) → Related m b (lost_at fresh f) s f ring spilled → Knows f u → HasSeat ring o → OneMore b m fresh s ring spilled u o f
  fill_one f None l k h = record { frame = f; related = l; knows = k; nested = refl; unset = refl; here = refl; others = λ p e. e }
  fill_one f (Some r) l k h =
      let wide = l.plain.windows.wide in
      let v = visible s.regs s.base r in
      record {
        frame = with_seen r v f;
        related = filled_related l r h.0 h.1;
        knows = filled_knows l r h.0 h.1 k;
        nested = refl;
        unset = refl;
        here = lacks_here f.seen r v (let narrow = h.0 in omega arith);
        others = λ p e. lacks_set f.seen r v p (let narrow = h.0 in omega arith) e;
      }

-- ---- all that a row reads
pub record Ready (b : Bounds) (m : ℕ → ℕ) (fresh : Bool) (s : State) (ring spilled : List Frame) (u : UseState) (i : Insn) : Type 0 where
  pub frame : FrameState
  pub related : Related m b (lost_at fresh frame) s frame ring spilled
  pub knows : Knows frame u
  pub nested : frame.nested ≡ None
  pub first : lacks frame.seen (reads i).0 ≡ false
  pub second : lacks frame.seen (reads i).1 ≡ false
  pub special : is_unset frame.unset (special_reads i).0 ≡ false
  pub other : is_unset frame.unset (special_reads i).1 ≡ false

-- a special register that keeps nothing unknown has a number in both
pub numbered : {f : FrameState} {u : UseState} → Knows f u → (o : Option ℕ) → has_no_number u.frame.unset o ≡ false → ((n : ℕ) → o ≡ Some n → holds_marks n ≡ false) → is_unset f.unset o ≡ false
numbered k None h plain = refl
numbered {u = u} k (Some n) h plain =
    let other = plain n refl in
    let a : (not false && get_or u.frame.unset n false) ≡ false = subst (λ z. (not z && get_or u.frame.unset n false) ≡ false) other h in
    k.unset.equal n other ∙ a

pub count_of : {b : Bounds} {m : ℕ → ℕ} {lost : ℕ → Bool} {s : State} {f : FrameState} {ring spilled : List Frame} → IsShaped s → Related m b lost s f ring spilled → length f.control.special ≡ 256
count_of {s = s} {f = f} shaped l = sym (laid_length f.control.special (special_of s.control 234) (special_of s.control 226)) ∙ (sym l.plain.even.special.size ∙ shaped.control.count)

module _ {b : Bounds} {m : ℕ → ℕ} {fresh : Bool} {s : State} {ring spilled : List Frame} {u : UseState} (shaped : IsShaped s) where
  pub ready : (i : Insn) (f : FrameState) → Related m b (lost_at fresh f) s f ring spilled → Knows f u → f.nested ≡ None → HasSeat ring (reads i).0 → HasSeat ring (reads i).1
      → has_no_number u.frame.unset (special_reads i).0 ≡ false → has_no_number u.frame.unset (special_reads i).1 ≡ false → ((n : ℕ) → (special_reads i).1 ≡ Some n → holds_marks n ≡ false)
      → Ready b m fresh s ring spilled u i
  ready i f l k none seat seat2 number number2 plain2 =
      let one = fill_one f (reads i).0 l k seat in
      let two = fill_one one.frame (reads i).1 one.related one.knows seat2 in
      let first : lacks two.frame.seen (reads i).0 ≡ false = two.others (reads i).0 one.here in
      let none2 : two.frame.nested ≡ None = two.nested ∙ (one.nested ∙ none) in
      with_last (special_reads i).0 refl two.frame two.related two.knows none2 first two.here
    where
      simple : (g : FrameState) → Related m b (lost_at fresh g) s g ring spilled → Knows g u → g.nested ≡ None → lacks g.seen (reads i).0 ≡ false → lacks g.seen (reads i).1 ≡ false → is_unset g.unset (special_reads i).0 ≡ false → Ready b m fresh s ring spilled u i
      simple g l k none first second special = record {
        frame = g;
        related = l;
        knows = k;
        nested = none;
        first = first;
        second = second;
        special = special;
        other = numbered k (special_reads i).1 number2 plain2;
      }

      with_last : (o : Option ℕ) → (special_reads i).0 ≡ o → (g : FrameState) → Related m b (lost_at fresh g) s g ring spilled → Knows g u → g.nested ≡ None → lacks g.seen (reads i).0 ≡ false → lacks g.seen (reads i).1 ≡ false → Ready b m fresh s ring spilled u i
      with_last None e g l k none first second = simple g l k none first second (ap (is_unset g.unset) e)
      with_last (Some n) e g l k none first second = ⊎_elim
          (λ mark.
          let v = special_of s.control n in
          let count = count_of shaped l in
          let wide = k.unset.size in
          let h : FrameState = with_special n v g in
          let at : get_or (set g.unset n false) n false ≡ false = cleared g.unset n false in
          simple h (special_related fresh s g n mark count wide l) (special_knows fresh s g n mark count wide (shaped.control.words n) l.plain.even.special k) none first second (ap (is_unset h.unset) e ∙ at))
          (λ other. simple g l k none first second (numbered k (special_reads i).0 number (λ j is. subst (λ z. holds_marks z ≡ false) (ap (λ (o : Option ℕ). unwrap_or o 0) (sym e ∙ is)) other)))
          (cases_Bool (holds_marks n))

-- ---- what the row is given
module _ {b : Bounds} {m : ℕ → ℕ} {fresh : Bool} {s : State} {ring spilled : List Frame} {u : UseState} {i : Insn} (shaped : IsShaped s) (r : Ready b m fresh s ring spilled u i) where
  abbrev now : FrameState
  now = with_inputs (inputs 0 s) r.frame

  seen_value : (o : Option ℕ) → lacks r.frame.seen o ≡ false → value_of (value_or_zero now.seen) o ≡ value_of (visible s.regs s.base) o
  seen_value None h = refl
  seen_value (Some k) h = let v = some_value (get_or r.frame.seen k None) h in ap (λ (o : Option ℕ). unwrap_or o 0) v.1 ∙ sym (visible_value r.related.plain.windows k v.0 v.1)

  seen_word : (o : Option ℕ) → value_of (visible s.regs s.base) o < 2 ^ 32
  seen_word None = omega arith
  seen_word (Some k) = shaped.words (place s.base k)

  special_value : (o : Option ℕ) → reads_lost fresh o ≡ false → is_unset r.frame.unset o ≡ false → value_of (special_of now.control) o ≡ value_of (special_of s.control) o
  special_value None lost none = refl
  special_value (Some n) lost none = sym (r.related.plain.even.special.at n (or_from (lost_of fresh n) (get_or r.frame.unset n false) lost none))

  special_word : (o : Option ℕ) → value_of (special_of s.control) o < 2 ^ 32
  special_word None = omega arith
  special_word (Some n) = shaped.control.words n

  held : (o : Option ℕ) → IsHeld o (value_of (special_of s.control) o)
  held None = refl
  held (Some n) = λ is. subst (λ j. get_or s.control.special j 0 < 2 ^ 6) (sym is) shaped.control.shape.sar_fits

  pub given_now : in_range i ≡ true → reads_lost fresh (special_reads i).0 ≡ false → reads_lost fresh (special_reads i).1 ≡ false → IsGivenAt i now
  given_now ok lost lost2 =
      let a = seen_value (reads i).0 r.first in
      let c = seen_value (reads i).1 r.second in
      let d = special_value (special_reads i).0 lost r.special in
      let e = special_value (special_reads i).1 lost2 r.other in
      record {
        range = ok;
        pc_word = subst (λ z. z < 2 ^ 32) r.related.plain.even.pc shaped.control.pc;
        x_word = rw a (seen_word (reads i).0);
        y_word = rw c (seen_word (reads i).1);
        u_word = rw d (special_word (special_reads i).0);
        v_word = rw e (special_word (special_reads i).1);
        sar = rw d (shift_amount i (value_of (special_of s.control) (special_reads i).0) (held (special_reads i).0));
        fields = subst (λ (p : Ps). IsPs p) r.related.plain.even.ps shaped.control.ps;
        threadptr_word = subst (λ z. z < 2 ^ 32) r.related.plain.even.threadptr shaped.control.threadptr;
      }
