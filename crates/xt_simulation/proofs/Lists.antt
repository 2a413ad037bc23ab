-- What a step does to masks, to registers and to the special registers without a number.
use Rattle.std.specs.Prelude.{is_some}
use Rattle.std.proofs.Common.{◌≡◌, ℕ, ◌+◌, ◌^◌, ◌<◌, ◌≢◌, Bool, true, false, List, Option, Some, None, sym, ap, ◌∙◌, refl, arith, ⊎_elim, subst, length, get_or}
use Rattle.std.proofs.Math.ListN.{set}
use Rattle.std.proofs.lemmas.Bool.{both_ways, cases_eq, cases_lt, true≢false}
use Rattle.std.proofs.lemmas.List.{get_or-set_same, get_or-set_other, get_or_past, length-set}
use Rattle.xt_isa.specs.declared.Insn.{Insn}
use Rattle.xt_isa.specs.declared.Insn.TheVariants as insn
use Rattle.xt_isa.specs.declared.system.System.TheVariants as system
use Rattle.xt_isa.specs.declared.system.UserName.TheVariants as UserName
use Rattle.xt_special.specs.Access.{is_eps}
use Rattle.xt_special.specs.declared.ps.Ps.{Ps}
use Rattle.xt_trace.specs.declared.record.RegWrite.{RegWrite}
use Rattle.xt_trace.specs.declared.record.StepKind.{StepKind}
use Rattle.xt_trace.specs.declared.record.StepKind.TheVariants as step
use Rattle.xt_map.specs.Fetching.{Fetched, Fetches, Fails, SpellsNothing}
use Rattle.xt_frames.specs.Frames.{FrameState, value_or_zero, seen_after_write}
use Rattle.xt_frames.specs.FrameStep.{Inputs, with_inputs}
use Rattle.xt_frames.specs.Marks.{holds_marks, unset_by}
use Rattle.xt_frames.specs.Nesting.{unset_after}
use Rattle.xt_simulation.proofs.Evenly.{same_set}
use Rattle.xt_uses.specs.Used.{counted_bits}
use Rattle.xt_uses.specs.declared.discipline.Discipline.{Discipline}
use Rattle.xt_uses.specs.Words.{masked}
use Rattle.xt_uses.specs.UseState.{ValidityBits}
use Rattle.xt_uses.specs.UseStep.{cut_number, cut_seen, step_insn, pointer_written, special_written, visible_written}
use Rattle.xt_uses.specs.UseLaws.{WritesAgree, pointer_mask}
use Rattle.xt_simulation.specs.Knowing.{ControlFit, ControlLeft, SeenFit, UnsetFit}
use Rattle.xt_simulation.proofs.Effects.{moved_masks}
use Rattle.xt_simulation.proofs.Seen.{known_other, known_same, set_fits}
use Rattle.xt_simulation.proofs.Specials.{mark_range}

-- ---- masks
pub special_is : (o : Option (ℕ × ℕ)) (mask : ℕ) (m : ValidityBits) → special_written o mask m ≡ record m { special = moved_masks o mask m.special }
special_is None mask m = refl
special_is (Some p) mask m = refl

pub pointer_is : (i : Insn) (mask : ℕ) (m : ValidityBits) → pointer_written i mask m ≡ record m { threadptr = pointer_mask i mask m.threadptr }
unfolding pointer_written pointer_mask
pointer_is (insn.System (system.User UserName.Wur t n)) mask m = refl
pointer_is _ mask m = refl

abbrev pub written_list : Option RegWrite → ℕ → List ℕ → List ℕ
written_list None mask xs = xs
written_list (Some w) mask xs = set xs w.reg mask

pub visible_is : (o : Option RegWrite) (mask : ℕ) (m : ValidityBits) → visible_written false o mask m ≡ record m { seen = written_list o mask m.seen }
visible_is None mask m = refl
visible_is (Some w) mask m = refl

pub inner_is : (o : Option RegWrite) (mask : ℕ) (m : ValidityBits) → visible_written true o mask m ≡ record m { inner = written_list o mask m.inner }
inner_is None mask m = refl
inner_is (Some w) mask m = refl

-- ---- a write
abbrev pub IsVisible : Option RegWrite → Type 0
IsVisible None = Unit {0}
IsVisible (Some w) = w.reg < 16

pub write_fits : {masks : List ℕ} {xs ys : List (Option ℕ)} → SeenFit 16 masks xs ys → (mask : ℕ) (v w : Option RegWrite) → WritesAgree mask v w → IsVisible v
    → SeenFit 16 (written_list w mask masks) (seen_after_write v xs) (cut_seen mask w (seen_after_write w ys))
write_fits s mask None None agree low = s
write_fits {masks = masks} {xs = xs} {ys = ys} s mask (Some v) (Some w) agree low =
    let wide = s.wide in
    let reg : v.reg ≡ w.reg = agree.0 in
    let narrow : w.reg < 16 = subst (λ r. r < 16) reg low in
    let at : get_or (set ys w.reg (Some w.value)) w.reg None ≡ Some w.value = get_or-set_same ys w.reg (Some w.value) None (omega arith) in
    -- first the number that is written, and then its known bits
    let first : SeenFit 16 (set masks w.reg (mask)) (set xs w.reg (Some v.value)) (set ys w.reg (Some (masked mask w.value))) = set_fits s w.reg mask (Some v.value) (Some (masked mask w.value)) narrow agree.1 (λ e. absurd cc) in
    let len = length-set ys w.reg (Some w.value) in
    let second : SeenFit 16 (set masks w.reg mask) (set xs w.reg (Some v.value)) (set (set ys w.reg (Some w.value)) w.reg (Some (masked mask w.value))) = record {
      size = first.size;
      wide = length-set (set ys w.reg (Some w.value)) w.reg (Some (masked mask w.value)) ∙ (len ∙ wide);
      spread = first.spread;
      fits = λ i. first.fits i ∙ ⊎_elim
          (λ is.
          let a : value_or_zero (set ys w.reg (Some (masked mask w.value))) w.reg ≡ masked mask w.value = known_same ys w.reg (Some (masked mask w.value)) (omega arith) in
          let b : value_or_zero (set (set ys w.reg (Some w.value)) w.reg (Some (masked mask w.value))) w.reg ≡ masked mask w.value = known_same (set ys w.reg (Some w.value)) w.reg (Some (masked mask w.value)) (omega arith) in
          subst (λ k. value_or_zero (set ys w.reg (Some (masked mask w.value))) k ≡ value_or_zero (set (set ys w.reg (Some w.value)) w.reg (Some (masked mask w.value))) k) (sym is) (a ∙ sym b))
          (λ other.
          known_other ys w.reg i (Some (masked mask w.value)) other
          ∙ (sym (known_other ys w.reg i (Some w.value) other) ∙ sym (known_other (set ys w.reg (Some w.value)) w.reg i (Some (masked mask w.value)) other)))
          (cases_eq i w.reg);
      lacks = first.lacks;
    } in
    let q : SeenFit 16 (set masks w.reg mask) (set xs w.reg (Some v.value)) (cut_seen mask (Some w) (set ys w.reg (Some w.value))) =
    subst (λ (z : Option ℕ). SeenFit 16 (set masks w.reg mask) (set xs w.reg (Some v.value)) (set (set ys w.reg (Some w.value)) w.reg (cut_number mask z))) (sym at) second in
    subst (λ r. SeenFit 16 (set masks w.reg mask) (set xs r (Some v.value)) (cut_seen mask (Some w) (set ys w.reg (Some w.value)))) (sym reg) q
write_fits s mask None (Some w) agree low = absurd agree
write_fits s mask (Some v) None agree low = absurd agree

-- of another register than r
pub write_other : (mask r : ℕ) (w : Option RegWrite) (ys : List (Option ℕ)) → ((z : RegWrite) → w ≡ Some z → r ≢ z.reg) → value_or_zero (cut_seen mask w (seen_after_write w ys)) r ≡ value_or_zero ys r
write_other mask r None ys h = refl
write_other mask r (Some w) ys h =
    let other = h w refl in
    known_other (set ys w.reg (Some w.value)) w.reg r _ other ∙ known_other ys w.reg r (Some w.value) other

-- ---- special registers without a number
unset_same : (xs : List Bool) (n : ℕ) (b : Bool) → length xs ≡ 256 → n < 256 → get_or (set xs n b) n false ≡ b
unset_same xs n b size low = get_or-set_same xs n b false (omega arith)

-- both are given the same
pub set_equal : (xs ys : List Bool) (n : ℕ) (b : Bool) → length xs ≡ 256 → length ys ≡ 256 → (k : ℕ) → get_or xs k false ≡ get_or ys k false → get_or (set xs n b) k false ≡ get_or (set ys n b) k false
set_equal xs ys n b size wide k equal = ⊎_elim
    (λ is. ⊎_elim
    (λ low. let a = unset_same xs n b size low in let c = unset_same ys n b wide low in rw is (a ∙ sym c))
    (λ high.
    let a = get_or_past (set xs n b) n false (let l = length-set xs n b in omega arith) in
    let c = get_or_past (set ys n b) n false (let l = length-set ys n b in omega arith) in
    rw is (a ∙ sym c))
    (cases_lt n 256))
    (λ apart. get_or-set_other xs n k b false apart ∙ (equal ∙ sym (get_or-set_other ys n k b false apart)))
    (cases_eq k n)

pub set_unset : {special : List ℕ} {xs ys : List Bool} → UnsetFit special xs ys → (n mask : ℕ) (b : Bool) → length special ≡ 256 → (b ≡ true → mask ≡ 0) → UnsetFit (set special n mask) (set xs n b) (set ys n b)
set_unset {special = special} {xs = xs} {ys = ys} u n mask b spread gone =
    let size = u.size in
    let wide = u.wide in
    record {
      size = length-set xs n b ∙ size;
      wide = length-set ys n b ∙ wide;
      equal = λ k other. set_equal xs ys n b u.size u.wide k (u.equal k other);
      lacks = λ k mark has. ⊎_elim
          (λ is.
          let low : k < 256 = ⊎_elim (λ r. let hi = r.1 in omega arith) (λ r. let hi = r.1 in omega arith) (mark_range k mark) in
          let m : get_or (set special n mask) n 0 ≡ mask = get_or-set_same special n mask 0 (omega arith) in
          let h : get_or (set xs n b) n false ≡ true = subst (λ j. get_or (set xs n b) j false ≡ true) is has in
          let t : b ≡ true = sym (unset_same xs n b size (omega arith)) ∙ h in
          subst (λ j. get_or (set special n mask) j 0 ≡ 0) (sym is) (m ∙ gone t))
          (λ apart. get_or-set_other special n k mask 0 apart ∙ u.lacks k mark (sym (get_or-set_other xs n k b false apart) ∙ has))
          (cases_eq k n);
    }

-- a number is given, and no mask changes
pub clear_unset : {special : List ℕ} {xs ys : List Bool} → UnsetFit special xs ys → (n : ℕ) → UnsetFit special (set xs n false) (set ys n false)
clear_unset {special = special} {xs = xs} {ys = ys} u n =
    let size = u.size in
    let wide = u.wide in
    record {
      size = length-set xs n false ∙ size;
      wide = length-set ys n false ∙ wide;
      equal = λ k other. set_equal xs ys n false u.size u.wide k (u.equal k other);
      lacks = λ k mark has. ⊎_elim
          (λ is. ⊎_elim
          (λ low.
          let h : get_or (set xs n false) n false ≡ true = subst (λ j. get_or (set xs n false) j false ≡ true) is has in
          absurd (true≢false (sym h ∙ unset_same xs n false size low)))
          (λ high.
          let h : get_or (set xs n false) n false ≡ true = subst (λ j. get_or (set xs n false) j false ≡ true) is has in
          absurd (true≢false (sym h ∙ get_or_past (set xs n false) n false (let l = length-set xs n false in omega arith))))
          (cases_lt n 256))
          (λ apart. u.lacks k mark (sym (get_or-set_other xs n k false false apart) ∙ has))
          (cases_eq k n);
    }

-- by WSR and XSR; a mark has the mask 0
pub moved_unset : {special : List ℕ} {xs ys : List Bool} → UnsetFit special xs ys → (o : Option (ℕ × ℕ)) (mask : ℕ) (marks : List (Option ℕ)) → length special ≡ 256
    → ((p : ℕ × ℕ) → o ≡ Some p → is_some (get_or marks p.0 None) ≡ true → mask ≡ 0) → UnsetFit (moved_masks o mask special) (unset_by o marks xs) (unset_by o marks ys)
moved_unset u None mask marks spread gone = u
moved_unset u (Some p) mask marks spread gone = set_unset u p.1 mask (is_some (get_or marks p.0 None)) spread (gone p refl)

-- where no instruction is executed
pub rest_unset : {special : List ℕ} {xs ys : List Bool} → UnsetFit special xs ys → (k : StepKind) (at : Fetched) → step_insn k at ≡ None → UnsetFit special (unset_after k at xs) (unset_after k at ys)
unfolding step_insn
rest_unset u (step.Interrupt level) at idle = clear_unset (clear_unset u (176 + level)) (192 + level)
rest_unset u step.Insn (Fetches i len) idle = absurd cc
rest_unset u step.Insn (Fails address) idle = u
rest_unset u step.Insn SpellsNothing idle = u
rest_unset u _ at idle = u

-- ---- the inputs of a step, laid over both
pub laid_fits : {by : Discipline} {special : List ℕ} {bits : ℕ} (inp : Inputs) (f g : FrameState) → ControlLeft by special bits f.control g.control → ControlFit by special bits (with_inputs inp f).control (with_inputs inp g).control
laid_fits {by = by} {special = special} inp f g k = record {
  even = record {
    pc = k.even.pc;
    ps = ap (λ (p : Ps). (let q : Ps = record p { owb = inp.owb } in q)) k.even.ps;
    threadptr = refl;
    waits = k.even.waits;
    special = same_set (same_set k.even.special 234 inp.ccount) 226 inp.interrupt;
  };
  pointer = k.pointer;
  spread = k.spread;
  words = λ n h.
      let bits_ : n ≢ 226 = λ e. both_ways (holds_marks n) (subst (λ j. holds_marks j ≡ false) (sym e) refl) h in
      let count : n ≢ 234 = λ e. both_ways (holds_marks n) (subst (λ j. holds_marks j ≡ false) (sym e) refl) h in
      subst (λ z. z < 2 ^ 32) (sym (get_or-set_other (set f.control.special 234 inp.ccount) 226 n inp.interrupt 0 bits_ ∙ get_or-set_other f.control.special 234 n inp.ccount 0 count)) (k.words n h);
  fits = λ n h.
      let bits_ : n ≢ 226 = λ e. both_ways (holds_marks n) (subst (λ j. holds_marks j ≡ false) (sym e) refl) h in
      let count : n ≢ 234 = λ e. both_ways (holds_marks n) (subst (λ j. holds_marks j ≡ false) (sym e) refl) h in
      let a = get_or-set_other (set f.control.special 234 inp.ccount) 226 n inp.interrupt 0 bits_ ∙ get_or-set_other f.control.special 234 n inp.ccount 0 count in
      let b = get_or-set_other (set g.control.special 234 inp.ccount) 226 n inp.interrupt 0 bits_ ∙ get_or-set_other g.control.special 234 n inp.ccount 0 count in
      ap (masked (get_or special n 0)) a ∙ (k.fits n h ∙ sym b);
  saved = λ n h.
      let bits_ : n ≢ 226 = λ e. both_ways (is_eps n) (subst (λ j. is_eps j ≡ false) (sym e) refl) h in
      let count : n ≢ 234 = λ e. both_ways (is_eps n) (subst (λ j. is_eps j ≡ false) (sym e) refl) h in
      let a = get_or-set_other (set f.control.special 234 inp.ccount) 226 n inp.interrupt 0 bits_ ∙ get_or-set_other f.control.special 234 n inp.ccount 0 count in
      let b = get_or-set_other (set g.control.special 234 inp.ccount) 226 n inp.interrupt 0 bits_ ∙ get_or-set_other g.control.special 234 n inp.ccount 0 count in
      ap (masked (counted_bits by n)) a ∙ (k.saved n h ∙ sym (ap (masked (counted_bits by n)) b));
}
