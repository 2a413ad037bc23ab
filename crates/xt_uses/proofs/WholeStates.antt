-- Frame states with the masks beside them, where no breach of the stack discipline has been shown: how a register that is written, a call, a
-- return and a nested interrupt change them.
use Rattle.std.proofs.Common.{◌≡◌, ℕ, ◌-◌, ◌*◌, ◌<◌, ◌≤◌, Bool, true, false, not, leb, ◌&&◌, ⊎_elim, List, [], ◌∷◌, ◌++◌, Option, Some, None, length, take, drop, get_or, replicate, refl, sym, ap, ◌∙◌, arith, subst}
use Rattle.std.proofs.Math.ListN.{set}
use Rattle.std.specs.Prelude.{is_some, map}
use Rattle.std.proofs.lemmas.Bool.{and_parts, both_ways, leb-true, or_cases}
use Rattle.std.proofs.lemmas.Option.{none-some}
use Rattle.std.proofs.lemmas.List.{length-append, length-drop, length-replicate, length-set, length-take, map-set, get_or-replicate, take-map}
use Rattle.xt_isa.specs.declared.Insn.{Insn}
use Rattle.xt_isa.specs.declared.Insn.TheVariants as insn
use Rattle.xt_isa.specs.declared.system.System.TheVariants as system
use Rattle.xt_isa.specs.declared.system.UserName.TheVariants as UserName
use Rattle.xt_special.specs.declared.ps.Ps.{Ps}
use Rattle.xt_trace.specs.declared.record.RegWrite.{RegWrite}
use Rattle.xt_frames.specs.declared.holes.Nested.{Nested}
use Rattle.xt_frames.specs.Frames.{Frame, FrameState, all_set, opening_frame, opening_seen, seen_after_call, seen_after_return, seen_after_write}
use Rattle.xt_frames.specs.Marks.{holds_marks, marked_seen, marks_after, own_marks, saved_by, unset_by}
use Rattle.xt_uses.specs.Words.{all_bits, mask_where}
use Rattle.xt_uses.specs.Disciplines.{Lenient}
use Rattle.xt_uses.specs.UseState.{ValidityBits, whole_masks}
use Rattle.xt_uses.specs.UseStep.{bits_after_call, inner_unknown, pointer_written, bits_after_return, special_written, visible_written}
use Rattle.xt_uses.specs.UseLaws.{InnerIsWhole, MasksAreWhole, number_mask}
use Rattle.xt_uses.proofs.WholeLists.{held, held_both, masks_called, masks_length, masks_none, masks_of, masks_returned, masks_set, replicated, set_again}

-- ---- what holds of the parts of a state
-- as many registers are kept for a frame as its call moved by, of 16
abbrev pub IsFull : Frame → Type 0
IsFull g = 16 - length g.kept ≡ 16 - 4 * g.by

abbrev pub AreFull : List Frame → Type 0
AreFull [] = Unit {0}
AreFull (g ∷ rest) = IsFull g × AreFull rest

abbrev pub kept_masks : List Frame → List (List ℕ)
kept_masks frames = map (λ (g : Frame). masks_of g.kept) frames

abbrev pub SpecialIsWhole : List ℕ → List Bool → Type 0
SpecialIsWhole special unset = (n : ℕ) → holds_marks n ≡ true → get_or special n 0 ≡ mask_where (not (get_or unset n false))

-- a nested interrupt
pub record IsInner (x : Nested) (waits : Bool) (unset : List Bool) : Type 0 where
  pub excm : x.ps.excm ≡ true
  pub level : x.ps.intlevel ≡ 5
  pub runs : waits ≡ false
  pub wide : length x.seen ≡ 16
  pub spread : length x.marks ≡ 16
  pub count : length x.saved ≡ 256
  pub marks : (k j : ℕ) → get_or x.marks k None ≡ Some j → get_or x.seen k None ≡ None
  pub saved : (n j : ℕ) → get_or x.saved n None ≡ Some j → (holds_marks n ≡ true) × (get_or unset n false ≡ true)

abbrev pub IsInside : Option Nested → Bool → List Bool → Type 0
IsInside None waits unset = Unit {0}
IsInside (Some x) waits unset = IsInner x waits unset

pub record Whole (seen : List (Option ℕ)) (frames : List Frame) (unset : List Bool) (nested : Option Nested) (waits : Bool) (m : ValidityBits) : Type 0 where
  pub seen_masks : m.seen ≡ masks_of seen
  pub kept : m.kept ≡ kept_masks frames
  pub special : SpecialIsWhole m.special unset
  pub threadptr : m.threadptr ≡ all_bits
  pub inner : InnerIsWhole nested m.inner
  pub count : length m.special ≡ 256
  pub holes : length unset ≡ 256
  pub wide : 16 ≤ length seen
  pub full : AreFull frames
  pub inside : IsInside nested waits unset

abbrev pub IsWholeState : FrameState → ValidityBits → Type 0
IsWholeState f m = Whole f.seen f.frames f.unset f.nested f.control.waits m

pub masks_whole : (f : FrameState) (m : ValidityBits) → IsWholeState f m → MasksAreWhole f m
masks_whole f m w = record { seen = w.seen_masks; kept = w.kept; special = w.special; threadptr = w.threadptr; inner = w.inner }

-- ---- THREADPTR
module _ {seen : List (Option ℕ)} {frames : List Frame} {unset : List Bool} {nested : Option Nested} {waits : Bool} {m : ValidityBits} (w : Whole seen frames unset nested waits m) where
  pub whole_pointer : (i : Insn) → Whole seen frames unset nested waits (pointer_written i all_bits m)
  unfolding pointer_written
  whole_pointer (insn.System (system.User UserName.Wur t n)) = record { seen_masks = w.seen_masks; kept = w.kept; special = w.special; threadptr = refl; inner = w.inner; count = w.count; holes = w.holes; wide = w.wide; full = w.full; inside = w.inside }
  whole_pointer _ = w

  -- ---- a nested interrupt ends
  pub whole_ended : (awake : Bool) → Whole seen frames unset None awake m
  whole_ended awake = record { seen_masks = w.seen_masks; kept = w.kept; special = w.special; threadptr = w.threadptr; inner = tt; count = w.count; holes = w.holes; wide = w.wide; full = w.full; inside = tt }

-- ---- outside nested interrupts
seen_length : (o : Option RegWrite) (seen : List (Option ℕ)) → length (seen_after_write o seen) ≡ length seen
seen_length None seen = refl
seen_length (Some w) seen = length-set seen w.reg (Some w.value)

module _ {seen : List (Option ℕ)} {frames : List Frame} {unset : List Bool} {waits : Bool} {m : ValidityBits} (w : Whole seen frames unset None waits m) where
  pub whole_visible : (o : Option RegWrite) → Whole (seen_after_write o seen) frames unset None waits (visible_written false o all_bits m)
  whole_visible None = w
  whole_visible (Some r) =
      let wide = w.wide in
      let l = seen_length (Some r) seen in
      record {
        seen_masks = ap (λ ys. set ys r.reg all_bits) w.seen_masks ∙ masks_set seen r.reg r.value;
        kept = w.kept;
        special = w.special;
        threadptr = w.threadptr;
        inner = tt;
        count = w.count;
        holes = w.holes;
        wide = omega (arith, wide, l);
        full = w.full;
        inside = tt;
      }

  pub whole_special : (o : Option (ℕ × ℕ)) → Whole seen frames (unset_by o [] unset) None waits (special_written o all_bits m)
  whole_special None = w
  whole_special (Some p) =
      record {
        seen_masks = w.seen_masks;
        kept = w.kept;
        special = λ n h. held_both m.special unset p.1 n all_bits 0 false false (λ a b. a ≡ mask_where (not b)) (w.count ∙ sym w.holes) (λ e. refl) (w.special n h);
        threadptr = w.threadptr;
        inner = tt;
        count = length-set m.special p.1 all_bits ∙ w.count;
        holes = length-set unset p.1 false ∙ w.holes;
        wide = w.wide;
        full = w.full;
        inside = tt;
      }

  pub whole_unset : (other : List Bool) → length other ≡ 256 → ((n : ℕ) → holds_marks n ≡ true → get_or other n false ≡ get_or unset n false) → Whole seen frames other None waits m
  whole_unset other l h = record {
    seen_masks = w.seen_masks;
    kept = w.kept;
    special = λ n is. w.special n is ∙ ap (λ b. mask_where (not b)) (sym (h n is));
    threadptr = w.threadptr;
    inner = tt;
    count = w.count;
    holes = l;
    wide = w.wide;
    full = w.full;
    inside = tt;
  }

  pub whole_called : (n : ℕ) → Whole (seen_after_call seen n) (record { by = n; kept = take (4 * n) seen } ∷ frames) unset None waits (bits_after_call n m)
  whole_called n =
      let wide = w.wide in
      let d = length-drop (4 * n) seen in
      let r = length-replicate {A = Option ℕ} (4 * n) None in
      let a = length-append (drop (4 * n) seen) (replicate (4 * n) None) in
      let t = length-take (4 * n) seen in
      record {
        seen_masks = ap (λ ys. drop (4 * n) ys ++ replicate (4 * n) 0) w.seen_masks ∙ masks_called seen (4 * n);
        kept = (λ i. take (4 * n) (w.seen_masks i) ∷ w.kept i) ∙ ap (λ ys. ys ∷ kept_masks frames) (take-map number_mask (4 * n) seen);
        special = w.special;
        threadptr = w.threadptr;
        inner = tt;
        count = w.count;
        holes = w.holes;
        wide = omega (arith, wide, d, r, a);
        full = (omega (arith, wide, t), w.full);
        inside = tt;
      }

pub whole_returned : {seen : List (Option ℕ)} {g : Frame} {frames : List Frame} {unset : List Bool} {waits : Bool} {m : ValidityBits} → Whole seen (g ∷ frames) unset None waits m → Whole (seen_after_return g.kept seen g.by) frames unset None waits (bits_after_return m.kept m)
whole_returned {seen} {g} {frames} {unset} {waits} {m} w = subst (λ ks. Whole (seen_after_return g.kept seen g.by) frames unset None waits (bits_after_return ks m)) (sym w.kept) (record {
  seen_masks = back;
  kept = refl;
  special = w.special;
  threadptr = w.threadptr;
  inner = tt;
  count = w.count;
  holes = w.holes;
  wide = left;
  full = w.full.1;
  inside = tt;
})
  where
    same : 16 - length (masks_of g.kept) ≡ 16 - 4 * g.by
    same = ap (λ n. 16 - n) (masks_length g.kept) ∙ w.full.0

    back : masks_of g.kept ++ take (16 - length (masks_of g.kept)) m.seen ≡ masks_of (seen_after_return g.kept seen g.by)
    back = (λ i. masks_of g.kept ++ take (same i) (w.seen_masks i)) ∙ masks_returned g.kept seen (16 - 4 * g.by)

    left : 16 ≤ length (seen_after_return g.kept seen g.by)
    left =
        let wide = w.wide in
        let full = w.full.0 in
        let t = length-take (16 - 4 * g.by) seen in
        let a = length-append g.kept (take (16 - 4 * g.by) seen) in
        omega (arith, wide, full, t, a)

-- ---- a nested interrupt begins
abbrev pub begun_inner : ℕ → Ps → Nested
begun_inner pc ps = record { pc = pc; seen = replicate 16 None; ps = ps; marks = own_marks; saved = replicate 256 None }

no_number : (k : ℕ) → get_or {A = Option ℕ} (replicate 16 None) k None ≡ None
no_number k = replicated {A = Option ℕ} 16 k None

no_saved : (n : ℕ) → get_or {A = Option ℕ} (replicate 256 None) n None ≡ None
no_saved n = replicated {A = Option ℕ} 256 n None

apart : (n k : ℕ) → holds_marks n ≡ true → holds_marks k ≡ false → k ≡ n → ⊥
apart n k h g e = both_ways (holds_marks n) (subst (λ x. holds_marks x ≡ false) e g) h

pub whole_begun : {seen : List (Option ℕ)} {frames : List Frame} {unset : List Bool} {waits : Bool} {m : ValidityBits} → Whole seen frames unset None waits m → (pc : ℕ) (ps : Ps) → ps.excm ≡ true → ps.intlevel ≡ 5
    → Whole seen frames (set (set unset 181 true) 197 true) (Some (begun_inner pc ps)) false (inner_unknown m)
whole_begun {seen} {frames} {unset} {waits} {m} w pc ps excm level = record {
  seen_masks = w.seen_masks;
  kept = w.kept;
  special = λ n h. held (set unset 181 true) 197 n true false (λ b. get_or m.special n 0 ≡ mask_where (not b)) (λ e. absurd (apart n 197 h refl e)) (held unset 181 n true false (λ b. get_or m.special n 0 ≡ mask_where (not b)) (λ e. absurd (apart n 181 h refl e)) (w.special n h));
  threadptr = w.threadptr;
  inner = sym (masks_none 16);
  count = w.count;
  holes = length-set (set unset 181 true) 197 true ∙ (length-set unset 181 true ∙ w.holes);
  wide = w.wide;
  full = w.full;
  inside = record {
    excm = excm;
    level = level;
    runs = refl;
    wide = length-replicate {A = Option ℕ} 16 None;
    spread = refl;
    count = length-replicate {A = Option ℕ} 256 None;
    marks = λ k j e. no_number k;
    saved = λ n j e. absurd (none-some j (sym (no_saved n) ∙ e));
  };
}

-- ---- in a nested interrupt
-- WSR and XSR give a mark to a special register that may hold one, and the mask that goes with it
abbrev pub IsMovedMark : Option (ℕ × ℕ) → ℕ → List (Option ℕ) → Type 0
IsMovedMark None given marks = Unit {0}
IsMovedMark (Some p) given marks =
    (holds_marks p.1 ≡ true → given ≡ mask_where (not (is_some (get_or marks p.0 None))))
    × ((j : ℕ) → get_or marks p.0 None ≡ Some j → holds_marks p.1 ≡ true)

-- the mask of the register that receives this mark, or a number
abbrev pub left_mask : Option ℕ → ℕ
left_mask None = all_bits
left_mask (Some mark) = 0

abbrev pub with_saved : Option (ℕ × ℕ) → Nested → Nested
with_saved o x = record x { saved = saved_by o x.marks x.saved }

abbrev pub with_written : Option ℕ → Option RegWrite → Nested → Nested
with_written mark write x = record x { seen = marked_seen mark write (seen_after_write write x.seen); marks = marks_after mark write x.marks }

abbrev pub with_place : ℕ → Ps → Nested → Nested
with_place pc ps x = record x { pc = pc; ps = ps }

module _ {seen : List (Option ℕ)} {frames : List Frame} {unset : List Bool} {x : Nested} {waits : Bool} {m : ValidityBits} (w : Whole seen frames unset (Some x) waits m) where
  pub inner_special : (o : Option (ℕ × ℕ)) (given : ℕ) → IsMovedMark o given x.marks → Whole seen frames (unset_by o x.marks unset) (Some (with_saved o x)) waits (special_written o given m)
  inner_special None given h = w
  inner_special (Some p) given h =
      let mark : Option ℕ = get_or x.marks p.0 None in
      let i = w.inside in
      record {
        seen_masks = w.seen_masks;
        kept = w.kept;
        special = λ n holds. held_both m.special unset p.1 n given 0 (is_some mark) false (λ a b. a ≡ mask_where (not b)) (w.count ∙ sym w.holes) (λ e. h.0 (subst (λ k. holds_marks k ≡ true) (sym e) holds)) (w.special n holds);
        threadptr = w.threadptr;
        inner = w.inner;
        count = length-set m.special p.1 given ∙ w.count;
        holes = length-set unset p.1 (is_some mark) ∙ w.holes;
        wide = w.wide;
        full = w.full;
        inside = record {
          excm = i.excm;
          level = i.level;
          runs = i.runs;
          wide = i.wide;
          spread = i.spread;
          count = length-set x.saved p.1 mark ∙ i.count;
          marks = i.marks;
          saved = λ n j. held_both x.saved unset p.1 n mark None (is_some mark) false (λ a b. a ≡ Some j → (holds_marks n ≡ true) × (b ≡ true)) (i.count ∙ sym w.holes) (λ e at. (subst (λ k. holds_marks k ≡ true) e (h.1 j at), ap is_some at)) (i.saved n j);
        };
      }

  -- one register is written: its mask, and where a mark stands there is no number
  written_inner : (r number : ℕ) (mark value : Option ℕ) → number ≡ number_mask value → ((j : ℕ) → mark ≡ Some j → value ≡ None)
      → Whole seen frames unset (Some (record x { seen = set x.seen r value; marks = set x.marks r mark })) waits (record m { inner = set m.inner r number })
  written_inner r number mark value e h =
      let i = w.inside in
      record {
        seen_masks = w.seen_masks;
        kept = w.kept;
        special = w.special;
        threadptr = w.threadptr;
        inner = (λ k. set (w.inner k) r (e k)) ∙ sym (map-set number_mask x.seen r value);
        count = w.count;
        holes = w.holes;
        wide = w.wide;
        full = w.full;
        inside = record {
          excm = i.excm;
          level = i.level;
          runs = i.runs;
          wide = length-set x.seen r value ∙ i.wide;
          spread = length-set x.marks r mark ∙ i.spread;
          count = i.count;
          marks = λ k j. held_both x.marks x.seen r k mark None value None (λ a b. a ≡ Some j → b ≡ None) (i.spread ∙ sym i.wide) (λ same at. h j at) (i.marks k j);
          saved = i.saved;
        };
      }

  pub inner_visible : (mark : Option ℕ) (write : Option RegWrite) (given : ℕ) → given ≡ left_mask mark → Whole seen frames unset (Some (with_written mark write x)) waits (visible_written true write given m)
  inner_visible None None given e = w
  inner_visible (Some k) None given e = w
  inner_visible None (Some r) given e = written_inner r.reg given None (Some r.value) e (λ j at. absurd (none-some j at))
  inner_visible (Some k) (Some r) given e = subst
      (λ ys. Whole seen frames unset (Some (record x { seen = ys; marks = set x.marks r.reg (Some k) })) waits (record m { inner = set m.inner r.reg given }))
      (sym (set_again x.seen r.reg (Some r.value) None))
      (written_inner r.reg given (Some k) None e (λ j at. refl))

  pub inner_place : (pc : ℕ) (ps : Ps) (awake : Bool) → ps.excm ≡ true → ps.intlevel ≡ 5 → awake ≡ false → Whole seen frames unset (Some (with_place pc ps x)) awake m
  inner_place pc ps awake excm level runs =
      let i = w.inside in
      record {
        seen_masks = w.seen_masks;
        kept = w.kept;
        special = w.special;
        threadptr = w.threadptr;
        inner = w.inner;
        count = w.count;
        holes = w.holes;
        wide = w.wide;
        full = w.full;
        inside = record { excm = excm; level = level; runs = runs; wide = i.wide; spread = i.spread; count = i.count; marks = i.marks; saved = i.saved };
      }

-- ---- as a core opens
special_small : (n : ℕ) → holds_marks n ≡ true → n < 256
special_small n h = ⊎_elim
    (λ q. let l = leb-true n 215 (and_parts (leb 209 n) (leb n 215) q).1 in omega (arith, l))
    (λ q. let l = leb-true n 247 (and_parts (leb 244 n) (leb n 247) q).1 in omega (arith, l))
    (or_cases (leb 209 n && leb n 215) (leb 244 n && leb n 247) h)

pub special_high : (n : ℕ) → holds_marks n ≡ true → 209 ≤ n
special_high n h = ⊎_elim
    (λ q. leb-true 209 n (and_parts (leb 209 n) (leb n 215) q).0)
    (λ q. let l = leb-true 244 n (and_parts (leb 244 n) (leb n 247) q).0 in omega (arith, l))
    (or_cases (leb 209 n && leb n 215) (leb 244 n && leb n 247) h)

pub whole_opens : (core pc vecbase stack_end : ℕ) → IsWholeState (opening_frame core pc vecbase stack_end) (whole_masks Lenient)
unfolding opening_seen all_set
whole_opens core pc vecbase stack_end = record {
  seen_masks = refl;
  kept = refl;
  special = λ n h. get_or-replicate 256 n all_bits 0 (special_small n h) ∙ ap (λ b. mask_where (not b)) (sym (replicated 256 n false));
  threadptr = refl;
  inner = tt;
  count = length-replicate {A = ℕ} 256 all_bits;
  holes = length-replicate {A = Bool} 256 false;
  wide = omega arith;
  full = tt;
  inside = tt;
}
