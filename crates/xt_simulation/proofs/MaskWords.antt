-- All masks are words, and stay so.
use Rattle.std.specs.Prelude.{is_some}
use Rattle.std.proofs.Common.{ℕ, ◌+◌, ◌-◌, ◌*◌, ◌^◌, ◌<◌, Bool, true, false, List, [], ◌∷◌, ◌++◌, Option, Some, None, sym, refl, arith, ⊎_elim, subst, length, get_or, drop, replicate, take, cond}
use Rattle.std.proofs.Math.ListN.{set}
use Rattle.std.proofs.lemmas.Bool.{cases_eq, cases_lt}
use Rattle.std.proofs.lemmas.List.{get_or-set_same, get_or-set_other, get_or_past, length-set, length-take, get_or-take, get_or-drop, get_or_append_left, get_or-append_right, get_or-replicate, length-replicate}
use Rattle.xt_isa.specs.declared.Insn.{Insn}
use Rattle.xt_isa.specs.declared.Insn.TheVariants as insn
use Rattle.xt_isa.specs.declared.system.System.TheVariants as system
use Rattle.xt_isa.specs.declared.system.UserName.TheVariants as UserName
use Rattle.xt_trace.specs.declared.record.RegWrite.{RegWrite}
use Rattle.xt_frames.specs.FrameStep.{FrameTurn}
use Rattle.xt_frames.specs.Frames.{FrameState}
use Rattle.xt_rows.specs.Kinds.{is_entry, is_return, moved_to}
use Rattle.xt_uses.specs.Words.{all_bits}
use Rattle.xt_uses.specs.declared.discipline.Discipline.{Discipline}
use Rattle.xt_uses.specs.UseState.{ValidityBits, UseState, first_word, whole_masks}
use Rattle.xt_uses.specs.UseStep.{bits_after_call, frames_moved, inner_unknown, masks_past, pointer_written, bits_after_return, special_written, visible_written}
use Rattle.xt_simulation.proofs.Operands.{AreMasks}
use Rattle.xt_simulation.proofs.Seen.{blank}

abbrev pub AreSmall : List ℕ → Type 0
AreSmall xs = (i : ℕ) → get_or xs i 0 < 2 ^ 32

abbrev pub AllSmall : List (List ℕ) → Type 0
AllSmall [] = Unit {0}
AllSmall (k ∷ ks) = AreSmall k × AllSmall ks

pub record MaskWords (m : ValidityBits) : Type 0 where
  pub seen : AreSmall m.seen
  pub kept : AllSmall m.kept
  pub special : AreSmall m.special
  pub threadptr : m.threadptr < 2 ^ 32
  pub inner : AreSmall m.inner

-- those of the state that the next step finds
pub now_small : (s : UseState) → MaskWords s.masks → AreMasks s
now_small s w = record { seen = by_nested (is_some s.frame.nested) }
  where
    by_nested : (b : Bool) → AreSmall (cond b s.masks.inner s.masks.seen)
    by_nested true = w.inner
    by_nested false = w.seen

-- ---- lists
set_small : (xs : List ℕ) (r mask : ℕ) → mask < 2 ^ 32 → AreSmall xs → AreSmall (set xs r mask)
set_small xs r mask h s i = ⊎_elim
    (λ is. ⊎_elim
    (λ low. subst (λ j. get_or (set xs r mask) j 0 < 2 ^ 32) (sym is) (subst (λ z. z < 2 ^ 32) (sym (get_or-set_same xs r mask 0 low)) h))
    (λ high. subst (λ j. get_or (set xs r mask) j 0 < 2 ^ 32) (sym is) (subst (λ z. z < 2 ^ 32) (sym (get_or_past (set xs r mask) r 0 (let l = length-set xs r mask in omega arith))) (omega arith)))
    (cases_lt r (length xs)))
    (λ other. subst (λ z. z < 2 ^ 32) (sym (get_or-set_other xs r i mask 0 other)) (s i))
    (cases_eq i r)

blank_small : (n : ℕ) → AreSmall (replicate n 0)
blank_small n i = subst (λ z. z < 2 ^ 32) (sym (blank n i 0)) (omega arith)

take_small : (n : ℕ) (xs : List ℕ) → AreSmall xs → AreSmall (take n xs)
take_small n xs s i = ⊎_elim
    (λ low. subst (λ z. z < 2 ^ 32) (sym (get_or-take n xs i 0 low)) (s i))
    (λ high. subst (λ z. z < 2 ^ 32) (sym (get_or_past (take n xs) i 0 (let l = length-take n xs in omega arith))) (omega arith))
    (cases_lt i n)

drop_small : (n : ℕ) (xs : List ℕ) → AreSmall xs → AreSmall (drop n xs)
drop_small n xs s i = subst (λ z. z < 2 ^ 32) (sym (get_or-drop n xs i 0)) (s (n + i))

join_small : (xs ys : List ℕ) → AreSmall xs → AreSmall ys → AreSmall (xs ++ ys)
join_small xs ys s t i = ⊎_elim
    (λ low. subst (λ z. z < 2 ^ 32) (sym (get_or_append_left xs ys 0 i low)) (s i))
    (λ high. subst (λ z. z < 2 ^ 32) (sym (get_or-append_right xs ys (length xs) i 0 refl high)) (t (i - length xs)))
    (cases_lt i (length xs))

-- ---- the parts of a step
called_small : (n : ℕ) (m : ValidityBits) → MaskWords m → MaskWords (bits_after_call n m)
called_small n m w = record {
  seen = join_small (drop (4 * n) m.seen) (replicate (4 * n) 0) (drop_small (4 * n) m.seen w.seen) (blank_small (4 * n));
  kept = (take_small (4 * n) m.seen w.seen, w.kept);
  special = w.special;
  threadptr = w.threadptr;
  inner = w.inner;
}

returned_small : (kept : List (List ℕ)) (m : ValidityBits) → AllSmall kept → MaskWords m → MaskWords (bits_after_return kept m)
returned_small [] m k w = w
returned_small (x ∷ xs) m k w = record {
  seen = join_small x (take (16 - length x) m.seen) k.0 (take_small (16 - length x) m.seen w.seen);
  kept = k.1;
  special = w.special;
  threadptr = w.threadptr;
  inner = w.inner;
}

frames_small : (i : Insn) (n : ℕ) (m : ValidityBits) → MaskWords m → MaskWords (frames_moved i n m)
frames_small i n m w = by_row (is_entry i) (is_return i)
  where
    by_row : (a b : Bool) → MaskWords (cond a (bits_after_call n m) (cond b (bits_after_return m.kept m) m))
    by_row true b = called_small n m w
    by_row false true = returned_small m.kept m w.kept w
    by_row false false = w

special_small : (o : Option (ℕ × ℕ)) (mask : ℕ) (m : ValidityBits) → mask < 2 ^ 32 → MaskWords m → MaskWords (special_written o mask m)
special_small None mask m h w = w
special_small (Some p) mask m h w = record { seen = w.seen; kept = w.kept; special = set_small m.special p.1 mask h w.special; threadptr = w.threadptr; inner = w.inner }

pointer_small : (i : Insn) (mask : ℕ) (m : ValidityBits) → mask < 2 ^ 32 → MaskWords m → MaskWords (pointer_written i mask m)
unfolding pointer_written
pointer_small (insn.System (system.User UserName.Wur t n)) mask m h w = record { seen = w.seen; kept = w.kept; special = w.special; threadptr = h; inner = w.inner }
pointer_small _ mask m h w = w

visible_small : (nested : Bool) (o : Option RegWrite) (mask : ℕ) (m : ValidityBits) → mask < 2 ^ 32 → MaskWords m → MaskWords (visible_written nested o mask m)
visible_small true None mask m h w = w
visible_small false None mask m h w = w
visible_small true (Some x) mask m h w = record { seen = w.seen; kept = w.kept; special = w.special; threadptr = w.threadptr; inner = set_small m.inner x.reg mask h w.inner }
visible_small false (Some x) mask m h w = record { seen = set_small m.seen x.reg mask h w.seen; kept = w.kept; special = w.special; threadptr = w.threadptr; inner = w.inner }

-- ---- a step
pub past_small : (i : Insn) (mask : ℕ) (s : UseState) (f : FrameState) (u : FrameTurn) → mask < 2 ^ 32 → (first_word i s f).mask < 2 ^ 32 → MaskWords s.masks → MaskWords (masks_past i mask s f u)
past_small i mask s f u h k w =
    let x = (first_word i s f).mask in
    let a = frames_small i f.control.ps.callinc s.masks w in
    let b = special_small (moved_to i) x (frames_moved i f.control.ps.callinc s.masks) k a in
    let c = pointer_small i x (special_written (moved_to i) x (frames_moved i f.control.ps.callinc s.masks)) k b in
    visible_small (is_some s.frame.nested) u.write mask (pointer_written i x (special_written (moved_to i) x (frames_moved i f.control.ps.callinc s.masks))) h c

pub begin_small : (m : ValidityBits) → MaskWords m → MaskWords (inner_unknown m)
begin_small m w = record { seen = w.seen; kept = w.kept; special = w.special; threadptr = w.threadptr; inner = blank_small 16 }

whole_small : (n : ℕ) → AreSmall (replicate n all_bits)
whole_small n i = ⊎_elim
    (λ low. subst (λ z. z < 2 ^ 32) (sym (get_or-replicate n i all_bits 0 low)) (omega arith))
    (λ high. subst (λ z. z < 2 ^ 32) (sym (get_or_past (replicate n all_bits) i 0 (let l = length-replicate n all_bits in omega arith))) (omega arith))
    (cases_lt i n)

pub opening_small : (d : Discipline) → MaskWords (whole_masks d)
opening_small d = record { seen = whole_small 16; kept = tt; special = whole_small 256; threadptr = omega arith; inner = whole_small 16 }
