-- A state of the machine of uses whose values are cut to their known bits: how what a step does changes it.
use Rattle.std.proofs.Common.{◌≡◌, ℕ, ◌-◌, ◌*◌, ◌<◌, ◌≤◌, Bool, true, false, List, [], ◌∷◌, ◌++◌, Option, Some, None, length, take, drop, get_or, replicate, refl, sym, ap, ◌∙◌, ⊎_elim, arith, subst}
use Rattle.std.proofs.Math.ListN.{set}
use Rattle.std.proofs.lemmas.Bool.{cases_eq, true≢false}
use Rattle.std.proofs.lemmas.Option.{none-some}
use Rattle.std.proofs.lemmas.List.{get_or-set_other, get_or-set_same, length-append, length-drop, length-replicate, length-set, length-take}
use Rattle.xt_isa.specs.declared.Insn.{Insn}
use Rattle.xt_isa.specs.declared.Insn.TheVariants as insn
use Rattle.xt_isa.specs.declared.system.System.TheVariants as system
use Rattle.xt_isa.specs.declared.system.UserName.TheVariants as UserName
use Rattle.xt_special.specs.declared.ps.Ps.{Ps}
use Rattle.xt_special.specs.Access.{SpecialWrites, no_set, set_to, with_sets}
use Rattle.xt_trace.specs.declared.record.RegWrite.{RegWrite}
use Rattle.xt_rows.specs.Kinds.{SetsOne}
use Rattle.xt_frames.specs.declared.holes.Nested.{Nested}
use Rattle.xt_frames.specs.Frames.{Frame, FrameState, seen_after_call, seen_after_return, seen_after_write}
use Rattle.xt_frames.specs.Marks.{holds_marks, unset_by}
use Rattle.xt_uses.specs.Words.{masked}
use Rattle.xt_uses.specs.UseState.{ValidityBits, UseState}
use Rattle.xt_uses.specs.UseStep.{bits_after_call, cut_number, cut_seen, inner_unknown, leave_results, pointer_written, bits_after_return, special_written, visible_written}
use Rattle.xt_uses.specs.UseLaws.{AreCut, AreKeptCut, InnerIsCut, IsCutState}
use Rattle.xt_uses.proofs.CutControl.{Spared, marks_apart, sets_one, sets_size, sets_spare}
use Rattle.xt_uses.proofs.CutLists.{cut_append, cut_drop, cut_length, cut_none, cut_take, cut_visible}
use Rattle.xt_rows.proofs.Pointer.{pointer_left}
use Rattle.xt_uses.proofs.CutRows.{marks_between}
use Rattle.xt_uses.proofs.Left.{cut_left, left_length}
use Rattle.xt_uses.proofs.WholeLists.{held, held_both, replicated}
use Rattle.xt_uses.proofs.WholeStates.{AreFull, IsInside, begun_inner}

pub record Cut (seen : List (Option ℕ)) (frames : List Frame) (special : List ℕ) (unset : List Bool) (threadptr : ℕ) (nested : Option Nested) (waits : Bool) (m : ValidityBits) : Type 0 where
  pub seen_cut : AreCut seen m.seen
  pub kept : AreKeptCut frames m.kept
  pub special_cut : (n : ℕ) → holds_marks n ≡ true → masked (get_or m.special n 0) (get_or special n 0) ≡ get_or special n 0
  -- of a special register without a number nothing is known
  pub lost : (n : ℕ) → holds_marks n ≡ true → get_or unset n false ≡ true → get_or m.special n 0 ≡ 0
  pub pointer : masked m.threadptr threadptr ≡ threadptr
  pub inner : InnerIsCut nested m.inner
  pub count : length m.special ≡ 256
  pub values : length special ≡ 256
  pub holes : length unset ≡ 256
  pub wide : 16 ≤ length seen
  pub full : AreFull frames
  pub inside : IsInside nested waits unset

abbrev pub IsCut : FrameState → ValidityBits → Type 0
IsCut f m = Cut f.seen f.frames f.control.special f.unset f.control.threadptr f.nested f.control.waits m

pub state_cut : (f : FrameState) (m : ValidityBits) → IsCut f m → IsCutState f m
state_cut f m w = record { seen = w.seen_cut; kept = w.kept; special = w.special_cut; lost = w.lost; threadptr = w.pointer; inner = w.inner }

below : (n : ℕ) → holds_marks n ≡ true → n < 256
below n h = let between = marks_between n h in ⊎_elim (λ q. omega (arith, q)) (λ q. omega (arith, q)) between

pointer_cut : (i : Insn) (given x t : ℕ) (m : ValidityBits) → masked given x ≡ x → masked m.threadptr t ≡ t → masked (pointer_written i given m).threadptr (pointer_left i x t) ≡ pointer_left i x t
unfolding pointer_written pointer_left
pointer_cut (insn.System (system.User UserName.Wur r n)) given x t m p q = p
pointer_cut _ given x t m p q = q

record SameMasks (m k : ValidityBits) : Type 0 where
  seen : k.seen ≡ m.seen
  kept : k.kept ≡ m.kept
  special : k.special ≡ m.special
  inner : k.inner ≡ m.inner

pointer_same : (i : Insn) (given : ℕ) (m : ValidityBits) → SameMasks m (pointer_written i given m)
unfolding pointer_written
pointer_same (insn.System (system.User UserName.Wur r n)) given m = record { seen = refl; kept = refl; special = refl; inner = refl }
pointer_same _ given m = record { seen = refl; kept = refl; special = refl; inner = refl }

module _ {seen : List (Option ℕ)} {frames : List Frame} {special : List ℕ} {unset : List Bool} {threadptr : ℕ} {nested : Option Nested} {waits : Bool} {m : ValidityBits} (w : Cut seen frames special unset threadptr nested waits m) where
  pub cut_pointer : (i : Insn) (given x : ℕ) → masked given x ≡ x → Cut seen frames special unset (pointer_left i x threadptr) nested waits (pointer_written i given m)
  cut_pointer i given x p =
      let s = pointer_same i given m in
      record {
        seen_cut = subst (λ ys. AreCut seen ys) (sym s.seen) w.seen_cut;
        kept = subst (λ ys. AreKeptCut frames ys) (sym s.kept) w.kept;
        special_cut = λ n h. subst (λ ys. masked (get_or ys n 0) (get_or special n 0) ≡ get_or special n 0) (sym s.special) (w.special_cut n h);
        lost = λ n h e. ap (λ ys. get_or ys n 0) s.special ∙ w.lost n h e;
        pointer = pointer_cut i given x threadptr m p w.pointer;
        inner = subst (λ ys. InnerIsCut nested ys) (sym s.inner) w.inner;
        count = ap length s.special ∙ w.count;
        values = w.values;
        holes = w.holes;
        wide = w.wide;
        full = w.full;
        inside = w.inside;
      }

  pub cut_spared : (ys : List ℕ) → Spared special ys → (t : ℕ) → t ≡ threadptr → Cut seen frames ys unset t nested waits m
  cut_spared ys s t e = record {
    seen_cut = w.seen_cut;
    kept = w.kept;
    special_cut = λ n h. subst (λ v. masked (get_or m.special n 0) v ≡ v) (sym (s.at n h)) (w.special_cut n h);
    lost = w.lost;
    pointer = subst (λ v. masked m.threadptr v ≡ v) (sym e) w.pointer;
    inner = w.inner;
    count = w.count;
    values = s.size ∙ w.values;
    holes = w.holes;
    wide = w.wide;
    full = w.full;
    inside = w.inside;
  }

  pub cut_ended : (awake : Bool) → Cut seen frames special unset threadptr None awake m
  cut_ended awake = record { seen_cut = w.seen_cut; kept = w.kept; special_cut = w.special_cut; lost = w.lost; pointer = w.pointer; inner = tt; count = w.count; values = w.values; holes = w.holes; wide = w.wide; full = w.full; inside = tt }

  -- ---- WSR and XSR: of the special registers, the one that is written, or none
  pub moved_cut : (p : ℕ × ℕ) (given x : ℕ) (sets : SpecialWrites) → masked given x ≡ x → ((n : ℕ) → holds_marks n ≡ true → SetsOne (Some p) n sets) → (holds_marks p.1 ≡ true → sets ≡ (set_to p.1 x, no_set, no_set))
      → (n : ℕ) → holds_marks n ≡ true → masked (get_or (set m.special p.1 given) n 0) (get_or (with_sets sets special) n 0) ≡ get_or (with_sets sets special) n 0
  moved_cut p given x sets c one value n h = ⊎_elim
      (λ same.
      let own : holds_marks p.1 ≡ true = subst (λ k. holds_marks k ≡ true) same h in
      let low : p.1 < 256 = below p.1 own in
      let there : get_or (with_sets sets special) p.1 0 ≡ x = sets_one sets special p.1 x (value own) (let v = w.values in omega (arith, v, low)) in
      let mask : get_or (set m.special p.1 given) p.1 0 ≡ given = get_or-set_same m.special p.1 given 0 (let v = w.count in omega (arith, v, low)) in
      subst (λ k. masked (get_or (set m.special p.1 given) k 0) (get_or (with_sets sets special) k 0) ≡ get_or (with_sets sets special) k 0) (sym same)
      ((λ i. masked (mask i) (there i)) ∙ (c ∙ sym there)))
      (λ other.
      let v : get_or (with_sets sets special) n 0 ≡ get_or special n 0 = sets_spare sets special n ((one n h).1 (λ e. other (sym e))) in
      let mask : get_or (set m.special p.1 given) n 0 ≡ get_or m.special n 0 = get_or-set_other m.special p.1 n given 0 other in
      (λ i. masked (mask i) (v i)) ∙ (w.special_cut n h ∙ sym v))
      (cases_eq n p.1)

  pub moved_lost : (p : ℕ × ℕ) (given : ℕ) (b : Bool) → (holds_marks p.1 ≡ true → b ≡ true → given ≡ 0)
      → (n : ℕ) → holds_marks n ≡ true → get_or (set unset p.1 b) n false ≡ true → get_or (set m.special p.1 given) n 0 ≡ 0
  moved_lost p given b none n h = held_both m.special unset p.1 n given 0 b false (λ a c. c ≡ true → a ≡ 0) (w.count ∙ sym w.holes) (λ e. none (subst (λ k. holds_marks k ≡ true) (sym e) h)) (w.lost n h)

-- ---- outside nested interrupts
seen_length : (o : Option RegWrite) (seen : List (Option ℕ)) → length (seen_after_write o seen) ≡ length seen
seen_length None seen = refl
seen_length (Some w) seen = length-set seen w.reg (Some w.value)

module _ {seen : List (Option ℕ)} {frames : List Frame} {special : List ℕ} {unset : List Bool} {threadptr : ℕ} {waits : Bool} {m : ValidityBits} (w : Cut seen frames special unset threadptr None waits m) where
  pub cut_register : (o : Option RegWrite) (mask : ℕ) → Cut (cut_seen mask o (seen_after_write o seen)) frames special unset threadptr None waits (visible_written false o mask m)
  cut_register None mask = w
  cut_register (Some r) mask =
      let wide = w.wide in
      let l = length-set (set seen r.reg (Some r.value)) r.reg (cut_number mask (get_or (set seen r.reg (Some r.value)) r.reg None)) ∙ length-set seen r.reg (Some r.value) in
      record {
        seen_cut = cut_visible seen m.seen w.seen_cut r mask;
        kept = w.kept;
        special_cut = w.special_cut;
        lost = w.lost;
        pointer = w.pointer;
        inner = tt;
        count = w.count;
        values = w.values;
        holes = w.holes;
        wide = omega (arith, wide, l);
        full = w.full;
        inside = tt;
      }

  pub cut_special : (o : Option (ℕ × ℕ)) (given x : ℕ) (sets : SpecialWrites) → masked given x ≡ x → ((n : ℕ) → holds_marks n ≡ true → SetsOne o n sets) → ((p : ℕ × ℕ) → o ≡ Some p → holds_marks p.1 ≡ true → sets ≡ (set_to p.1 x, no_set, no_set))
      → Cut seen frames (with_sets sets special) (unset_by o [] unset) threadptr None waits (special_written o given m)
  cut_special None given x sets c one value = cut_spared w (with_sets sets special) (record { at = λ n h. sets_spare sets special n (one n h); size = sets_size sets special }) threadptr refl
  cut_special (Some p) given x sets c one value = record {
    seen_cut = w.seen_cut;
    kept = w.kept;
    special_cut = moved_cut w p given x sets c one (value p refl);
    lost = moved_lost w p given false (λ h e. absurd (true≢false (sym e)));
    pointer = w.pointer;
    inner = tt;
    count = length-set m.special p.1 given ∙ w.count;
    values = sets_size sets special ∙ w.values;
    holes = length-set unset p.1 false ∙ w.holes;
    wide = w.wide;
    full = w.full;
    inside = tt;
  }

  pub cut_unset : (other : List Bool) → length other ≡ 256 → ((n : ℕ) → holds_marks n ≡ true → get_or other n false ≡ get_or unset n false) → Cut seen frames special other threadptr None waits m
  cut_unset other l h = record { seen_cut = w.seen_cut; kept = w.kept; special_cut = w.special_cut; lost = λ n is e. w.lost n is (sym (h n is) ∙ e); pointer = w.pointer; inner = tt; count = w.count; values = w.values; holes = l; wide = w.wide; full = w.full; inside = tt }

  pub cut_called : (n : ℕ) → Cut (seen_after_call seen n) (record { by = n; kept = take (4 * n) seen } ∷ frames) special unset threadptr None waits (bits_after_call n m)
  cut_called n =
      let wide = w.wide in
      let d = length-drop (4 * n) seen in
      let r = length-replicate {A = Option ℕ} (4 * n) None in
      let a = length-append (drop (4 * n) seen) (replicate (4 * n) None) in
      let t = length-take (4 * n) seen in
      record {
        seen_cut = cut_append (drop (4 * n) seen) (drop (4 * n) m.seen) (replicate (4 * n) None) (replicate (4 * n) 0) (cut_drop (4 * n) seen m.seen w.seen_cut) (cut_none (4 * n));
        kept = (cut_take (4 * n) seen m.seen w.seen_cut, w.kept);
        special_cut = w.special_cut;
        lost = w.lost;
        pointer = w.pointer;
        inner = tt;
        count = w.count;
        values = w.values;
        holes = w.holes;
        wide = omega (arith, wide, d, r, a);
        full = (omega (arith, wide, t), w.full);
        inside = tt;
      }

back_cut : {seen : List (Option ℕ)} {g : Frame} {frames : List Frame} {special : List ℕ} {unset : List Bool} {threadptr : ℕ} {waits : Bool} {m : ValidityBits} → Cut seen (g ∷ frames) special unset threadptr None waits m → (kept : List (List ℕ)) → AreKeptCut (g ∷ frames) kept
    → Cut (seen_after_return g.kept seen g.by) frames special unset threadptr None waits (bits_after_return kept m)
back_cut w [] h = absurd h
back_cut {seen} {g} {frames} {special} {unset} {threadptr} {waits} {m} w (k ∷ rest) h =
    let same : 16 - length k ≡ 16 - 4 * g.by = ap (λ n. 16 - n) (sym (cut_length g.kept k h.0)) ∙ w.full.0 in
    let wide = w.wide in
    let full = w.full.0 in
    let t = length-take (16 - 4 * g.by) seen in
    let a = length-append g.kept (take (16 - 4 * g.by) seen) in
    record {
      seen_cut = subst (λ n. AreCut (seen_after_return g.kept seen g.by) (k ++ take n m.seen)) (sym same) (cut_append g.kept k (take (16 - 4 * g.by) seen) (take (16 - 4 * g.by) m.seen) h.0 (cut_take (16 - 4 * g.by) seen m.seen w.seen_cut));
      kept = h.1;
      special_cut = w.special_cut;
      lost = w.lost;
      pointer = w.pointer;
      inner = tt;
      count = w.count;
      values = w.values;
      holes = w.holes;
      wide = omega (arith, wide, full, t, a);
      full = w.full.1;
      inside = tt;
    }

pub cut_returned : {seen : List (Option ℕ)} {g : Frame} {frames : List Frame} {special : List ℕ} {unset : List Bool} {threadptr : ℕ} {waits : Bool} {m : ValidityBits} → Cut seen (g ∷ frames) special unset threadptr None waits m
    → Cut (seen_after_return g.kept seen g.by) frames special unset threadptr None waits (bits_after_return m.kept m)
cut_returned {m = m} w = back_cut w m.kept w.kept

-- ---- a nested interrupt begins
pub cut_begun : {seen : List (Option ℕ)} {frames : List Frame} {special : List ℕ} {unset : List Bool} {threadptr : ℕ} {waits : Bool} {m : ValidityBits} → Cut seen frames special unset threadptr None waits m → (pc : ℕ) (ps : Ps) → ps.excm ≡ true → ps.intlevel ≡ 5
    → Cut seen frames special (set (set unset 181 true) 197 true) threadptr (Some (begun_inner pc ps)) false (inner_unknown m)
cut_begun {seen} {frames} {special} {unset} {threadptr} {waits} {m} w pc ps excm level = record {
  seen_cut = w.seen_cut;
  kept = w.kept;
  special_cut = w.special_cut;
  lost = λ n h. held (set unset 181 true) 197 n true false (λ b. b ≡ true → get_or m.special n 0 ≡ 0) (λ e. absurd (marks_apart n 197 h refl (sym e))) (held unset 181 n true false (λ b. b ≡ true → get_or m.special n 0 ≡ 0) (λ e. absurd (marks_apart n 181 h refl (sym e))) (w.lost n h));
  pointer = w.pointer;
  inner = cut_none 16;
  count = w.count;
  values = w.values;
  holes = length-set (set unset 181 true) 197 true ∙ (length-set unset 181 true ∙ w.holes);
  wide = w.wide;
  full = w.full;
  inside = record {
    excm = excm;
    level = level;
    runs = refl;
    wide = length-replicate {A = Option ℕ} 16 None;
    spread = refl;
    count = length-replicate {A = Option ℕ} 256 None;
    marks = λ k j e. replicated {A = Option ℕ} 16 k None;
    saved = λ n j e. absurd (none-some j (sym (replicated {A = Option ℕ} 256 n None) ∙ e));
  };
}

-- ---- a return of the strict discipline forgets registers
pub cut_results : (frames : List Frame) (u : UseState) → IsCut u.frame u.masks → IsCut (leave_results frames u).frame (leave_results frames u).masks
cut_results [] u w = w
cut_results (g ∷ rest) u w =
    let wide = w.wide in
    let l = left_length None (4 * g.by) 0 u.frame.seen in
    record {
      seen_cut = cut_left (4 * g.by) 0 u.frame.seen u.masks.seen w.seen_cut;
      kept = w.kept;
      special_cut = w.special_cut;
      lost = w.lost;
      pointer = w.pointer;
      inner = w.inner;
      count = w.count;
      values = w.values;
      holes = w.holes;
      wide = omega (arith, wide, l);
      full = w.full;
      inside = w.inside;
    }
