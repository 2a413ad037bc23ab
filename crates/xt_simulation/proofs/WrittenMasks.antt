-- Masks beside the numbers of the registers that were written: all bits are known of each of them. How a call, a return and a register that is
-- written change them.
use Rattle.std.proofs.Common.{◌≡◌, ℕ, ◌+◌, ◌-◌, ◌*◌, ◌<◌, ◌≤◌, Bool, true, false, leb, ltb, ◌&&◌, ◌||◌, List, [], ◌∷◌, ◌++◌, Option, Some, None, length, take, drop, get_or, replicate, refl, sym, ap, ◌∙◌, ⊎_elim, arith, subst}
use Rattle.std.proofs.Math.ListN.{set}
use Rattle.std.proofs.lemmas.Bool.{and_from, and_parts, cases_eq, eqb-true, le-leb, leb-true, lt-ltb, ltb-true, or_cases, or_left, or_right}
use Rattle.std.proofs.lemmas.List.{get_or-append_right, get_or-drop, get_or-set_other, get_or-set_same, get_or-take, get_or_append_left, length-append, length-drop, length-replicate, length-set, length-take}
use Rattle.xt_isa.specs.declared.Insn.{Insn}
use Rattle.xt_isa.specs.declared.Insn.TheVariants as insn
use Rattle.xt_isa.specs.declared.system.System.TheVariants as system
use Rattle.xt_isa.specs.declared.system.UserName.TheVariants as UserName
use Rattle.xt_trace.specs.declared.record.RegWrite.{RegWrite}
use Rattle.xt_frames.specs.Frames.{Frame, FrameState, windows_moved}
use Rattle.xt_frames.specs.Marks.{holds_marks, unset_by}
use Rattle.xt_uses.specs.Words.{all_bits}
use Rattle.xt_uses.specs.UseState.{ValidityBits}
use Rattle.xt_uses.specs.UseStep.{bits_after_call, bits_after_return, is_left, left_of, pointer_written, special_written, visible_written}
use Rattle.xt_uses.proofs.Left.{left_get, left_length, left_own}
use Rattle.xt_uses.proofs.WholeLists.{held}
use Rattle.xt_simulation.specs.WrittenFirst.{is_register}

-- ---- what is kept for the frames that have called
pub record KeptKnown (written : ℕ → Bool) (g : Frame) (first : ℕ) (k : List ℕ) : Type 0 where
  pub full : 16 - length k ≡ 16 - 4 * g.by
  pub own : (i : ℕ) → i < 16 → i < 4 * g.by → written (first + i) ≡ true → get_or k i 0 ≡ all_bits

abbrev pub AreKnown : (ℕ → Bool) → List Frame → List (List ℕ) → Type 0
AreKnown written [] [] = Unit {0}
AreKnown written (g ∷ gs) (k ∷ ks) = KeptKnown written g (4 * windows_moved gs) k × AreKnown written gs ks
AreKnown written _ _ = ⊥

kept_fewer : (fewer written : ℕ → Bool) (frames : List Frame) (kept : List (List ℕ)) → ((c : ℕ) → c < 4 * windows_moved frames → fewer c ≡ true → written c ≡ true) → AreKnown written frames kept → AreKnown fewer frames kept
kept_fewer fewer written [] [] h a = tt
kept_fewer fewer written (g ∷ gs) (k ∷ ks) h a = (
  record { full = a.0.full; own = λ i l m v. a.0.own i l m (h (4 * windows_moved gs + i) (omega (arith, m)) v) },
  kept_fewer fewer written gs ks (λ c l v. h c (omega (arith, l)) v) a.1,
)
kept_fewer fewer written [] (k ∷ ks) h a = absurd a
kept_fewer fewer written (g ∷ gs) [] h a = absurd a

-- ---- a state
pub record Known (written : ℕ → Bool) (frames : List Frame) (unset : List Bool) (m : ValidityBits) : Type 0 where
  pub seen : (i : ℕ) → i < 16 → written (4 * windows_moved frames + i) ≡ true → get_or m.seen i 0 ≡ all_bits
  pub wide : 16 ≤ length m.seen
  pub kept : AreKnown written frames m.kept
  pub special : (n : ℕ) → holds_marks n ≡ true → get_or m.special n 0 ≡ all_bits
  pub pointer : m.threadptr ≡ all_bits
  pub numbers : (n : ℕ) → get_or unset n false ≡ false

module _ {written : ℕ → Bool} {frames : List Frame} {unset : List Bool} {m : ValidityBits} (w : Known written frames unset m) where
  pub known_fewer : (fewer : ℕ → Bool) → ((c : ℕ) → fewer c ≡ true → written c ≡ true) → Known fewer frames unset m
  known_fewer fewer h = record {
    seen = λ i l v. w.seen i l (h (4 * windows_moved frames + i) v);
    wide = w.wide;
    kept = kept_fewer fewer written frames m.kept (λ c l v. h c v) w.kept;
    special = w.special;
    pointer = w.pointer;
    numbers = w.numbers;
  }

  pub known_unset : (other : List Bool) → ((n : ℕ) → get_or other n false ≡ false) → Known written frames other m
  known_unset other h = record { seen = w.seen; wide = w.wide; kept = w.kept; special = w.special; pointer = w.pointer; numbers = h }

  pub known_pointer : (i : Insn) → Known written frames unset (pointer_written i all_bits m)
  unfolding pointer_written
  known_pointer (insn.System (system.User UserName.Wur t n)) = record { seen = w.seen; wide = w.wide; kept = w.kept; special = w.special; pointer = refl; numbers = w.numbers }
  known_pointer _ = w

  pub known_special : (o : Option (ℕ × ℕ)) → Known written frames (unset_by o [] unset) (special_written o all_bits m)
  known_special None = w
  known_special (Some p) = record {
    seen = w.seen;
    wide = w.wide;
    kept = w.kept;
    special = λ n h. held m.special p.1 n all_bits 0 (λ a. a ≡ all_bits) (λ e. refl) (w.special n h);
    pointer = w.pointer;
    numbers = λ n. held unset p.1 n false false (λ b. b ≡ false) (λ e. refl) (w.numbers n);
  }

  -- ---- a visible register is written
  module _ (f : FrameState) (same : f.frames ≡ frames) (r : RegWrite) where
    abbrev more : ℕ → Bool
    more c = is_register f (Some r) c || written c

    its_place : (c : ℕ) → is_register f (Some r) c ≡ true → c ≡ 4 * windows_moved frames + r.reg
    its_place c e = eqb-true c (4 * windows_moved f.frames + r.reg) e ∙ ap (λ fs. 4 * windows_moved fs + r.reg) same

    set_there : (i : ℕ) → i < 16 → more (4 * windows_moved frames + i) ≡ true → get_or (set m.seen r.reg all_bits) i 0 ≡ all_bits
    set_there i l v = ⊎_elim
        (λ e. subst (λ j. get_or (set m.seen r.reg all_bits) j 0 ≡ all_bits) (sym e) (get_or-set_same m.seen r.reg all_bits 0 (let wide = w.wide in omega (arith, wide, l, e))))
        (λ apart. get_or-set_other m.seen r.reg i all_bits 0 apart ∙ w.seen i l (⊎_elim
        (λ at. absurd (apart (let p = its_place (4 * windows_moved frames + i) at in omega (arith, p))))
        (λ old. old)
        (or_cases (is_register f (Some r) (4 * windows_moved frames + i)) (written (4 * windows_moved frames + i)) v)))
        (cases_eq i r.reg)

    pub known_register : Known more frames unset (record m { seen = set m.seen r.reg all_bits })
    known_register = record {
      seen = set_there;
      wide = let wide = w.wide in let l = length-set m.seen r.reg all_bits in omega (arith, wide, l);
      kept = kept_fewer more written frames m.kept
          (λ c l v. ⊎_elim (λ at. let p = its_place c at in absurd (omega (arith, p, l))) (λ old. old) (or_cases (is_register f (Some r) c) (written c) v))
          w.kept;
      special = w.special;
      pointer = w.pointer;
      numbers = w.numbers;
    }

  pub known_visible : (f : FrameState) → f.frames ≡ frames → (o : Option RegWrite) → Known (λ c. is_register f o c || written c) frames unset (visible_written false o all_bits m)
  known_visible f same None = w
  known_visible f same (Some r) = known_register f same r

  -- ---- a call
  abbrev called : ℕ → Bool
  called c = ltb c (4 * windows_moved frames + 16) && written c

  called_seen : (n i : ℕ) → i < 16 → called (4 * (n + windows_moved frames) + i) ≡ true → get_or (drop (4 * n) m.seen ++ replicate (4 * n) 0) i 0 ≡ all_bits
  called_seen n i l v =
      let at : ℕ = 4 * (n + windows_moved frames) + i in
      let parts = and_parts (ltb at (4 * windows_moved frames + 16)) (written at) v in
      let low = ltb-true at (4 * windows_moved frames + 16) parts.0 in
      let same : at ≡ 4 * windows_moved frames + (4 * n + i) = omega arith in
      let wide = w.wide in
      let d = length-drop (4 * n) m.seen in
      get_or_append_left (drop (4 * n) m.seen) (replicate (4 * n) 0) 0 i (omega (arith, low, wide, d))
      ∙ (get_or-drop (4 * n) m.seen i 0
      ∙ w.seen (4 * n + i) (omega (arith, low)) (subst (λ c. written c ≡ true) same parts.1))

  pub known_called : (n : ℕ) (k : List (Option ℕ)) → Known called (record { by = n; kept = k } ∷ frames) unset (bits_after_call n m)
  known_called n k =
      let wide = w.wide in
      let d = length-drop (4 * n) m.seen in
      let r = length-replicate {A = ℕ} (4 * n) 0 in
      let a = length-append (drop (4 * n) m.seen) (replicate (4 * n) 0) in
      let t = length-take (4 * n) m.seen in
      record {
        seen = called_seen n;
        wide = omega (arith, wide, d, r, a);
        kept = (
          record {
            full = omega (arith, wide, t);
            own = λ i l few v. get_or-take (4 * n) m.seen i 0 few ∙ w.seen i l (and_parts (ltb (4 * windows_moved frames + i) (4 * windows_moved frames + 16)) (written (4 * windows_moved frames + i)) v).1;
          },
          kept_fewer called written frames m.kept (λ c l v. (and_parts (ltb c (4 * windows_moved frames + 16)) (written c) v).1) w.kept,
        );
        special = w.special;
        pointer = w.pointer;
        numbers = w.numbers;
      }

-- ---- a return
abbrev pub still : ℕ → ℕ → Bool
still first c = ltb c (first + 0) || (leb (first + 2) c && ltb c (first + 6))

abbrev pub returned : (ℕ → Bool) → ℕ → ℕ → Bool
returned written first c = still first c && written c

module _ {written : ℕ → Bool} {g : Frame} {gs : List Frame} {unset : List Bool} {m : ValidityBits} (w : Known written (g ∷ gs) unset m) where
  abbrev first : ℕ
  first = 4 * windows_moved (g ∷ gs)

  abbrev at : ℕ → ℕ
  at i = 4 * windows_moved gs + i

  module _ (k : List ℕ) (ks : List (List ℕ)) (a : AreKnown written (g ∷ gs) (k ∷ ks)) where
    back : (i : ℕ) → i < 16 → returned written first (at i) ≡ true → get_or (k ++ take (16 - length k) m.seen) i 0 ≡ all_bits
    back i l v =
        let parts = and_parts (still first (at i)) (written (at i)) v in
        let full = a.0.full in
        ⊎_elim
        (λ low.
        let few = ltb-true (at i) (first + 0) low in
        let own : i < 4 * g.by = omega (arith, few) in
        get_or_append_left k (take (16 - length k) m.seen) 0 i (omega (arith, full, l, own)) ∙ a.0.own i l own parts.1)
        (λ high.
        let two = and_parts (leb (first + 2) (at i)) (ltb (at i) (first + 6)) high in
        let from = leb-true (first + 2) (at i) two.0 in
        let to = ltb-true (at i) (first + 6) two.1 in
        let size : length k ≡ 4 * g.by = omega (arith, full, from, l) in
        let same : at i ≡ first + (i - 4 * g.by) = omega (arith, from) in
        get_or-append_right k (take (16 - length k) m.seen) (4 * g.by) i 0 size (omega (arith, from))
        ∙ (get_or-take (16 - length k) m.seen (i - 4 * g.by) 0 (omega (arith, size, l, from))
        ∙ w.seen (i - 4 * g.by) (omega (arith, l)) (subst (λ c. written c ≡ true) same parts.1)))
        (or_cases (ltb (at i) (first + 0)) (leb (first + 2) (at i) && ltb (at i) (first + 6)) parts.0)

    back_wide : 16 ≤ length (k ++ take (16 - length k) m.seen)
    back_wide =
        let wide = w.wide in
        let t = length-take (16 - length k) m.seen in
        let e = length-append k (take (16 - length k) m.seen) in
        omega (arith, wide, t, e)

    known_back : Known (returned written first) gs unset (bits_after_return (k ∷ ks) m)
    known_back = record {
      seen = back;
      wide = back_wide;
      kept = kept_fewer (returned written first) written gs ks (λ c l v. (and_parts (still first c) (written c) v).1) a.1;
      special = w.special;
      pointer = w.pointer;
      numbers = w.numbers;
    }

  pub known_returned : Known (returned written first) gs unset (bits_after_return m.kept m)
  known_returned = by m.kept w.kept
    where
      by : (kept : List (List ℕ)) → AreKnown written (g ∷ gs) kept → Known (returned written first) gs unset (bits_after_return kept m)
      by [] a = absurd a
      by (k ∷ ks) a = known_back k ks a

-- and what it leaves of the callee's registers
pub known_left : (fewer : ℕ → Bool) (g : Frame) (gs : List Frame) {unset : List Bool} {m : ValidityBits} → ((c : ℕ) → fewer c ≡ true → still (4 * windows_moved (g ∷ gs)) c ≡ true) → Known fewer gs unset m
    → Known fewer gs unset (record m { seen = left_of 0 (4 * g.by) 0 m.seen })
known_left fewer g gs {unset} {m} h w = record {
  seen = λ i l v.
      let e : i ≡ 0 + i = omega arith in
      left_get 0 (4 * g.by) 0 m.seen i 0 (subst (λ j. is_left (4 * g.by) j ≡ true) e (left_there i (h (4 * windows_moved gs + i) v))) ∙ w.seen i l v;
  wide = let wide = w.wide in let l = left_length 0 (4 * g.by) 0 m.seen in omega (arith, wide, l);
  kept = w.kept;
  special = w.special;
  pointer = w.pointer;
  numbers = w.numbers;
}
  where
    left_there : (i : ℕ) → still (4 * windows_moved (g ∷ gs)) (4 * windows_moved gs + i) ≡ true → is_left (4 * g.by) i ≡ true
    left_there i v =
        let c : ℕ = 4 * windows_moved gs + i in
        ⊎_elim
        (λ low. let few = ltb-true c (4 * windows_moved (g ∷ gs) + 0) low in left_own (4 * g.by) i (omega (arith, few)))
        (λ high.
        let two = and_parts (leb (4 * windows_moved (g ∷ gs) + 2) c) (ltb c (4 * windows_moved (g ∷ gs) + 6)) high in
        let from = leb-true (4 * windows_moved (g ∷ gs) + 2) c two.0 in
        let to = ltb-true c (4 * windows_moved (g ∷ gs) + 6) two.1 in
        or_right (ltb i (4 * g.by)) _
        (or_left (leb (4 * g.by + 2) i && ltb i (4 * g.by + 6)) _
        (and_from (leb (4 * g.by + 2) i) (ltb i (4 * g.by + 6)) (le-leb (4 * g.by + 2) i (omega (arith, from))) (lt-ltb i (4 * g.by + 6) (omega (arith, to))))))
        (or_cases (ltb c (4 * windows_moved (g ∷ gs) + 0)) (leb (4 * windows_moved (g ∷ gs) + 2) c && ltb c (4 * windows_moved (g ∷ gs) + 6)) v)
