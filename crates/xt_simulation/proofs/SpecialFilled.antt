-- A special register that a step reads, and that has no number, receives the processor's.
use Rattle.std.proofs.Common.{◌≡◌, ℕ, ◌^◌, ◌<◌, ◌≢◌, Bool, true, false, not, eqb, List, sym, ap, ◌∙◌, refl, arith, ⊎_elim, subst, length, get_or}
use Rattle.std.proofs.Math.ListN.{set}
use Rattle.std.proofs.lemmas.Bool.{and_left, both_ways, cases_Bool, cases_eq, ne_eqb, or_cases, or_parts, or_from, or_left, or_right, true≢false}
use Rattle.std.proofs.lemmas.List.{get_or-set_same, get_or-set_other, length-set}
use Rattle.xt_special.specs.Control.{special_of}
use Rattle.xt_special.specs.Access.{is_eps}
use Rattle.xt_exec.specs.State.{State}
use Rattle.xt_frames.specs.Frames.{Frame, FrameState}
use Rattle.xt_frames.specs.Breaches.{Bounds, lost_of}
use Rattle.xt_frames.specs.Marks.{holds_marks}
use Rattle.xt_simulation.specs.Relation.{Same, lost_at}
use Rattle.xt_simulation.specs.Cores.{Related}
use Rattle.xt_simulation.proofs.Laid.{laid_other, relaid, same_relaid}
use Rattle.xt_uses.specs.Words.{masked}
use Rattle.xt_uses.specs.Used.{counted_bits}
use Rattle.xt_uses.specs.UseState.{UseState}
use Rattle.xt_uses.proofs.RowsMarks.{eps_unmarked}
use Rattle.xt_simulation.specs.Knowing.{Knows, is_partial}
use Rattle.xt_simulation.proofs.Seen.{cut_zero}
use Rattle.xt_simulation.proofs.Specials.{mark_range}

abbrev pub with_special : ℕ → ℕ → FrameState → FrameState
with_special n v f = record f { control = record f.control { special = set f.control.special n v }; unset = set f.unset n false }

module _ (fresh : Bool) (s : State) (f : FrameState) (n : ℕ) (mark : holds_marks n ≡ true) (count : length f.control.special ≡ 256) (wide : length f.unset ≡ 256) where
  abbrev real : ℕ
  real = special_of s.control n

  low : n < 256
  low = ⊎_elim (λ r. let hi = r.1 in omega arith) (λ r. let hi = r.1 in omega arith) (mark_range n mark)

  above : 208 < n
  above = ⊎_elim (λ r. let lo = r.0 in omega arith) (λ r. let lo = r.0 in omega arith) (mark_range n mark)

  set_here : get_or (set f.control.special n real) n 0 ≡ real
  set_here = get_or-set_same f.control.special n real 0 (let a = low in omega arith)

  has_number : get_or (set f.unset n false) n false ≡ false
  has_number = get_or-set_same f.unset n false false (let a = low in omega arith)

  pub same_filled : Same (lost_at fresh f) s.control.special (relaid s.control.special f.control.special) → Same (lost_at fresh (with_special n real f)) s.control.special (relaid s.control.special (set f.control.special n real))
  same_filled old = same_relaid (lost_at fresh (with_special n real f)) s.control.special (set f.control.special n real)
      (old.size ∙ (laid_size ∙ sym (length-set f.control.special n real)))
      (λ k h. ⊎_elim
      (λ a. old.only k (or_left (lost_of fresh k) (get_or f.unset k false) a))
      (λ a. ⊎_elim
      (λ is. absurd (true≢false (sym a ∙ (ap (λ j. get_or (set f.unset n false) j false) is ∙ has_number))))
      (λ other. old.only k (or_right (lost_of fresh k) (get_or f.unset k false) (sym (get_or-set_other f.unset n k false false other) ∙ a)))
      (cases_eq k n))
      (or_cases (lost_of fresh k) (get_or (set f.unset n false) k false) h))
      (λ k known not_bits not_count. ⊎_elim
      (λ is. subst (λ j. get_or s.control.special j 0 ≡ get_or (set f.control.special n real) j 0) (sym is) (sym set_here))
      (λ other.
      let p = or_parts (lost_of fresh k) (get_or (set f.unset n false) k false) known in
      let q : get_or f.unset k false ≡ false = sym (get_or-set_other f.unset n k false false other) ∙ p.1 in
      old.at k (or_from (lost_of fresh k) (get_or f.unset k false) p.0 q)
      ∙ (laid_other f.control.special (special_of s.control 234) (special_of s.control 226) k not_bits not_count ∙ sym (get_or-set_other f.control.special n k real 0 other)))
      (cases_eq k n))
    where
      laid_size : length (relaid s.control.special f.control.special) ≡ length f.control.special
      laid_size = length-set (set f.control.special 234 (special_of s.control 234)) 226 (special_of s.control 226) ∙ length-set f.control.special 234 (special_of s.control 234)

  -- where it had a number, that was the processor's
  was_real : Same (lost_at fresh f) s.control.special (relaid s.control.special f.control.special) → get_or f.unset n false ≡ false → special_of f.control n ≡ real
  was_real old none =
      let a = above in
      let lost : lost_of fresh n ≡ false = and_left (eqb n 177) (not fresh) (ne_eqb n 177 (λ e. omega (arith, e))) in
      let not_bits : n ≢ 226 = λ e. both_ways (holds_marks n) (subst (λ j. holds_marks j ≡ false) (sym e) refl) mark in
      let not_count : n ≢ 234 = λ e. both_ways (holds_marks n) (subst (λ j. holds_marks j ≡ false) (sym e) refl) mark in
      sym (laid_other f.control.special (special_of s.control 234) (special_of s.control 226) n not_bits not_count) ∙ sym (old.at n (or_from (lost_of fresh n) (get_or f.unset n false) lost none))

  pub special_knows : real < 2 ^ 32 → Same (lost_at fresh f) s.control.special (relaid s.control.special f.control.special) → {u : UseState} → Knows f u → Knows (with_special n real f) u
  special_knows small old {u = u} k = record {
    seen = k.seen;
    sp = k.sp;
    frames = k.frames;
    control = record {
      even = record {
        pc = k.control.even.pc;
        ps = k.control.even.ps;
        threadptr = refl;
        waits = k.control.even.waits;
        special = record {
          size = length-set f.control.special n real ∙ k.control.even.special.size;
          only = k.control.even.special.only;
          at = λ j known.
              let other : j ≢ n = λ e. both_ways (is_partial n) (subst (λ i. is_partial i ≡ false) e known) (or_left (holds_marks n) _ mark) in
              get_or-set_other f.control.special n j real 0 other ∙ k.control.even.special.at j known;
        };
      };
      pointer = k.control.pointer;
      spread = k.control.spread;
      words = λ j h. ⊎_elim
          (λ is. subst (λ i. get_or (set f.control.special n real) i 0 < 2 ^ 32) (sym is) (subst (λ z. z < 2 ^ 32) (sym set_here) small))
          (λ other. subst (λ z. z < 2 ^ 32) (sym (get_or-set_other f.control.special n j real 0 other)) (k.control.words j h))
          (cases_eq j n);
      fits = λ j h. ⊎_elim
          (λ is. subst (λ i. masked (get_or u.masks.special i 0) (get_or (set f.control.special n real) i 0) ≡ special_of u.frame.control i) (sym is) (ap (masked (get_or u.masks.special n 0)) set_here ∙ here))
          (λ other. ap (masked (get_or u.masks.special j 0)) (get_or-set_other f.control.special n j real 0 other) ∙ k.control.fits j h)
          (cases_eq j n);
      saved = λ j h.
          let other : j ≢ n = λ e. both_ways (holds_marks n) (eps_unmarked n (subst (λ i. is_eps i ≡ true) e h)) mark in
          ap (masked (counted_bits u.masks.discipline j)) (get_or-set_other f.control.special n j real 0 other) ∙ k.control.saved j h;
    };
    unset = record {
      size = length-set f.unset n false ∙ k.unset.size;
      wide = k.unset.wide;
      equal = λ j known.
          let other : j ≢ n = λ e. both_ways (holds_marks n) (subst (λ i. holds_marks i ≡ false) e known) mark in
          get_or-set_other f.unset n j false false other ∙ k.unset.equal j known;
      lacks = λ j h has. ⊎_elim
          (λ is. absurd (true≢false (sym has ∙ (ap (λ i. get_or (set f.unset n false) i false) is ∙ has_number))))
          (λ other. k.unset.lacks j h (sym (get_or-set_other f.unset n j false false other) ∙ has))
          (cases_eq j n);
    };
    nested = k.nested;
  }
    where
      here : masked (get_or u.masks.special n 0) real ≡ special_of u.frame.control n
      here = ⊎_elim
          (λ gone.
          let z : get_or u.masks.special n 0 ≡ 0 = k.unset.lacks n mark gone in
          let o : masked (get_or u.masks.special n 0) (special_of f.control n) ≡ special_of u.frame.control n = k.control.fits n mark in
          ap (λ i. masked i real) z ∙ (cut_zero real ∙ (sym (cut_zero (special_of f.control n)) ∙ (ap (λ i. masked i (special_of f.control n)) (sym z) ∙ o))))
          (λ there. ap (masked (get_or u.masks.special n 0)) (sym (was_real old there)) ∙ k.control.fits n mark)
          (cases_Bool (get_or f.unset n false))

  pub special_related : {m : ℕ → ℕ} {b : Bounds} {ring spilled : List Frame} → Related m b (lost_at fresh f) s f ring spilled → Related m b (lost_at fresh (with_special n real f)) s (with_special n real f) ring spilled
  special_related l = record {
    plain = record {
      windows = l.plain.windows;
      frames = l.plain.frames;
      older = l.plain.older;
      even = record {
        pc = l.plain.even.pc;
        ps = l.plain.even.ps;
        threadptr = l.plain.even.threadptr;
        waits = l.plain.even.waits;
        special = same_filled l.plain.even.special;
      };
      woe = l.plain.woe;
      calls = l.plain.calls;
      vectors = l.plain.vectors;
    };
    stack = l.stack;
    saved = l.saved;
  }
