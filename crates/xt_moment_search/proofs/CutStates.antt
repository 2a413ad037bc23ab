-- A state without the bits that are not known.
use Rattle.std.proofs.Common.{◌≡◌, ◌≢◌, ℕ, ◌-◌, ◌<◌, Bool, true, false, cond, eqb, ◌&&◌, ◌||◌, List, length}
use Rattle.std.proofs.Common.{get_or, set, refl, sym, ap, ◌∙◌, subst, ⊎_elim, arith}
use Rattle.std.specs.Prelude.{bit_and, bit_or}
use Rattle.std.proofs.lemmas.Bool.{cases_Bool, cases_eq}
use Rattle.std.proofs.lemmas.List.{get_or-set_other, get_or-set_same}
use Rattle.xt_special.specs.Access.{timer_bit, without_bits}
use Rattle.xt_special.specs.Control.{Control, special_of}
use Rattle.xt_special.specs.Numbers as number
use Rattle.xt_exec.specs.State.{State}
use Rattle.xt_exec.specs.TurnLaws.{IsShaped}
use Rattle.xt_uses.specs.Words.{all_bits, masked}
use Rattle.xt_uses.specs.UseLaws.{AgreeIn}
use Rattle.xt_uses.proofs.Agreeing.{agree_none, cut_agrees}
use Rattle.xt_timeless.specs.Time.{special_without_time, without_time}
use Rattle.xt_timeless.specs.Alike.{Clocks, may_differ}
use Rattle.xt_timeless.proofs.Lists.{cleared_alike}
use Rattle.xt_simulation.specs.Knowledge.{Knowledge, StatesAgree}
use Rattle.xt_simulation.proofs.SecretSpecials.{unequal}
use Rattle.xt_secret_walk.specs.declared.masks.CoreMasks.{CoreMasks}
use Rattle.xt_moments.specs.Moments.{MomentCore, core_fired, is_armed, with_special}
use Rattle.xt_moments.specs.MomentLaws.{is_clock}
use Rattle.xt_moment_search.specs.KnownCores.{IsCut, core_of, kept_mask, moment_known_of}
use Rattle.xt_moment_search.specs.Sides.{KnownCore}

-- ---- registers

pub cut_refl : (masks : List ℕ) (s : State) → IsCut masks s s
cut_refl masks s = record { regs = λ k. refl; base = refl; start = refl; control = refl }

pub cut_trans : (masks : List ℕ) (r s t : State) → IsCut masks r s → IsCut masks s t
    → IsCut masks r t
cut_trans masks r s t a b = record {
  regs = λ k. a.regs k ∙ b.regs k;
  base = a.base ∙ b.base;
  start = a.start ∙ b.start;
  control = a.control ∙ b.control;
}

-- one register of a list is cut to its mask
pub one_cut : (masks xs : List ℕ) (at k : ℕ) → at < length xs
    → AgreeIn (get_or masks k all_bits) (get_or xs k 0)
    (get_or (set xs at (masked (get_or masks at all_bits) (get_or xs at 0))) k 0)
one_cut masks xs at k less = ⊎_elim
    (λ (is : k ≡ at). subst (λ (j : ℕ). AgreeIn (get_or masks j all_bits) (get_or xs j 0)
    (get_or (set xs at (masked (get_or masks at all_bits) (get_or xs at 0))) j 0)) (sym is)
    (cut_agrees (get_or masks at all_bits) (get_or xs at 0)
    ∙ ap (masked (get_or masks at all_bits)) (sym (get_or-set_same xs at
    (masked (get_or masks at all_bits) (get_or xs at 0)) 0 less))))
    (λ (no : k ≢ at). ap (masked (get_or masks k all_bits)) (sym (get_or-set_other xs at k
    (masked (get_or masks at all_bits) (get_or xs at 0)) 0 no)))
    (cases_eq k at)

-- ---- special registers

may_not_differ : (n : ℕ) → n ≢ 226 → is_clock n ≡ false → may_differ Clocks n ≡ false
may_not_differ n other clock =
    (λ i. (unequal n 226 other i && true) || ((clock i && true) || (eqb n 12 && false)))
    ∙ never (eqb n 12)
  where
    never : (b : Bool) → (b && false) ≡ false
    never true = refl
    never false = refl

module _ (c : CoreMasks) (s t : State) (i : ℕ) (f : IsShaped s) (cut : IsCut c.regs s t) where
  abbrev m : Knowledge
  m = moment_known_of c

  abbrev xs : List ℕ
  xs = s.control.special

  abbrev ys : List ℕ
  ys = special_without_time t.control.special

  same_lists : xs ≡ t.control.special
  same_lists = ap (λ (x : Control). x.special) cut.control

  kept : (n : ℕ) → n ≢ 226 → is_clock n ≡ false
      → get_or (set xs 226 i) n 0 ≡ get_or (set ys 226 i) n 0
  kept n other clock =
      get_or-set_other xs 226 n i 0 other
      ∙ (ap (λ (l : List ℕ). get_or l n 0) same_lists
      ∙ (sym ((cleared_alike t.control.special).same n (may_not_differ n other clock))
      ∙ sym (get_or-set_other ys 226 n i 0 other)))

  interrupt : get_or (set xs 226 i) 226 0 ≡ get_or (set ys 226 i) 226 0
  interrupt =
      let long : length xs ≡ 256 = f.control.count in
      let alike = cleared_alike t.control.special in
      let same : length ys ≡ 256 =
      alike.long ∙ (ap (λ (l : List ℕ). length l) (sym same_lists) ∙ long) in
      get_or-set_same xs 226 i 0 (omega (arith, long)) ∙ sym (get_or-set_same ys 226 i 0
      (omega (arith, same)))

  specials_agree : (n : ℕ)
      → AgreeIn (m.special n) (get_or (set xs 226 i) n 0) (get_or (set ys 226 i) n 0)
  specials_agree n = ⊎_elim
      (λ clock. subst (λ (b : Bool). AgreeIn (cond b 0 (kept_mask c n)) (get_or (set xs 226 i) n 0)
      (get_or (set ys 226 i) n 0)) (sym clock) (agree_none (get_or (set xs 226 i) n 0) (get_or (set ys 226 i) n 0)))
      (λ clock. ⊎_elim
      (λ is. ap (masked (m.special n)) (ap (λ (j : ℕ). get_or (set xs 226 i) j 0) is
      ∙ (interrupt ∙ sym (ap (λ (j : ℕ). get_or (set ys 226 i) j 0) is))))
      (λ other. ap (masked (m.special n)) (kept n other clock))
      (cases_eq n 226))
      (cases_Bool (is_clock n))

  -- with this INTERRUPT
  pub settled : StatesAgree m (with_special 226 i s) (with_special 226 i (without_time t))
  settled = record {
    pc = ap (λ (x : Control). x.pc) cut.control;
    base = cut.base;
    start = cut.start;
    ps = ap (λ (x : Control). x.ps) cut.control;
    waits = ap (λ (x : Control). x.waits) cut.control;
    regs = cut.regs;
    special = specials_agree;
    threadptr = ap (λ (x : Control). masked m.threadptr x.threadptr) cut.control;
  }

-- ---- a timer that fires

pub fired_is : (k : KnownCore) (timer : ℕ) (s : State) (before bit other : ℕ)
    → is_armed timer (core_of k) ≡ true
    → s ≡ with_special 226 (bit_or before bit) k.state
    → before ≡ special_of k.state.control 226
    → bit ≡ timer_bit (number.ccompare timer) → other ≡ timer_bit (number.ccompare timer)
    → ◌≡◌ {A = MomentCore}
    (record { state = s; armed = bit_and k.armed (4294967295 - other); stopped = k.stopped })
    (core_fired timer (core_of k))
unfolding without_bits
fired_is k timer s before bit other armed is e f g =
    let state = is ∙ (λ i. with_special 226 (bit_or (e i) (f i)) k.state) in
    let make : State → ℕ → MomentCore =
    λ x y. record { state = x; armed = bit_and k.armed (4294967295 - y); stopped = k.stopped } in
    (λ i. make (state i) (g i))
    ∙ ap (λ (b : Bool). cond b (make (with_special 226
    (bit_or (special_of k.state.control 226) (timer_bit (number.ccompare timer))) k.state)
    (timer_bit (number.ccompare timer))) (core_of k)) (sym armed)
