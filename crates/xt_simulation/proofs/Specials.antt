-- The special registers of two control states that fit: what a row's effect, an exception, an interrupt and a tick do to them.
use Rattle.std.specs.Prelude.{unwrap_or}
use Rattle.std.proofs.Common.{◌≡◌, ℕ, ◌+◌, ◌-◌, ◌^◌, ◌<◌, ◌≤◌, ◌≢◌, ◌⊎◌, inl, inr, Bool, true, false, ◌&&◌, eqb, leb, List, Option, Some, None, sym, ap, ◌∙◌, refl, arith, ⊎_elim, subst, get_or, cond, length}
use Rattle.std.proofs.Math.ListN.{set}
use Rattle.std.proofs.lemmas.Bool.{cases_eq, and_parts, or_cases, or_from, leb-true, both_ways, or_left, or_right}
use Rattle.std.proofs.lemmas.List.{get_or-set_other, length-set}
use Rattle.xt_isa.specs.declared.Insn.{Insn}
use Rattle.xt_isa.specs.declared.Insn.TheVariants as insn
use Rattle.xt_isa.specs.declared.system.System.TheVariants as system
use Rattle.xt_isa.specs.declared.system.SpecialName.TheVariants as SpecialName
use Rattle.xt_special.specs.Control.{Control, ps_word, special_of}
use Rattle.xt_special.specs.Access.{is_eps, set_to, no_set, written_by, value_kept}
use Rattle.xt_special.specs.Timers.{after_tick}
use Rattle.xt_special.specs.Exceptions.{with_address, after_general, after_double, after_exception}
use Rattle.xt_special.specs.Interrupts.{after_high_level, after_interrupt, interrupt_cause}
use Rattle.xt_special.specs.declared.ps.Ps.{Ps}
use Rattle.xt_rows.specs.declared.outcome.Flow.{Flow}
use Rattle.xt_rows.specs.declared.outcome.Flow.TheVariants.{Falls, Goes}
use Rattle.xt_rows.specs.declared.outcome.Effect.{Effect}
use Rattle.xt_rows.specs.declared.outcome.Outcome.{Outcome}
use Rattle.xt_rows.specs.declared.outcome.Outcome.TheVariants.{Does}
use Rattle.xt_rows.specs.declared.outcome.WindowRegister.{WindowRegister}
use Rattle.xt_rows.specs.Effects.{no_change, window_register, writes_special, exchanges_special}
use Rattle.xt_rows.specs.Kinds.{is_saved, moved_to}
use Rattle.xt_rows.specs.Outcomes.{outcome, system_outcome}
use Rattle.xt_rows.specs.Settling.{after_flow}
use Rattle.xt_frames.specs.Marks.{holds_marks}
use Rattle.xt_simulation.specs.Relation.{Even, can_be_lost}
use Rattle.xt_simulation.proofs.Evenly.{even_ticked, even_raise, even_interrupt, set_even}
use Rattle.xt_simulation.proofs.InnerSteps.{can_saved, ticked_saved}
use Rattle.xt_uses.specs.declared.discipline.Discipline.{Discipline}
use Rattle.xt_uses.specs.Words.{masked}
use Rattle.xt_uses.specs.Used.{counted_bits}
use Rattle.xt_uses.specs.UseLaws.{AgreeIn}
use Rattle.xt_simulation.specs.Knowing.{ControlFit, ControlLeft, is_partial, with_owb, with_pointer}

-- ---- EXCSAVE and MISC
pub mark_range : (n : ℕ) → holds_marks n ≡ true → ((209 ≤ n) × (n ≤ 215)) ⊎ ((244 ≤ n) × (n ≤ 247))
mark_range n h = ⊎_elim
    (λ a. let p = and_parts (leb 209 n) (leb n 215) a in inl (leb-true 209 n p.0, leb-true n 215 p.1))
    (λ a. let p = and_parts (leb 244 n) (leb n 247) a in inr (leb-true 244 n p.0, leb-true n 247 p.1))
    (or_cases (leb 209 n && leb n 215) (leb 244 n && leb n 247) h)

pub mark_lost : (n : ℕ) → holds_marks n ≡ true → can_be_lost n ≡ true
mark_lost n h = or_right (eqb n 177) _ (or_right (eqb n 181) _ (or_right (is_eps n) _ h))

pub eps_lost : (n : ℕ) → is_eps n ≡ true → can_be_lost n ≡ true
eps_lost n h = or_right (eqb n 177) _ (or_right (eqb n 181) _ (or_left (is_eps n) _ h))

pub partial_lost : (n : ℕ) → is_partial n ≡ true → can_be_lost n ≡ true
partial_lost n h = ⊎_elim (mark_lost n) (eps_lost n) (or_cases (holds_marks n) (is_eps n) h)

pub eps_range : (n : ℕ) → is_eps n ≡ true → (194 ≤ n) × (n ≤ 199)
eps_range n h = let p = and_parts (leb 194 n) (leb n 199) h in (leb-true 194 n p.0, leb-true n 199 p.1)

pub eps_saved : (n : ℕ) → is_eps n ≡ true → is_saved n ≡ true
eps_saved n h = can_saved n (eps_lost n h)

-- a number of neither kind
pub whole_number : (n : ℕ) → holds_marks n ≡ false → is_eps n ≡ false → is_partial n ≡ false
whole_number n h e = or_from (holds_marks n) (is_eps n) h e

pub mark_saved : (n : ℕ) → holds_marks n ≡ true → is_saved n ≡ true
mark_saved n h = can_saved n (mark_lost n h)

-- what holds of each of them holds of all
by_mark : (P : ℕ → Type 0) → P 209 → P 210 → P 211 → P 212 → P 213 → P 214 → P 215 → P 244 → P 245 → P 246 → P 247 → (n : ℕ) → holds_marks n ≡ true → P n
by_mark P a b c d e f g h i j k n m = ⊎_elim
    (λ r. let lo = r.0 in let hi = r.1 in ⊎_elim (λ is. subst P (sym is) a) (λ n209. ⊎_elim (λ is. subst P (sym is) b) (λ n210. ⊎_elim (λ is. subst P (sym is) c) (λ n211. ⊎_elim (λ is. subst P (sym is) d) (λ n212. ⊎_elim (λ is. subst P (sym is) e) (λ n213. ⊎_elim (λ is. subst P (sym is) f) (λ n214. ⊎_elim (λ is. subst P (sym is) g) (λ n215. absurd (omega arith)) (cases_eq n 215)) (cases_eq n 214)) (cases_eq n 213)) (cases_eq n 212)) (cases_eq n 211)) (cases_eq n 210)) (cases_eq n 209))
    (λ r. let lo = r.0 in let hi = r.1 in ⊎_elim (λ is. subst P (sym is) h) (λ n244. ⊎_elim (λ is. subst P (sym is) i) (λ n245. ⊎_elim (λ is. subst P (sym is) j) (λ n246. ⊎_elim (λ is. subst P (sym is) k) (λ n247. absurd (omega arith)) (cases_eq n 247)) (cases_eq n 246)) (cases_eq n 245)) (cases_eq n 244))
    (mark_range n m)

-- WSR and XSR give such a register the value that they read
abbrev pub SetsTo : ℕ → ℕ → Outcome → Type 0
SetsTo n x (Does e) = e.sets ≡ (set_to n x, no_set, no_set)
SetsTo n x _ = Unit {0}

written_mark : (n x v : ℕ) → holds_marks n ≡ true → written_by n x v ≡ (set_to n x, no_set, no_set)
unfolding value_kept
written_mark n x v h = by_mark (λ k. written_by k x v ≡ (set_to k x, no_set, no_set)) refl refl refl refl refl refl refl refl refl refl refl n h

writes_mark : (w : Option WindowRegister) (n x v : ℕ) (e : Effect) → holds_marks n ≡ true → SetsTo n x (writes_special w n x v e)
writes_mark None n x v e h = written_mark n x v h
writes_mark (Some w) n x v e h = tt

exchanges_mark : (w : Option WindowRegister) (t n x u v : ℕ) (e : Effect) → holds_marks n ≡ true → SetsTo n x (exchanges_special w t n x u v e)
exchanges_mark None t n x u v e h = written_mark n x v h
exchanges_mark (Some w) t n x u v e h = tt

pub moved_sets : (code : ℕ → ℕ) (i : Insn) (pc x y u v : ℕ) (ps : Ps) (t : ℕ) (p : ℕ × ℕ) → moved_to i ≡ Some p → holds_marks p.1 ≡ true → SetsTo p.1 x (outcome code i pc x y u v ps t)
unfolding moved_to outcome system_outcome
moved_sets code (insn.System (system.Special SpecialName.Wsr a n)) pc x y u v ps t p e h =
    let q : (a, n) ≡ p = ap (λ (o : Option (ℕ × ℕ)). unwrap_or o (0, 0)) e in
    subst (λ (r : ℕ × ℕ). holds_marks r.1 ≡ true → SetsTo r.1 x (writes_special (window_register n) n x v (no_change ps t))) q (writes_mark (window_register n) n x v (no_change ps t)) h
moved_sets code (insn.System (system.Special SpecialName.Xsr a n)) pc x y u v ps t p e h =
    let q : (a, n) ≡ p = ap (λ (o : Option (ℕ × ℕ)). unwrap_or o (0, 0)) e in
    subst (λ (r : ℕ × ℕ). holds_marks r.1 ≡ true → SetsTo r.1 x (exchanges_special (window_register n) a n x u v (no_change ps t))) q (exchanges_mark (window_register n) a n x u v (no_change ps t)) h
moved_sets code _ pc x y u v ps t p e h = absurd cc

-- ---- what keeps EXCSAVE and MISC as they are
abbrev pub KeepsMarks : Control → Control → Type 0
KeepsMarks c d = (n : ℕ) → holds_marks n ≡ true → special_of d n ≡ special_of c n

partial_apart : (n k : ℕ) → is_partial n ≡ true → is_partial k ≡ false → n ≢ k
partial_apart n k h other e = both_ways (is_partial n) (subst (λ j. is_partial j ≡ false) (sym e) other) h

pub flow_special : (flow : Flow) (len : ℕ) (c : Control) (k : ℕ) → k ≢ 2 → special_of (after_flow flow len c) k ≡ special_of c k
flow_special (Goes target) len c k other = refl
flow_special Falls len c k other = by_test _ _ _
  where
    by_test : (b : Bool) (pc next : ℕ) → special_of (cond b (record c { pc = pc; special = set c.special 2 (special_of c 2 - 1) }) (record c { pc = next })) k ≡ special_of c k
    by_test true pc next = get_or-set_other c.special 2 k (special_of c 2 - 1) 0 other
    by_test false pc next = refl

pub flow_pointer : (flow : Flow) (len : ℕ) (c : Control) (t : ℕ) → with_pointer t (after_flow flow len c) ≡ after_flow flow len (with_pointer t c)
flow_pointer (Goes target) len c t = refl
flow_pointer Falls len c t = by_test _ _ _
  where
    by_test : (b : Bool) (pc next : ℕ) → with_pointer t (cond b (record c { pc = pc; special = set c.special 2 (special_of c 2 - 1) }) (record c { pc = next })) ≡ cond b (record c { pc = pc; special = set c.special 2 (special_of c 2 - 1); threadptr = t }) (record c { pc = next; threadptr = t })
    by_test true pc next = refl
    by_test false pc next = refl

-- and with OWB
pub flow_told : (flow : Flow) (len : ℕ) (c : Control) (t o : ℕ) → with_pointer t (with_owb o (after_flow flow len c)) ≡ after_flow flow len (with_pointer t (with_owb o c))
flow_told (Goes target) len c t o = refl
flow_told Falls len c t o = by_test _ _ _
  where
    by_test : (b : Bool) (pc next : ℕ) → with_pointer t (with_owb o (cond b (record c { pc = pc; special = set c.special 2 (special_of c 2 - 1) }) (record c { pc = next })))
        ≡ cond b (record c { pc = pc; special = set c.special 2 (special_of c 2 - 1); threadptr = t; ps = record c.ps { owb = o } }) (record c { pc = next; threadptr = t; ps = record c.ps { owb = o } })
    by_test true pc next = refl
    by_test false pc next = refl

pub flow_ps : (flow : Flow) (len : ℕ) (c : Control) → (after_flow flow len c).ps ≡ c.ps
flow_ps (Goes target) len c = refl
flow_ps Falls len c = by_test _ _ _
  where
    by_test : (b : Bool) (pc next : ℕ) → (cond b (record c { pc = pc; special = set c.special 2 (special_of c 2 - 1) }) (record c { pc = next })).ps ≡ c.ps
    by_test true pc next = refl
    by_test false pc next = refl

pub flow_threadptr : (flow : Flow) (len : ℕ) (c : Control) → (after_flow flow len c).threadptr ≡ c.threadptr
flow_threadptr (Goes target) len c = refl
flow_threadptr Falls len c = by_test _ _ _
  where
    by_test : (b : Bool) (pc next : ℕ) → (cond b (record c { pc = pc; special = set c.special 2 (special_of c 2 - 1) }) (record c { pc = next })).threadptr ≡ c.threadptr
    by_test true pc next = refl
    by_test false pc next = refl

-- ---- exceptions and interrupts
address_kept : (addr : Option ℕ) (xs : List ℕ) (n : ℕ) → is_partial n ≡ true → get_or (with_address addr xs) n 0 ≡ get_or xs n 0
address_kept None xs n h = refl
address_kept (Some a) xs n h = get_or-set_other xs 238 n a 0 (partial_apart n 238 h refl)

raise_kept : (cause : ℕ) (addr : Option ℕ) (c : Control) (n : ℕ) → is_partial n ≡ true → special_of (after_exception cause addr c) n ≡ special_of c n
unfolding after_exception
raise_kept cause addr c n h = by_mode c.ps.excm
  where
    double : special_of (after_double cause addr c) n ≡ special_of c n
    double =
        address_kept addr (set (set c.special 192 c.pc) 232 cause) n h
        ∙ (get_or-set_other (set c.special 192 c.pc) 232 n cause 0 (partial_apart n 232 h refl) ∙ get_or-set_other c.special 192 n c.pc 0 (partial_apart n 192 h refl))

    general : special_of (after_general cause addr c) n ≡ special_of c n
    general =
        address_kept addr (set (set c.special 177 c.pc) 232 cause) n h
        ∙ (get_or-set_other (set c.special 177 c.pc) 232 n cause 0 (partial_apart n 232 h refl) ∙ get_or-set_other c.special 177 n c.pc 0 (partial_apart n 177 h refl))

    by_mode : (b : Bool) → special_of (cond b (after_double cause addr c) (after_general cause addr c)) n ≡ special_of c n
    by_mode true = double
    by_mode false = general

pub raise_marks : (cause : ℕ) (addr : Option ℕ) (c : Control) → KeepsMarks c (after_exception cause addr c)
raise_marks cause addr c n h = raise_kept cause addr c n (or_left (holds_marks n) _ h)

pub raise_pointer : (cause : ℕ) (addr : Option ℕ) (c : Control) (t : ℕ) → with_pointer t (after_exception cause addr c) ≡ after_exception cause addr (with_pointer t c)
unfolding after_exception
raise_pointer cause addr c t = by_mode c.ps.excm
  where
    by_mode : (b : Bool) → with_pointer t (cond b (after_double cause addr c) (after_general cause addr c)) ≡ cond b (after_double cause addr (with_pointer t c)) (after_general cause addr (with_pointer t c))
    by_mode true = refl
    by_mode false = refl

pub raise_threadptr : (cause : ℕ) (addr : Option ℕ) (c : Control) → (after_exception cause addr c).threadptr ≡ c.threadptr
unfolding after_exception
raise_threadptr cause addr c = by_mode c.ps.excm
  where
    by_mode : (b : Bool) → (cond b (after_double cause addr c) (after_general cause addr c)).threadptr ≡ c.threadptr
    by_mode true = refl
    by_mode false = refl

-- of a level up to 15
pub interrupt_marks : (level : ℕ) (c : Control) → level < 16 → KeepsMarks c (after_interrupt level c)
unfolding after_interrupt
interrupt_marks level c small n h = by_level (eqb level 1)
  where
    high : special_of (after_high_level level c) n ≡ special_of c n
    high =
        let apart : (k : ℕ) → k < 209 → n ≢ k = λ k low e. ⊎_elim (λ r. let lo = r.0 in omega arith) (λ r. let lo = r.0 in omega arith) (mark_range n h) in
        get_or-set_other (set c.special (176 + level) c.pc) (192 + level) n _ 0 (apart (192 + level) (omega arith)) ∙ get_or-set_other c.special (176 + level) n c.pc 0 (apart (176 + level) (omega arith))

    by_level : (b : Bool) → special_of (cond b (after_exception interrupt_cause None c) (after_high_level level c)) n ≡ special_of c n
    by_level true = raise_marks interrupt_cause None c n h
    by_level false = high

pub interrupt_pointer : (level : ℕ) (c : Control) (t : ℕ) → with_pointer t (after_interrupt level c) ≡ after_interrupt level (with_pointer t c)
unfolding after_interrupt
interrupt_pointer level c t = by_level (eqb level 1)
  where
    awake : Control → Control
    awake d = record d { waits = false }

    by_level : (b : Bool) → with_pointer t (awake (cond b (after_exception interrupt_cause None c) (after_high_level level c))) ≡ awake (cond b (after_exception interrupt_cause None (with_pointer t c)) (after_high_level level (with_pointer t c)))
    by_level true = ap awake (raise_pointer interrupt_cause None c t)
    by_level false = refl

pub interrupt_threadptr : (level : ℕ) (c : Control) → (after_interrupt level c).threadptr ≡ c.threadptr
unfolding after_interrupt
interrupt_threadptr level c = by_level (eqb level 1)
  where
    by_level : (b : Bool) → (cond b (after_exception interrupt_cause None c) (after_high_level level c)).threadptr ≡ c.threadptr
    by_level true = raise_threadptr interrupt_cause None c
    by_level false = refl

-- ---- PS, of which OWB is told
pub told_ps : {p q : Ps} → p ≡ q → p ≡ record q { owb = p.owb }
told_ps {p = p} e = ap (λ (z : Ps). record z { owb = p.owb }) e

-- ---- control states that fit
module _ {by : Discipline} {special : List ℕ} {bits : ℕ} {c d : Control} (f : ControlFit by special bits c d) where
  pub saved_as : (n : ℕ) (x y : Control) → is_eps n ≡ true → special_of x n ≡ special_of c n → special_of y n ≡ special_of d n → AgreeIn (counted_bits by n) (special_of x n) (special_of y n)
  saved_as n x y h a b = ap (masked (counted_bits by n)) a ∙ (f.saved n h ∙ sym (ap (masked (counted_bits by n)) b))

  pub same_ps : c.ps ≡ d.ps
  same_ps = f.even.ps

  -- as the next step is told OWB
  pub left_fits : ControlLeft by special bits c d
  left_fits = record {
    even = record { pc = f.even.pc; ps = told_ps same_ps; threadptr = refl; waits = f.even.waits; special = f.even.special };
    pointer = f.pointer;
    spread = f.spread;
    words = f.words;
    fits = f.fits;
    saved = f.saved;
  }

  pub ticked_fits : ControlFit by special bits (after_tick c) (after_tick d)
  ticked_fits = record {
    even = even_ticked c (with_pointer c.threadptr d) f.even;
    pointer = f.pointer;
    spread = f.spread;
    words = λ n h. subst (λ z. z < 2 ^ 32) (sym (ticked_saved c n (mark_saved n h))) (f.words n h);
    fits = λ n h.
        let a = ticked_saved c n (mark_saved n h) in
        let b = ticked_saved d n (mark_saved n h) in
        ap (masked (get_or special n 0)) a ∙ (f.fits n h ∙ sym b);
    saved = λ n h. saved_as n (after_tick c) (after_tick d) h (ticked_saved c n (eps_saved n h)) (ticked_saved d n (eps_saved n h));
  }

  -- both go the same way, which leaves THREADPTR, EXCSAVE and MISC
  pub kept_fits : (x y : Control) → KeepsMarks c x → KeepsMarks d y → x.threadptr ≡ c.threadptr → y.threadptr ≡ d.threadptr → Even is_partial x (with_pointer c.threadptr y)
      → ((n : ℕ) → is_eps n ≡ true → AgreeIn (counted_bits by n) (special_of x n) (special_of y n)) → ControlFit by special bits x y
  kept_fits x y a b t u e eps = record {
    even = subst (λ z. Even is_partial x (with_pointer z y)) (sym t) e;
    pointer = ap (masked bits) t ∙ (f.pointer ∙ sym u);
    spread = f.spread;
    words = λ n h. subst (λ z. z < 2 ^ 32) (sym (a n h)) (f.words n h);
    fits = λ n h. ap (masked (get_or special n 0)) (a n h) ∙ (f.fits n h ∙ sym (b n h));
    saved = eps;
  }

  pub raised_fits : (cause : ℕ) (addr : Option ℕ) → ControlFit by special bits (after_exception cause addr c) (after_exception cause addr d)
  raised_fits cause addr =
      kept_fits (after_exception cause addr c) (after_exception cause addr d) (raise_marks cause addr c) (raise_marks cause addr d) (raise_threadptr cause addr c) (raise_threadptr cause addr d)
      (subst (Even is_partial (after_exception cause addr c)) (sym (raise_pointer cause addr d c.threadptr)) (even_raise cause addr c (with_pointer c.threadptr d) f.even))
      (λ n h. saved_as n (after_exception cause addr c) (after_exception cause addr d) h (raise_kept cause addr c n (or_right (holds_marks n) _ h)) (raise_kept cause addr d n (or_right (holds_marks n) _ h)))

  -- EPS of the level receives PS, which is one in both
  high_saved : (level n : ℕ) → level < 16 → is_eps n ≡ true → AgreeIn (counted_bits by n) (special_of (after_high_level level c) n) (special_of (after_high_level level d) n)
  high_saved level n small h =
      let apart : (k : ℕ) → k < 194 → n ≢ k = λ k low e. let r = eps_range n h in let lo = r.0 in omega arith in
      let epc : (x : Control) → get_or (set x.special (176 + level) x.pc) n 0 ≡ special_of x n = λ x. get_or-set_other x.special (176 + level) n x.pc 0 (apart (176 + level) (omega (arith, small))) in
      let size : length (set c.special (176 + level) c.pc) ≡ length (set d.special (176 + level) d.pc) = length-set c.special (176 + level) c.pc ∙ (f.even.special.size ∙ sym (length-set d.special (176 + level) d.pc)) in
      let value : ps_word c.ps ≡ ps_word d.ps = ap ps_word same_ps in
      ⊎_elim
      (λ (is : n ≡ 192 + level).
      let e : get_or (set (set c.special (176 + level) c.pc) (192 + level) (ps_word c.ps)) n 0 ≡ get_or (set (set d.special (176 + level) d.pc) (192 + level) (ps_word c.ps)) n 0 =
      set_even (set c.special (176 + level) c.pc) (set d.special (176 + level) d.pc) (192 + level) (ps_word c.ps) n size (λ other. absurd (other is)) in
      ap (masked (counted_bits by n)) (e ∙ ap (λ v. get_or (set (set d.special (176 + level) d.pc) (192 + level) v) n 0) value))
      (λ other.
      let a = get_or-set_other (set c.special (176 + level) c.pc) (192 + level) n (ps_word c.ps) 0 other ∙ epc c in
      let b = get_or-set_other (set d.special (176 + level) d.pc) (192 + level) n (ps_word d.ps) 0 other ∙ epc d in
      saved_as n (after_high_level level c) (after_high_level level d) h a b)
      (cases_eq n (192 + level))

  interrupt_saved : (level n : ℕ) → level < 16 → is_eps n ≡ true → AgreeIn (counted_bits by n) (special_of (after_interrupt level c) n) (special_of (after_interrupt level d) n)
  unfolding after_interrupt
  interrupt_saved level n small h = by_level (eqb level 1)
    where
      by_level : (b : Bool)
          → AgreeIn (counted_bits by n) (special_of (cond b (after_exception interrupt_cause None c) (after_high_level level c)) n) (special_of (cond b (after_exception interrupt_cause None d) (after_high_level level d)) n)
      by_level true = saved_as n (after_exception interrupt_cause None c) (after_exception interrupt_cause None d) h (raise_kept interrupt_cause None c n (or_right (holds_marks n) _ h)) (raise_kept interrupt_cause None d n (or_right (holds_marks n) _ h))
      by_level false = high_saved level n small h

  pub taken_fits : (level : ℕ) → level < 16 → ControlFit by special bits (after_interrupt level c) (after_interrupt level d)
  taken_fits level small =
      kept_fits (after_interrupt level c) (after_interrupt level d) (interrupt_marks level c small) (interrupt_marks level d small) (interrupt_threadptr level c) (interrupt_threadptr level d)
      (subst (Even is_partial (after_interrupt level c)) (sym (interrupt_pointer level d c.threadptr)) (even_interrupt level c (with_pointer c.threadptr d) f.even))
      (λ n h. interrupt_saved level n small h)
