-- What turns do to control states that agree in masks.
use Rattle.std.proofs.Common.{◌≡◌, ℕ, ◌+◌, ◌-◌, ◌*◌, ◌%◌, ◌^◌, Bool, true, false, cond, eqb, Option, Some, None, List, slice_index, slice_set, refl, ap, subst}
use Rattle.xt_special.specs.Control.{Control, special_of, ps_word}
use Rattle.xt_special.specs.Access.{with_sets}
use Rattle.xt_special.specs.Timers.{after_tick}
use Rattle.xt_special.specs.Exceptions.{after_double, after_exception, after_general, with_address}
use Rattle.xt_special.specs.Interrupts.{after_high_level, after_interrupt}
use Rattle.xt_special.specs.WindowExceptions.{after_window_exception}
use Rattle.xt_special.specs.Looping.{loops_back}
use Rattle.xt_rows.specs.declared.outcome.Flow.{Flow}
use Rattle.xt_rows.specs.declared.outcome.Flow.TheVariants.{Falls, Goes}
use Rattle.xt_rows.specs.declared.outcome.Effect.{Effect}
use Rattle.xt_rows.specs.Settling.{after_effect, after_flow}
use Rattle.xt_uses.specs.Words.{all_bits}
use Rattle.xt_uses.specs.UseLaws.{AgreeIn}
use Rattle.xt_simulation.specs.Learning.{ticked_masks}
use Rattle.xt_simulation.proofs.SecretSpecials.{Specials, set_alike, set_same, ticked_are}
use Rattle.xt_simulation.proofs.Likes.{like_same}

pub record Controls (m : ℕ → ℕ) (pointer : ℕ) (c d : Control) : Type 0 where
  pub pc : c.pc ≡ d.pc
  pub special : Specials m c.special d.special
  pub ps : c.ps ≡ d.ps
  pub threadptr : AgreeIn pointer c.threadptr d.threadptr
  pub waits : c.waits ≡ d.waits

-- a control state with other special registers and another THREADPTR
abbrev pub with_parts : Control → List ℕ → ℕ → Control
with_parts c ys k = record c { special = ys; threadptr = k }

as_parts : (m : ℕ → ℕ) (pointer : ℕ) (c d : Control) → Controls m pointer c d → with_parts c d.special d.threadptr ≡ d
as_parts m pointer c d h = λ i. record { pc = h.pc i; special = d.special; ps = h.ps i; threadptr = d.threadptr; waits = h.waits i }

pub parts_agree : (m : ℕ → ℕ) (pointer : ℕ) (c : Control) (ys : List ℕ) (k : ℕ) → Specials m c.special ys → AgreeIn pointer c.threadptr k → Controls m pointer c (with_parts c ys k)
parts_agree m pointer c ys k s t = record { pc = refl; special = s; ps = refl; threadptr = t; waits = refl }

-- what each turn uses
pub record Commons (m : ℕ → ℕ) : Type 0 where
  pub vecbase : m 231 ≡ all_bits
  pub lbeg : m 0 ≡ all_bits
  pub lend : m 1 ≡ all_bits
  pub lcount : m 2 ≡ all_bits

-- ---- the tick

pub tick_agrees : (m : ℕ → ℕ) (pointer : ℕ) (c d : Control) → Controls m pointer c d → Controls (ticked_masks m) pointer (after_tick c) (after_tick d)
tick_agrees m pointer c d h = record { pc = h.pc; special = ticked_are m c.special d.special h.special; ps = h.ps; threadptr = h.threadptr; waits = h.waits }

-- ---- exceptions and interrupts

address_same : (m : ℕ → ℕ) (address : Option ℕ) (xs ys : List ℕ) → Specials m xs ys → Specials m (with_address address xs) (with_address address ys)
address_same m None xs ys s = s
address_same m (Some a) xs ys s = set_same m xs ys 238 a s

module _ (m : ℕ → ℕ) (pointer : ℕ) (known : Commons m) (c : Control) (ys : List ℕ) (k : ℕ) (s : Specials m c.special ys) (t : AgreeIn pointer c.threadptr k) where
  vector : special_of c 231 ≡ slice_index ys 231
  vector = (s.same 231).whole known.vecbase

  entered : (address : Option ℕ) (cause epc : ℕ) → Specials m (with_address address (slice_set (slice_set c.special epc c.pc) 232 cause)) (with_address address (slice_set (slice_set ys epc c.pc) 232 cause))
  entered address cause epc = address_same m address _ _ (set_same m (slice_set c.special epc c.pc) (slice_set ys epc c.pc) 232 cause (set_same m c.special ys epc c.pc s))

  exception_parts : (cause : ℕ) (address : Option ℕ) → Controls m pointer (after_exception cause address c) (after_exception cause address (with_parts c ys k))
  unfolding after_exception
  exception_parts cause address = by_test c.ps.excm
    where
      d : Control
      d = with_parts c ys k

      by_test : (b : Bool) → Controls m pointer (cond b (after_double cause address c) (after_general cause address c)) (cond b (after_double cause address d) (after_general cause address d))
      by_test true = record { pc = ap (λ (v : ℕ). v + 0x3C0) vector; special = entered address cause 192; ps = refl; threadptr = t; waits = refl }
      by_test false = record { pc = ap (λ (v : ℕ). v + cond c.ps.um 0x340 0x300) vector; special = entered address cause 177; ps = refl; threadptr = t; waits = refl }

  high_parts : (level : ℕ) → Controls m pointer (after_high_level level c) (after_high_level level (with_parts c ys k))
  high_parts level = record {
    pc = ap (λ (v : ℕ). v + 0x100 + 0x40 * level) vector;
    special = set_same m (slice_set c.special (176 + level) c.pc) (slice_set ys (176 + level) c.pc) (192 + level) (ps_word c.ps) (set_same m c.special ys (176 + level) c.pc s);
    ps = refl;
    threadptr = t;
    waits = refl;
  }

  interrupt_parts : (level : ℕ) → Controls m pointer (after_interrupt level c) (after_interrupt level (with_parts c ys k))
  unfolding after_interrupt
  interrupt_parts level = by_test (eqb level 1)
    where
      d : Control
      d = with_parts c ys k

      woken : (x y : Control) → Controls m pointer x y → Controls m pointer (record x { waits = false }) (record y { waits = false })
      woken x y h = record { pc = h.pc; special = h.special; ps = h.ps; threadptr = h.threadptr; waits = refl }

      by_test : (b : Bool) → Controls m pointer (record (cond b (after_exception 4 None c) (after_high_level level c)) { waits = false }) (record (cond b (after_exception 4 None d) (after_high_level level d)) { waits = false })
      by_test true = woken (after_exception 4 None c) (after_exception 4 None d) (exception_parts 4 None)
      by_test false = woken (after_high_level level c) (after_high_level level d) (high_parts level)

  window_parts : (base number : ℕ) → Controls m pointer (after_window_exception base number c) (after_window_exception base number (with_parts c ys k))
  window_parts base number = record { pc = ap (λ (v : ℕ). v + 0x40 * number) vector; special = set_same m c.special ys 177 c.pc s; ps = refl; threadptr = t; waits = refl }

  -- ---- flows

  flow_parts : (flow : Flow) (len : ℕ) → Controls m pointer (after_flow flow len c) (after_flow flow len (with_parts c ys k))
  flow_parts (Goes target) len = record { pc = refl; special = s; ps = refl; threadptr = t; waits = refl }
  flow_parts Falls len = subst (λ (b : Bool). Controls m pointer (after_flow Falls len c) (choice b d)) same (by_test (test c))
    where
      d : Control
      d = with_parts c ys k

      next : ℕ
      next = (c.pc + len) % 2 ^ 32

      count : special_of c 2 ≡ slice_index ys 2
      count = (s.same 2).whole known.lcount

      test : Control → Bool
      test x = loops_back (special_of x 1) (special_of x 2) c.ps.excm next

      choice : Bool → Control → Control
      choice b x = cond b (record x { pc = special_of x 0; special = slice_set x.special 2 (special_of x 2 - 1) }) (record x { pc = next })

      same : test c ≡ test d
      same = λ i. loops_back ((s.same 1).whole known.lend i) (count i) c.ps.excm next

      by_test : (b : Bool) → Controls m pointer (choice b c) (choice b d)
      by_test true = record {
        pc = (s.same 0).whole known.lbeg;
        special = set_alike m c.special ys 2 (special_of c 2 - 1) (slice_index ys 2 - 1) s (like_same (m 2) (special_of c 2 - 1) (slice_index ys 2 - 1) (ap (λ (v : ℕ). v - 1) count));
        ps = refl;
        threadptr = t;
        waits = refl;
      }
      by_test false = record { pc = refl; special = s; ps = refl; threadptr = t; waits = refl }

-- the same over any two control states that agree
module _ (m : ℕ → ℕ) (pointer : ℕ) (known : Commons m) (c d : Control) (h : Controls m pointer c d) where
  pub exception_agrees : (cause : ℕ) (address : Option ℕ) → Controls m pointer (after_exception cause address c) (after_exception cause address d)
  exception_agrees cause address =
      subst (λ (x : Control). Controls m pointer (after_exception cause address c) (after_exception cause address x)) (as_parts m pointer c d h) (exception_parts m pointer known c d.special d.threadptr h.special h.threadptr cause address)

  pub interrupt_agrees : (level : ℕ) → Controls m pointer (after_interrupt level c) (after_interrupt level d)
  interrupt_agrees level = subst (λ (x : Control). Controls m pointer (after_interrupt level c) (after_interrupt level x)) (as_parts m pointer c d h) (interrupt_parts m pointer known c d.special d.threadptr h.special h.threadptr level)

  pub window_agrees : (base number : ℕ) → Controls m pointer (after_window_exception base number c) (after_window_exception base number d)
  window_agrees base number =
      subst (λ (x : Control). Controls m pointer (after_window_exception base number c) (after_window_exception base number x)) (as_parts m pointer c d h) (window_parts m pointer known c d.special d.threadptr h.special h.threadptr base number)

  pub flow_agrees : (flow : Flow) (len : ℕ) → Controls m pointer (after_flow flow len c) (after_flow flow len d)
  flow_agrees flow len = subst (λ (x : Control). Controls m pointer (after_flow flow len c) (after_flow flow len x)) (as_parts m pointer c d h) (flow_parts m pointer known c d.special d.threadptr h.special h.threadptr flow len)

-- ---- effects

pub record Effects (m : ℕ → ℕ) (pointer : ℕ) (xs ys : List ℕ) (a b : Effect) : Type 0 where
  pub sets : Specials m (with_sets a.sets xs) (with_sets b.sets ys)
  pub ps : a.ps ≡ b.ps
  pub threadptr : AgreeIn pointer a.threadptr b.threadptr
  pub flow : a.flow ≡ b.flow
  pub waits : a.waits ≡ b.waits

pub effect_agrees : (m : ℕ → ℕ) (pointer : ℕ) → Commons m → (a b : Effect) (len : ℕ) (c d : Control) → c.pc ≡ d.pc → Effects m pointer c.special d.special a b
    → Controls m pointer (after_effect a len c) (after_effect b len d)
unfolding after_effect
effect_agrees m pointer known a b len c d pc h =
    subst (λ (f : Flow). Controls m pointer (after_flow a.flow len x) (after_flow f len y)) h.flow
    (flow_agrees m pointer known x y (record { pc = pc; special = h.sets; ps = h.ps; threadptr = h.threadptr; waits = h.waits }) a.flow len)
  where
    x : Control
    x = record { pc = c.pc; special = with_sets a.sets c.special; ps = a.ps; threadptr = a.threadptr; waits = a.waits }

    y : Control
    y = record { pc = d.pc; special = with_sets b.sets d.special; ps = b.ps; threadptr = b.threadptr; waits = b.waits }
