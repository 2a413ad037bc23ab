-- What a tick, an exception and an interrupt keep of the special registers.
use Rattle.std.proofs.Common.{◌≡◌, ℕ, ◌+◌, ◌%◌, ◌^◌, ◌≤◌, ◌≢◌, Bool, true, false, eqb, List, None, ◌∙◌, refl, arith, length, get_or, cond, bit_or}
use Rattle.std.proofs.Math.ListN.{set}
use Rattle.std.proofs.lemmas.List.{get_or-set_other, length-set}
use Rattle.xt_special.specs.Numbers as number
use Rattle.xt_special.specs.Control.{Control, special_of}
use Rattle.xt_special.specs.Timers.{with_timer, ticked_special, after_tick}
use Rattle.xt_special.specs.Exceptions.{after_exception, after_double, after_general}
use Rattle.xt_special.specs.Interrupts.{after_interrupt, after_high_level, interrupt_cause}

-- ---- a tick changes CCOUNT and INTERRUPT alone
timer_other : (xs : List ℕ) (timer mask k : ℕ) → k ≢ 226 → get_or (with_timer timer mask xs) k 0 ≡ get_or xs k 0
timer_other xs timer mask k other =
    elim (eqb (get_or xs (number.ccompare timer) 0) (get_or xs 234 0)) as (λ b. get_or (cond b (set xs 226 (bit_or (get_or xs 226 0) mask)) xs) k 0 ≡ get_or xs k 0)
    [ true ↦ get_or-set_other xs 226 k (bit_or (get_or xs 226 0) mask) 0 other | false ↦ refl ]

timer_length : (xs : List ℕ) (timer mask : ℕ) → length (with_timer timer mask xs) ≡ length xs
timer_length xs timer mask =
    elim (eqb (get_or xs (number.ccompare timer) 0) (get_or xs 234 0)) as (λ b. length (cond b (set xs 226 (bit_or (get_or xs 226 0) mask)) xs) ≡ length xs)
    [ true ↦ length-set xs 226 (bit_or (get_or xs 226 0) mask) | false ↦ refl ]

abbrev pub counted : List ℕ → List ℕ
counted xs = set xs 234 ((get_or xs 234 0 + 1) % 2 ^ 32)

pub ticked_other : (xs : List ℕ) (k : ℕ) → k ≢ 226 → k ≢ 234 → get_or (ticked_special xs) k 0 ≡ get_or xs k 0
unfolding ticked_special
ticked_other xs k a b =
    timer_other (with_timer 1 (2 ^ 15) (with_timer 0 (2 ^ 6) (counted xs))) 2 (2 ^ 16) k a
    ∙ (timer_other (with_timer 0 (2 ^ 6) (counted xs)) 1 (2 ^ 15) k a
    ∙ (timer_other (counted xs) 0 (2 ^ 6) k a ∙ get_or-set_other xs 234 k ((get_or xs 234 0 + 1) % 2 ^ 32) 0 b))

pub ticked_length : (xs : List ℕ) → length (ticked_special xs) ≡ length xs
unfolding ticked_special
ticked_length xs =
    timer_length (with_timer 1 (2 ^ 15) (with_timer 0 (2 ^ 6) (counted xs))) 2 (2 ^ 16)
    ∙ (timer_length (with_timer 0 (2 ^ 6) (counted xs)) 1 (2 ^ 15)
    ∙ (timer_length (counted xs) 0 (2 ^ 6) ∙ length-set xs 234 ((get_or xs 234 0 + 1) % 2 ^ 32)))

-- ---- an interrupt keeps PS.WOE and VECBASE
abbrev pub Kept : Control → Control → Type 0
Kept c d = (d.ps.woe ≡ c.ps.woe) × (special_of d number.vecbase ≡ special_of c number.vecbase)

if_kept : (c : Control) (b : Bool) (x y : Control) → Kept c x → Kept c y → Kept c (cond b x y)
if_kept c true x y p q = p
if_kept c false x y p q = q

two_others : (xs : List ℕ) (j k v w : ℕ) → 231 ≢ j → 231 ≢ k → get_or (set (set xs j v) k w) 231 0 ≡ get_or xs 231 0
two_others xs j k v w a b = get_or-set_other (set xs j v) k 231 w 0 b ∙ get_or-set_other xs j 231 v 0 a

exception_kept : (cause : ℕ) (c : Control) → Kept c (after_exception cause None c)
unfolding after_exception
exception_kept cause c = if_kept c c.ps.excm (after_double cause None c) (after_general cause None c)
    (refl, two_others c.special 192 232 c.pc cause (λ e. omega arith) (λ e. omega arith))
    (refl, two_others c.special 177 232 c.pc cause (λ e. omega arith) (λ e. omega arith))

pub interrupt_kept : (level : ℕ) (c : Control) → level ≤ 5 → Kept c (after_interrupt level c)
unfolding after_interrupt
interrupt_kept level c small = awake_kept (cond (eqb level 1) (after_exception interrupt_cause None c) (after_high_level level c)) (if_kept c (eqb level 1) (after_exception interrupt_cause None c) (after_high_level level c)
    (exception_kept interrupt_cause c)
    (refl, two_others c.special (176 + level) (192 + level) c.pc _ (λ e. omega arith) (λ e. omega arith)))
  where
    awake_kept : (d : Control) → Kept c d → Kept c (record d { waits = false })
    awake_kept d k = k

pub tick_kept : (c d : Control) → Kept c d → Kept c (after_tick d)
tick_kept c d k = (k.0, ticked_other d.special 231 (λ e. omega arith) (λ e. omega arith) ∙ k.1)
