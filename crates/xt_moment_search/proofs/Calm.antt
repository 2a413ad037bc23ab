-- Before the turn of a core or after it: when an armed timer may fire.
use Rattle.std.proofs.Common.{◌≡◌, ℕ, zero, suc, ◌<◌, Bool, true, false, not, eqb, bit_and, bit_or}
use Rattle.std.proofs.Common.{refl, sym, ap, ◌∙◌, subst, arith}
use Rattle.std.proofs.lemmas.Bool.{true≢false}
use Rattle.xt_map.specs.Fetching.{fetch_at}
use Rattle.xt_special.specs.Access.{timer_bit, without_bits}
use Rattle.xt_special.specs.Control.{special_of}
use Rattle.xt_special.specs.Interrupts.{pending_of}
use Rattle.xt_timeless.specs.Time.{fetches_time}
use Rattle.xt_moments.specs.Awaiting.{bit_of}
use Rattle.xt_moments.specs.Forcing.{IsCalm}
use Rattle.xt_moments.specs.Moments.{MomentCore, armed_by_fetched, is_armed, with_special}

one_bit : (t timer : ℕ) → t < 3 → timer < 3 → not (eqb (bit_and (bit_of t) (bit_of timer)) 0) ≡ true
    → timer ≡ t
unfolding timer_bit
one_bit zero zero a b on = refl
one_bit (suc zero) (suc zero) a b on = refl
one_bit (suc (suc zero)) (suc (suc zero)) a b on = refl
one_bit zero (suc zero) a b on = absurd (true≢false (sym on))
one_bit zero (suc (suc zero)) a b on = absurd (true≢false (sym on))
one_bit (suc zero) zero a b on = absurd (true≢false (sym on))
one_bit (suc zero) (suc (suc zero)) a b on = absurd (true≢false (sym on))
one_bit (suc (suc zero)) zero a b on = absurd (true≢false (sym on))
one_bit (suc (suc zero)) (suc zero) a b on = absurd (true≢false (sym on))
one_bit (suc (suc (suc n))) timer a b on = absurd (omega (arith, a))
one_bit t (suc (suc (suc n))) a b on = absurd (omega (arith, b))

none_left : (t : ℕ) → t < 3 → without_bits (bit_of t) (bit_of t) ≡ 0
unfolding timer_bit without_bits
none_left zero a = refl
none_left (suc zero) a = refl
none_left (suc (suc zero)) a = refl
none_left (suc (suc (suc n))) a = absurd (omega (arith, a))

-- no timer is armed
none_of : (t : ℕ) → t < 3 → not (eqb (bit_and 0 (bit_of t)) 0) ≡ false
unfolding timer_bit
none_of zero a = refl
none_of (suc zero) a = refl
none_of (suc (suc zero)) a = refl
none_of (suc (suc (suc n))) a = absurd (omega (arith, a))

pub calm_unarmed : (code : ℕ → ℕ) (k : MomentCore) → k.armed ≡ 0 → IsCalm code k
calm_unarmed code k none timer few on =
    absurd (true≢false (sym on ∙ (ap (λ (a : ℕ). not (eqb (bit_and a (bit_of timer)) 0)) none
    ∙ none_of timer few)))

-- one timer is
pub calm_armed : (code : ℕ → ℕ) (k : MomentCore) (t : ℕ) → t < 3 → k.armed ≡ bit_of t
    → pending_of (with_special 226 (bit_or (special_of k.state.control 226) k.armed) k.state).control
    ≡ pending_of k.state.control
    → fetches_time (fetch_at code k.state.control.pc) ≡ false
    → armed_by_fetched (fetch_at code k.state.control.pc) ≡ 0
    → IsCalm code k
calm_armed code k t less one deaf free arms timer few on =
    let is : timer ≡ t = one_bit t timer less few
    (ap (λ (a : ℕ). not (eqb (bit_and a (bit_of timer)) 0)) (sym one) ∙ on) in
    let bit : k.armed ≡ bit_of timer = one ∙ sym (ap (λ (n : ℕ). bit_of n) is) in (
      record {
        few = few;
        armed = on;
        pending = subst (λ (b : ℕ). pending_of (with_special 226 (bit_or
            (special_of k.state.control 226) b) k.state).control ≡ pending_of k.state.control) bit
            deaf;
        free = free;
        arms_none = arms;
      },
      ap (λ (a : ℕ). without_bits a (bit_of timer)) bit ∙ none_left timer few,
    )
