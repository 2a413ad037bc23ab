-- A walk through a block for the call through a register.
use Rattle.std.proofs.Common.{◌≡◌, ℕ, suc, ◌+◌, ◌-◌, ◌<◌, ◌≤◌, Bool, true, false, List, sym, ap, ◌∙◌, arith}
use Rattle.xt_map.specs.declared.segment.Segment.{Segment}
use Rattle.xt_flow.specs.declared.calls.Fate.{Fate}
use Rattle.xt_flow.specs.declared.calls.Fate.TheVariants.{Goes, Ends, Stays}
use Rattle.xt_flow.specs.Following.{fate_at, is_called, is_called_by}

-- one instruction
one_more : (n k : ℕ) (segments : List Segment) (r a : ℕ) (f : Fate) → k < n → f ≡ fate_at segments r a
    → is_called (n - k) segments r a ≡ is_called_by f (is_called (n - (k + 1)) segments r)
one_more n k segments r a f lt is =
    let e : n - k ≡ suc (n - (k + 1)) = omega (arith, lt) in
    ap (λ m. is_called m segments r a) e ∙ ap (λ x. is_called_by x (is_called (n - (k + 1)) segments r)) (sym is)

pub found : (n k : ℕ) (segments : List Segment) (r a : ℕ) (f : Fate) (whole : Bool) → k < n → f ≡ fate_at segments r a → f ≡ Goes
    → is_called (n - k) segments r a ≡ whole → true ≡ whole
found n k segments r a f whole lt is goes so_far =
    ap (λ x. is_called_by x (is_called (n - (k + 1)) segments r)) (sym goes) ∙ sym (one_more n k segments r a f lt is) ∙ so_far

pub lost : (n k : ℕ) (segments : List Segment) (r a : ℕ) (f : Fate) (whole : Bool) → k < n → f ≡ fate_at segments r a → f ≡ Ends
    → is_called (n - k) segments r a ≡ whole → false ≡ whole
lost n k segments r a f whole lt is ends so_far =
    ap (λ x. is_called_by x (is_called (n - (k + 1)) segments r)) (sym ends) ∙ sym (one_more n k segments r a f lt is) ∙ so_far

pub goes_on : (n k : ℕ) (segments : List Segment) (r a next : ℕ) (f : Fate) (whole : Bool) → k < n → f ≡ fate_at segments r a → f ≡ Stays next
    → is_called (n - k) segments r a ≡ whole → is_called (n - (k + 1)) segments r next ≡ whole
goes_on n k segments r a next f whole lt is stays so_far =
    ap (λ x. is_called_by x (is_called (n - (k + 1)) segments r)) (sym stays) ∙ sym (one_more n k segments r a f lt is) ∙ so_far

-- so many instructions were looked at
pub past : (n k : ℕ) (segments : List Segment) (r a : ℕ) (whole : Bool) → n ≤ k → is_called (n - k) segments r a ≡ whole → false ≡ whole
past n k segments r a whole le so_far = let e : n - k ≡ 0 = omega (arith, le) in sym (ap (λ m. is_called m segments r a) e) ∙ so_far
