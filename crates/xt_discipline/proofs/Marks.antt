-- One byte more.
use Rattle.std.proofs.Common.{◌≡◌, ℕ, zero, suc, ◌+◌, ◌-◌, ◌<◌, ◌≤◌, Bool, true, false, ◌||◌, ◌&&◌, leb, ltb, cond, List, length, refl, sym, ◌∙◌, ap, arith}
use Rattle.std.proofs.lemmas.Bool.{true≢false}
use Rattle.std.proofs.lemmas.Bool.Decides.{nat_tests}
use Rattle.xt_map.specs.Touching.{touches}
use Rattle.xt_discipline.specs.declared.bytes.Held.{Held}
use Rattle.xt_discipline.specs.declared.bytes.Change.{Change}
use Rattle.xt_frames.specs.Breaches.{some_byte}
use Rattle.xt_discipline.specs.ByteMarks.{first, IsChanged, byte_after_change, held_at, is_marked, is_held, either, Agrees}

touches_more : (from k a : ℕ) → touches from (k + 1) a ≡ (touches from k a || touches (from + k) 1 a)
touches_more from k a = grind (arith, nat_tests)

touches_apart : (from k a : ℕ) → touches from k a ≡ true → touches (from + k) 1 a ≡ false
touches_apart from k a h = grind (arith, nat_tests)

pub touches_none : (from a : ℕ) → touches from 0 a ≡ false
touches_none from a = grind (arith, nat_tests)

pick : (t u b : Bool) (f : Held → Held) (x y z : Held) → (t ≡ true → u ≡ false) → y ≡ cond (t && b) (f x) x → z ≡ cond (u && b) (f y) y → z ≡ cond ((t || u) && b) (f x) x
pick true true b f x y z apart p q = absurd (true≢false (apart refl))
pick true false true f x y z apart p q = q ∙ p
pick true false false f x y z apart p q = q ∙ p
pick false true true f x y z apart p q = q ∙ ap f p
pick false true false f x y z apart p q = q ∙ p
pick false false true f x y z apart p q = q ∙ p
pick false false false f x y z apart p q = q ∙ p

pub one_more : (change : Change) (from k : ℕ) (old m new : List Held) → length m ≡ length old → IsChanged change from k old m → IsChanged change (from + k) 1 m new → IsChanged change from (k + 1) old new
one_more change from k old m new len h g a =
    let same : is_marked m a ≡ is_marked old a = ap (λ (n : ℕ). leb first a && ltb a (first + n)) len in
    let q : held_at new a ≡ cond (touches (from + k) 1 a && is_marked old a) (byte_after_change change (held_at m a)) (held_at m a) =
    g a ∙ ap (λ (b : Bool). cond (touches (from + k) 1 a && b) (byte_after_change change (held_at m a)) (held_at m a)) same in
    pick (touches from k a) (touches (from + k) 1 a) (is_marked old a) (byte_after_change change) (held_at old a) (held_at m a) (held_at new a) (touches_apart from k a) (h a) q
    ∙ sym (ap (λ (b : Bool). cond (b && is_marked old a) (byte_after_change change (held_at old a)) (held_at old a)) (touches_more from k a))

pub none_changed : (change : Change) (from : ℕ) (old : List Held) → IsChanged change from 0 old old
none_changed change from old a = sym (ap (λ (b : Bool). cond (b && is_marked old a) (byte_after_change change (held_at old a)) (held_at old a)) (touches_none from a))

-- ---- some byte
pub some_same : (f g : ℕ → Bool) → ((a : ℕ) → f a ≡ g a) → (addr n : ℕ) → some_byte f addr n ≡ some_byte g addr n
some_same f g h addr zero = refl
some_same f g h addr (suc n) = ap (λ (b : Bool). b || some_byte f (addr + 1) n) (h addr) ∙ ap (λ (b : Bool). g addr || b) (some_same f g h (addr + 1) n)

-- at the byte after the first k
pub some_at : (f : ℕ → Bool) (addr size k : ℕ) → k < size → some_byte f (addr + k) (size - k) ≡ (f (addr + k) || some_byte f (addr + (k + 1)) (size - (k + 1)))
some_at f addr size k h =
    let e : size - k ≡ suc (size - (k + 1)) = omega arith in
    let n : (addr + k) + 1 ≡ addr + (k + 1) = omega arith in
    ap (some_byte f (addr + k)) e ∙ ap (λ (b : ℕ). f (addr + k) || some_byte f b (size - (k + 1))) n

pub some_end : (f : ℕ → Bool) (addr size k : ℕ) → size ≤ k → some_byte f (addr + k) (size - k) ≡ false
some_end f addr size k h = let e : size - k ≡ 0 = omega arith in ap (some_byte f (addr + k)) e

pub live_same : (marks : List Held) (live0 live1 stale : ℕ → Bool) → Agrees marks live0 live1 stale → (addr n : ℕ) → some_byte (λ a. is_held (held_at marks a)) addr n ≡ some_byte (either live0 live1) addr n
live_same marks live0 live1 stale k addr n =
    some_same (λ a. is_held (held_at marks a)) (either live0 live1)
    (λ a. ap (λ (b : Bool). b || (held_at marks a).live1) (k.first_core a) ∙ ap (λ (b : Bool). live0 a || b) (k.second_core a)) addr n

pub stale_same : (marks : List Held) (live0 live1 stale : ℕ → Bool) → Agrees marks live0 live1 stale → (addr n : ℕ) → some_byte (λ a. (held_at marks a).stale) addr n ≡ some_byte stale addr n
stale_same marks live0 live1 stale k addr n = some_same (λ a. (held_at marks a).stale) stale (λ a. k.no_longer a) addr n
