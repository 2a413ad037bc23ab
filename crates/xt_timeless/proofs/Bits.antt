-- Words without the bits of the timers.
use Rattle.std.proofs.Common.{◌≡◌, ℕ, ◌-◌, ◌/◌, ◌^◌, bit_and, bit_or, refl, sym, ap, ◌∙◌, arith}
use Rattle.std.proofs.lemmas.Nat.{and_comm, and_assoc, and_or_apart, and_shr, or_shr}
use lib.Bits.{and_step, or_step, and_zero_r, or_zero_r}
use lib.Arith.{bin_ind}
use Rattle.xt_special.specs.Access.{without_bits}
use Rattle.xt_timeless.specs.Time.{timer_bits}

pub or_and : (n a m : ℕ) → bit_and (bit_or a m) n ≡ bit_or (bit_and a n) (bit_and m n)
or_and =
    bin_ind (λ (n : ℕ). (a m : ℕ) → bit_and (bit_or a m) n ≡ bit_or (bit_and a n) (bit_and m n))
    (λ a m. and_zero_r (bit_or a m) ∙ sym (λ i. bit_or (and_zero_r a i) (and_zero_r m i)))
    (λ n ih a m.
    let p : bit_and (bit_or a m / 2) (n / 2) ≡ bit_or (bit_and a n / 2) (bit_and m n / 2) =
    ap (λ x. bit_and x (n / 2)) (or_shr a m 1) ∙ ih (a / 2) (m / 2) ∙ sym (λ i. bit_or (and_shr a n 1 i) (and_shr m n 1 i)) in
    omega (arith, and_step (bit_or a m) n, p, or_step (bit_and a n) (bit_and m n), and_step a n, and_step m n, or_step a m))

-- the bits that are left
abbrev rest : ℕ
rest = 2 ^ 32 - 1 - timer_bits

-- a word's bits that a mask leaves, once the same of another word is known
pub or_same : (v w a : ℕ) → without_bits v timer_bits ≡ without_bits w timer_bits → without_bits (bit_or v a) timer_bits ≡ without_bits (bit_or w a) timer_bits
unfolding without_bits
or_same v w a e = or_and rest v a ∙ ap (λ x. bit_or x (bit_and a rest)) e ∙ sym (or_and rest w a)

exchanged : (v k : ℕ) → bit_and (bit_and v k) rest ≡ bit_and (bit_and v rest) k
exchanged v k = and_assoc rest v k ∙ ap (bit_and v) (and_comm k rest) ∙ sym (and_assoc k v rest)

pub without_same : (v w b : ℕ) → without_bits v timer_bits ≡ without_bits w timer_bits → without_bits (without_bits v b) timer_bits ≡ without_bits (without_bits w b) timer_bits
unfolding without_bits
without_same v w b e = exchanged v (2 ^ 32 - 1 - b) ∙ ap (λ x. bit_and x (2 ^ 32 - 1 - b)) e ∙ sym (exchanged w (2 ^ 32 - 1 - b))

-- once they are gone, nothing more goes
pub gone : (v : ℕ) → without_bits (without_bits v timer_bits) timer_bits ≡ without_bits v timer_bits
unfolding without_bits
gone v = and_assoc rest v rest

-- the bit of a timer
pub raised_0 : (v : ℕ) → without_bits (bit_or v (2 ^ 6)) timer_bits ≡ without_bits v timer_bits
unfolding without_bits
raised_0 v = and_or_apart rest v (2 ^ 6) refl

pub raised_1 : (v : ℕ) → without_bits (bit_or v (2 ^ 15)) timer_bits ≡ without_bits v timer_bits
unfolding without_bits
raised_1 v = and_or_apart rest v (2 ^ 15) refl

pub raised_2 : (v : ℕ) → without_bits (bit_or v (2 ^ 16)) timer_bits ≡ without_bits v timer_bits
unfolding without_bits
raised_2 v = and_or_apart rest v (2 ^ 16) refl

-- of what is enabled, where no timer is, a level sees the other bits alone: those in `high` are timers', those in `low` are not
only_low : (e high low : ℕ) → bit_and e timer_bits ≡ 0 → bit_and timer_bits high ≡ high → bit_and e (bit_or low high) ≡ bit_and e low
only_low e high low none timers =
    let gone : bit_and high e ≡ 0 = and_comm high e ∙ ap (bit_and e) (sym timers) ∙ sym (and_assoc high e timer_bits) ∙ ap (λ x. bit_and x high) none ∙ and_comm 0 high ∙ and_zero_r high in
    and_comm e (bit_or low high) ∙ or_and e low high ∙ ap (bit_or (bit_and low e)) gone ∙ or_zero_r (bit_and low e) ∙ and_comm low e

pub same_level : (v w e high low : ℕ) → without_bits v timer_bits ≡ without_bits w timer_bits → bit_and e timer_bits ≡ 0 → bit_and timer_bits high ≡ high → bit_and rest low ≡ low
    → bit_and (bit_and v e) (bit_or low high) ≡ bit_and (bit_and w e) (bit_or low high)
unfolding without_bits
same_level v w e high low same none timers kept = seen v ∙ ap (λ x. bit_and x (bit_and low e)) same ∙ sym (seen w)
  where
    seen : (x : ℕ) → bit_and (bit_and x e) (bit_or low high) ≡ bit_and (bit_and x rest) (bit_and low e)
    seen x =
        and_assoc (bit_or low high) x e ∙ ap (bit_and x) (only_low e high low none timers ∙ and_comm e low ∙ ap (λ l. bit_and l e) (sym kept) ∙ and_assoc e rest low)
        ∙ sym (and_assoc (bit_and low e) x rest)
