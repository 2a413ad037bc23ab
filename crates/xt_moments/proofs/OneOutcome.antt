-- What comes out of an order with moments is the same, whatever CCOUNT is at each turn.
use Rattle.std.proofs.Common.{◌≡◌, ℕ, zero, suc, ◌+◌, ◌^◌, ◌<◌, Bool, true, false, cond, eqb, ◌&&◌, ◌||◌}
use Rattle.std.proofs.Common.{List, [], ◌∷◌, map, refl, sym, ap, ◌∙◌, subst, ⊎_elim, arith}
use Rattle.std.proofs.lemmas.Bool.{cases_lt}
use Rattle.std.proofs.lemmas.Nat.Bits.{bit_at_above, bit_at_ones, same_from_bits}
use Rattle.xt_map.specs.declared.contents.MemoryContents.{MemoryContents}
use Rattle.xt_map.specs.Memory.{byte_at, bytes_at, little_endian}
use Rattle.xt_map.specs.Serving.{number_at}
use Rattle.xt_map.specs.Touching.{IsMemory}
use Rattle.xt_exec.specs.State.{State}
use Rattle.xt_uses.specs.Words.{all_bits}
use Rattle.xt_uses.specs.UseLaws.{AgreeIn}
use Rattle.xt_uses.proofs.Agreeing.{agree_at}
use Rattle.xt_simulation.specs.Knowledge.{StatesAgree, is_apart}
use Rattle.xt_simulation.specs.SecretBytes.{MemoriesAgree}
use Rattle.xt_simulation.proofs.SecretSpecials.{differs, unequal}
use Rattle.xt_moments.specs.Moments.{MomentWorld, opening_world}
use Rattle.xt_moments.specs.Outcomes.{MomentOutcome}
use Rattle.xt_moments.specs.MomentLaws.{IsMomentKnown, is_clock}
use Rattle.xt_moments.specs.WorldLaws.{AreAlike, AreKnown, IsShapedWorld, OutcomesAreOne}
use Rattle.xt_moments.specs.WorldLaws.{opening_known, opening_learned}
use Rattle.xt_moments.proofs.MovedWorlds.{orders_go_on_alike}

-- ---- bytes and words of which each bit is known

byte_equal : (x y : ℕ) → x < 2 ^ 8 → y < 2 ^ 8 → AgreeIn 255 x y → x ≡ y
byte_equal x y p q h =
    same_from_bits x y (λ i. ⊎_elim
    (λ low. agree_at 255 x y i h (bit_at_ones 8 i low))
    (λ high. bit_at_above x 8 i p high ∙ sym (bit_at_above y 8 i q high))
    (cases_lt i 8))

module _ (kb : ℕ → ℕ) (m n : MemoryContents) (f : IsMemory m) (g : IsMemory n)
    (same : MemoriesAgree kb m n) where
  byte_same : (a : ℕ) → kb a ≡ 255 → byte_at m a ≡ byte_at n a
  byte_same a e =
      byte_equal (byte_at m a) (byte_at n a) (f.small a) (g.small a)
      (subst (λ mask. AgreeIn mask (byte_at m a) (byte_at n a)) e (same.bytes a))

  bytes_same : (count a : ℕ) → ((i : ℕ) → i < count → kb (a + i) ≡ 255)
      → bytes_at m a count ≡ bytes_at n a count
  bytes_same zero a known = refl
  bytes_same (suc count) a known =
      let here : a + 0 ≡ a = omega arith in
      let first = byte_same a (ap kb (sym here) ∙ known 0 (omega arith)) in
      let rest = bytes_same count (a + 1) (λ i less.
      let there : a + suc i ≡ a + 1 + i = omega arith in
      let more : suc i < suc count = omega (arith, less) in
      ap kb (sym there) ∙ known (suc i) more) in
      λ j. first j ∷ rest j

  pub words_same : (addresses : List ℕ) → AreKnown kb addresses
      → map (λ a. number_at m a 4) addresses ≡ map (λ a. number_at n a 4) addresses
  words_same [] known = refl
  words_same (a ∷ addresses) known =
      let first = ap little_endian (bytes_same 4 a known.0) in
      let rest = words_same addresses known.1 in
      λ j. first j ∷ rest j

-- ---- as a run opens

clock_mask : (b : Bool) → cond b 0 all_bits < 2 ^ 32
clock_mask true = omega arith
clock_mask false = omega arith

apart_known : (n : ℕ) → is_apart n ≡ true → is_clock n ≡ false
apart_known n apart = λ i. off 234 refl i || (off 240 refl i || (off 241 refl i || off 242 refl i))
  where
    off : (k : ℕ) → is_apart k ≡ false → eqb n k ≡ false
    off k e = unequal n k (differs n k is_apart apart e)

known_at_start : IsMomentKnown opening_known
known_at_start = record {
  masks = record {
    regs = λ n. omega arith;
    special = λ n. clock_mask (is_clock n);
    threadptr = omega arith;
    apart = λ n apart. ap (λ b. cond b 0 all_bits) (apart_known n apart);
  };
  others = λ n unmarked other. ap (λ b. cond b 0 all_bits) other;
  ccount = refl;
  ccompare0 = refl;
  ccompare1 = refl;
  ccompare2 = refl;
}

same_states : (s : State) → StatesAgree opening_known s s
same_states s = record {
  pc = refl;
  base = refl;
  start = refl;
  ps = refl;
  waits = refl;
  regs = λ k. refl;
  special = λ n. refl;
  threadptr = refl;
}

pub alike_at_start : (w : MomentWorld) → IsShapedWorld w → AreAlike opening_learned w w
alike_at_start w f = record {
  shaped = f;
  other = f;
  learned = record { core0 = known_at_start; core1 = known_at_start; bytes = λ a. omega arith };
  agree = record {
    core0 = record { state = same_states w.core0.state; armed = refl; stopped = refl };
    core1 = record { state = same_states w.core1.state; armed = refl; stopped = refl };
    memory = record { bytes = λ a. refl; sent = refl };
  };
}

pub outcomes_are_one : OutcomesAreOne
outcomes_are_one code counts others order o addresses bytes wc wo moves shaped used known =
    let h = orders_go_on_alike code counts others order (opening_world o) (opening_world o)
    opening_learned bytes wc wo moves (alike_at_start (opening_world o) shaped) used in
    let words = words_same _ _ _ h.shaped.memory h.other.memory h.agree.memory addresses known in
    let make : List ℕ → ℕ → ℕ → List ℕ → MomentOutcome =
    λ s a b w. record { sent = s; pc0 = a; pc1 = b; words = w } in (
      λ i. h.agree.core0.stopped i && h.agree.core1.stopped i,
      λ i. make (h.agree.memory.sent i) (h.agree.core0.state.pc i) (h.agree.core1.state.pc i)
          (words i),
    )
