-- A state without time has the shape of a state.
use Rattle.std.proofs.Common.{◌≢◌, ℕ, ◌-◌, ◌^◌, List, slice_index, slice_set, arith}
use Rattle.std.proofs.lemmas.Nat.{and_le_l}
use Rattle.xt_special.specs.Access.{without_bits}
use Rattle.xt_rows.specs.RowLaws.{IsWord}
use Rattle.xt_exec.specs.TurnLaws.{IsShaped}
use Rattle.xt_exec.specs.State.{State}
use Rattle.xt_exec.proofs.Specials.{IsShapedSpecial, set_shaped}
use Rattle.xt_timeless.specs.Time.{special_without_time, timer_bits, without_time}

put : (xs : List ℕ) (k v : ℕ) → k ≢ 3 → k ≢ 231 → IsWord v → IsShapedSpecial xs → IsShapedSpecial (slice_set xs k v)
put xs k v p q small f = set_shaped xs k v (record { as_sar = λ e. absurd (p e); as_vecbase = λ e. absurd (q e) }) small f

fewer_bits : (v : ℕ) → IsWord v → IsWord (without_bits v timer_bits)
unfolding without_bits
fewer_bits v small = omega (arith, and_le_l v (2 ^ 32 - 1 - timer_bits))

special_shaped : (xs : List ℕ) → IsShapedSpecial xs → IsShapedSpecial (special_without_time xs)
special_shaped xs f =
    let a = slice_set xs 234 0 in
    let b = slice_set a 240 0 in
    let c = slice_set b 241 0 in
    let d = slice_set c 242 0 in
    put d 226 (without_bits (slice_index xs 226) timer_bits) (λ e. omega arith) (λ e. omega arith) (fewer_bits (slice_index xs 226) (f.words 226))
    (put c 242 0 (λ e. omega arith) (λ e. omega arith) (omega arith)
    (put b 241 0 (λ e. omega arith) (λ e. omega arith) (omega arith)
    (put a 240 0 (λ e. omega arith) (λ e. omega arith) (omega arith) (put xs 234 0 (λ e. omega arith) (λ e. omega arith) (omega arith) f))))

pub cleared_shaped : (s : State) → IsShaped s → IsShaped (without_time s)
cleared_shaped s f =
    let special = special_shaped s.control.special (record { count = f.control.count; words = f.control.words; shape = f.control.shape }) in
    record {
      count = f.count;
      words = f.words;
      base = f.base;
      start = f.start;
      control = record {
        pc = f.control.pc;
        count = special.count;
        words = special.words;
        shape = special.shape;
        ps = f.control.ps;
        threadptr = f.control.threadptr;
      };
    }
