-- What comes of a row is proper: accesses that the bus serves, registers that there are, words.
use Rattle.std.proofs.Common.{◌≡◌, ℕ, ℤ, ◌*◌, ◌/◌, ◌%◌, ◌^◌, ◌<◌, ◌≤◌, Bool, true, false, cond, eqb, refl, sym, arith, leb-true, ◌≢◌, subst, bit_and, bit_or}
use Rattle.std.proofs.lemmas.Bool.{and_parts}
use Rattle.xt_isa.specs.declared.Insn.{Insn}
use Rattle.xt_isa.specs.declared.Insn.TheVariants as insn
use Rattle.xt_isa.specs.declared.memory.Memory.TheVariants as memory
use Rattle.xt_special.specs.declared.ps.Ps.{Ps}
use Rattle.xt_special.specs.Control.{ps_word, ps_of}
use Rattle.xt_special.specs.Access.{value_read, value_kept, changed_by, ps_written, timer_bit, without_bits, is_ccompare, software_bits, written_by, set_to, no_set, no_sets}
use Rattle.xt_special.specs.Shape.{IsPs, CanHold, IsProperSet, AreProperSets}
use Rattle.xt_map.specs.Code.{AreBytes, code_number}
use Rattle.xt_rows.specs.declared.outcome.Flow.TheVariants.{Falls, Goes}
use Rattle.xt_isa.specs.Ranges.{in_range}
use Rattle.xt_rows.specs.Numbers.{natural, loaded_value, return_address, branch_target, address_behind}
use Rattle.xt_rows.specs.Operands.{highest_register}
use Rattle.xt_rows.specs.Outcomes.{outcome}
use Rattle.xt_rows.specs.RowLaws.{IsWord, IsProperFlow, IsProper, IsGiven, IsAny}
use Rattle.xt_rows.proofs.Bounds.{IsSize, and_small, or_small, plus_small, minus_small, linked_small, extended_small, code_number_small, ps_word_small, ps_of_proper, value_read_small}
use Rattle.xt_rows.proofs.Forms.{Form, Puts, PutsLoaded, Jumps, Calls, CallsWindow, Loops, SetsRegister, PutsSpecial, WritesSpecial, ExchangesSpecial, PutsPointer, SetsPointer, EndsException, EndsInterrupt, SetsLevel, Waits, Nothing, Refuses, Halts, MovesWindow, AsksLoad, AsksStore, AsksSwap, Makes, given, below, at_most, holds_any, rows_have_forms}
use Rattle.xt_rows.proofs.Registers.{names_registers}

-- W is what holds of a value that is written: of each word, and of what is loaded.

abbrev Weak : (ℕ → Type 0) → Type 0
Weak W = (n : ℕ) → n < 2 ^ 32 → W n

abbrev Loaded : (ℕ → Type 0) → (ℕ → ℕ) → Type 0
Loaded W code = (signed : Bool) (a size : ℕ) → IsSize size → W (loaded_value signed (code_number code a size))

-- ---- special registers

ps_written_proper : (n x : ℕ) (ps : Ps) → IsPs ps → IsPs (ps_written n x ps)
ps_written_proper n x ps f = by_test (eqb n 230)
  where
    by_test : (b : Bool) → IsPs (cond b (ps_of x) ps)
    by_test true = ps_of_proper x
    by_test false = f

without_small : (word bits : ℕ) → word < 2 ^ 32 → without_bits word bits < 2 ^ 32
unfolding without_bits
without_small word bits p = and_small word _ p

kept_small : (b1 b2 b3 b4 b5 b6 b7 : Bool) (x v : ℕ) → x < 2 ^ 32 → v < 2 ^ 32
    → cond b1 (x % 2 ^ 6) (cond b2 (x % 2 ^ 16) (cond b3 (x / 2 ^ 10 * 2 ^ 10) (cond b4 (bit_and x 0x200180C0) (cond b5 (ps_word (ps_of x))
    (cond b6 (bit_or v (bit_and x software_bits)) (cond b7 (without_bits v (bit_and x software_bits)) x)))))) < 2 ^ 32
kept_small true b2 b3 b4 b5 b6 b7 x v p q = omega arith
kept_small false true b3 b4 b5 b6 b7 x v p q = omega arith
kept_small false false true b4 b5 b6 b7 x v p q = omega arith
kept_small false false false true b5 b6 b7 x v p q = and_small x 0x200180C0 p
kept_small false false false false true b6 b7 x v p q = ps_word_small (ps_of x) (ps_of_proper x)
kept_small false false false false false true b7 x v p q = or_small v (bit_and x software_bits) q (and_small x software_bits p)
kept_small false false false false false false true x v p q = without_small v (bit_and x software_bits) q
kept_small false false false false false false false x v p q = p

value_kept_small : (n x v : ℕ) → x < 2 ^ 32 → v < 2 ^ 32 → value_kept n x v < 2 ^ 32
unfolding value_kept
value_kept_small n x v p q = kept_small _ _ _ _ _ _ _ x v p q

sar_kept : (x v : ℕ) → value_kept 3 x v < 2 ^ 6
unfolding value_kept
sar_kept x v = omega arith

vecbase_kept : (x v : ℕ) → value_kept 231 x v % 2 ^ 10 ≡ 0
unfolding value_kept
vecbase_kept x v = omega arith

-- the register that a write changes is another one only for INTCLEAR
same_register : (n k : ℕ) → k ≢ 226 → changed_by n ≡ k → n ≡ k
same_register n k other e = by_test (eqb n 227) e
  where
    by_test : (b : Bool) → cond b 226 n ≡ k → n ≡ k
    by_test true same = absurd (other (sym same))
    by_test false same = same

kept_proper : (n x v : ℕ) → x < 2 ^ 32 → v < 2 ^ 32 → IsProperSet (set_to (changed_by n) (value_kept n x v))
kept_proper n x v p q = (
  record {
    as_sar = λ e. let P : ℕ → Type 0 = λ k. value_kept k x v < 2 ^ 6 in subst P (sym (same_register n 3 (omega arith) e)) (sar_kept x v);
    as_vecbase = λ e. let P : ℕ → Type 0 = λ k. value_kept k x v % 2 ^ 10 ≡ 0 in subst P (sym (same_register n 231 (omega arith) e)) (vecbase_kept x v);
  },
  value_kept_small n x v p q,
)

compare_holds : (n x : ℕ) → is_ccompare n ≡ true → CanHold n x
compare_holds n x h =
    let both = and_parts _ _ h in
    let low : 240 ≤ n = leb-true 240 n both.0 in
    let high : n ≤ 242 = leb-true n 242 both.1 in
    record { as_sar = λ e. absurd (omega arith); as_vecbase = λ e. absurd (omega arith) }

sets_proper : (n x v : ℕ) → x < 2 ^ 32 → v < 2 ^ 32 → AreProperSets (written_by n x v)
sets_proper n x v p q = by_test (eqb n 230) (is_ccompare n) refl
  where
    by_test : (b c : Bool) → is_ccompare n ≡ c
        → AreProperSets (cond b no_sets (cond c (set_to n x, set_to 226 (without_bits v (timer_bit n)), no_set) (set_to (changed_by n) (value_kept n x v), no_set, no_set)))
    by_test true c h = (tt, tt, tt)
    by_test false true h = ((compare_holds n x h, p), (holds_any 226 _ refl refl, without_small v (timer_bit n) q), tt)
    by_test false false h = (kept_proper n x v p q, tt, tt)

-- ---- the forms
level_fits : (n : ℕ) (ps : Ps) → n ≤ 15 → IsPs ps → IsPs (record ps { intlevel = n })
level_fits n ps h f = record { intlevel_fits = omega arith; ring_fits = f.ring_fits; owb_fits = f.owb_fits; callinc_fits = f.callinc_fits }

module _ (W : ℕ → Type 0) (weak : Weak W) (code : ℕ → ℕ) (loaded : Loaded W code) (pc x y u v : ℕ) where
  register : (i : Insn) (number : ℕ) → number ≤ highest_register i → in_range i ≡ true → number < 16
  register i number n ok = let h = names_registers i ok in omega arith

  passed : (b : Bool) (offset : ℤ) → IsProperFlow (cond b (Goes (branch_target pc offset)) Falls)
  passed true offset = plus_small _ offset
  passed false offset = tt

  form_proper : {i : Insn} {o : Makes} → Form code pc x y u v i o → (ps : Ps) (t : ℕ) → IsGiven i pc x y u v ps t → IsProper W (o ps t)
  unfolding highest_register
  form_proper {i = i} (Puts number value c n w) ps t g = record { write = (register i number n g.range, weak value (w (given g))); sets = (tt, tt, tt); ps = g.fields; threadptr = g.threadptr_word; flow = tt }
  form_proper {i = i} (PutsLoaded size signed number addr l z c n) ps t g = record { write = (register i number n g.range, loaded signed addr size z); sets = (tt, tt, tt); ps = g.fields; threadptr = g.threadptr_word; flow = tt }
  form_proper (Jumps target c w) ps t g = record { write = tt; sets = (tt, tt, tt); ps = g.fields; threadptr = g.threadptr_word; flow = w (given g) }
  form_proper (Calls target c w) ps t g = record { write = (omega arith, weak (address_behind pc) (omega arith)); sets = (tt, tt, tt); ps = g.fields; threadptr = g.threadptr_word; flow = w (given g) }
  form_proper (CallsWindow size target s c n w) ps t g = record {
    write = (omega arith, weak (return_address size pc) (linked_small size pc s));
    sets = (tt, tt, tt);
    ps = record { intlevel_fits = g.fields.intlevel_fits; ring_fits = g.fields.ring_fits; owb_fits = g.fields.owb_fits; callinc_fits = s };
    threadptr = g.threadptr_word;
    flow = w (given g);
  }
  form_proper (Loops passes offset c) ps t g = record {
    write = tt;
    sets = ((holds_any 2 _ refl refl, minus_small x 1), (holds_any 0 _ refl refl, omega arith), (holds_any 1 _ refl refl, plus_small _ offset));
    ps = g.fields;
    threadptr = g.threadptr_word;
    flow = passed passes offset;
  }
  form_proper (SetsRegister number value c k w) ps t g = record { write = tt; sets = (w (given g), tt, tt); ps = g.fields; threadptr = g.threadptr_word; flow = tt }
  form_proper (PutsSpecial {r = r} {n = n}) ps t g = record { write = (below r (and_parts _ _ g.range).0, weak (value_read n u ps) (value_read_small n u ps g.u_word g.fields)); sets = (tt, tt, tt); ps = g.fields; threadptr = g.threadptr_word; flow = tt }
  form_proper (WritesSpecial {n = n}) ps t g = record { write = tt; sets = sets_proper n x v g.x_word g.v_word; ps = ps_written_proper n x ps g.fields; threadptr = g.threadptr_word; flow = tt }
  form_proper (ExchangesSpecial {r = r} {n = n}) ps t g = record {
    write = (below r (and_parts _ _ g.range).0, weak (value_read n u ps) (value_read_small n u ps g.u_word g.fields));
    sets = sets_proper n x v g.x_word g.v_word;
    ps = ps_written_proper n x ps g.fields;
    threadptr = g.threadptr_word;
    flow = tt;
  }
  form_proper (PutsPointer {r = r}) ps t g = record { write = (below r (and_parts _ _ g.range).0, weak t g.threadptr_word); sets = (tt, tt, tt); ps = g.fields; threadptr = g.threadptr_word; flow = tt }
  form_proper SetsPointer ps t g = record { write = tt; sets = (tt, tt, tt); ps = g.fields; threadptr = g.x_word; flow = tt }
  form_proper EndsException ps t g = record {
    write = tt;
    sets = (tt, tt, tt);
    ps = record { intlevel_fits = g.fields.intlevel_fits; ring_fits = g.fields.ring_fits; owb_fits = g.fields.owb_fits; callinc_fits = g.fields.callinc_fits };
    threadptr = g.threadptr_word;
    flow = g.u_word;
  }
  form_proper EndsInterrupt ps t g = record { write = tt; sets = (tt, tt, tt); ps = ps_of_proper v; threadptr = g.threadptr_word; flow = g.u_word }
  form_proper (SetsLevel {r = r} {level = level}) ps t g = record {
    write = (below r (and_parts _ _ g.range).0, weak (ps_word ps) (ps_word_small ps g.fields));
    sets = (tt, tt, tt);
    ps = level_fits (natural level) ps (at_most 0 15 level (and_parts _ _ g.range).1) g.fields;
    threadptr = g.threadptr_word;
    flow = tt;
  }
  form_proper (Waits {level = level}) ps t g = record { write = tt; sets = (tt, tt, tt); ps = level_fits (natural level) ps (at_most 0 15 level (and_parts _ _ g.range).1) g.fields; threadptr = g.threadptr_word; flow = tt }
  form_proper (Nothing c) ps t g = record { write = tt; sets = (tt, tt, tt); ps = g.fields; threadptr = g.threadptr_word; flow = tt }
  form_proper (Refuses cause address k a) ps t g = (k, a)
  form_proper Halts ps t g = tt
  form_proper (MovesWindow step f w) ps t g = w (given g)
  form_proper {i = i} (AsksLoad size signed number addr l c n m) ps t g = (m, register i number n g.range, record { write = tt; sets = (tt, tt, tt); ps = g.fields; threadptr = g.threadptr_word; flow = tt })
  form_proper (AsksStore size offset s c m) ps t g = (m, tt, record { write = tt; sets = (tt, tt, tt); ps = g.fields; threadptr = g.threadptr_word; flow = tt })
  form_proper (AsksSwap {r = r} {s = s} {offset = offset} m) ps t g = (m, register (insn.Memory (memory.S32c1i r s offset)) r (omega arith) g.range, record { write = tt; sets = (tt, tt, tt); ps = g.fields; threadptr = g.threadptr_word; flow = tt })

outcome_proper : (W : ℕ → Type 0) (weak : Weak W) (code : ℕ → ℕ) (i : Insn) (pc x y u v : ℕ) (ps : Ps) (threadptr : ℕ) → Loaded W code → IsGiven i pc x y u v ps threadptr → IsProper W (outcome code i pc x y u v ps threadptr)
outcome_proper W weak code i pc x y u v ps threadptr loaded g = form_proper W weak code loaded pc x y u v (rows_have_forms code pc x y u v i) ps threadptr g

-- what is loaded is a word, where constant memory is of bytes
loaded_word : (code : ℕ → ℕ) → AreBytes code → Loaded IsWord code
loaded_word code bytes signed a size sized = extended_small signed _ (code_number_small code bytes a size sized)

pub outcome_words : (code : ℕ → ℕ) (i : Insn) (pc x y u v : ℕ) (ps : Ps) (threadptr : ℕ) → AreBytes code → IsGiven i pc x y u v ps threadptr
    → IsProper IsWord (outcome code i pc x y u v ps threadptr)
outcome_words code i pc x y u v ps threadptr bytes g = outcome_proper IsWord (λ n h. h) code i pc x y u v ps threadptr (loaded_word code bytes) g

pub outcome_fit : (code : ℕ → ℕ) (i : Insn) (pc x y u v : ℕ) (ps : Ps) (threadptr : ℕ) → IsGiven i pc x y u v ps threadptr
    → IsProper IsAny (outcome code i pc x y u v ps threadptr)
outcome_fit code i pc x y u v ps threadptr g = outcome_proper IsAny (λ n h. tt) code i pc x y u v ps threadptr (λ signed a size sized. tt) g
