-- What a search forgets: what it knew before still agrees where less is known.
use Rattle.std.proofs.Common.{◌≡◌, ℕ, ◌+◌, ◌-◌, ◌*◌, ◌/◌, ◌%◌, ◌^◌, ◌<◌, Bool, true, false, cond, eqb}
use Rattle.std.proofs.Common.{◌≢◌, List, length, Some, refl, sym, ap, ◌∙◌, subst, ⊎_elim, arith}
use Rattle.std.specs.Prelude.{slice_index, slice_index_or, slice_set}
use Rattle.std.proofs.lemmas.Bool.{cases_Bool, cases_eq, eqb-true, true≢false}
use Rattle.std.proofs.lemmas.Bool.Decides.{nat_tests}
use Rattle.std.proofs.lemmas.List.{get_or-set_other, get_or-set_same}
use Rattle.xt_special.specs.Control.{special_of}
use Rattle.xt_rows.specs.RowLaws.{IsWord}
use Rattle.xt_exec.specs.State.{State}
use Rattle.xt_exec.specs.TurnLaws.{IsShaped}
use Rattle.xt_uses.specs.Words.{all_bits}
use Rattle.xt_simulation.specs.Knowledge.{AreMasks, Knowledge, StatesAgree, is_apart}
use Rattle.xt_moments.specs.MomentLaws.{IsMomentKnown, is_clock, may_be_lost}
use Rattle.xt_map.specs.declared.access.Access.{Access}
use Rattle.xt_map.specs.declared.access.Kind.TheVariants.{Store}
use Rattle.xt_map.specs.declared.contents.MemoryContents.{MemoryContents}
use Rattle.xt_map.specs.Memory.{byte_at, low_bytes, with_bytes}
use Rattle.xt_map.specs.Regions.{is_memory, region_of, uart_status, uart_transmit}
use Rattle.xt_map.specs.Serving.{memory_past, with_sent}
use Rattle.xt_map.specs.Touching.{IsMemory, touches}
use Rattle.xt_map.proofs.Alike.{outside_memory, untouched}
use Rattle.xt_map.proofs.Sent.{sent_of_bytes}
use Rattle.xt_map.proofs.Small.{past_memory}
use Rattle.xt_search.specs.Changed.{contents_of}
use Rattle.xt_uses.specs.FirstUse.{stored_byte}
use Rattle.xt_uses.specs.Words.{masked}
use Rattle.xt_uses.specs.UseLaws.{AgreeIn}
use Rattle.xt_uses.proofs.Agreeing.{agree_none}
use Rattle.xt_use_walk.specs.MaskedBytes.{is_byte}
use Rattle.xt_use_walk.proofs.Places.{byte_large}
use Rattle.xt_simulation.specs.SecretBytes.{MemoriesAgree, mask_stored}
use Rattle.xt_moments.specs.Moments.{MomentCore, with_special}
use Rattle.xt_moment_search.specs.declared.bytes.Bytes.{Bytes}
use Rattle.xt_moment_search.specs.Forgetting.{ForgetsBytes, ForgetsSide}
use Rattle.xt_moment_search.specs.KnownCores.{known_byte, moment_known_of}
use Rattle.xt_moment_search.specs.Sides.{KnownCore}

-- ---- one after the other

pub side_kept : (k : KnownCore) → ForgetsSide k k
side_kept k = record { shaped = λ s. s; known = λ m. m; agree = λ u a. a }

pub sides_forget : (i j k : KnownCore) → ForgetsSide i j → ForgetsSide j k → ForgetsSide i k
sides_forget i j k f g = record {
  shaped = λ s. g.shaped (f.shaped s);
  known = λ m. g.known (f.known m);
  agree = λ u a. g.agree u (f.agree u a);
}

-- ---- a special register

module _ (j k : KnownCore) (n : ℕ) (lost : may_be_lost n ≡ true)
    (state : k.state ≡ with_special n 0 j.state) (shaped : IsShaped k.state)
    (regs : k.masks.regs ≡ j.masks.regs)
    (special : k.masks.special ≡ slice_set j.masks.special n 0)
    (threadptr : k.masks.threadptr ≡ j.masks.threadptr)
    (armed : k.armed ≡ j.armed) (stopped : k.stopped ≡ j.stopped) where
  abbrev old : Knowledge
  old = moment_known_of j.masks

  abbrev new : Knowledge
  new = moment_known_of k.masks

  -- of another one as much is known as before
  other_mask : (q : ℕ) → q ≢ n → new.special q ≡ old.special q
  other_mask q d =
      ap (λ (l : List ℕ). cond (is_clock q) 0 (cond (may_be_lost q) (slice_index_or l q all_bits)
      all_bits)) special
      ∙ ap (λ (x : ℕ). cond (is_clock q) 0 (cond (may_be_lost q) x all_bits))
      (get_or-set_other j.masks.special n q 0 all_bits d)

  -- of this one nothing is, if the list has a mask for it
  this_mask : n < length j.masks.special → new.special n ≡ 0
  this_mask less =
      ap (λ (l : List ℕ). cond (is_clock n) 0 (cond (may_be_lost n) (slice_index_or l n all_bits)
      all_bits)) special
      ∙ ap (λ (x : ℕ). cond (is_clock n) 0 (cond (may_be_lost n) x all_bits))
      (get_or-set_same j.masks.special n 0 all_bits less)
      ∙ ap (λ (b : Bool). cond (is_clock n) 0 (cond b 0 all_bits)) lost
      ∙ none (is_clock n)
    where
      none : (b : Bool) → ◌≡◌ {A = ℕ} (cond b 0 0) 0
      none true = refl
      none false = refl

  module _ (less : n < length j.masks.special) where
    other_than : (q : ℕ) → may_be_lost q ≡ false → q ≢ n
    other_than q f e = true≢false (sym (ap may_be_lost e ∙ lost) ∙ f)

    words : AreMasks old → (q : ℕ) → IsWord (new.special q)
    words m q = ⊎_elim
        (λ (e : q ≡ n). subst (λ x. IsWord (new.special x)) (sym e)
        (subst IsWord (sym (this_mask less)) (omega arith)))
        (λ (d : q ≢ n). subst IsWord (sym (other_mask q d)) (m.special q))
        (cases_eq q n)

    apart : AreMasks old → (q : ℕ) → is_apart q ≡ true → new.special q ≡ all_bits
    apart m q is = other_mask q (λ e. true≢false (sym is ∙ (ap is_apart e ∙ plain n lost)))
        ∙ m.apart q is
      where
        plain : (x : ℕ) → may_be_lost x ≡ true → is_apart x ≡ false
        plain x h = by_test (is_apart x) refl
          where
            by_test : (b : Bool) → is_apart x ≡ b → b ≡ false
            by_test false e = refl
            by_test true e = grind (arith, nat_tests)

    known : IsMomentKnown old → IsMomentKnown new
    known h = record {
      masks = record {
        regs = λ p. subst (λ (l : List ℕ). IsWord (slice_index_or l p all_bits)) (sym regs)
            (h.masks.regs p);
        special = words h.masks;
        threadptr = subst IsWord (sym threadptr) h.masks.threadptr;
        apart = apart h.masks;
      };
      others = λ q kept clock. other_mask q (other_than q kept) ∙ h.others q kept clock;
      ccount = refl;
      ccompare0 = refl;
      ccompare1 = refl;
      ccompare2 = refl;
    }

    agree_special : (u : State) → StatesAgree old j.state u → (q : ℕ)
        → AgreeIn (new.special q) (special_of k.state.control q) (special_of u.control q)
    agree_special u h q = ⊎_elim
        (λ (e : q ≡ n). subst (λ x. AgreeIn (new.special x) (special_of k.state.control x)
        (special_of u.control x)) (sym e)
        (subst (λ mask. AgreeIn mask (special_of k.state.control n) (special_of u.control n))
        (sym (this_mask less))
        (agree_none (special_of k.state.control n) (special_of u.control n))))
        (λ (d : q ≢ n).
        let value : special_of k.state.control q ≡ special_of j.state.control q =
        ap (λ (s : State). special_of s.control q) state
        ∙ get_or-set_other j.state.control.special n q 0 0 d in
        subst (λ mask. AgreeIn mask (special_of k.state.control q) (special_of u.control q))
        (sym (other_mask q d))
        (subst (λ v. AgreeIn (old.special q) v (special_of u.control q)) (sym value)
        (h.special q)))
        (cases_eq q n)

    pub special_forgotten : ForgetsSide j k
    special_forgotten = record {
      shaped = λ s. shaped;
      known = known;
      agree = λ u h. record {
        state = record {
          pc = ap (λ (s : State). s.control.pc) state ∙ h.state.pc;
          base = ap (λ (s : State). s.base) state ∙ h.state.base;
          start = ap (λ (s : State). s.start) state ∙ h.state.start;
          ps = ap (λ (s : State). s.control.ps) state ∙ h.state.ps;
          waits = ap (λ (s : State). s.control.waits) state ∙ h.state.waits;
          regs = λ p.
              let same : slice_index k.state.regs p ≡ slice_index j.state.regs p =
              ap (λ (s : State). slice_index s.regs p) state in
              subst (λ (l : List ℕ). AgreeIn (slice_index_or l p all_bits)
              (slice_index k.state.regs p) (slice_index u.state.regs p)) (sym regs)
              (subst (λ v. AgreeIn (slice_index_or j.masks.regs p all_bits) v
              (slice_index u.state.regs p)) (sym same) (h.state.regs p));
          special = agree_special u.state h.state;
          threadptr =
              let same : k.state.control.threadptr ≡ j.state.control.threadptr =
              ap (λ (s : State). s.control.threadptr) state in
              subst (λ mask. AgreeIn mask k.state.control.threadptr u.state.control.threadptr)
              (sym threadptr)
              (subst (λ v. AgreeIn j.masks.threadptr v u.state.control.threadptr) (sym same)
              h.state.threadptr);
        };
        armed = armed ∙ h.armed;
        stopped = stopped ∙ h.stopped;
      };
    }

-- ---- memory

module _ (opening cleared : MemoryContents) where
  pub bytes_kept : (b : Bytes) → ForgetsBytes opening cleared b b
  bytes_kept b = record { held = λ r. r; hidden = λ r. r; agree = λ m a. a }

  pub bytes_forget : (b c d : Bytes) → ForgetsBytes opening cleared b c
      → ForgetsBytes opening cleared c d → ForgetsBytes opening cleared b d
  bytes_forget b c d f g = record {
    held = λ r. g.held (f.held r);
    hidden = λ r. g.hidden (f.hidden r);
    agree = λ m a. g.agree m (f.agree m a);
  }

  -- ---- a word of memory

  none_stored : (addr a : ℕ) → stored_byte 0 addr a ≡ 0
  none_stored addr a = omega arith

  module _ (b c : Bytes) (word value : ℕ) (here : is_memory (region_of word) ≡ true) where
    abbrev access : Access
    access = record { addr = word; size = 4; kind = Store value }

    not_at : (place : ℕ) → place < 0x3FF80000 → eqb word place ≡ false
    not_at place low = ⊎_elim
        (λ e. let at = eqb-true word place e in let large = byte_large word here in
        absurd (omega (arith, at, large, low)))
        (λ e. e)
        (cases_Bool (eqb word place))

    nothing_sent : (m : MemoryContents) → (memory_past m access).sent ≡ m.sent
    unfolding memory_past
    nothing_sent m = by_tests (eqb word uart_transmit) (eqb word uart_status)
        (not_at uart_transmit (omega arith)) (not_at uart_status (omega arith))
      where
        by_tests : (x y : Bool) → x ≡ false → y ≡ false
            → (cond x (with_sent m (Store value)) (cond y m
            (with_bytes m word (low_bytes 4 value)))).sent
            ≡ m.sent
        by_tests true y e f = absurd (true≢false e)
        by_tests false true e f = absurd (true≢false f)
        by_tests false false e f = sent_of_bytes m word (low_bytes 4 value)

    pub word_forgotten :
        contents_of opening c.held ≡ memory_past (contents_of opening b.held) access
        → ((a : ℕ) → is_byte a ≡ true → known_byte cleared c.hidden a
        ≡ mask_stored 0 (Some access) (known_byte cleared b.hidden) a)
        → (IsMemory (contents_of cleared b.hidden) → IsMemory (contents_of cleared c.hidden))
        → ForgetsBytes opening cleared b c
    word_forgotten held known hidden = record {
      held = λ r. subst IsMemory (sym held) (past_memory (contents_of opening b.held) access r);
      hidden = hidden;
      agree = λ m h. record {
        bytes = λ a. ⊎_elim
            (λ is. subst (λ (k : ℕ). AgreeIn k (byte_at (contents_of opening c.held) a)
            (byte_at m a)) (sym (known a is)) (touched m h a (touches word 4 a) refl))
            (λ no. ap (masked (known_byte cleared c.hidden a))
            (outside_memory (contents_of opening c.held) a no ∙ sym (outside_memory m a no)))
            (cases_Bool (is_byte a));
        sent = ap (λ (n : MemoryContents). n.sent) held
            ∙ (nothing_sent (contents_of opening b.held) ∙ h.sent);
      };
    }
      where
        touched : (m : MemoryContents)
            → MemoriesAgree (known_byte cleared b.hidden) (contents_of opening b.held) m → (a : ℕ)
            → (t : Bool) → touches word 4 a ≡ t
            → AgreeIn (cond t (stored_byte 0 word a) (known_byte cleared b.hidden a))
            (byte_at (contents_of opening c.held) a) (byte_at m a)
        touched m h a true e = subst (λ (k : ℕ). AgreeIn k (byte_at (contents_of opening c.held) a)
            (byte_at m a)) (sym (none_stored word a))
            (agree_none (byte_at (contents_of opening c.held) a) (byte_at m a))
        touched m h a false e = ap (masked (known_byte cleared b.hidden a))
            (ap (λ (n : MemoryContents). byte_at n a) held
            ∙ untouched (contents_of opening b.held) access a e)
            ∙ h.bytes a
