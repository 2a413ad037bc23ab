-- What is known after a turn where nothing is known of the clocks.
use Rattle.std.proofs.Common.{◌≡◌, ◌≢◌, ℕ, ◌<◌, Bool, true, false, cond, eqb, ◌||◌, Option, Some, None}
use Rattle.std.proofs.Common.{List, length, refl, sym, ap, ◌∙◌, subst, ⊎_elim, arith}
use Rattle.std.specs.Prelude.{slice_index_or, slice_set}
use Rattle.std.proofs.lemmas.List.{get_or-set_other, get_or-set_same}
use Rattle.std.proofs.lemmas.Bool.{cases_eq, cond-false, eqb-true, or_cases, true≢false}
use Rattle.xt_isa.specs.declared.Insn.{Insn}
use Rattle.xt_isa.specs.declared.Insn.TheVariants as insn
use Rattle.xt_isa.specs.declared.system.System.TheVariants as system
use Rattle.xt_isa.specs.declared.system.SpecialName.TheVariants as SpecialName
use Rattle.xt_isa.specs.Ranges.{in_range}
use Rattle.xt_trace.specs.declared.record.RegWrite.{RegWrite}
use Rattle.xt_window.specs.Ring.{place}
use Rattle.xt_rows.specs.Kinds.{moved_to}
use Rattle.xt_rows.specs.Operands.{reads, special_reads}
use Rattle.xt_exec.specs.State.{State}
use Rattle.xt_frames.specs.Marks.{holds_marks}
use Rattle.xt_uses.specs.declared.words.Word.{Word}
use Rattle.xt_uses.specs.declared.discipline.Discipline.TheVariants.{Lenient}
use Rattle.xt_uses.specs.Words.{all_bits}
use Rattle.xt_uses.specs.Known.{result_mask, system_mask}
use Rattle.xt_uses.specs.UseLaws.{pointer_mask}
use Rattle.xt_simulation.specs.Knowledge.{Knowledge, all_known, first_special, first_word}
use Rattle.xt_simulation.specs.Knowledge.{register_word, second_word}
use Rattle.xt_simulation.specs.Learning.{common_mask, doubtful, known_past, regs_past, regs_written}
use Rattle.xt_simulation.specs.Learning.{special_given, with_mask}
use Rattle.xt_simulation.proofs.SecretSpecials.{differs, unequal, with_other}
use Rattle.xt_secret_walk.specs.declared.masks.CoreMasks.{CoreMasks}
use Rattle.xt_secret_walk.specs.SeenWords.{knowledge_of, special_mask}
use Rattle.xt_moments.specs.MomentLaws.{IsMomentKnown, entered_known, is_clock, may_be_lost}
use Rattle.xt_moments.specs.MomentLaws.{moment_known}
use Rattle.xt_moments.specs.WorldLaws.{opening_known}
use Rattle.xt_moments.proofs.Masks.{compare0_past, compare1_past, compare2_past, count_past}
use Rattle.xt_moments.proofs.Masks.{others_past, ticked_other}
use Rattle.xt_moment_search.specs.KnownCores.{kept_mask, misses_epc1, moment_known_of}
use Rattle.xt_moment_search.specs.KnownCores.{reads_clock, with_hidden}
use Rattle.xt_moment_search.proofs.Used.{kept_other, reads_known, register_same, special_same}

-- which clock it is
clock_cases : (n : ℕ) (P : ℕ → Type 0) → is_clock n ≡ true → P 234 → P 240 → P 241 → P 242 → P n
clock_cases n P is count zero one two = ⊎_elim
    (λ a. at 234 a count)
    (λ rest. ⊎_elim
    (λ b. at 240 b zero)
    (λ more. ⊎_elim
    (λ d. at 241 d one)
    (λ e. at 242 e two)
    (or_cases (eqb n 241) (eqb n 242) more))
    (or_cases (eqb n 240) (eqb n 241 || eqb n 242) rest))
    (or_cases (eqb n 234) (eqb n 240 || (eqb n 241 || eqb n 242)) is)
  where
    at : (j : ℕ) → eqb n j ≡ true → P j → P n
    at j e p = subst P (sym (eqb-true n j e)) p

-- a register that keeps what is not known is no clock, and is not INTERRUPT
marks_no_clock : (n : ℕ) → holds_marks n ≡ true → is_clock n ≡ false
marks_no_clock n marks = by_clock (is_clock n) refl
  where
    by_clock : (b : Bool) → is_clock n ≡ b → b ≡ false
    by_clock true is = clock_cases n (λ j. holds_marks j ≡ true → true ≡ false) is
        (λ e. absurd (true≢false (sym e))) (λ e. absurd (true≢false (sym e)))
        (λ e. absurd (true≢false (sym e))) (λ e. absurd (true≢false (sym e))) marks
    by_clock false is = refl

-- as much is known of EPC1 as before
abbrev pub IsEpc1Kept : CoreMasks → CoreMasks → Type 0
IsEpc1Kept c d =
    slice_index_or d.special 177 all_bits ≡ slice_index_or c.special 177 all_bits

-- if the mask of EPC1 is set, as much as before is known of the other registers
pub other_than_epc1 : (c d : CoreMasks) (mask : ℕ) → d.regs ≡ c.regs
    → d.special ≡ slice_set c.special 177 mask → d.threadptr ≡ c.threadptr
    → knowledge_of d ≡ knowledge_of c
other_than_epc1 c d mask regs special pointer = λ i. record {
  regs = λ p. slice_index_or (regs i) p all_bits;
  special = λ n. same n i;
  threadptr = pointer i;
}
  where
    same : (n : ℕ) → special_mask d n ≡ special_mask c n
    same n = by_marks (holds_marks n) refl
      where
        by_marks : (b : Bool) → holds_marks n ≡ b
            → cond b (slice_index_or d.special n all_bits) all_bits
            ≡ cond b (slice_index_or c.special n all_bits) all_bits
        by_marks true e =
            ap (λ (l : List ℕ). slice_index_or l n all_bits) special
            ∙ get_or-set_other c.special 177 n mask all_bits (differs n 177 holds_marks e refl)
        by_marks false e = refl

-- each bit of EPC1 is known where it gets its mask so
pub epc1_entered : (c d : CoreMasks) (b : Bool) → b ≡ true → d.regs ≡ c.regs
    → d.special ≡ slice_set c.special 177 all_bits → d.threadptr ≡ c.threadptr
    → 177 < length c.special
    → moment_known_of d ≡ entered_known b (moment_known_of c)
epc1_entered c d b enters regs special pointer long =
    let entered : moment_known_of d ≡ entered_known true (moment_known_of c) = λ i. record {
      regs = λ p. slice_index_or (regs i) p all_bits;
      special = λ n. same n i;
      threadptr = pointer i;
    } in
    entered ∙ ap (λ (x : Bool). entered_known x (moment_known_of c)) (sym enters)
  where
    masks : (n : ℕ) → kept_mask d n ≡ with_mask 177 all_bits (kept_mask c) n
    masks n = ⊎_elim
        (λ (is : n ≡ 177). subst (λ j. kept_mask d j ≡ with_mask 177 all_bits (kept_mask c) j)
        (sym is) (ap (λ (l : List ℕ). slice_index_or l 177 all_bits) special
        ∙ get_or-set_same c.special 177 all_bits all_bits long))
        (λ (no : n ≢ 177).
        ap (λ (l : List ℕ). cond (may_be_lost n) (slice_index_or l n all_bits) all_bits) special
        ∙ ap (λ (x : ℕ). cond (may_be_lost n) x all_bits)
        (get_or-set_other c.special 177 n all_bits all_bits no)
        ∙ sym (with_other 177 all_bits (kept_mask c) n no))
        (cases_eq n 177)

    same : (n : ℕ) → (moment_known_of d).special n
        ≡ with_mask 177 all_bits (moment_known_of c).special n
    same n = ⊎_elim
        (λ (is : n ≡ 177). subst (λ j. (moment_known_of d).special j
        ≡ with_mask 177 all_bits (moment_known_of c).special j) (sym is) (masks 177))
        (λ (no : n ≢ 177). ap (λ (x : ℕ). cond (is_clock n) 0 x)
        (masks n ∙ with_other 177 all_bits (kept_mask c) n no)
        ∙ sym (with_other 177 all_bits (moment_known_of c).special n no))
        (cases_eq n 177)

-- as a core opens, all is known but the clocks
pub masks_open : (c d : CoreMasks) → knowledge_of c ≡ all_known → d.regs ≡ c.regs
    → d.special ≡ slice_set c.special 177 all_bits → d.threadptr ≡ c.threadptr
    → 177 < length c.special → moment_known_of d ≡ opening_known
masks_open c d whole regs special pointer long = λ i. record {
  regs = (known i).regs;
  special = λ n. cond (is_clock n) 0 (masks n i);
  threadptr = (known i).threadptr;
}
  where
    known : knowledge_of d ≡ all_known
    known = other_than_epc1 c d all_bits regs special pointer ∙ whole

    masks : (n : ℕ) → kept_mask d n ≡ all_bits
    masks n = ⊎_elim
        (λ (is : n ≡ 177). subst (λ j. kept_mask d j ≡ all_bits) (sym is)
        (ap (λ (l : List ℕ). slice_index_or l 177 all_bits) special
        ∙ get_or-set_same c.special 177 all_bits all_bits long))
        (λ (no : n ≢ 177). kept_other d n (unequal n 177 no)
        ∙ ap (λ (f : Knowledge). f.special n) known)
        (cases_eq n 177)

module _ (c : CoreMasks) (s : State) (write : Option RegWrite) (base reply : ℕ)
    (h : IsMomentKnown (moment_known_of c)) where
  abbrev k : Knowledge
  k = knowledge_of c

  abbrev m : Knowledge
  m = moment_known_of c

  abbrev past : Option Insn → Knowledge
  past o = known_past o write base reply m s

  -- ---- special registers

  -- of one that keeps what is not known, the walk of secrets knows the same
  plain_mask : (n : ℕ) → is_clock n ≡ false → n ≢ 177 → k.special n ≡ m.special n
  plain_mask n clock d =
      sym (cond-false (is_clock n) 0 (kept_mask c n) clock ∙ kept_other c n (unequal n 177 d))

  -- EPC1 keeps its mask
  given_epc1 : (o : Option (ℕ × ℕ)) (given : ℕ) (special : ℕ → ℕ)
      → special_given o given special 177 ≡ special 177
  given_epc1 None given special = refl
  given_epc1 (Some p) given special = by_marks (holds_marks p.1) refl
    where
      by_marks : (b : Bool) → holds_marks p.1 ≡ b
          → cond b (with_mask p.1 given special) special 177 ≡ special 177
      by_marks true e = with_other p.1 given special 177
          (λ is. differs p.1 177 holds_marks e refl (sym is))
      by_marks false e = refl

  epc1_past : (o : Option Insn) → (past o).special 177 ≡ m.special 177
  unfolding known_past
  epc1_past None = ticked_other m h s write base reply m.special 177 (λ e. omega (arith, e))
      (λ e. omega (arith, e))
  epc1_past (Some i) =
      let x = (first_word i m s).mask in
      ticked_other m h s write base reply (special_given (moved_to i) x m.special) 177
      (λ e. omega (arith, e)) (λ e. omega (arith, e))
      ∙ given_epc1 (moved_to i) x m.special

  unlost : (n : ℕ) → n ≢ 177 → holds_marks n ≡ false → may_be_lost n ≡ false
  unlost n d marks = by_number (eqb n 177) refl
    where
      by_number : (b : Bool) → eqb n 177 ≡ b → (b || holds_marks n) ≡ false
      by_number true e = absurd (d (eqb-true n 177 e))
      by_number false e = marks

  module _ (d : CoreMasks) (o : Option Insn) (epc1 : IsEpc1Kept c d)
      (same : (n : ℕ) → holds_marks n ≡ true → special_mask d n ≡ (past o).special n) where
    abbrev Is : ℕ → Type 0
    Is n = cond (is_clock n) 0 (kept_mask d n) ≡ with_mask 226 all_bits (past o).special n

    kept : (n : ℕ) → n ≢ 226 → is_clock n ≡ false → kept_mask d n ≡ (past o).special n
    kept n other clock = ⊎_elim
        (λ (is : n ≡ 177). subst (λ j. kept_mask d j ≡ (past o).special j) (sym is)
        (epc1 ∙ sym (epc1_past o)))
        (λ (no : n ≢ 177). kept_other d n (unequal n 177 no)
        ∙ by_marks no (holds_marks n) refl)
        (cases_eq n 177)
      where
        by_marks : n ≢ 177 → (b : Bool) → holds_marks n ≡ b → special_mask d n ≡ (past o).special n
        by_marks far true marks = same n marks
        by_marks far false marks =
            cond-false (holds_marks n) _ all_bits marks
            ∙ sym (others_past m h s write base reply o n other (unlost n far marks) clock)

    apart : (n : ℕ) → n ≢ 226 → Is n
    apart n other = by_clock (is_clock n) refl ∙ sym (with_other 226 all_bits (past o).special n
        other)
      where
        by_clock : (b : Bool) → is_clock n ≡ b → cond b 0 (kept_mask d n) ≡ (past o).special n
        by_clock true clock = clock_cases n (λ j. 0 ≡ (past o).special j) clock
            (sym (count_past m h s write base reply o)) (sym (compare0_past m h s write base reply o))
            (sym (compare1_past m h s write base reply o))
            (sym (compare2_past m h s write base reply o))
        by_clock false clock = kept n other clock

    pub specials_are : (n : ℕ) → Is n
    specials_are n = ⊎_elim (λ is. subst Is (sym is) refl) (apart n) (cases_eq n 226)

  -- ---- registers

  abbrev regs_with : Option ℕ → Word → Word → Word → Insn → ℕ → ℕ
  regs_with (Some r) x y u i = with_mask (place base r) (common_mask (register_word k s (Some r)) x)
      k.regs
  regs_with None x y u i =
      regs_written write base (result_mask Lenient i x y u k.threadptr reply) k.regs

  by_doubt : (i : Insn) (d : Option ℕ) → regs_past i d write base reply k s
      ≡ regs_with d (first_word i k s) (second_word i k s) (first_special i k s) i
  by_doubt i None = refl
  by_doubt i (Some r) = refl

  by_doubt_too : (i : Insn) (d : Option ℕ) → regs_past i d write base reply m s
      ≡ regs_with d (first_word i m s) (second_word i m s) (first_special i m s) i
  by_doubt_too i None = refl
  by_doubt_too i (Some r) = refl

  regs_are : (i : Insn) → in_range i ≡ true → reads_clock i ≡ false → misses_epc1 c i ≡ false
      → regs_past i (doubtful i (second_word i k s)) write base reply k s
      ≡ regs_past i (doubtful i (second_word i m s)) write base reply m s
  regs_are i ok free known =
      let x = register_same c s (reads i).0 in
      let y = register_same c s (reads i).1 in
      let u = special_same c s (special_reads i).0 (reads_known c i ok free known) in
      by_doubt i (doubtful i (second_word i k s))
      ∙ (sym (λ j. regs_with (doubtful i (y j)) (x j) (y j) (u j) i)
      ∙ sym (by_doubt_too i (doubtful i (second_word i m s))))

  -- ---- a special register that keeps what is not known

  given_same : (o : Option (ℕ × ℕ)) (given : ℕ) (n : ℕ) → k.special n ≡ m.special n
      → special_given o given k.special n ≡ special_given o given m.special n
  given_same None given n plain = plain
  given_same (Some p) given n plain = by_marks (holds_marks p.1)
    where
      by_marks : (b : Bool) → cond b (with_mask p.1 given k.special) k.special n
          ≡ cond b (with_mask p.1 given m.special) m.special n
      by_marks true = ap (λ (x : ℕ). cond (eqb n p.1) given x) plain
      by_marks false = plain

  marked_mask : (n : ℕ) → holds_marks n ≡ true → k.special n ≡ m.special n
  marked_mask n marks =
      plain_mask n (marks_no_clock n marks) (differs n 177 holds_marks marks refl)

  no_count : (n : ℕ) → holds_marks n ≡ true → (n ≢ 226) × (n ≢ 234)
  no_count n marks =
      (differs n 226 holds_marks marks refl, differs n 234 holds_marks marks refl)

  -- the masks of these are those that special_given leaves, of both
  marks_past : (i : Insn) (n : ℕ) → holds_marks n ≡ true
      → (known_past (Some i) write base reply k s).special n ≡ (past (Some i)).special n
  unfolding known_past
  marks_past i n marks =
      let x = (first_word i k s).mask in
      let y = (first_word i m s).mask in
      let same : x ≡ y = ap (λ (w : Word). w.mask) (sym (register_same c s (reads i).0)) in
      let not = no_count n marks in
      ticked_other m h s write base reply (special_given (moved_to i) x k.special) n not.0 not.1
      ∙ (given_same (moved_to i) x n (marked_mask n marks)
      ∙ (ap (λ (g : ℕ). special_given (moved_to i) g m.special n) same
      ∙ sym (ticked_other m h s write base reply (special_given (moved_to i) y m.special) n not.0
      not.1)))

  marks_stay : (n : ℕ) → holds_marks n ≡ true → k.special n ≡ (past None).special n
  unfolding known_past
  marks_stay n marks =
      let not = no_count n marks in
      marked_mask n marks
      ∙ sym (ticked_other m h s write base reply m.special n not.0 not.1)

  -- ---- all of it

  -- nothing is executed
  pub none_learnt : (d : CoreMasks) → IsEpc1Kept c d → knowledge_of d ≡ k
      → moment_known_of d ≡ moment_known None write base reply m s
  unfolding known_past
  none_learnt d epc1 same =
      let special : (n : ℕ) → special_mask d n ≡ k.special n = λ n. ap (λ (f : Knowledge). f.special n) same in
      let now = specials_are d None epc1 (λ n marks. special n ∙ marks_stay n marks) in
      λ j. record {
        regs = (same j).regs;
        special = λ n. now n j;
        threadptr = (same j).threadptr;
      }

  -- an instruction that reads no clock
  pub plain_learnt : (d : CoreMasks) (i : Insn) → in_range i ≡ true → reads_clock i ≡ false
      → misses_epc1 c i ≡ false → IsEpc1Kept c d
      → knowledge_of d ≡ known_past (Some i) write base reply k s
      → moment_known_of d ≡ moment_known (Some i) write base reply m s
  unfolding known_past
  plain_learnt d i ok free known epc1 same =
      let special : (n : ℕ) → special_mask d n
      ≡ (known_past (Some i) write base reply k s).special n = λ n. ap (λ (f : Knowledge). f.special n) same in
      let now = specials_are d (Some i) epc1 (λ n marks. special n ∙ marks_past i n marks) in
      let regs = ap (λ (f : Knowledge). f.regs) same ∙ regs_are i ok free known in
      let pointer = ap (λ (f : Knowledge). f.threadptr) same
      ∙ ap (λ (w : Word). pointer_mask i w.mask k.threadptr) (sym (register_same c s (reads i).0)) in
      λ j. record { regs = regs j; special = λ n. now n j; threadptr = pointer j }

  -- ---- an instruction that reads a clock: no bit is known of the register that it writes

  clock_regs : (i : Insn) → reads_clock i ≡ true
      → regs_written write base 0 k.regs
      ≡ regs_past i (doubtful i (second_word i m s)) write base reply m s
  unfolding doubtful result_mask system_mask special_reads
  clock_regs (insn.System (system.Special SpecialName.Rsr t n)) e =
      ap (λ (b : Bool). regs_written write base (cond b 0 (kept_mask c n)) k.regs) (sym e)
  clock_regs (insn.System (system.Special SpecialName.Xsr t n)) e =
      ap (λ (b : Bool). regs_written write base (cond b 0 (kept_mask c n)) k.regs) (sym e)
  clock_regs _ e = absurd (true≢false (sym e))

  clock_marks : (i : Insn) → reads_clock i ≡ true → (n : ℕ) → holds_marks n ≡ true
      → k.special n ≡ (past (Some i)).special n
  unfolding known_past moved_to
  clock_marks (insn.System (system.Special SpecialName.Rsr t r)) e n marks =
      let not = no_count n marks in
      marked_mask n marks
      ∙ sym (ticked_other m h s write base reply m.special n not.0 not.1)
  clock_marks (insn.System (system.Special SpecialName.Xsr t r)) e n marks =
      let i = insn.System (system.Special SpecialName.Xsr t r) in
      let not = no_count n marks in
      let given = special_given (Some (t, r)) (first_word i m s).mask m.special in
      marked_mask n marks
      ∙ (no_marks (holds_marks r) refl
      ∙ sym (ticked_other m h s write base reply given n not.0 not.1))
    where
      no_marks : (b : Bool) → holds_marks r ≡ b
          → m.special n
          ≡ special_given (Some (t, r))
          (first_word (insn.System (system.Special SpecialName.Xsr t r)) m s).mask m.special n
      no_marks true marked = absurd (true≢false (sym e ∙ marks_no_clock r marked))
      no_marks false marked =
          ap (λ (b : Bool). cond b (with_mask r
          (first_word (insn.System (system.Special SpecialName.Xsr t r)) m s).mask m.special)
          m.special n) (sym marked)
  clock_marks _ e n marks = absurd (true≢false (sym e))

  clock_pointer : (i : Insn) (given : ℕ) → reads_clock i ≡ true
      → k.threadptr ≡ pointer_mask i given m.threadptr
  unfolding pointer_mask
  clock_pointer (insn.System (system.Special SpecialName.Rsr t n)) given e = refl
  clock_pointer (insn.System (system.Special SpecialName.Xsr t n)) given e = refl
  clock_pointer _ given e = absurd (true≢false (sym e))

  pub clock_learnt : (d : CoreMasks) (i : Insn) → reads_clock i ≡ true → IsEpc1Kept c d
      → knowledge_of d ≡ with_hidden write base k
      → moment_known_of d ≡ moment_known (Some i) write base reply m s
  unfolding known_past
  clock_learnt d i e epc1 same =
      let special : (n : ℕ) → special_mask d n ≡ k.special n = λ n. ap (λ (f : Knowledge). f.special n) same in
      let now = specials_are d (Some i) epc1 (λ n marks. special n ∙ clock_marks i e n marks) in
      let regs = ap (λ (f : Knowledge). f.regs) same ∙ clock_regs i e in
      let pointer = ap (λ (f : Knowledge). f.threadptr) same
      ∙ clock_pointer i (first_word i m s).mask e in
      λ j. record { regs = regs j; special = λ n. now n j; threadptr = pointer j }
