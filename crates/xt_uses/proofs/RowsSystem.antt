-- The rows of system instructions agree.
use Rattle.std.proofs.Common.{◌≡◌, ℕ, ◌+◌, ◌^◌, ◌<◌, ℤ, pos, negsuc, Bool, true, false, ◌||◌, cond, eqb, leb, Option, Some, None, refl, sym, ap, ◌∙◌, arith, ⊎_elim}
use Rattle.std.specs.Prelude.{bit_and}
use Rattle.std.proofs.lemmas.Bool.{and_parts, cases_Bool, eqb-true, leb-true, false_from_ne_true, or_from}
use Rattle.xt_isa.specs.declared.Insn.TheVariants as insn
use Rattle.xt_isa.specs.declared.system.System.{System}
use Rattle.xt_isa.specs.declared.system.System.TheVariants as system
use Rattle.xt_isa.specs.declared.system.SyncName.TheVariants as SyncName
use Rattle.xt_isa.specs.declared.system.WaitName.TheVariants as WaitName
use Rattle.xt_isa.specs.declared.system.ExceptionReturnName.TheVariants as ExceptionReturnName
use Rattle.xt_isa.specs.declared.system.TrapName.TheVariants as TrapName
use Rattle.xt_isa.specs.declared.system.LevelName.TheVariants as LevelName
use Rattle.xt_isa.specs.declared.system.SpecialName.TheVariants as SpecialName
use Rattle.xt_isa.specs.declared.system.UserName.TheVariants as UserName
use Rattle.xt_isa.specs.Ranges.{in_range, natural_within}
use Rattle.xt_special.specs.declared.ps.Ps.{Ps}
use Rattle.xt_special.specs.Access.{SpecialWrites, value_read, value_kept, ps_written, written_by, is_ccompare, is_eps, no_sets, no_set, set_to, changed_by, without_bits, timer_bit}
use Rattle.xt_special.specs.Control.{ps_of, ps_word}
use Rattle.xt_rows.specs.declared.outcome.Flow.TheVariants.{Goes}
use Rattle.xt_rows.specs.declared.outcome.WindowRegister.{WindowRegister}
use Rattle.xt_rows.specs.declared.outcome.WindowStep.TheVariants.{EndsOverflow, EndsUnderflow, Sets, Exchanges}
use Rattle.xt_rows.specs.declared.outcome.Outcome.TheVariants.{Windowed}
use Rattle.xt_rows.specs.Numbers.{natural}
use Rattle.xt_rows.specs.Operands.{changes_interrupt, special_reads}
use Rattle.xt_rows.specs.Effects.{no_change, window_register, reads_special, writes_special, exchanges_special}
use Rattle.xt_rows.specs.Kinds.{moved_to}
use Rattle.xt_rows.specs.Outcomes.{system_outcome}
use Rattle.xt_frames.specs.Marks.{holds_marks}
use Rattle.xt_uses.specs.declared.discipline.Discipline.{Discipline}
use Rattle.xt_uses.specs.Words.{Word, Fits, all_bits, knows}
use Rattle.xt_uses.specs.Used.{counted_bits, holds_owb, system_used}
use Rattle.xt_uses.specs.Known.{system_mask}
use Rattle.xt_uses.specs.UseLaws.{AgreeIn, IsKnownNumber, OthersAgree, RowMasks, SetsAgree, SpecialFits, OutcomesAgree, counted_ps, pointer_mask}
use Rattle.xt_uses.proofs.Wholes.{whole_value, fits_agree, value_word}
use Rattle.xt_uses.proofs.Owb.{counted_agree, counts_all, kept_words_agree, words_of_ps}
use Rattle.xt_uses.proofs.Agreed.{nothing_agrees, puts_agree, goes_agree}
use Rattle.xt_uses.proofs.RowsMarks.{eps_set, eps_unmarked, marked_set, window_counts, window_unmarked}

-- EPC2 to EPC7 keep nothing unknown
level_is_no_mark : (level : ℤ) → natural_within 2 7 level ≡ true → holds_marks (176 + natural level) ≡ false
unfolding natural_within natural
level_is_no_mark (pos n) h =
    let r = leb-true n 7 (and_parts (leb 2 n) (leb n 7) h).1 in
    let q : leb 209 (176 + n) ≡ false = false_from_ne_true (leb 209 (176 + n)) (λ e. let z = leb-true 209 (176 + n) e in omega arith) in
    let s : leb 244 (176 + n) ≡ false = false_from_ne_true (leb 244 (176 + n)) (λ e. let z = leb-true 244 (176 + n) e in omega arith) in
    rw (q, s) refl
level_is_no_mark (negsuc n) h = refl

-- nor do they hold OWB
level_counts : (level : ℤ) → natural_within 2 7 level ≡ true → holds_owb (176 + natural level) ≡ false
unfolding natural_within natural
level_counts (pos n) h =
    let r = leb-true n 7 (and_parts (leb 2 n) (leb n 7) h).1 in
    let q : eqb (176 + n) 230 ≡ false = false_from_ne_true (eqb (176 + n) 230) (λ e. let z = eqb-true (176 + n) 230 e in omega arith) in
    let s : leb 194 (176 + n) ≡ false = false_from_ne_true (leb 194 (176 + n)) (λ e. let z = leb-true 194 (176 + n) e in omega arith) in
    rw (q, s) refl
level_counts (negsuc n) h = refl

module _ (by : Discipline) (x u v w : ℕ) (a c : Word) (f : Fits x a) (h : x < 2 ^ 32) (l : u < 2 ^ 32) (ps : Ps) (t k : ℕ) (pointer stored : ℕ) (p : AgreeIn pointer t k) where
  abbrev masks : System → RowMasks
  masks i = record { result = system_mask by i c pointer; given = a.mask; pointer = pointer_mask (insn.System i) a.mask pointer; stored = stored }

  special_known : Fits u c → c.mask ≡ all_bits → u ≡ c.value
  special_known g whole = sym (whole_value u c g l (ap (λ m. eqb (bit_and all_bits m) all_bits) whole))

  -- where the bits that count are used
  abbrev Uses : ℕ → Type 0
  Uses n = (holds_marks n || knows (counted_bits by n) a) ≡ true

  counts : (n : ℕ) → Uses n → holds_marks n ≡ false → knows (counted_bits by n) a ≡ true
  counts n used not = by_test (holds_marks n) not used
    where
      by_test : (b : Bool) → b ≡ false → (b || knows (counted_bits by n) a) ≡ true → knows (counted_bits by n) a ≡ true
      by_test true e k = absurd cc
      by_test false e k = k

  counted : (n : ℕ) → Uses n → holds_marks n ≡ false → AgreeIn (counted_bits by n) x a.value
  counted n used not = counted_agree (counted_bits by n) x a f (counts n used not)

  whole : (n : ℕ) → Uses n → holds_marks n ≡ false → holds_owb n ≡ false → x ≡ a.value
  whole n used not owb =
      sym (whole_value x a f h (ap (λ (bits : ℕ). knows bits a) (sym (counts_all by n owb)) ∙ counts n used not))

  same_other : (n : ℕ) → OthersAgree by (changes_interrupt n) v w → v ≡ w
  same_other n e = by_test (eqb n 226 || (eqb n 227 || is_ccompare n)) e
    where
      by_test : (b : Bool) → OthersAgree by (cond b (Some 226) None) v w → v ≡ w
      by_test true e = e.0 refl
      by_test false e = e

  -- what is read
  value_agrees : (n : ℕ) → AgreeIn c.mask u c.value → AgreeIn c.mask (value_read n u ps) (value_read n c.value ps)
  value_agrees n g = by_test (eqb n 230)
    where
      by_test : (b : Bool) → AgreeIn c.mask (cond b (ps_word ps) u) (cond b (ps_word ps) c.value)
      by_test true = refl
      by_test false = g

  -- what is written
  abbrev written_in : ℕ → Bool → ℕ → ℕ → SpecialWrites
  written_in n b y z = cond b no_sets (cond (is_ccompare n) (set_to n y, set_to 226 (without_bits z (timer_bit n)), no_set) (set_to (changed_by n) (value_kept n y z), no_set, no_set))

  written_agrees : (q n : ℕ) → Uses n → v ≡ w → SetsAgree by (Some (q, n)) a.mask (written_by n x v) (written_by n a.value w)
  written_agrees q n used same = (
    λ marked. (x, a.value, (marked_set n x v marked, marked_set n a.value w marked, fits_agree x a f)),
    λ eps. (
      ps_word (ps_of x),
      ps_word (ps_of a.value),
      (eps_set n x v eps, eps_set n a.value w eps, kept_words_agree (counted_bits by n) x a.value h (value_word x a f h) (counted n used (eps_unmarked n eps))),
    ),
    λ unmarked no_eps. ⊎_elim
        (λ ps. by_ps (eqb n 230) ps)
        (λ not. ap (λ z. written_by n z v) (whole n used unmarked (or_from (eqb n 230) (is_eps n) not no_eps)) ∙ ap (written_by n a.value) same)
        (cases_Bool (eqb n 230)),
  )
    where
      by_ps : (b : Bool) → b ≡ true → written_in n b x v ≡ written_in n b a.value w
      by_ps true e = refl
      by_ps false e = absurd cc

  ps_agrees : (n : ℕ) → Uses n → counted_ps by (ps_written n x ps) ≡ counted_ps by (ps_written n a.value ps)
  ps_agrees n used = by_test (eqb n 230) refl
    where
      by_test : (b : Bool) → eqb n 230 ≡ b → counted_ps by (cond b (ps_of x) ps) ≡ counted_ps by (cond b (ps_of a.value) ps)
      by_test true e = words_of_ps by n x a.value (counted n used (ap holds_marks (eqb-true n 230 e)))
      by_test false e = refl

  rsr_agrees : (q n : ℕ) (z : Option WindowRegister) → AgreeIn c.mask u c.value → OutcomesAgree by (insn.System (system.Special SpecialName.Rsr q n)) (masks (system.Special SpecialName.Rsr q n)) (reads_special z q n u (no_change ps t)) (reads_special z q n c.value (no_change ps k))
  unfolding moved_to system_mask pointer_mask
  rsr_agrees q n None g = puts_agree by (insn.System (system.Special SpecialName.Rsr q n)) (masks (system.Special SpecialName.Rsr q n)) ps t k p refl q (value_read n u ps) (value_read n c.value ps) (value_agrees n g)
  rsr_agrees q n (Some z) g = refl

  wsr_agrees : (q n : ℕ) (z : Option WindowRegister) → window_register n ≡ z → Uses n → v ≡ w → OutcomesAgree by (insn.System (system.Special SpecialName.Wsr q n)) (masks (system.Special SpecialName.Wsr q n)) (writes_special z n x v (no_change ps t)) (writes_special z n a.value w (no_change ps k))
  unfolding moved_to system_mask pointer_mask
  wsr_agrees q n None e used same = record { write = tt; sets = written_agrees q n used same; ps = ps_agrees n used; threadptr = p; flow = refl; waits = refl }
  wsr_agrees q n (Some z) e used same = ap (λ y. Windowed (Sets z y)) (whole n used (window_unmarked n z e) (window_counts n z e))

  xsr_agrees : (q n : ℕ) (z : Option WindowRegister) → window_register n ≡ z → AgreeIn c.mask u c.value → Uses n → v ≡ w → OutcomesAgree by (insn.System (system.Special SpecialName.Xsr q n)) (masks (system.Special SpecialName.Xsr q n)) (exchanges_special z q n x u v (no_change ps t)) (exchanges_special z q n a.value c.value w (no_change ps k))
  unfolding moved_to system_mask pointer_mask
  xsr_agrees q n None e g used same = record { write = (refl, value_agrees n g); sets = written_agrees q n used same; ps = ps_agrees n used; threadptr = p; flow = refl; waits = refl }
  xsr_agrees q n (Some z) e g used same = ap (λ y. Windowed (Exchanges z q y)) (whole n used (window_unmarked n z e) (window_counts n z e))

  pub system_agrees : (i : System) → in_range (insn.System i) ≡ true → SpecialFits (special_reads (insn.System i)).0 u c → OthersAgree by (special_reads (insn.System i)).1 v w → IsKnownNumber by (special_reads (insn.System i)).0 c → system_used by i a ≡ true → OutcomesAgree by (insn.System i) (masks i) (system_outcome i x u v (no_change ps t)) (system_outcome i a.value c.value w (no_change ps k))
  unfolding system_outcome system_mask system_used moved_to pointer_mask special_reads
  system_agrees (system.Sync SyncName.Ill) range special other number used = refl
  system_agrees (system.Sync SyncName.Isync) range special other number used = nothing_agrees by (insn.System (system.Sync SyncName.Isync)) (masks (system.Sync SyncName.Isync)) ps t k p refl
  system_agrees (system.Sync SyncName.Rsync) range special other number used = nothing_agrees by (insn.System (system.Sync SyncName.Rsync)) (masks (system.Sync SyncName.Rsync)) ps t k p refl
  system_agrees (system.Sync SyncName.Esync) range special other number used = nothing_agrees by (insn.System (system.Sync SyncName.Esync)) (masks (system.Sync SyncName.Esync)) ps t k p refl
  system_agrees (system.Sync SyncName.Dsync) range special other number used = nothing_agrees by (insn.System (system.Sync SyncName.Dsync)) (masks (system.Sync SyncName.Dsync)) ps t k p refl
  system_agrees (system.Wait WaitName.Excw) range special other number used = nothing_agrees by (insn.System (system.Wait WaitName.Excw)) (masks (system.Wait WaitName.Excw)) ps t k p refl
  system_agrees (system.Wait WaitName.Memw) range special other number used = nothing_agrees by (insn.System (system.Wait WaitName.Memw)) (masks (system.Wait WaitName.Memw)) ps t k p refl
  system_agrees (system.Wait WaitName.Extw) range special other number used = nothing_agrees by (insn.System (system.Wait WaitName.Extw)) (masks (system.Wait WaitName.Extw)) ps t k p refl
  system_agrees (system.Wait WaitName.Nop) range special other number used = nothing_agrees by (insn.System (system.Wait WaitName.Nop)) (masks (system.Wait WaitName.Nop)) ps t k p refl
  system_agrees (system.ExceptionReturn ExceptionReturnName.Rfe) range special other number used = record { write = tt; sets = refl; ps = refl; threadptr = p; flow = ap (λ z. Goes z) (special_known (special.0 refl) (number refl)); waits = refl }
  system_agrees (system.ExceptionReturn ExceptionReturnName.Rfde) range special other number used = goes_agree by (insn.System (system.ExceptionReturn ExceptionReturnName.Rfde)) (masks (system.ExceptionReturn ExceptionReturnName.Rfde)) ps t k p refl u c.value (special_known (special.0 refl) (number refl))
  system_agrees (system.ExceptionReturn ExceptionReturnName.Rfwo) range special other number used = ap (λ z. Windowed (EndsOverflow z)) (special_known (special.0 refl) (number refl))
  system_agrees (system.ExceptionReturn ExceptionReturnName.Rfwu) range special other number used = ap (λ z. Windowed (EndsUnderflow z)) (special_known (special.0 refl) (number refl))
  system_agrees (system.Rfi level) range special other number used = record { write = tt; sets = refl; ps = words_of_ps by (192 + natural level) v w other.1; threadptr = p; flow = ap (λ z. Goes z) (special_known (special.0 (level_counts level range)) (number (level_is_no_mark level range) ∙ counts_all by (176 + natural level) (level_counts level range))); waits = refl }
  system_agrees (system.Trap TrapName.Break level n) range special other number used = refl
  system_agrees (system.Trap TrapName.Syscall level n) range special other number used = refl
  system_agrees (system.Level LevelName.Rsil q level) range special other number used = record { write = (refl, refl); sets = refl; ps = refl; threadptr = p; flow = refl; waits = refl }
  system_agrees (system.Level LevelName.Waiti q level) range special other number used = record { write = tt; sets = refl; ps = refl; threadptr = p; flow = refl; waits = refl }
  system_agrees (system.Rotw n) range special other number used = refl
  system_agrees (system.Special SpecialName.Rsr q n) range special other number used = rsr_agrees q n (window_register n) special.1
  system_agrees (system.Special SpecialName.Wsr q n) range special other number used = wsr_agrees q n (window_register n) refl used (same_other n other)
  system_agrees (system.Special SpecialName.Xsr q n) range special other number used = xsr_agrees q n (window_register n) refl special.1 used (same_other n other)
  system_agrees (system.User UserName.Rur r n) range special other number used = puts_agree by (insn.System (system.User UserName.Rur r n)) (masks (system.User UserName.Rur r n)) ps t k p refl r t k p
  system_agrees (system.User UserName.Wur q n) range special other number used = record { write = tt; sets = refl; ps = refl; threadptr = fits_agree x a f; flow = refl; waits = refl }
