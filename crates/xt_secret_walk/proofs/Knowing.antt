-- What the walk keeps of a core is what is known of it.
use Rattle.std.proofs.Common.{◌≡◌, ◌≢◌, ℕ, ℤ, pos, negsuc, ◌+◌, ◌<◌, ◌≤◌, ◌&&◌, ◌||◌, Bool, true, false, not, cond, eqb, Option, Some, None, List, length, get_or, set, replicate, refl, sym, ap, ◌∙◌, subst, ⊎_elim, arith}
use Rattle.std.specs.Prelude.{bit_and}
use Rattle.std.proofs.lemmas.Bool.{and_parts, cases_eq, cases_lt, cond-false, cond-true, eq-eqb, eqb-true, ne_eqb, true≢false}
use Rattle.std.proofs.lemmas.Bool.Decides.{nat_tests}
use Rattle.std.proofs.lemmas.Nat.{and_le_l}
use Rattle.std.proofs.lemmas.List.{get_or-replicate, get_or-set_other, get_or-set_same, get_or_past, length-replicate}
use Rattle.xt_isa.specs.declared.Insn.{Insn}
use Rattle.xt_isa.specs.declared.Insn.TheVariants as insn
use Rattle.xt_isa.specs.declared.three.Three.TheVariants as three
use Rattle.xt_isa.specs.declared.shift.Shift.TheVariants as shift
use Rattle.xt_isa.specs.declared.memory.Memory.TheVariants as memory
use Rattle.xt_isa.specs.declared.control.Control.TheVariants as control
use Rattle.xt_isa.specs.declared.control.ReturnName.TheVariants as ReturnName
use Rattle.xt_isa.specs.declared.density.Density.TheVariants as density
use Rattle.xt_isa.specs.declared.density.BareName.TheVariants as BareName
use Rattle.xt_isa.specs.declared.system.System.{System}
use Rattle.xt_isa.specs.declared.system.System.TheVariants as system
use Rattle.xt_isa.specs.declared.system.ExceptionReturnName.TheVariants as ExceptionReturnName
use Rattle.xt_isa.specs.Ranges.{in_range, natural_within}
use Rattle.xt_map.specs.declared.access.Access.{Access}
use Rattle.xt_window.specs.Ring.{place}
use Rattle.xt_trace.specs.declared.record.RegWrite.{RegWrite}
use Rattle.xt_trace.specs.declared.record.StepKind.{StepKind}
use Rattle.xt_trace.specs.declared.record.StepKind.TheVariants as kind
use Rattle.xt_map.specs.Fetching.{Fetched, Fetches, Fails, SpellsNothing, fetch_at}
use Rattle.xt_rows.specs.Kinds.{is_return, moved_to}
use Rattle.xt_rows.specs.Numbers.{natural}
use Rattle.xt_rows.specs.RowLaws.{IsHeld}
use Rattle.xt_rows.specs.Operands.{reads, special_reads}
use Rattle.xt_exec.specs.State.{State}
use Rattle.xt_frames.specs.Marks.{holds_marks}
use Rattle.xt_uses.specs.declared.words.Word.{Word}
use Rattle.xt_uses.specs.Words.{all_bits, is_whole, whole_word}
use Rattle.xt_uses.specs.Used.{both_whole}
use Rattle.xt_uses.specs.UseLaws.{pointer_mask}
use Rattle.xt_uses.specs.declared.discipline.Discipline.TheVariants.{Lenient}
use Rattle.xt_uses.specs.Known.{result_mask}
use Rattle.xt_uses.proofs.WholeRows.{and_whole, result_whole, used_whole}
use Rattle.xt_simulation.specs.Knowledge.{Knowledge, all_known, special_word, first_word, second_word, first_special, second_special}
use Rattle.xt_simulation.specs.TurnUses.{common_used, found_used, insn_used, kind_used, row_used, specials_used, turn_used, window_used}
use Rattle.xt_simulation.specs.Learning.{doubtful, known_past, regs_past, special_given, ticked_masks, with_mask}
use Rattle.xt_simulation.specs.FirstLeak.{insn_carries, writes_hidden}
use Rattle.xt_secret_walk.specs.declared.masks.CoreMasks.{CoreMasks}
use Rattle.xt_secret_walk.specs.declared.seen.MaskWrite.{MaskWrite}
use Rattle.xt_secret_walk.specs.declared.seen.Seen.{Seen}
use Rattle.xt_secret_walk.specs.SeenWords.{IsGoodSeen, doubt_of, knowledge_of, leaves_hidden, masked_write, seen_in, seen_of, seen_uses, special_mask, turn_uses}

-- ---- functions that have the same values

pub same_functions : {A B : Type 0} (f g : A → B) → ((x : A) → f x ≡ g x) → f ≡ g
same_functions f g h = λ i x. h x i

same_both : (b : Bool) (x y : ℕ) → x ≡ y → cond b x y ≡ y
same_both true x y e = e
same_both false x y e = refl

-- ---- as a core opens

filled : (n k x : ℕ) → get_or (replicate n x) k x ≡ x
filled n k x = ⊎_elim (λ less. get_or-replicate n k x x less) (λ more. get_or_past (replicate n x) k x (let l : length (replicate n x) ≡ n = length-replicate n x in omega (arith, l, more))) (cases_lt k n)

pub whole_known : (c : CoreMasks) → c.regs ≡ replicate 64 all_bits → c.special ≡ replicate 256 all_bits → c.threadptr ≡ all_bits → knowledge_of c ≡ all_known
whole_known c r s t =
    let regs : (k : ℕ) → get_or c.regs k all_bits ≡ all_bits = λ k. ap (λ (l : List ℕ). get_or l k all_bits) r ∙ filled 64 k all_bits in
    let special : (n : ℕ) → special_mask c n ≡ all_bits = λ n. same_both (holds_marks n) (get_or c.special n all_bits) all_bits (ap (λ (l : List ℕ). get_or l n all_bits) s ∙ filled 256 n all_bits) in
    λ i. record { regs = λ k. regs k i; special = λ n. special n i; threadptr = t i }

-- ---- the special registers that are always known

abbrev pub IsPlain : Option ℕ → Type 0
IsPlain None = Unit {0}
IsPlain (Some n) = holds_marks n ≡ false

mask_plain : (c : CoreMasks) (n : ℕ) → holds_marks n ≡ false → special_mask c n ≡ all_bits
mask_plain c n e = cond-false (holds_marks n) (get_or c.special n all_bits) all_bits e

pub plain_whole : (c : CoreMasks) (s : State) (o : Option ℕ) → IsPlain o → is_whole (special_word (knowledge_of c) s o) ≡ true
plain_whole c s None h = refl
plain_whole c s (Some n) h = ap (λ (m : ℕ). eqb (bit_and all_bits m) all_bits) (mask_plain c n h)

level_plain : (first n : ℕ) → 2 ≤ n → n ≤ 7 → first ≤ 192 → 176 ≤ first → holds_marks (first + n) ≡ false
level_plain first n low high less more = grind (arith, nat_tests)

-- what an instruction but RSR, WSR and XSR reads of them
abbrev BothPlain : Option ℕ × Option ℕ → Type 0
BothPlain r = IsPlain r.0 × IsPlain r.1

level_range : (l : ℤ) → natural_within 2 7 l ≡ true → (2 ≤ natural l) × (natural l ≤ 7)
unfolding natural natural_within
level_range (pos n) e = (grind (arith, nat_tests), grind (arith, nat_tests))
level_range (negsuc n) e = absurd cc

module _ (c : CoreMasks) (s : State) where
  abbrev m : Knowledge
  m = knowledge_of c

  both_known : (r : Option ℕ × Option ℕ) → BothPlain r → both_whole (special_word m s r.0) (special_word m s r.1) ≡ true
  both_known r h = λ i. plain_whole c s r.0 h.0 i && plain_whole c s r.1 h.1 i

  system_known : (i : System) → in_range (insn.System i) ≡ true → specials_used (insn.System i) (first_special (insn.System i) m s) (second_special (insn.System i) m s) ≡ true
  unfolding special_reads specials_used
  system_known (system.Special name t n) ok = refl
  system_known (system.Rfi l) ok =
      let at = level_range l ok in
      let low = at.0 in
      let high = at.1 in
      both_known (Some (176 + natural l), Some (192 + natural l)) (level_plain 176 (natural l) low high (omega arith) (omega arith), level_plain 192 (natural l) low high (omega arith) (omega arith))
  system_known (system.ExceptionReturn ExceptionReturnName.Rfe) ok = refl
  system_known (system.ExceptionReturn ExceptionReturnName.Rfde) ok = refl
  system_known (system.ExceptionReturn ExceptionReturnName.Rfwo) ok = refl
  system_known (system.ExceptionReturn ExceptionReturnName.Rfwu) ok = refl
  system_known _ ok = refl

  specials_known : (i : Insn) → in_range i ≡ true → specials_used i (first_special i m s) (second_special i m s) ≡ true
  unfolding special_reads specials_used
  specials_known (insn.Three (three.Src r f t)) ok = refl
  specials_known (insn.Three _) ok = refl
  specials_known (insn.Shift (shift.ShiftRight name r t)) ok = refl
  specials_known (insn.Shift (shift.Sll r f)) ok = refl
  specials_known (insn.Shift _) ok = refl
  specials_known (insn.Memory (memory.S32c1i t f offset)) ok = refl
  specials_known (insn.Memory _) ok = refl
  specials_known (insn.System i) ok = system_known i ok
  specials_known (insn.Control i) ok = refl
  specials_known (insn.Density i) ok = refl
  specials_known (insn.Boolean i) ok = refl

  common_known : common_used m s ≡ true
  common_known =
      let a : Word = special_word m s (Some 226) in
      let b : Word = special_word m s (Some 228) in
      ap (λ (mask : ℕ). eqb (bit_and all_bits mask) all_bits && true) (and_whole a.value b.value)

  -- ---- what a turn uses

  insn_is : (i : Insn) → in_range i ≡ true → row_used i (first_word i m s) (second_word i m s) ≡ insn_used i m s
  insn_is i ok = sym (and_true (row_used i (first_word i m s) (second_word i m s)) (specials_used i (first_special i m s) (second_special i m s)) (specials_known i ok))
    where
      and_true : (x y : Bool) → y ≡ true → (x && y) ≡ x
      and_true true y e = e
      and_true false y e = refl

  return_is : (i : Insn) → (not (is_return i) || is_whole (first_word i m s)) ≡ window_used i m s
  unfolding is_return reads
  return_is (insn.Control (control.Return ReturnName.Retw)) = refl
  return_is (insn.Density (density.Bare BareName.Retw)) = refl
  return_is _ = refl

  kind_is : (k : StepKind) (f : Fetched) → IsGoodSeen (seen_of f m s) → seen_uses k (seen_of f m s) ≡ kind_used k f m s
  unfolding kind_used
  kind_is (kind.Interrupt level) (Fetches i len) good = refl
  kind_is (kind.Interrupt level) (Fails address) good = refl
  kind_is (kind.Interrupt level) SpellsNothing good = refl
  kind_is kind.Wait (Fetches i len) good = refl
  kind_is kind.Wait (Fails address) good = refl
  kind_is kind.Wait SpellsNothing good = refl
  kind_is (kind.Window vector) (Fetches i len) good = return_is i
  kind_is (kind.Window vector) (Fails address) good = refl
  kind_is (kind.Window vector) SpellsNothing good = refl
  kind_is kind.Insn (Fetches i len) good = insn_is i good.range
  kind_is kind.Insn (Fails address) good = refl
  kind_is kind.Insn SpellsNothing good = refl
  kind_is (kind.Exc cause) (Fetches i len) good = insn_is i good.range
  kind_is (kind.Exc cause) (Fails address) good = refl
  kind_is (kind.Exc cause) SpellsNothing good = refl
  kind_is kind.Stop (Fetches i len) good = insn_is i good.range
  kind_is kind.Stop (Fails address) good = refl
  kind_is kind.Stop SpellsNothing good = refl

  pub uses_are : (code : ℕ → ℕ) (k : StepKind) (access : Option Access) (reply : ℕ) → IsGoodSeen (seen_of (fetch_at code s.control.pc) m s)
      → turn_uses k access (seen_of (fetch_at code s.control.pc) m s) reply ≡ turn_used code k access reply m s
  unfolding turn_used
  uses_are code k access reply good =
      ap (λ (b : Bool). b && found_used access reply) (kind_is k (fetch_at code s.control.pc) good)
      ∙ sym (ap (λ (b : Bool). b && (kind_used k (fetch_at code s.control.pc) m s && found_used access reply)) common_known)

  -- ---- the register that is written

  abbrev written_regs : Option MaskWrite → ℕ → (ℕ → ℕ) → ℕ → ℕ
  written_regs None base regs = regs
  written_regs (Some w) base regs = with_mask (place base w.reg) w.mask regs

  regs_are : (i : Insn) (d : Option ℕ) (write : Option RegWrite) (base reply : ℕ)
      → written_regs (masked_write (doubt_of d (first_word i m s) m s) write reply c.threadptr (seen_in i m s)) base m.regs ≡ regs_past i d write base reply m s
  regs_are i (Some r) write base reply = refl
  regs_are i None None base reply = refl
  regs_are i None (Some w) base reply = refl

  carries_are : (i : Insn) (d : Option ℕ) (write : Option RegWrite) (reply : ℕ)
      → leaves_hidden (masked_write (doubt_of d (first_word i m s) m s) write reply c.threadptr (seen_in i m s)) ≡ writes_hidden i d write reply m s
  carries_are i (Some r) write reply = refl
  carries_are i None None reply = refl
  carries_are i None (Some w) reply = refl

-- ---- the tick changes no mask

ticked_plain : (c : CoreMasks) (n : ℕ) → ticked_masks (special_mask c) n ≡ special_mask c n
ticked_plain c n = ⊎_elim
    (λ (e : n ≡ 234). subst (λ (k : ℕ). ticked_masks (special_mask c) k ≡ special_mask c k) (sym e) refl)
    (λ (no : n ≢ 234). ⊎_elim
    (λ (e : n ≡ 226). subst (λ (k : ℕ). ticked_masks (special_mask c) k ≡ special_mask c k) (sym e) refl)
    (λ (nor : n ≢ 226). cond-false (eqb n 234) _ _ (ne_eqb n 234 no) ∙ cond-false (eqb n 226) _ _ (ne_eqb n 226 nor))
    (cases_eq n 226))
    (cases_eq n 234)

pub ticked_same : (c : CoreMasks) → ticked_masks (special_mask c) ≡ special_mask c
ticked_same c = same_functions (ticked_masks (special_mask c)) (special_mask c) (ticked_plain c)

-- ---- a mask is put

put_one : (xs : List ℕ) (k mask n d : ℕ) → k < length xs → get_or (set xs k mask) n d ≡ with_mask k mask (λ j. get_or xs j d) n
put_one xs k mask n d h = ⊎_elim
    (λ (e : n ≡ k). ap (λ (j : ℕ). get_or (set xs k mask) j d) e ∙ (get_or-set_same xs k mask d h ∙ sym (cond-true (eqb n k) mask (get_or xs n d) (eq-eqb n k e))))
    (λ (no : n ≢ k). get_or-set_other xs k n mask d no ∙ sym (cond-false (eqb n k) mask (get_or xs n d) (ne_eqb n k no)))
    (cases_eq n k)

regs_put : (xs ys : List ℕ) (k mask : ℕ) → k < length xs → ys ≡ set xs k mask → ◌≡◌ {A = ℕ → ℕ} (λ n. get_or ys n all_bits) (with_mask k mask (λ n. get_or xs n all_bits))
regs_put xs ys k mask h e = same_functions (λ n. get_or ys n all_bits) (with_mask k mask (λ n. get_or xs n all_bits)) (λ n. ap (λ (l : List ℕ). get_or l n all_bits) e ∙ put_one xs k mask n all_bits h)

kept_or : (b e : Bool) (x y z given : ℕ) → (e ≡ true → b ≡ true) → x ≡ cond e given y → cond b x z ≡ cond e given (cond b y z)
kept_or true true x y z given f h = h
kept_or true false x y z given f h = h
kept_or false true x y z given f h = absurd (true≢false (sym (f refl)))
kept_or false false x y z given f h = refl

pub special_put : (c d : CoreMasks) (k given : ℕ) → holds_marks k ≡ true → k < length c.special → d.special ≡ set c.special k given → special_mask d ≡ with_mask k given (special_mask c)
special_put c d k given keeps h e =
    same_functions (special_mask d) (with_mask k given (special_mask c))
    (λ n. kept_or (holds_marks n) (eqb n k) (get_or d.special n all_bits) (get_or c.special n all_bits) all_bits given (λ same. ap holds_marks (eqb-true n k same) ∙ keeps)
    (ap (λ (l : List ℕ). get_or l n all_bits) e ∙ put_one c.special k given n all_bits h))

-- ---- after an instruction that is executed

pub record IsGiven (c d : CoreMasks) (i : Insn) (given : ℕ) : Type 0 where
  pub regs : d.regs ≡ c.regs
  pub special : special_mask d ≡ special_given (moved_to i) given (special_mask c)
  pub threadptr : d.threadptr ≡ pointer_mask i given c.threadptr

-- and the register has its mask
abbrev pub IsPut : Option MaskWrite → ℕ → CoreMasks → CoreMasks → Type 0
IsPut None base d e = e ≡ d
IsPut (Some w) base d e = (e ≡ record d { regs = set d.regs (place base w.reg) w.mask }) × (place base w.reg < length d.regs)

parts_known : (c d e : CoreMasks) (s : State) (i : Insn) (write : Option RegWrite) (base reply : ℕ) (w : Option MaskWrite)
    → w ≡ masked_write (doubt_of (doubtful i (second_word i (knowledge_of c) s)) (first_word i (knowledge_of c) s) (knowledge_of c) s) write reply c.threadptr (seen_in i (knowledge_of c) s)
    → IsGiven c d i (first_word i (knowledge_of c) s).mask → IsPut w base d e → knowledge_of e ≡ known_past (Some i) write base reply (knowledge_of c) s
unfolding known_past
parts_known c d e s i write base reply w is given put =
    let m = knowledge_of c in
    let x = (first_word i m s).mask in
    let after = special_given (moved_to i) x (special_mask c) in
    let regs : ◌≡◌ {A = ℕ → ℕ} (knowledge_of e).regs (regs_past i (doubtful i (second_word i m s)) write base reply m s) =
    put_regs w put ∙ ap (λ (o : Option MaskWrite). written_regs c s o base m.regs) is ∙ regs_are c s i (doubtful i (second_word i m s)) write base reply in
    let special : special_mask e ≡ ticked_masks after = put_special w put ∙ (sym (ticked_same d) ∙ ap ticked_masks given.special) in
    let pointer : e.threadptr ≡ pointer_mask i x c.threadptr = put_pointer w put ∙ given.threadptr in
    λ j. record { regs = regs j; special = special j; threadptr = pointer j }
  where
    put_regs : (o : Option MaskWrite) → IsPut o base d e → ◌≡◌ {A = ℕ → ℕ} (knowledge_of e).regs (written_regs c s o base (knowledge_of c).regs)
    put_regs None same = ap (λ (a : CoreMasks). (knowledge_of a).regs) same ∙ ap (λ (l : List ℕ). let f : ℕ → ℕ = λ n. get_or l n all_bits in f) given.regs
    put_regs (Some o) both =
        regs_put d.regs e.regs (place base o.reg) o.mask both.1 (ap (λ (a : CoreMasks). a.regs) both.0)
        ∙ ap (λ (l : List ℕ). with_mask (place base o.reg) o.mask (λ n. get_or l n all_bits)) given.regs

    put_special : (o : Option MaskWrite) → IsPut o base d e → special_mask e ≡ special_mask d
    put_special None same = ap (λ (a : CoreMasks). special_mask a) same
    put_special (Some o) both = ap (λ (a : CoreMasks). special_mask a) both.0

    put_pointer : (o : Option MaskWrite) → IsPut o base d e → e.threadptr ≡ d.threadptr
    put_pointer None same = ap (λ (a : CoreMasks). a.threadptr) same
    put_pointer (Some o) both = ap (λ (a : CoreMasks). a.threadptr) both.0

pub passed_known : (c d e : CoreMasks) (s : State) (x : Seen) (write : Option RegWrite) (base reply : ℕ) (w : Option MaskWrite)
    → w ≡ masked_write x.doubt write reply c.threadptr x → IsGiven c d x.insn x.x.mask → IsPut w base d e → x ≡ seen_in x.insn (knowledge_of c) s
    → knowledge_of e ≡ known_past (Some x.insn) write base reply (knowledge_of c) s
passed_known c d e s x write base reply w is given put same =
    parts_known c d e s x.insn write base reply w (is ∙ ap (λ (y : Seen). masked_write y.doubt write reply c.threadptr y) same)
    (subst (λ (y : Seen). IsGiven c d x.insn y.x.mask) same given) put

pub passed_carries : (c : CoreMasks) (s : State) (x : Seen) (write : Option RegWrite) (reply : ℕ) → x ≡ seen_in x.insn (knowledge_of c) s
    → leaves_hidden (masked_write x.doubt write reply c.threadptr x) ≡ insn_carries (Some x.insn) write reply (knowledge_of c) s
passed_carries c s x write reply same =
    ap (λ (y : Seen). leaves_hidden (masked_write y.doubt write reply c.threadptr y)) same
    ∙ carries_are c s x.insn (doubtful x.insn (second_word x.insn (knowledge_of c) s)) write reply

-- ---- an amount to shift by

pub held_masked : (o : Option ℕ) (v mask : ℕ) → IsHeld o v → IsHeld o (bit_and v mask)
held_masked None v mask h = let l = and_le_l v mask in omega (arith, h, l)
held_masked (Some n) v mask h = λ e. let low = h e in let l = and_le_l v mask in omega (arith, low, l)

-- ---- words of which each bit is known

whole_as : (w : Word) → w.mask ≡ all_bits → w ≡ whole_word w.value
whole_as w e = λ j. record { value = w.value; mask = e j }

row_whole : (i : Insn) (a b : ℕ) → row_used i (whole_word a) (whole_word b) ≡ true
unfolding row_used
row_whole (insn.Three (three.Move name r s t)) a b = refl
row_whole (insn.Three (three.Divide name r s t)) a b = refl
row_whole (insn.Three i) a b = used_whole Lenient (insn.Three i) a b
row_whole (insn.Shift i) a b = used_whole Lenient (insn.Shift i) a b
row_whole (insn.Memory i) a b = used_whole Lenient (insn.Memory i) a b
row_whole (insn.Control i) a b = used_whole Lenient (insn.Control i) a b
row_whole (insn.System i) a b = used_whole Lenient (insn.System i) a b
row_whole (insn.Density i) a b = used_whole Lenient (insn.Density i) a b
row_whole (insn.Boolean i) a b = used_whole Lenient (insn.Boolean i) a b

pub whole_row : (i : Insn) (x y : Word) → x.mask ≡ all_bits → y.mask ≡ all_bits → true ≡ row_used i x y
whole_row i x y e f = sym ((λ j. row_used i (whole_as x e j) (whole_as y f j)) ∙ row_whole i x.value y.value)

pub plain_result : (i : Insn) (x y u : Word) (pointer reply : ℕ)
    → (eqb x.mask all_bits && (eqb y.mask all_bits && (eqb u.mask all_bits && (eqb pointer all_bits && eqb reply all_bits)))) ≡ true → all_bits ≡ result_mask Lenient i x y u pointer reply
plain_result i x y u pointer reply h =
    let a = and_parts (eqb x.mask all_bits) _ h in
    let b = and_parts (eqb y.mask all_bits) _ a.1 in
    let c = and_parts (eqb u.mask all_bits) _ b.1 in
    let d = and_parts (eqb pointer all_bits) _ c.1 in
    let first = whole_as x (eqb-true x.mask all_bits a.0) in
    let second = whole_as y (eqb-true y.mask all_bits b.0) in
    let special = whole_as u (eqb-true u.mask all_bits c.0) in
    let p = eqb-true pointer all_bits d.0 in
    let r = eqb-true reply all_bits d.1 in
    sym ((λ j. result_mask Lenient i (first j) (second j) (special j) (p j) (r j)) ∙ result_whole i x.value y.value u.value)
