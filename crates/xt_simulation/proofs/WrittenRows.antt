-- A row whose operands are known in each bit, and which does not read PS.OWB, writes what is known in each bit; and a step that uses nothing
-- unknown shows neither Unset nor StaleLoad.
use Rattle.std.proofs.Common.{◌≡◌, ℕ, Bool, true, false, List, [], ◌∷◌, Some, refl, sym, ◌∙◌, ⊎_elim, subst}
use Rattle.std.proofs.lemmas.Bool.{cases_Bool, cond-false, cond-true, true≢false, false≢true}
use Rattle.std.proofs.lemmas.Option.{none-some, same_Some}
use Rattle.xt_isa.specs.declared.Insn.{Insn}
use Rattle.xt_isa.specs.declared.Insn.TheVariants as insn
use Rattle.xt_isa.specs.declared.system.System.TheVariants as system
use Rattle.xt_isa.specs.declared.system.LevelName.TheVariants as LevelName
use Rattle.xt_isa.specs.declared.system.SpecialName.TheVariants as SpecialName
use Rattle.xt_isa.specs.declared.system.UserName.TheVariants as UserName
use Rattle.xt_rows.specs.Operands.{special_reads}
use Rattle.xt_frames.specs.declared.kinds.BreachKind.{BreachKind}
use Rattle.xt_frames.specs.declared.kinds.BreachKind.TheVariants as breach
use Rattle.xt_frames.specs.Breaches.{Test, first_shown}
use Rattle.xt_uses.specs.declared.discipline.Discipline.{Discipline}
use Rattle.xt_uses.specs.declared.words.Word.{Word}
use Rattle.xt_uses.specs.Words.{all_bits, whole_word}
use Rattle.xt_uses.specs.Used.{holds_owb}
use Rattle.xt_uses.specs.Known.{result_mask, system_mask}
use Rattle.xt_uses.specs.UseBreaches.{shown_here, use_tests}
use Rattle.xt_uses.proofs.WholeRows.{result_whole}
use Rattle.xt_simulation.specs.WrittenFirst.{IsOther, reads_owb}

pub result_known : (d : Discipline) (i : Insn) (x y : ℕ) (u : Word) → reads_owb i ≡ false → ((n : ℕ) → (special_reads i).0 ≡ Some n → holds_owb n ≡ false → u.mask ≡ all_bits)
    → result_mask d i (whole_word x) (whole_word y) u all_bits all_bits ≡ all_bits
unfolding result_mask system_mask reads_owb special_reads
result_known d (insn.Three i) x y u o h = result_whole (insn.Three i) x y u.value
result_known d (insn.Shift i) x y u o h = result_whole (insn.Shift i) x y u.value
result_known d (insn.Memory i) x y u o h = result_whole (insn.Memory i) x y u.value
result_known d (insn.Control i) x y u o h = refl
result_known d (insn.System (system.Special SpecialName.Rsr t n)) x y u o h = h n refl o
result_known d (insn.System (system.Special SpecialName.Xsr t n)) x y u o h = h n refl o
result_known d (insn.System (system.Level LevelName.Rsil t level)) x y u o h = absurd (true≢false o)
result_known d (insn.System (system.User UserName.Rur r n)) x y u o h = refl
result_known d (insn.System _) x y u o h = refl
result_known d (insn.Density i) x y u o h = result_whole (insn.Density i) x y u.value
result_known d (insn.Boolean i) x y u o h = result_whole (insn.Boolean i) x y u.value

-- ---- the tests
here_other : (k : BreachKind) (movsp shown : Bool) → shown_here k false false movsp shown ≡ true → IsOther k
here_other breach.Unset movsp shown e = false≢true e
here_other breach.StaleLoad movsp shown e = false≢true e
here_other _ movsp shown e = tt

pub other_shown : (ts : List Test) (movsp : Bool) (kind : BreachKind) → first_shown (use_tests false false movsp ts) ≡ Some kind → IsOther kind
other_shown [] movsp kind e = absurd (none-some kind e)
other_shown (t ∷ ts) movsp kind e =
    let shown : Bool = shown_here t.kind false false movsp t.shown in
    ⊎_elim
    (λ yes. subst IsOther (same_Some t.kind kind (sym (cond-true shown (Some t.kind) (first_shown (use_tests false false movsp ts)) yes) ∙ e)) (here_other t.kind movsp t.shown yes))
    (λ no. other_shown ts movsp kind (sym (cond-false shown (Some t.kind) (first_shown (use_tests false false movsp ts)) no) ∙ e))
    (cases_Bool shown)
