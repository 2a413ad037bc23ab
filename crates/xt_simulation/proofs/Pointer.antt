-- What each row does to THREADPTR, in the words of the machine of uses.
use Rattle.std.proofs.Common.{◌≡◌, ℕ, refl, subst}
use Rattle.xt_isa.specs.declared.Insn.{Insn}
use Rattle.xt_isa.specs.declared.Insn.TheVariants as insn
use Rattle.xt_isa.specs.declared.system.System.TheVariants as system
use Rattle.xt_isa.specs.declared.system.UserName.TheVariants as UserName
use Rattle.xt_special.specs.declared.ps.Ps.{Ps}
use Rattle.xt_rows.specs.Outcomes.{outcome}
use Rattle.xt_rows.proofs.Pointer as rows
pub use Rattle.xt_rows.proofs.Pointer.{LeavesPointer}
use Rattle.xt_uses.specs.UseLaws.{pointer_mask}

same : (i : Insn) (x t : ℕ) → rows.pointer_left i x t ≡ pointer_mask i x t
unfolding rows.pointer_left pointer_mask
same (insn.System (system.User UserName.Wur r n)) x t = refl
same _ x t = refl

-- WUR gives THREADPTR the value that it reads, and no other row changes it
pub pointer_left : (code : ℕ → ℕ) (i : Insn) (pc x y u v : ℕ) (ps : Ps) (threadptr : ℕ)
    → LeavesPointer (pointer_mask i x threadptr) (outcome code i pc x y u v ps threadptr)
pointer_left code i pc x y u v ps threadptr =
    subst (λ (t : ℕ). LeavesPointer t (outcome code i pc x y u v ps threadptr)) (same i x threadptr) (rows.pointer_kept code i pc x y u v ps threadptr)
