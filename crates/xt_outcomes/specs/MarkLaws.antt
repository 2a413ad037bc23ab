-- Carries a proof; nothing that a reader must believe.
-- Worlds that are the same have one number.
use Rattle.std.proofs.Common.{sym, ◌∙◌}
use Rattle.std.specs.Prelude.{◌≡◌, ℕ, ◌+◌, ◌*◌, ◌%◌, ◌^◌}
use Rattle.xt_search.specs.Changed.{ChangesState, digest_of}
use Rattle.xt_exec.specs.State.{State}
use Rattle.xt_outcomes.specs.Marks.{IsSameWorld, world_mark}
use Rattle.xt_outcomes.specs.SideMarks.{side_mark}
use Rattle.xt_outcomes.specs.States.{Side}
use Rattle.xt_outcomes.specs.declared.world.World.{World}

abbrev mark_of : Side State → Side State → ChangesState → ℕ
mark_of a b c =
    ((digest_of c + side_mark a * 31 % 2 ^ 64) % 2 ^ 64 + side_mark b * 1009 % 2 ^ 64) % 2 ^ 64

pub same_marks : (v w : World) (m n : ℕ) → IsSameWorld v w → m ≡ world_mark v → n ≡ world_mark w → m ≡ n
same_marks v w m n h e f = e ∙ (λ i. mark_of (h.0 i) (h.1 i) (h.2 i)) ∙ sym f
