-- A visit, as the loop of the walk makes it.
use Rattle.std.proofs.Common.{◌≡◌, ℕ, ◌<◌, Bool, true, List, [], ◌∷◌, ◌++◌, sym, ap, subst, ◌∙◌}
use Rattle.std.specs.Prelude.{All}
use Rattle.xt_map.specs.declared.segment.Segment.{Segment}
use Rattle.xt_map.specs.Placing.{is_well_placed}
use Rattle.xt_image.specs.declared.image.Image.{Image}
use Rattle.xt_flow.specs.FlowTables.{pending_after, reads_after, starts_after}
use Rattle.xt_flow.proofs.Reaching.{Going, goes_on, left, less_left}

module _ (image : Image) (vecbase entry1 : ℕ) (roots : List ℕ) (starts new_starts reads new_reads : List Bool) (pending rest new_pending : List ℕ) (a : ℕ) (segments : List Segment)
    (placed : All (λ s. is_well_placed s ≡ true) image.segments) (same : segments ≡ image.segments) (popped : pending ≡ rest ++ a ∷ [])
    (one : new_starts ≡ starts_after segments starts a) (two : new_reads ≡ reads_after segments starts reads a) (three : new_pending ≡ pending_after segments starts rest a)
    (going : Going image vecbase entry1 roots starts reads pending) where
  before : Going image vecbase entry1 roots starts reads (rest ++ a ∷ [])
  before = subst (Going image vecbase entry1 roots starts reads) popped going

  starts_is : new_starts ≡ starts_after image.segments starts a
  starts_is = one ∙ ap (λ s. starts_after s starts a) same

  reads_is : new_reads ≡ reads_after image.segments starts reads a
  reads_is = two ∙ ap (λ s. reads_after s starts reads a) same

  pending_is : new_pending ≡ pending_after image.segments starts rest a
  pending_is = three ∙ ap (λ s. pending_after s starts rest a) same

  pub visit_goes_on : Going image vecbase entry1 roots new_starts new_reads new_pending
  visit_goes_on =
      subst (λ s. Going image vecbase entry1 roots s new_reads new_pending) (sym starts_is)
      (subst (λ r. Going image vecbase entry1 roots (starts_after image.segments starts a) r new_pending) (sym reads_is)
      (subst (λ p. Going image vecbase entry1 roots (starts_after image.segments starts a) (reads_after image.segments starts reads a) p) (sym pending_is)
      (goes_on image vecbase entry1 roots starts reads rest a placed before)))

  pub visit_is_less : left new_starts new_pending < left starts pending
  visit_is_less =
      let less : left (starts_after image.segments starts a) (pending_after image.segments starts rest a) < left starts (rest ++ a ∷ []) = less_left image vecbase entry1 roots starts reads rest a placed before in
      let x : left new_starts new_pending ≡ left (starts_after image.segments starts a) new_pending = ap (λ s. left s new_pending) starts_is in
      let y : left (starts_after image.segments starts a) new_pending ≡ left (starts_after image.segments starts a) (pending_after image.segments starts rest a) = ap (left (starts_after image.segments starts a)) pending_is in
      let z : left starts pending ≡ left starts (rest ++ a ∷ []) = ap (left starts) popped in
      subst (λ n. n < left starts pending) (sym (x ∙ y)) (subst (λ n. left (starts_after image.segments starts a) (pending_after image.segments starts rest a) < n) (sym z) less)
