use Rattle.std.proofs.Common.{◌≡◌, ℕ, ◌+◌, Bool, List, ◌∷◌, get_or, drop, sym, ap, ◌∙◌}
use Rattle.std.proofs.lemmas.List.{drop_more}
use Rattle.xt_judged.specs.Past.{is_spared}
use Rattle.xt_judged.proofs.Among.{walked, walked_kept, walked_left}
use Rattle.xt_judged.proofs.stale.spared.Goals.{then-is_spared+in_ok-push, else-is_spared}
use Rattle.xt_judged.proofs.stale.spared.Goals as goal

pub loop-byte-preserved : goal.loop-byte-preserved
loop-byte-preserved c =
    let bytes : List ℕ = c.args.bytes.now in
    let kept : List ℕ = c.loop-byte.rest.items in
    let n : ℕ = c.loop-byte.byte-index in
    let b : ℕ = get_or bytes n 0 in
    let rest : List ℕ = drop (n + 1) bytes in
    let test : ℕ → Bool = is_spared c.args.access c.args.call in
    let next : drop n bytes ≡ b ∷ rest = drop_more bytes n 0 c.loop-byte-test.true in
    elim c.if-is_spared.branch [
      | then-is_spared+in_ok-push w ↦ λ a.
          ap (λ (v : List ℕ). walked test v rest a) (ap (λ v. v.items) w.rest-is ∙ w.in_ok-push.ensures.items)
          ∙ (walked_kept test kept b rest a (sym c.is_spared.ensures ∙ w.if-is_spared.true)
          ∙ (sym (ap (λ (l : List ℕ). walked test kept l a) next) ∙ c.loop-byte.invariant a))
      | else-is_spared w ↦ λ a.
          ap (λ (v : List ℕ). walked test v rest a) (ap (λ v. v.items) w.rest-is)
          ∙ (walked_left test kept b rest a (sym c.is_spared.ensures ∙ w.if-is_spared.false)
          ∙ (sym (ap (λ (l : List ℕ). walked test kept l a) next) ∙ c.loop-byte.invariant a))
    ]
