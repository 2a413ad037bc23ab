use Rattle.std.proofs.Common.{sym, ◌∙◌, ap}
use Rattle.xt_uses.specs.declared.masks.Keep.{Keep}
use Rattle.xt_uses.specs.UseParts.{kept_after, kept_of}
use Rattle.xt_uses.proofs.UseKept.{kept_popped, kept_snoc}
use Rattle.xt_uses.proofs.cores.change_masks.Goals as goal

pub returns-in_ok-push-in-Keeps-clause-masks : goal.returns-in_ok-push-in-Keeps-clause-masks
returns-in_ok-push-in-Keeps-clause-masks c =
    let old = c.args.kept.now.items in
    ap kept_of c.in_ok-push-in-Keeps.ensures.items ∙ (kept_snoc old c.in-Keeps.masks ∙ sym (ap (λ (k : Keep). kept_after k (kept_of old)) c.in-Keeps.is))

pub returns-in-Restores-clause-masks : goal.returns-in-Restores-clause-masks
returns-in-Restores-clause-masks c =
    let old = c.args.kept.now in
    let e = c.pop-masks.ensures in
    kept_popped old.items c.pop-masks.new.self.items c.pop-masks.result _ _ e.items e.cases old.ok.0 ∙ sym (ap (λ (k : Keep). kept_after k (kept_of old.items)) c.in-Restores.is)
