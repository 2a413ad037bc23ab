use Rattle.std.proofs.Common.{◌≡◌, ◌-◌, ◌<◌, suc, ap, arith, length}
use Rattle.std.proofs.lemmas.List.Elements.{All-get_or}
use Rattle.xt_uses.specs.declared.masks.KeptMasks.{KeptMasks}
use Rattle.xt_uses.specs.UseParts.{newest_masks}
use Rattle.xt_uses.proofs.UseKept.{kept_last, kept_none, no_masks}
use Rattle.xt_uses.proofs.cores.newest_masks.Goals as goal

pub returns-then-depth-eq0-clause-newest : goal.returns-then-depth-eq0-clause-newest
returns-then-depth-eq0-clause-newest c = ap newest_masks (kept_none c.args.kept.now c.if-depth-eq0.true)

pub returns-else-depth-eq0-clause-newest : goal.returns-else-depth-eq0-clause-newest
returns-else-depth-eq0-clause-newest c =
    let h : length c.args.kept.now ≡ suc (length c.args.kept.now - 1) = omega arith in
    kept_last c.args.kept.now (length c.args.kept.now - 1) no_masks h

pub returns-else-depth-eq0-clause-few : goal.returns-else-depth-eq0-clause-few
returns-else-depth-eq0-clause-few c =
    let kept = c.args.kept.now in
    All-get_or (λ (k : KeptMasks). k.by < 4) kept (length kept - 1) no_masks (omega arith) c.requires
