use Rattle.std.proofs.Common.{rules, ◌≡◌, ◌*◌, ap, ◌∙◌, take, arith}
use Rattle.std.proofs.lemmas.List.{take-take}
use Rattle.xt_frames.proofs.registers.kept_of.Goals as goal

pub returns : goal.returns
returns g c = λ n le.
    let kept : c.copy_from_slice.new.self ≡ take 12 c.args.seen.now = search rules in
    ap (take (4 * n)) kept ∙ take-take (4 * n) 12 c.args.seen.now (omega arith)
