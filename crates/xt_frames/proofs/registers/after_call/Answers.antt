use Rattle.std.proofs.Common.{rules, ◌≡◌, ◌*◌, ◌++◌, drop}
use Rattle.std.proofs.lemmas.List.{take_rest}
use Rattle.xt_frames.proofs.Sixteen.{filled}
use Rattle.xt_frames.proofs.registers.after_call.Goals as goal

pub returns : goal.returns
returns g c =
    let seen : c.copy_from_slice.new.self ≡ drop (4 * c.args.n) c.args.seen.now =
    search (rules, take_rest c.args.seen.now (4 * c.args.n), c.told-seen, c.copy_from_slice.ensures) in
    λ i. seen i ++ filled c.args.n c.args.unset c.requires i
