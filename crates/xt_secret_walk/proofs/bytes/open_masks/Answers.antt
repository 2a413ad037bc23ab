use Rattle.std.proofs.Common.{◌≡◌, ◌∙◌, arith}
use Rattle.xt_simulation.specs.WatchedRuns.{has_byte_at}
use Rattle.xt_use_walk.specs.declared.bytes.ByteMasks.{ByteMasks}
use Rattle.xt_secret_walk.proofs.Storing.{opened}
use Rattle.xt_secret_walk.proofs.bytes.open_masks.Goals as goal

pub returns : goal.returns
returns c =
    let i = c.loop-place.invariant in
    let end = c.loop-place.auto.place-end in
    let last = c.loop-place-test.false in
    let all : c.loop-place.place ≡ 0x56000 = omega (arith, end, last) in
    let x : ByteMasks = record { masks = c.loop-place.masks } in
    opened x (has_byte_at c.args.secret.now) (has_byte_at c.args.public.now) (i.0 ∙ all) (λ k h. i.1 k (omega (arith, h, all)))
