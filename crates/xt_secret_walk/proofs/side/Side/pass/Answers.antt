use Rattle.std.proofs.Common.{◌+◌, ◌∙◌, ℕ, Bool, ap}
use Rattle.xt_simulation.specs.WatchedRuns.{has_byte_at}
use Rattle.xt_secret_walk.specs.declared.side.Side.{Side}
use Rattle.xt_secret_walk.specs.Walked.{count_of}
use Rattle.xt_secret_walk.proofs.MadeTurns.{passed}
use Rattle.xt_secret_walk.proofs.side.Side.pass.Goals as goal

pub returns : goal.returns
returns c =
    let public : ℕ → Bool = has_byte_at c.args.public.now in
    let mid = c.write-written.new.self in
    let new : Side = record mid { carried = mid.carried + c.count_of.result; steps = mid.steps + 1 } in
    passed public c.args.self.now mid new c.args.bytes.now c.store-hides.new.masks c.args.rec.now c.args.seen.now c.args.reply c.stored_by.result c.write-written.result c.store-hides.result
    c.write-written.ensures c.stored_by.ensures c.store-hides.ensures.bytes c.store-hides.ensures.hides
    (ap (λ (n : ℕ). let f : Side = record mid { carried = mid.carried + n; steps = mid.steps + 1 } in f) (c.count_of.ensures.value ∙ ap count_of c.is_either.ensures))
