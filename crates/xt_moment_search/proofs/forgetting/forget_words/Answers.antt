use Rattle.xt_moment_search.proofs.Forgotten.{bytes_forget}
use Rattle.xt_moment_search.proofs.forgetting.forget_words.Goals as goal

pub loop-place-preserved : goal.loop-place-preserved
loop-place-preserved c =
    let g = c.args.ground.now in
    bytes_forget g.opening.contents g.cleared.contents c.args.bytes.now c.loop-place.bytes
    c.forget_saved.new.bytes c.loop-place.invariant c.in_ok-forget_saved.ensures
