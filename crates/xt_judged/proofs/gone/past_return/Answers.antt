use Rattle.std.proofs.Common.{Bool, ◌||◌, not, ◌&&◌, ap, ◌∙◌}
use Rattle.std.specs.Prelude.{option_copied}
use Rattle.xt_map.specs.Touching.{touches}
use Rattle.xt_frames.specs.Breaches.{stores_at}
use Rattle.xt_judged.specs.Lives.{is_live_in}
use Rattle.xt_judged.specs.Stales.{among}
use Rattle.xt_judged.proofs.Gathered.{both_gone}
use Rattle.xt_judged.proofs.gone.past_return.Goals as goal

pub returns : goal.returns
returns c = λ a.
    let own = c.args.own.now in
    let s : Bool = among c.args.stale.now a in
    let w : Bool = stores_at c.args.access a in
    let t : Bool = touches c.args.call.low 16 a in
    let u : Bool = touches c.args.call.high c.args.call.size a in
    let n : Bool = not (is_live_in own (option_copied c.args.other) a) in
    c.in_ok-add_gone-2.ensures a
    ∙ (ap (λ (x : Bool). x || (u && n)) (c.in_ok-add_gone.ensures a ∙ ap (λ (x : Bool). x || (t && n)) (c.in_ok-after.ensures a))
    ∙ both_gone s w t u n)
