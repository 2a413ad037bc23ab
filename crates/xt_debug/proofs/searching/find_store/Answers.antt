use Rattle.std.proofs.Common.{suc, ap, ◌∙◌}
use Rattle.std.specs.Option.{option_map}
use Rattle.xt_debug.proofs.Found.{arrived}
use Rattle.xt_debug.proofs.searching.find_store.Goals as goal

pub returns : goal.returns
returns c =
    arrived c.after.result _ c.args.replay.now c.first-found.new.replay c.arrive.new.replay c.position-start.result c.arrive.result
    (c.after.ensures ∙ ap (option_map suc) c.first-found.ensures.found) c.first-found.ensures.moved c.position-start.ensures.position c.arrive.ensures
