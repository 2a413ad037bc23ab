use Rattle.std.proofs.Common.{◌-◌, ◌≤◌, ◌++◌, List, length, get_or, replicate, take, ap, ◌∙◌, arith}
use Rattle.xt_race.specs.declared.latest.Mark.{Mark}
use Rattle.xt_race.specs.Tables.{no_mark}
use Rattle.xt_race.proofs.Tabled.{filled}
use Rattle.xt_race.proofs.page.reach.Goals as goal

pub returns-clause-same : goal.returns-clause-same
returns-clause-same c k =
    let old = c.args.items.now in
    let few : length old.items ≤ 64 = omega (arith, old.ok.0) in
    ap (λ (l : List Mark). get_or l k no_mark) (c.in_ok-resize.ensures.items ∙ ap (λ (m : Mark). take 64 old.items ++ replicate (64 - old.len) m) c.no_mark.ensures)
    ∙ filled old.items 64 (64 - old.len) k few
