use Rattle.std.proofs.Common.{sym, ap, ◌∙◌, subst}
use Rattle.xt_map.specs.declared.contents.MemoryContents.{MemoryContents}
use Rattle.xt_search.specs.Changed.{IsLean}
use Rattle.xt_core.specs.Runs.{memory_of}
use Rattle.xt_outcomes.specs.Dead.{spot_forgotten}
use Rattle.xt_outcomes.specs.KeptWorlds.{spot_of}
use Rattle.xt_outcomes.proofs.opening.open_for.Goals as goal

pub returns-clause-spot : goal.returns-clause-spot
returns-clause-spot c =
    let memory = c.requires.memory in
    sym (ap (λ (k : MemoryContents). spot_of k c.in_ok-opening.opening) memory)
    ∙ c.in_ok-opening.ensures.spot
    ∙ ap (spot_forgotten c.args.machine.now.dead.masks.items)
    (ap (λ (k : MemoryContents). spot_of k c.in_ok-first.first) memory ∙ c.in_ok-first.ensures.spot)

pub returns-clause-lean : goal.returns-clause-lean
returns-clause-lean c = subst (IsLean (memory_of c.args.image.now c.args.options.now)) (sym c.in_ok-opening.ensures.lean) c.in_ok-first.ensures.lean
