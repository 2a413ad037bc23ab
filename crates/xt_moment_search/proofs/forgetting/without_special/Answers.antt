use Rattle.std.proofs.Common.{◌≡◌, ap, ◌∙◌, sym, subst, refl}
use Rattle.xt_exec.specs.States.{file_state}
use Rattle.xt_moments.specs.MomentLaws.{may_be_lost}
use Rattle.xt_simulation.proofs.SecretSpecials.{differs}
use Rattle.xt_moment_search.specs.Forgetting.{ForgetsSide}
use Rattle.xt_moment_search.specs.Sides.{KnownCore}
use Rattle.xt_moment_search.proofs.Forgotten.{special_forgotten}
use Rattle.xt_moment_search.proofs.forgetting.without_special.Goals as goal

pub with_register-requires-clause-sar : goal.with_register-requires-clause-sar
with_register-requires-clause-sar c = differs c.args.n 3 may_be_lost c.requires refl

pub with_register-requires-clause-vecbase : goal.with_register-requires-clause-vecbase
with_register-requires-clause-vecbase c = differs c.args.n 231 may_be_lost c.requires refl

pub returns : goal.returns
returns c =
    let inside = c.side.inside in
    let old : KnownCore = record { state = file_state inside.regs; masks = inside.masks; armed = inside.armed; stopped = inside.stopped } in
    let new : KnownCore = record {
      state = file_state c.with_register.result;
      masks = c.masks_without.result;
      armed = inside.armed;
      stopped = inside.stopped;
    } in
    let e = c.masks_without.ensures in
    subst (λ (k : KnownCore). ForgetsSide k new) c.side.view_is
    (special_forgotten old new c.args.n c.requires c.with_register.ensures.state
    c.with_register.ensures.shaped e.regs e.special e.threadptr refl refl e.long)
