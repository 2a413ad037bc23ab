use Rattle.std.proofs.Common.{◌≡◌, ℕ, ap, bit_or, subst}
use Rattle.std.proofs.lemmas.Bool.{not-true}
use Rattle.xt_special.specs.Control.{special_of}
use Rattle.xt_special.specs.Interrupts.{pending_of}
use Rattle.xt_moments.specs.Moments.{with_special}
use Rattle.xt_moment_search.specs.Sides.{KnownCore}
use Rattle.xt_map.specs.Memory.{constant_byte}
use Rattle.xt_moment_search.specs.KnownCores.{core_of}
use Rattle.xt_moment_search.proofs.Calm.{calm_armed}
use Rattle.xt_moment_search.proofs.forcing.is_calm.Goals as goal

pub returns-then-is_deaf : goal.returns-then-is_deaf
returns-then-is_deaf c = λ no.
    let one = c.in-Some.ensures in
    let free = not-true c.touches_time.result no in
    let k = c.args.side.now in
    let deaf = subst (λ (b : ℕ). pending_of (with_special 226 (bit_or (special_of k.state.control 226) b) k.state).control
    ≡ pending_of k.state.control) (ap (λ (x : KnownCore). x.armed) c.side.view_is)
    (c.is_deaf.ensures c.if-is_deaf.true) in
    calm_armed (constant_byte c.args.ground.now.code) (core_of c.args.side.now) c.in-Some._timer one.0
    one.1 deaf (c.touches_time.ensures.reads free)
    (c.touches_time.ensures.arms free)
