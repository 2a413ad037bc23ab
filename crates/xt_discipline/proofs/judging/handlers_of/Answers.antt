use Rattle.std.proofs.Common.{◌≡◌, List, subst, ◌∙◌}
use Rattle.xt_map.specs.declared.segment.Segment.{Segment}
use Rattle.xt_map.specs.Memory.{constant_byte}
use Rattle.xt_handlers.specs.CheckAnswers.{handlers_of}
use Rattle.xt_discipline.proofs.judging.handlers_of.Goals as goal

pub returns : goal.returns
returns c =
    let P : List Segment → Type 0 = λ s. c.check.result ≡ handlers_of (constant_byte s) c.args.vecbase in
    subst P (c.in_ok-code.ensures ∙ c.as_slice.ensures) c.check.ensures
