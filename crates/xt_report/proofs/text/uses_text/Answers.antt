use Rattle.std.proofs.Common.{List, ap, ◌∙◌}
use Rattle.xt_map.specs.declared.segment.Segment.{Segment}
use Rattle.xt_map.specs.Memory.{constant_byte}
use Rattle.xt_report.specs.UsesText.{uses_text}
use Rattle.xt_report.proofs.text.uses_text.Goals as goal

pub returns : goal.returns
returns c = record {
  uses = c.in_ok-uses.uses;
  is_uses = c.in_ok-uses.ensures.uses;
  text_is = c.in_ok-text.ensures ∙ ap (λ (s : List Segment). uses_text (constant_byte s) c.in_ok-uses.uses) (c.in_ok-code.ensures ∙ c.as_slice.ensures);
  only = c.in_ok-uses.ensures.only;
  so = c.in_ok-uses.ensures.so;
  later = c.in_ok-uses.ensures.later;
}
