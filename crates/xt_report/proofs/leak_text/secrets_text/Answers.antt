use Rattle.std.proofs.Common.{List, ap, ◌∙◌}
use Rattle.xt_map.specs.declared.segment.Segment.{Segment}
use Rattle.xt_map.specs.Memory.{constant_byte}
use Rattle.xt_report.specs.SecretsText.{secrets_text}
use Rattle.xt_report.proofs.leak_text.secrets_text.Goals as goal

pub returns : goal.returns
returns c = record {
  answer = c.in_ok-secrets.secrets;
  is_answer = c.in_ok-secrets.ensures.secrets;
  text_is = c.in_ok-text.ensures ∙ ap (λ (s : List Segment). secrets_text (constant_byte s) c.in_ok-secrets.secrets) (c.in_ok-code.ensures ∙ c.as_slice.ensures);
  only = c.in_ok-secrets.ensures.only;
  kept = c.in_ok-secrets.ensures.kept;
}
