use Rattle.std.proofs.Common.{◌∙◌, ap, sym}
use Rattle.std.specs.List.{list_all}
use Rattle.std.specs.Char.{is_ascii_hexdigit}
use Rattle.xt_command_line.proofs.Hexadecimal.{hexadecimal_read}
use Rattle.xt_command_line.proofs.numbers.hexadecimal.Goals as goal

pub returns : goal.returns
returns c = c.ok.ensures.value ∙ hexadecimal_read c.args.digits.now c.from_str_radix.result c.from_str_radix.ensures.value c.if-digits-gt8.false
    (ap (list_all is_ascii_hexdigit) (sym c.as_bytes.ensures.value) ∙ sym c.are_hexadecimal_digits.ensures ∙ c.if-not-are_hexadecimal_digits.false)
