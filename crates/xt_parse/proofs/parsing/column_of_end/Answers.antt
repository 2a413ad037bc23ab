use Rattle.std.proofs.Common.{◌+◌, ◌-◌, length, sym, ap, refl, arith}
use Rattle.std.proofs.lemmas.Option.{slice_get_read}
use Rattle.std.specs.Option.{option_map_or}
use Rattle.xt_lex.specs.declared.token.Token.{Token}
use Rattle.xt_parse.proofs.parsing.column_of_end.Goals as goal

pub returns-in-len1-up : goal.returns-in-len1-up
returns-in-len1-up c =
    let tokens = c.args.tokens.now in
    ap (λ o. option_map_or (λ (t : Token). t.column + t.width) o 1) (sym (slice_get_read tokens (length tokens) (length tokens - 1) c.last-item.result refl (omega (arith, c.in-len1-up.len_at_least)) c.last-item.is))
