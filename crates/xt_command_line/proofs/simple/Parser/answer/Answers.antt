use Rattle.std.proofs.Common.{map, subst, true, ◌≡◌}
use Rattle.std.specs.Prelude.{string_bytes}
use Rattle.clap.specs.Kinds.{FailsBy}
use Rattle.clap.specs.Words.{App, fault_of, is_simple_and_free}
use Rattle.xt_command_line.proofs.simple.Parser.answer.Goals as goal

pub returns-clause-kinds : goal.returns-clause-kinds
returns-clause-kinds c =
    let P : App → Type 0 = λ a. is_simple_and_free a ≡ true → FailsBy (fault_of a (map string_bytes c.args.words.now)) c.try_get_matches_from.result in
    subst P c.self.view_is c.try_get_matches_from.ensures.kinds c.requires
