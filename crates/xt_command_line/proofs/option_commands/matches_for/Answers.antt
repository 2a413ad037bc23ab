use Rattle.std.proofs.Common.{ℕ, ◌+◌, List, Bor, map, drop, sym, ap, subst, ◌∙◌}
use Rattle.std.specs.Prelude.{fold, string_bytes}
use Rattle.std.proofs.lemmas.List.{at_drop_more, at_drop_all}
use Rattle.clap.specs.Words.{App, is_simple_and_free}
use Rattle.xt_command_line.specs.declared.simple.Form.{Form}
use Rattle.xt_command_line.specs.Forms.{with_argument}
use Rattle.xt_command_line.specs.Simple.{Matches, rows_by}
use Rattle.xt_command_line.proofs.option_commands.matches_for.Goals as goal

pub loop-one-preserved : goal.loop-one-preserved
loop-one-preserved c =
    let app = c.loop-one.command in
    let others = drop (c.loop-one.one-index + 1) c.args.arguments.now in
    ap (λ (a : App). fold with_argument a others) c.in_ok-command.ensures
    ∙ sym (at_drop_more (λ (l : List (Form × Bor (List ℕ))). fold with_argument app l) c.args.arguments.now c.loop-one.one-index _ c.loop-one-test.true)
    ∙ c.loop-one.invariant

pub matches-requires : goal.matches-requires
matches-requires c =
    let app = c.loop-one.command in
    let all = sym (at_drop_all (λ (l : List (Form × Bor (List ℕ))). fold with_argument app l) c.args.arguments.now c.loop-one.one-index c.loop-one-test.false) ∙ c.loop-one.invariant in
    ap is_simple_and_free all ∙ c.requires

pub returns : goal.returns
returns c =
    let app = c.loop-one.command in
    let all = sym (at_drop_all (λ (l : List (Form × Bor (List ℕ))). fold with_argument app l) c.args.arguments.now c.loop-one.one-index c.loop-one-test.false) ∙ c.loop-one.invariant in
    let P : App → Type 0 = λ a. Matches c.matches.result (rows_by a (map string_bytes c.args.words.now)) in
    subst P all c.matches.ensures
