use Rattle.std.proofs.Common.{◌≡◌, ◌+◌, ◌≤◌, ◌∷◌, [], ◌++◌, List, take, false, Ok, sym, ◌∙◌, ap, subst}
use Rattle.std.proofs.lemmas.List.Elements.{All-drop}
use Rattle.xt_lex.specs.declared.token.Token.{Token}
use Rattle.xt_parse.specs.Statements.{line_of}
use Rattle.xt_parse.specs.Lines.{ArePlaced, token_lines, lines_from, parsed_lines}
use Rattle.xt_parse.proofs.LineCuts.{behind_lines, line_goes_on, line_stops, no_line_is_left, fault_is_first, no_line_before, parsed_is}
use Rattle.xt_parse.proofs.ParsedLemmas.{answer_is_parsed}
use Rattle.xt_parse.proofs.parsing.parse.Goals as goal

pub lines-init : goal.lines-init
lines-init c =
    let rest = c.as_slice-rest.result.now in
    let P : List Token → Type 0 = ArePlaced in
    record {
      read = ap (λ ls. behind_lines ls (lines_from false (token_lines rest))) c.new-lines.ensures.items
          ∙ no_line_before (lines_from false (token_lines rest)) ∙ ap (λ ts. lines_from false (token_lines ts)) c.as_slice-rest.ensures ∙ parsed_is c.args.tokens.now;
      placed = subst P (sym c.as_slice-rest.ensures) c.requires.placed;
    }

pub returns-in-Err-clause-lines : goal.returns-in-Err-clause-lines
returns-in-Err-clause-lines c =
    let items = c.lines.lines.items in
    let begun = c.lines.begun in
    let group = c.split_at.result.0.now in
    let after = c.split_at.result.1.now in
    let groups : token_lines c.lines.rest.now ≡ group ∷ token_lines after
    = c.group_width.ensures.cut ∙ ap (λ a. take c.group_width.result c.lines.rest.now ∷ token_lines a) (sym c.split_at.ensures.back) ∙ ap (λ g. g ∷ token_lines after) (sym c.split_at.ensures.front) in
    fault_is_first c.in-Err.fault (line_of begun group) (parsed_lines c.args.tokens.now) c.in-Err.ensures
    (λ place e. sym c.lines.invariant.read ∙ ap (λ gs. behind_lines items (lines_from begun gs)) groups ∙ line_stops items begun group (token_lines after) place e)

pub lines-preserved : goal.lines-preserved
lines-preserved c =
    let items = c.lines.lines.items in
    let begun = c.lines.begun in
    let found = c.in-Ok.found in
    let group = c.split_at.result.0.now in
    let after = c.split_at.result.1.now in
    let P : List Token → Type 0 = ArePlaced in
    let groups : token_lines c.lines.rest.now ≡ group ∷ token_lines after
    = c.group_width.ensures.cut ∙ ap (λ a. take c.group_width.result c.lines.rest.now ∷ token_lines a) (sym c.split_at.ensures.back) ∙ ap (λ g. g ∷ token_lines after) (sym c.split_at.ensures.front) in
    record {
      read = ap (λ ls. behind_lines ls (lines_from c.has_begun-begun.result (token_lines after))) c.in_ok-push.ensures.items
          ∙ ap (λ b. behind_lines (items ++ found ∷ []) (lines_from b (token_lines after))) c.has_begun-begun.ensures
          ∙ line_goes_on items begun group (token_lines after) found c.in-Ok.ensures
          ∙ ap (λ gs. behind_lines items (lines_from begun gs)) (sym groups)
          ∙ c.lines.invariant.read;
      placed = subst P (sym c.split_at.ensures.back) (All-drop (λ (t : Token). t.column + t.width ≤ 1048577) c.group_width.result c.lines.rest.now c.lines.invariant.placed);
    }

pub returns-clause-lines : goal.returns-clause-lines
returns-clause-lines c = no_line_is_left c.lines.lines.items c.lines.begun c.lines.rest.now (parsed_lines c.args.tokens.now) (sym c.lines-test.ensures) c.lines.invariant.read ∙ ap Ok (sym c.new.ensures)

pub returns-clause-small : goal.returns-clause-small
returns-clause-small c =
    let whole : parsed_lines c.args.tokens.now ≡ Ok c.lines.lines.items = no_line_is_left c.lines.lines.items c.lines.begun c.lines.rest.now (parsed_lines c.args.tokens.now) (sym c.lines-test.ensures) c.lines.invariant.read in
    answer_is_parsed c.args.tokens.now c.new.result c.requires (whole ∙ ap Ok (sym c.new.ensures))
