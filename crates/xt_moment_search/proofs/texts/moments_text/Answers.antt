use Rattle.std.proofs.Common.{◌++◌, subst, sym, ◌∙◌}
use Rattle.std.specs.List.{All}
use Rattle.xt_moments.specs.Moments.{IsMove}
use Rattle.xt_moment_search.specs.ShownTurns.{order_lines}
use Rattle.xt_moment_search.proofs.ShownLines.{shown_moves}
use Rattle.xt_moment_search.proofs.texts.moments_text.Goals as goal

pub push_order-requires-clause-moves : goal.push_order-requires-clause-moves
push_order-requires-clause-moves c =
    let found = c.in_ok-answers.ensures in
    subst (All IsMove) (sym c.shown_order.ensures)
    (shown_moves c.args.image.now c.args.options.now c.args.addresses.now c.args.shown
    c.in_ok-answers.answers found.real found.stuck)

pub returns : goal.returns
returns c =
    let lines = order_lines c.args.image.now c.args.options.now in
    record {
      answers = c.in_ok-answers.answers;
      real = c.in_ok-answers.ensures.real;
      stuck_is = c.in_ok-answers.ensures.stuck;
      complete = c.in_ok-answers.ensures.complete;
      known = c.in_ok-answers.ensures.known;
      text_is = c.new.ensures ∙ c.in_ok-push_order.ensures
          ∙ (λ i. c.in_ok-out.ensures i ++ lines (c.shown_order.ensures i));
    }
