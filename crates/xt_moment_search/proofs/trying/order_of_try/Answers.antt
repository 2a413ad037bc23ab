use Rattle.std.proofs.Common.{List, [], ◌∷◌, sym, subst}
use Rattle.std.specs.List.{All}
use Rattle.std.proofs.lemmas.List.Elements.{All-append, All-cons, All-nil}
use Rattle.xt_moments.specs.Moments.{IsMove}
use Rattle.xt_moments.specs.declared.moves.Move.{Move}
use Rattle.xt_moment_search.proofs.trying.order_of_try.Goals as goal

pub loop-preserved : goal.loop-preserved
loop-preserved c =
    let made = c.next_move-made.result in record {
      core = c.next_core-core.ensures;
      moves = subst (λ (l : List Move). All IsMove l) (sym c.in_ok-push.ensures.items)
          (All-append IsMove c.loop.order.items (made ∷ []) c.loop.invariant.moves
          (All-cons IsMove made [] c.next_move-made.ensures (All-nil IsMove)));
    }
