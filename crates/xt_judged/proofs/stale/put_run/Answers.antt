use Rattle.std.proofs.Common.{ℕ, ◌+◌, Bool, eqb, ◌||◌, List, length, take, drop, ap, ◌∙◌, arith}
use Rattle.std.proofs.lemmas.List.{take-append-drop}
use Rattle.xt_judged.specs.Stales.{among}
use Rattle.xt_judged.proofs.Among.{among_put}
use Rattle.xt_judged.proofs.Gathered.{run_on}
use Rattle.xt_judged.proofs.stale.put_run.Goals as goal

pub loop-k-preserved : goal.loop-k-preserved
loop-k-preserved c =
    let items : List ℕ = c.loop-k.bytes.items in
    let k : ℕ = c.loop-k.k in
    let place : ℕ = c.place_of-place.result + k in
    let byte : ℕ = c.args.from + k in
    let room = c.loop-k.invariant.room in
    let longer = ap length c.in_ok-insert.ensures.items in
    record {
      bytes = λ a.
          ap (λ (l : List ℕ). among l a) c.in_ok-insert.ensures.items
          ∙ (among_put (take place items) (drop place items) byte a ∙ ap (λ (l : List ℕ). eqb byte a || among l a) (take-append-drop place items))
          ∙ ap (λ (b : Bool). eqb byte a || b) (c.loop-k.invariant.bytes a)
          ∙ run_on c.args.from k a (among c.args.bytes.now.items a);
      room = omega (arith, room, c.in_ok-insert.ensures.len);
    }
