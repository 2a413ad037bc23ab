use Rattle.std.proofs.Common.{[], ◌∷◌, ◌++◌}
use Rattle.std.proofs.lemmas.List.Elements.{All-push, All-same}
use Rattle.xt_replay.specs.declared.pair.Checkpoint.{Checkpoint}
use Rattle.xt_replay.specs.ReplayFields.{IsCopy}
use Rattle.xt_replay.proofs.Inside.{copy_here}
use Rattle.xt_replay.proofs.replay.Replay.keep.Goals as goal

pub invariant_of-self-2 : goal.invariant_of-self-2
invariant_of-self-2 c =
    let b = c.self.inside in
    let h = c.self.invariant in
    let P : Checkpoint → Type 0 = IsCopy b.image.now b.run.now in
    let x : Checkpoint = record { position = b.position; mark = c.in_ok-mark.mark } in
    record {
      run_is = h.run_is;
      placed = h.placed;
      code_is = h.code_is;
      stand = h.stand;
      opening_is = h.opening_is;
      copies = All-same P c.push.new.self.items (b.checkpoints.items ++ x ∷ []) c.in_ok-push.ensures.items
          (All-push P b.checkpoints.items x h.copies (copy_here b c.in_ok-mark.mark h c.in_ok-mark.ensures.stand));
      near_is = h.near_is;
      near_room = h.near_room;
      has_room = h.has_room;
      within = h.within;
    }
