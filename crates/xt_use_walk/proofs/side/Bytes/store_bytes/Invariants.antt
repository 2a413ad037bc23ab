use Rattle.std.proofs.Common.{◌≡◌}
use Rattle.xt_use_walk.specs.MaskedBytes.{AreFull, AreMasks, mask_at, stored_on}
use Rattle.xt_use_walk.proofs.side.Bytes.store_bytes.Given as goal

abbrev pub invariant-loop-k : goal.invariant-loop-k
invariant-loop-k l =
    AreFull l.self × (l.self.marks.items ≡ l.initial.self.marks.items) × AreMasks l.self.masks (stored_on l.initial.self.marks.items l.stored l.addr l.k (mask_at l.initial.self.masks))
