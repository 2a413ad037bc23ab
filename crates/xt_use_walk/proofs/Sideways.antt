-- What is known of the bytes, by either core.
use Rattle.std.proofs.Common.{ℕ, zero, suc, Bool, ◌∙◌}
use Rattle.std.proofs.Math.Bool.{or_comm}
use Rattle.xt_use_walk.specs.declared.side.Bytes.{Bytes}
use Rattle.xt_use_walk.specs.MaskedBytes.{KnowsBytes}

-- the number of the other core
abbrev pub other_than : ℕ → ℕ
other_than zero = 1
other_than (suc core) = 0

pub turned_bytes : (core : ℕ) (x : Bytes) (own others : ℕ → Bool) (masks : ℕ → ℕ) → KnowsBytes core x own others masks → KnowsBytes (other_than core) x others own masks
turned_bytes zero x own others masks k = record {
  full = k.full;
  live = (let l = k.live in record { own_is = l.others_is; others_is = l.own_is });
  masks_are = k.masks_are;
  unknown = λ a e. k.unknown a (or_comm (own a) (others a) ∙ e);
}
turned_bytes (suc core) x own others masks k = record {
  full = k.full;
  live = (let l = k.live in record { own_is = l.others_is; others_is = l.own_is });
  masks_are = k.masks_are;
  unknown = λ a e. k.unknown a (or_comm (own a) (others a) ∙ e);
}
