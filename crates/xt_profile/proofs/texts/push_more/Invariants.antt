-- The texts of the addresses so far were appended.
use Rattle.std.proofs.Common.{◌≡◌, ◌++◌, take}
use Rattle.std.specs.List.{flat_map}
use Rattle.std.specs.Prelude.{string_bytes}
use Rattle.xt_profile.specs.ProfileText.{next_text}
use Rattle.xt_profile.proofs.texts.push_more.Given as goal

abbrev pub invariant-loop-address : goal.invariant-loop-address
invariant-loop-address l =
    string_bytes l.out ≡ string_bytes l.initial.out ++ flat_map next_text (take l.address-index l.more)
