-- An access that touches no live byte, and of whose reply each bit is known.
use Rattle.std.proofs.Common.{◌≡◌, ℕ, Bool, true, false, Option, None}
use Rattle.std.specs.Prelude.{IfSome}
use Rattle.xt_map.specs.declared.access.Access.{Access}
use Rattle.xt_map.specs.Regions.{is_mapped}
use Rattle.xt_trace.specs.declared.record.StepKind.TheVariants as kind
use Rattle.xt_trace.specs.declared.record.StepRecord.{StepRecord}
use Rattle.xt_discipline.specs.ByteMarks.{Agrees, either}
use Rattle.xt_uses.specs.declared.testing.Touched.{Touched}
use Rattle.xt_uses.specs.UseParts.{IsTouched}
use Rattle.xt_uses.specs.Words.{all_bits}
use Rattle.xt_use_walk.specs.declared.side.Bytes.{Bytes}
use Rattle.xt_use_walk.specs.MaskedBytes.{IsSpared, KnowsAccess, mask_at}
use Rattle.xt_use_walk.proofs.Seen.{touched_for}
use Rattle.xt_use_walk.proofs.Sparing.{touched_known}

-- a record with this access
abbrev with_access : Option Access → StepRecord
with_access o = record { pc = 0; kind = kind.Wait; write = None; access = o; reply = 0; ccount = 0; owb = 0; interrupt = 0 }

abbrev pub nothing_touched : Touched
nothing_touched = record { saves = false; swaps = false; reply = all_bits }

pub known_spared : (x : Bytes) (o : Option Access) → IfSome o (λ a. is_mapped a ≡ true) → KnowsAccess (mask_at x.masks) o → IsSpared x o
known_spared x o served knows core own others masks k =
    let t = touched_known core x own others masks (with_access o) served knows k in
    record { saves = t.saves; swaps = t.swaps; reply = t.reply }

pub each_spared : (x : Bytes) (o : Option Access) → IfSome o (λ a. is_mapped a ≡ true)
    → ((live0 live1 stale : ℕ → Bool) → Agrees x.marks.items live0 live1 stale → IsTouched nothing_touched (with_access o) (either live0 live1) (mask_at x.masks)) → IsSpared x o
each_spared x o served told core own others masks k =
    let t = touched_for core x own others masks (with_access o) nothing_touched served told k in
    record { saves = t.saves; swaps = t.swaps; reply = t.reply }
