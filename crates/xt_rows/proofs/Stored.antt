-- A store of so many bytes stores the low bytes of its second register, y.
use Rattle.std.proofs.Common.{◌≡◌, ℕ, ◌*◌, ◌%◌, ◌^◌, refl}
use Rattle.xt_isa.specs.declared.Insn.{Insn}
use Rattle.xt_map.specs.declared.access.Kind.{Kind}
use Rattle.xt_map.specs.declared.access.Kind.TheVariants.{Store}
use Rattle.xt_special.specs.declared.ps.Ps.{Ps}
use Rattle.xt_rows.specs.declared.outcome.Outcome.{Outcome}
use Rattle.xt_rows.specs.declared.outcome.Outcome.TheVariants.{Asks}
use Rattle.xt_rows.specs.Outcomes.{outcome}
use Rattle.xt_rows.proofs.Forms.{Form, AsksStore, Makes, rows_have_forms}

abbrev pub KindStored : ℕ → ℕ → Kind → Type 0
KindStored y size (Store v) = v ≡ y % 2 ^ (8 * size)
KindStored y size _ = Unit {0}

abbrev pub HasStored : ℕ → Outcome → Type 0
HasStored y (Asks access awaited e) = KindStored y access.size access.kind
HasStored y _ = Unit {0}

module _ (code : ℕ → ℕ) (pc x y u v : ℕ) where
  form_stored : {i : Insn} {o : Makes} → Form code pc x y u v i o → (ps : Ps) (t : ℕ) → HasStored y (o ps t)
  form_stored (AsksStore size offset s c m) ps t = refl
  form_stored _ ps t = tt

pub second_stored : (code : ℕ → ℕ) (i : Insn) (pc x y u v : ℕ) (ps : Ps) (threadptr : ℕ) → HasStored y (outcome code i pc x y u v ps threadptr)
second_stored code i pc x y u v ps threadptr = form_stored code pc x y u v (rows_have_forms code pc x y u v i) ps threadptr
