-- What a load writes has the mask of its reply: no other row awaits one.
use Rattle.std.proofs.Common.{◌≡◌, ℕ, Bool, Some, refl}
use Rattle.xt_isa.specs.declared.Insn.{Insn}
use Rattle.xt_special.specs.declared.ps.Ps.{Ps}
use Rattle.xt_rows.specs.declared.outcome.Outcome.{Outcome}
use Rattle.xt_rows.specs.declared.outcome.Outcome.TheVariants.{Asks}
use Rattle.xt_rows.specs.Outcomes.{outcome}
use Rattle.xt_rows.proofs.Forms.{Form, Makes, AsksLoad, AsksSwap, IsLoad, l8ui, l16ui, l16si, l32i, l32ai, l32e, l32r, l32i_n, rows_have_forms}
use Rattle.xt_uses.specs.declared.discipline.Discipline.{Discipline}
use Rattle.xt_uses.specs.Words.{Word}
use Rattle.xt_uses.specs.Known.{loaded_mask, memory_mask, density_mask, result_mask}

-- a register that awaits a reply gets this mask
abbrev pub AwaitsMask : ℕ → ℕ → Outcome → Type 0
AwaitsMask mask reply (Asks access (Some w) e) = mask ≡ loaded_mask w.signed reply
AwaitsMask mask reply _ = Unit {0}

module _ (by : Discipline) (a b c : Word) (pointer reply : ℕ) where
  load_masked : {i : Insn} {signed : Bool} → IsLoad i signed → result_mask by i a b c pointer reply ≡ loaded_mask signed reply
  unfolding result_mask memory_mask density_mask
  load_masked l8ui = refl
  load_masked l16ui = refl
  load_masked l16si = refl
  load_masked l32i = refl
  load_masked l32ai = refl
  load_masked l32e = refl
  load_masked l32r = refl
  load_masked l32i_n = refl

  form_masked : (code : ℕ → ℕ) (pc x y u v : ℕ) {i : Insn} {o : Makes} → Form code pc x y u v i o → (ps : Ps) (t : ℕ) → AwaitsMask (result_mask by i a b c pointer reply) reply (o ps t)
  unfolding result_mask memory_mask
  form_masked code pc x y u v (AsksLoad size signed number addr l calm n m) ps t = load_masked l
  form_masked code pc x y u v (AsksSwap m) ps t = refl
  form_masked code pc x y u v _ ps t = tt

pub outcome_masked : (by : Discipline) (code : ℕ → ℕ) (i : Insn) (a b c : Word) (pointer reply : ℕ) (pc x y u v : ℕ) (ps : Ps) (t : ℕ) → AwaitsMask (result_mask by i a b c pointer reply) reply (outcome code i pc x y u v ps t)
outcome_masked by code i a b c pointer reply pc x y u v ps t = form_masked by a b c pointer reply code pc x y u v (rows_have_forms code pc x y u v i) ps t
