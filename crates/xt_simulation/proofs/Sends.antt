-- The byte that a turn sends is known.
use Rattle.std.proofs.Common.{◌≡◌, ℕ, ℤ, ◌*◌, ◌%◌, ◌^◌, ◌<◌, Bool, true, cond, eqb, ◌||◌, Some, sym, ap, ◌∙◌, subst, ⊎_elim, arith}
use Rattle.std.proofs.lemmas.Bool.{and_parts, eq-eqb, eqb-true, or_cases}
use Rattle.xt_isa.specs.declared.Insn.{Insn}
use Rattle.xt_map.specs.declared.access.Access.{Access}
use Rattle.xt_map.specs.declared.access.Kind.{Kind}
use Rattle.xt_map.specs.declared.access.Kind.TheVariants.{Load, Store, Cas}
use Rattle.xt_map.specs.Regions.{is_size, uart_transmit}
use Rattle.xt_special.specs.declared.ps.Ps.{Ps}
use Rattle.xt_window.specs.Ring.{visible}
use Rattle.xt_rows.specs.declared.outcome.Outcome.{Outcome}
use Rattle.xt_rows.specs.declared.outcome.Outcome.TheVariants.{Asks}
use Rattle.xt_rows.specs.Numbers.{plus}
use Rattle.xt_rows.specs.Operands.{reads}
use Rattle.xt_rows.specs.Outcomes.{outcome_at, value_of}
use Rattle.xt_rows.proofs.Forms.{AsksStore, Form, IsStore, Makes, rows_have_forms, s8i, s16i, s32i, s32ri, s32e, s32i_n}
use Rattle.xt_exec.specs.State.{State}
use Rattle.xt_exec.specs.TurnLaws.{IsShaped}
use Rattle.xt_uses.specs.declared.words.Word.{Word}
use Rattle.xt_uses.specs.Words.{Fits, is_whole, knows}
use Rattle.xt_uses.specs.Used.{density_used, low_bits, memory_used, store_used, used_are_known}
use Rattle.xt_uses.proofs.RowsUsed.{low_known}
use Rattle.xt_uses.proofs.Wholes.{whole_value}
use Rattle.xt_simulation.specs.Knowledge.{AreMasks, Knowledge, first_word, second_word}
use Rattle.xt_simulation.specs.TurnUses.{row_used}
use Rattle.xt_simulation.specs.SecretLaws.{SendAgrees, SentAgrees}
use Rattle.xt_simulation.proofs.Readings.{register_fits, register_small}

-- a store to the transmit address sends this byte
abbrev pub SendsByte : ℕ → ℕ → Kind → Type 0
SendsByte z addr (Store v) = addr ≡ uart_transmit → v % 256 ≡ z
SendsByte z addr _ = Unit {0}

abbrev pub Sends : ℕ → Outcome → Type 0
Sends z (Asks a x e) = SendsByte z a.addr a.kind
Sends z _ = Unit {0}

store_uses : {i : Insn} {offset : ℤ} (a b : Word) → IsStore i offset → row_used i a b ≡ true → store_used a b offset ≡ true
unfolding row_used used_are_known memory_used density_used
store_uses a b s8i h = h
store_uses a b s16i h = h
store_uses a b s32i h = h
store_uses a b s32ri h = h
store_uses a b s32e h = h
store_uses a b s32i_n h = h

low_byte : (size y : ℕ) → is_size size ≡ true → (y % 2 ^ (8 * size)) % 256 ≡ y % 256
low_byte size y h =
    ⊎_elim (λ e. subst P (sym (eqb-true size 1 e)) (omega arith))
    (λ r. ⊎_elim (λ e. subst P (sym (eqb-true size 2 e)) (omega arith)) (λ e. subst P (sym (eqb-true size 4 e)) (omega arith)) (or_cases (eqb size 2) (eqb size 4) r)) (or_cases (eqb size 1) (eqb size 2 || eqb size 4) h)
  where
    P : ℕ → Type 0
    P n = (y % 2 ^ (8 * n)) % 256 ≡ y % 256

module _ (code : ℕ → ℕ) (pc x y u v : ℕ) (a b : Word) (f : Fits x a) (g : Fits y b) (h : x < 2 ^ 32) where
  known_byte : (offset : ℤ) → store_used a b offset ≡ true → plus x offset ≡ uart_transmit → y % 256 ≡ b.value % 256
  known_byte offset used place =
      let p = and_parts (is_whole a) (cond (eqb (plus a.value offset) uart_transmit) (knows (low_bits 8) b) true) used in
      let same : plus a.value offset ≡ uart_transmit = ap (λ (n : ℕ). plus n offset) (whole_value x a f h p.0) ∙ place in
      low_known 8 y b g (sym (ap (λ (t : Bool). cond t (knows (low_bits 8) b) true) (eq-eqb (plus a.value offset) uart_transmit same)) ∙ p.1)

  form_sends : {i : Insn} {o : Makes} → Form code pc x y u v i o → row_used i a b ≡ true → (ps : Ps) (t : ℕ) → Sends (b.value % 256) (o ps t)
  form_sends (AsksStore size offset store calm mapped) used ps t = λ place. low_byte size y (and_parts _ _ mapped).0 ∙ known_byte offset (store_uses a b store used) place
  form_sends _ used ps t = tt

module _ (m : Knowledge) (masks : AreMasks m) (s : State) (f : IsShaped s) where
  pub outcome_sends : (code : ℕ → ℕ) (i : Insn) → row_used i (first_word i m s) (second_word i m s) ≡ true → Sends ((second_word i m s).value % 256) (outcome_at code i (visible s.regs s.base) s.control)
  outcome_sends code i used =
      form_sends code s.control.pc (value_of (visible s.regs s.base) (reads i).0) (value_of (visible s.regs s.base) (reads i).1) _ _ (first_word i m s) (second_word i m s)
      (register_fits m masks s f (reads i).0) (register_fits m masks s f (reads i).1) (register_small m masks s f (reads i).0) (rows_have_forms code s.control.pc _ _ _ _ i) used s.control.ps s.control.threadptr

-- two that send the same byte
kinds_send : (z addr : ℕ) (k l : Kind) → SendsByte z addr k → SendsByte z addr l → addr ≡ uart_transmit → SendAgrees k l
kinds_send z addr (Store v) (Store w) p q e = p e ∙ sym (q e)
kinds_send z addr (Store v) Load p q e = tt
kinds_send z addr (Store v) (Cas x y) p q e = tt
kinds_send z addr Load l p q e = tt
kinds_send z addr (Cas x y) l p q e = tt

pub both_send : (z : ℕ) (a b : Access) → a.addr ≡ b.addr → SendsByte z a.addr a.kind → SendsByte z b.addr b.kind → SentAgrees (Some a) (Some b)
both_send z a b e p q = λ place. kinds_send z a.addr a.kind b.kind p (subst (λ (n : ℕ). SendsByte z n b.kind) (sym e) q) place
