-- A store to the address from which UART0 sends: the byte that is sent is known.
use Rattle.std.proofs.Common.{◌≡◌, ℕ, ℤ, true, eqb, sym, ◌∙◌}
use Rattle.std.proofs.lemmas.Bool.{and_parts, cond-true, eq-eqb}
use Rattle.xt_isa.specs.declared.Insn.{Insn}
use Rattle.xt_map.specs.declared.access.Kind.{Kind}
use Rattle.xt_map.specs.declared.access.Kind.TheVariants.{Store}
use Rattle.xt_map.specs.Regions.{uart_transmit}
use Rattle.xt_special.specs.declared.ps.Ps.{Ps}
use Rattle.xt_rows.specs.declared.outcome.Outcome.{Outcome}
use Rattle.xt_rows.specs.declared.outcome.Outcome.TheVariants.{Asks}
use Rattle.xt_rows.specs.Numbers.{plus}
use Rattle.xt_rows.specs.Outcomes.{outcome}
use Rattle.xt_rows.proofs.Forms.{Form, Makes, AsksStore, IsStore, s8i, s16i, s32i, s32ri, s32e, s32i_n, rows_have_forms}
use Rattle.xt_uses.specs.declared.discipline.Discipline.{Discipline}
use Rattle.xt_uses.specs.declared.words.Word.{Word}
use Rattle.xt_uses.specs.Words.{is_whole, knows}
use Rattle.xt_uses.specs.Used.{density_used, low_bits, memory_used, store_used, used_are_known}

-- the low eight bits of b are known
abbrev pub KindSent : Word → ℕ → Kind → Type 0
KindSent b addr (Store v) = addr ≡ uart_transmit → knows (low_bits 8) b ≡ true
KindSent b addr _ = Unit {0}

abbrev pub HasSent : Word → Outcome → Type 0
HasSent b (Asks access awaited e) = KindSent b access.addr access.kind
HasSent b _ = Unit {0}

store_known : (a b : Word) (offset : ℤ) → store_used a b offset ≡ true → plus a.value offset ≡ uart_transmit → knows (low_bits 8) b ≡ true
store_known a b offset used e =
    let p = (and_parts (is_whole a) _ used).1 in
    sym (cond-true (eqb (plus a.value offset) uart_transmit) (knows (low_bits 8) b) true (eq-eqb _ _ e)) ∙ p

module _ (by : Discipline) (a b : Word) where
  store_uses : {i : Insn} {offset : ℤ} → IsStore i offset → used_are_known by i a b ≡ true → store_used a b offset ≡ true
  unfolding used_are_known memory_used density_used
  store_uses s8i used = used
  store_uses s16i used = used
  store_uses s32i used = used
  store_uses s32ri used = used
  store_uses s32e used = used
  store_uses s32i_n used = used

  form_sent : (code : ℕ → ℕ) (pc u v : ℕ) {i : Insn} {o : Makes} → Form code pc a.value b.value u v i o → (ps : Ps) (t : ℕ) → used_are_known by i a b ≡ true → HasSent b (o ps t)
  form_sent code pc u v (AsksStore size offset s c m) ps t used = store_known a b offset (store_uses s used)
  form_sent code pc u v _ ps t used = tt

-- over the values of the words that the row reads
pub second_sent : (by : Discipline) (code : ℕ → ℕ) (i : Insn) (a b : Word) (pc u v : ℕ) (ps : Ps) (threadptr : ℕ) → used_are_known by i a b ≡ true → HasSent b (outcome code i pc a.value b.value u v ps threadptr)
second_sent by code i a b pc u v ps threadptr used = form_sent by a b code pc u v (rows_have_forms code pc a.value b.value u v i) ps threadptr used
