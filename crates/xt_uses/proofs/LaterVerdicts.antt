-- A run has one verdict of uses.
use Rattle.std.proofs.Common.{◌≡◌, ℕ, ◌<◌, Option, Some, None, sym, ap, ◌∙◌, refl, arith, ⊎_elim, subst, length}
use Rattle.std.proofs.lemmas.Bool.{cases_order}
use Rattle.std.proofs.lemmas.Bool.Decides.{same_from_decides}
use Rattle.std.proofs.lemmas.Option.{none-some, slice_get_within, same_Some}
use Rattle.xt_trace.specs.declared.record.StepRecord.{StepRecord}
use Rattle.xt_frames.specs.declared.kinds.Breach.{Breach}
use Rattle.xt_frames.specs.declared.kinds.BreachKind.{BreachKind}
use Rattle.xt_frames.specs.FirstBreach.{Course, Turn, phase_before, records_before, turn_of}
use Rattle.xt_frames.proofs.Prefixes.{same_turn}
use Rattle.xt_uses.specs.FirstUse.{History, IsFirstUse, IsUse, Shows, carried_count, live_at, record_use}
use Rattle.xt_uses.specs.UseLaws.{VerdictIsOne}
use Rattle.xt_uses.proofs.LaterHistories.{history_is_one}

module _ (r : Course) (h : History) where
  shows_once : (p core : ℕ) (rec : StepRecord) (one other : Option BreachKind) → Shows r h p core rec one → Shows r h p core rec other → one ≡ other
  shows_once p core rec one other a b =
      let epc : a.lost ≡ b.lost = same_from_decides a.lost b.lost a.is_lost b.is_lost in
      sym a.shown
      ∙ ((λ i. record_use r.code (r.bounds core) (phase_before r core p) (h.state core p) (epc i) (live_at r h p) (h.mask p) rec)
      ∙ b.shown)

  quiet_there : (p q : ℕ) (b : Breach) (other : Option Breach) → IsUse r h p b → IsFirstUse r h q other → p < q → ⊥
  quiet_there p q b other x y l = none-some b.kind (shows_once p b.core x.rec None (Some b.kind) (y.before p b.core x.rec l x.turn) x.shows)

  pub is_there : (p : ℕ) (b : Breach) → IsUse r h p b → p < length r.turns
  is_there p b x = slice_get_within r.turns p (turn_of b.core x.rec) x.turn

  same_use : (p : ℕ) (b c : Breach) → IsUse r h p b → IsUse r h p c → b ≡ c
  same_use p b c x y =
      let turn = same_turn r p b.core x.rec x.turn c.core y.rec y.turn in
      let core : b.core ≡ c.core = ap (λ (t : Turn). t.core) turn in
      let there : Shows r h p c.core y.rec (Some b.kind) = subst (λ (t : Turn). Shows r h p t.core t.rec (Some b.kind)) turn x.shows in
      let kind : b.kind ≡ c.kind = same_Some b.kind c.kind (shows_once p c.core y.rec (Some b.kind) (Some c.kind) there y.shows) in
      let step : b.step ≡ c.step = x.number ∙ (ap (λ n. length (records_before r n p)) core ∙ sym y.number) in
      λ i. record { core = core i; step = step i; kind = kind i }

  at_one : (p : ℕ) (one other : Option Breach) → IsFirstUse r h p one → IsFirstUse r h p other → one ≡ other
  at_one p None None x y = refl
  at_one p None (Some c) x y = let end = x.here in let l = is_there p c y.here in absurd (omega (arith, end, l))
  at_one p (Some b) None x y = let end = y.here in let l = is_there p b x.here in absurd (omega (arith, end, l))
  at_one p (Some b) (Some c) x y = ap (λ z. Some z) (same_use p b c x.here y.here)

  never_later : (p q : ℕ) (one other : Option Breach) → IsFirstUse r h p one → IsFirstUse r h q other → p < q → ⊥
  never_later p q None None x y l = let end = x.here in let last = y.here in omega (arith, end, last, l)
  never_later p q None (Some c) x y l = let end = x.here in let there = is_there q c y.here in omega (arith, end, there, l)
  never_later p q (Some b) other x y l = quiet_there p q b other x.here y l

  pub same_place : (p q : ℕ) (one other : Option Breach) → IsFirstUse r h p one → IsFirstUse r h q other → p ≡ q
  same_place p q one other x y = ⊎_elim
      (λ e. e)
      (λ apart. ⊎_elim (λ l. absurd (never_later p q one other x y l)) (λ l. absurd (never_later q p other one y x l)) apart)
      (cases_order p q)

  same_found : (p q : ℕ) (one other : Option Breach) → IsFirstUse r h p one → IsFirstUse r h q other → one ≡ other
  same_found p q one other x y = at_one p one other x (subst (λ n. IsFirstUse r h n other) (sym (same_place p q one other x y)) y)

pub verdict_one : VerdictIsOne
verdict_one d r one other n m k l x y =
    let same = history_is_one d r x.history y.history x.is_history y.is_history in
    let there : IsFirstUse r x.history y.place other = subst (λ h. IsFirstUse r h y.place other) (sym same) y.first in
    let place = same_place r x.history x.place y.place one other x.first there in (
      same_found r x.history x.place y.place one other x.first there,
      x.counts0 ∙ ((λ i. carried_count r (same i) 0 (place i)) ∙ sym y.counts0),
      x.counts1 ∙ ((λ i. carried_count r (same i) 1 (place i)) ∙ sym y.counts1),
    )
