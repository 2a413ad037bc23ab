-- A turn fits by its record and the state after it.
use Rattle.std.proofs.Common.{◌≡◌, ℕ, zero, suc, ◌<◌, Bool, true, false, cond, not, ◌&&◌, ◌||◌, Option, Some, None, List, refl, sym, ap, ◌∙◌, arith, ne_eqb}
use Rattle.std.specs.Prelude.{◌==◌}
use Rattle.std.proofs.lemmas.Bool.{true≢false}
use Rattle.xt_trace.specs.declared.record.RegWrite.{RegWrite}
use Rattle.xt_trace.specs.declared.record.StepRecord.{StepRecord}
use Rattle.xt_map.specs.Fetching.{Fetched, fetch_at}
use Rattle.xt_rows.specs.Settling.{write_with_reply}
use Rattle.xt_exec.specs.State.{State}
use Rattle.xt_exec.specs.Turn.{demand, planned_turn, turn, with_write}
use Rattle.xt_trace.specs.declared.record.StepKind.{StepKind}
use Rattle.xt_timeless.specs.Time.{executes, fetches_compare, fetches_write}
use Rattle.xt_outcomes.specs.Dead.{are_fit, dead_at, fits, is_compare_fit, is_live, reads_of, registers_in}
use Rattle.xt_outcomes.specs.Nexts.{misfits, next_bars}
use Rattle.xt_outcomes.specs.Places.{is_local, is_own_access}
use Rattle.xt_outcomes.specs.SpotRaces.{next_of}
use Rattle.xt_outcomes.specs.Spots.{Side, side_bars}
use Rattle.xt_outcomes.specs.declared.places.Place.{Place}
use Rattle.xt_outcomes.proofs.Forgetting.{same_stay, same_written, state_is, write_is}

base_stays : (w : Option RegWrite) (a : State) → (with_write w a).base ≡ a.base
base_stays None a = refl
base_stays (Some w) a = refl

control_stays : (w : Option RegWrite) (a : State) → (with_write w a).control ≡ a.control
control_stays None a = refl
control_stays (Some w) a = refl

module _ (code : ℕ → ℕ) (ms : List ℕ) (s : State) (reply : ℕ) where
  abbrev before : ℕ
  before = dead_at ms s.control.pc

  abbrev at : Fetched
  at = fetch_at code s.control.pc

  abbrev seen : State → Option RegWrite → StepKind → Bool
  seen u w k =
      are_fit (registers_in before) (reads_of at) (u.base == s.base) w (registers_in (dead_at ms u.control.pc))
      && is_compare_fit before (fetches_compare at) (executes k && fetches_write at) (dead_at ms u.control.pc)

  turn_kind : (turn code s reply).0.kind ≡ (planned_turn code s).kind
  unfolding turn
  turn_kind = refl

  turn_fits : seen (turn code s reply).1 (turn code s reply).0.write (turn code s reply).0.kind ≡ fits code ms s
  turn_fits =
      let p = planned_turn code s in
      let d = registers_in before in
      let o = reads_of at in
      let w = (turn code s reply).0.write in
      let kind = (turn code s reply).0.kind in
      let base : (turn code s reply).1.base ≡ p.after.base = ap (λ (u : State). u.base) (state_is code ms s reply) ∙ base_stays w p.after in
      let control : (turn code s reply).1.control ≡ p.after.control = ap (λ (u : State). u.control) (state_is code ms s reply) ∙ control_stays w p.after in
      let last = dead_at ms p.after.control.pc in
      let later = registers_in last in
      let compare = is_compare_fit before (fetches_compare at) (executes p.kind && fetches_write at) last in
      (λ i. are_fit d o (base i == s.base) w (registers_in (dead_at ms (control i).pc))
      && is_compare_fit before (fetches_compare at) (executes (turn_kind i) && fetches_write at) (dead_at ms (control i).pc))
      ∙ ap (λ (v : Option RegWrite). are_fit d o (p.after.base == s.base) v later && compare) (write_is code ms s reply)
      ∙ (λ i. ((d == 0)
      || (is_live d o.0
      && (is_live d o.1
      && ((p.after.base == s.base) && same_stay (write_with_reply p.write p.awaited reply) (write_with_reply p.write p.awaited 0) d later 16 (same_written p.write p.awaited reply 0) i))))
      && compare)

  pub fit_is : (x : StepRecord) (u : State) → (x, u) ≡ turn code s reply → seen u x.write x.kind ≡ fits code ms s
  fit_is x u e = ap (λ (t : StepRecord × State). seen t.1 t.0.write t.0.kind) e ∙ turn_fits

-- ---- what is tested of a core

never : (b : Bool) → (b && false) ≡ false
never true = refl
never false = refl

pub not_false : (b : Bool) → not b ≡ false → b ≡ true
not_false true h = refl
not_false false h = absurd (true≢false h)

pub not_true : (b : Bool) → not b ≡ true → b ≡ false
not_true true h = absurd (true≢false (sym h))
not_true false h = refl

some_left : (n : ℕ) → 0 < n → (n == 0) ≡ false
some_left zero h = absurd (omega arith)
some_left (suc n) h = ne_eqb (suc n) 0 (λ (e : suc n ≡ 0). omega arith)

module _ (code : ℕ → ℕ) (timed : Bool) (ms : List ℕ) (s : Side State) where
  pub bars_none : side_bars code timed s ≡ false → fits code ms s.state ≡ true → next_bars code timed ms s ≡ false
  bars_none e f =
      ap (λ (b : Bool). b || misfits code ms s) e ∙ ap (λ (b : Bool). not (s.left == 0) && not b) f ∙ never (not (s.left == 0))

  pub bars_time : side_bars code timed s ≡ true → next_bars code timed ms s ≡ true
  bars_time e = ap (λ (b : Bool). b || misfits code ms s) e

  pub bars_misfit : 0 < s.left → side_bars code timed s ≡ false → fits code ms s.state ≡ false → next_bars code timed ms s ≡ true
  bars_misfit some e f =
      ap (λ (b : Bool). b || misfits code ms s) e ∙ ap (λ (b : Bool). not b && not (fits code ms s.state)) (some_left s.left some) ∙ ap not f

  -- by whether a turn that uses no time fits
  pub bars_by_fit : 0 < s.left → side_bars code timed s ≡ false → (b : Bool) → b ≡ fits code ms s.state → b ≡ not (next_bars code timed ms s)
  bars_by_fit some e true f = ap not (sym (bars_none e (sym f)))
  bars_by_fit some e false f = ap not (sym (bars_misfit some e (sym f)))

  module _ (ps : List Place) (c : ℕ) where
    pub local_is : (b : Bool) → 0 < s.left → next_bars code timed ms s ≡ false → is_own_access ps c (demand code s.state) ≡ b → is_local code timed ms ps c s ≡ b
    local_is b some e f =
        let left = some_left s.left some in
        (λ i. not (left i) && (not (e i) && is_own_access ps c (cond (left i) None (demand code s.state)))) ∙ f

    pub not_local : next_bars code timed ms s ≡ true → is_local code timed ms ps c s ≡ false
    not_local e = ap (λ (b : Bool). not (s.left == 0) && (not b && is_own_access ps c (next_of code s))) e ∙ never (not (s.left == 0))
