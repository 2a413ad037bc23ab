-- A return undoes an entry.
use Rattle.std.proofs.Common.{◌≡◌, ◌≢◌, ℕ, Bool, true, false, cond, None, refl, sym, ap, ◌∙◌}
use Rattle.xt_window.specs.declared.windows.Return.{Return}
use Rattle.xt_window.specs.declared.windows.Return.TheVariants.{Returned, Under, Bad}
use Rattle.xt_window.specs.Ring.{bit, without_bit}
use Rattle.xt_window.specs.Moves.{base_after_return, is_bad}
use Rattle.xt_window.specs.WindowAnswers.{return_of, base_past, start_past}
use Rattle.xt_window.proofs.Undone.{undone}
use Rattle.xt_rows.specs.Settling.{return_size, return_pc}
use Rattle.xt_exec.specs.State.{State}
use Rattle.xt_exec.specs.Turn.{Planned, window_step, underflow, entry_turn, return_turn}
use Rattle.xt_exec.specs.Ties.{ReturnsUndoEntries}

-- ---- a return
answer_of : (a0 : ℕ) (s : State) (bad there : Bool) → let n = return_size a0 in let r : Return = cond bad Bad (cond there Returned Under) in
    let p : Planned = cond there (window_step None (record s { base = base_after_return s.base n; start = without_bit s.start s.base; control = record s.control { pc = return_pc s.control.pc a0 } })) (underflow n s) in
    r ≢ Bad → (p.after.base ≡ base_past r s.base n) × (p.after.start ≡ start_past r s.start s.base)
unfolding underflow
answer_of a0 s true there ne = absurd (ne refl)
answer_of a0 s false true ne = (refl, refl)
answer_of a0 s false false ne = (refl, refl)

-- the turn leaves WINDOWBASE and WINDOWSTART as the return answers
record IsReturnOf (s : State) (a0 : ℕ) : Type 0 where
  base : return_of s.start s.base (return_size a0) ≢ Bad → (return_turn a0 s).after.base ≡ base_past (return_of s.start s.base (return_size a0)) s.base (return_size a0)
  start : return_of s.start s.base (return_size a0) ≢ Bad → (return_turn a0 s).after.start ≡ start_past (return_of s.start s.base (return_size a0)) s.start s.base

returns_answer : (s : State) (a0 : ℕ) → IsReturnOf s a0
unfolding return_turn return_of
returns_answer s a0 =
    let n = return_size a0 in
    let bad : Bool = is_bad s.start s.base n in
    let there : Bool = bit s.start (base_after_return s.base n) in
    record { base = λ ne. (answer_of a0 s bad there ne).0; start = λ ne. (answer_of a0 s bad there ne).1 }

-- ---- a return undoes an entry
pub returns_undo_entries : ReturnsUndoEntries
unfolding entry_turn
returns_undo_entries s number value len a0 small base here pos three free size =
    let n = s.control.ps.callinc in
    let u = undone s.start s.base n small base pos three here free in
    let t : State = (entry_turn number value len s).after in
    let r = returns_answer t a0 in
    let is : return_of t.start t.base (return_size a0) ≡ Returned = ap (return_of t.start t.base) size ∙ u.answers in
    let ne : return_of t.start t.base (return_size a0) ≢ Bad = λ e. (let q : Returned ≡ Bad = sym is ∙ e in absurd cc) in (
      r.base ne ∙ (ap (λ x. base_past x t.base (return_size a0)) is ∙ (ap (base_after_return t.base) size ∙ u.goes_back)),
      r.start ne ∙ (ap (λ x. start_past x t.start t.base) is ∙ u.clears),
    )
