-- A judged step outside nested interrupts that shows no breach of uses.
use Rattle.std.proofs.Common.{◌≡◌, ℕ, Bool, true, false, ◌||◌, ltb, List, [], ◌∷◌, Option, Some, None, sym, ap, ◌∙◌, refl, ⊎_elim}
use Rattle.std.proofs.lemmas.Bool.{cases_Bool, or_left, or_right}
use Rattle.xt_map.specs.declared.contents.MemoryContents.{MemoryContents}
use Rattle.xt_map.specs.Memory.{byte_at}
use Rattle.xt_map.specs.Touching.{IsMemory}
use Rattle.xt_special.specs.Interrupts.{pending_of}
use Rattle.xt_map.specs.Fetching.{Fetched, Fetches, Fails, SpellsNothing, fetch_at}
use Rattle.xt_map.specs.Code.{AreBytes}
use Rattle.xt_rows.specs.Effects.{fetch_error, illegal_instruction}
use Rattle.xt_rows.specs.Kinds.{is_movsp}
use Rattle.xt_exec.specs.State.{State}
use Rattle.xt_exec.specs.TurnLaws.{IsShaped}
use Rattle.xt_exec.specs.Turn.{demand, planned_turn}
use Rattle.xt_exec.proofs.Finished.{turn_taken, turn_waits}
use Rattle.xt_trace.specs.declared.record.StepRecord.{StepRecord}
use Rattle.xt_frames.specs.declared.holes.Nested.{Nested}
use Rattle.xt_frames.specs.Frames.{Frame, FrameState}
use Rattle.xt_frames.specs.FrameStep.{with_inputs}
use Rattle.xt_frames.specs.HandlerSteps.{is_window}
use Rattle.xt_frames.specs.Nesting.{current_in}
use Rattle.xt_frames.specs.SaveAreas.{is_live}
use Rattle.xt_frames.specs.Breaches.{Bounds, inputs_of, touches_save_area, vector_test}
use Rattle.xt_frames.proofs.Shown.{none_shown}
use Rattle.xt_simulation.specs.Cores.{Related}
use Rattle.xt_simulation.specs.Relation.{inputs, lost_at}
use Rattle.xt_simulation.specs.Steps.{record_now, reply_now}
use Rattle.xt_simulation.proofs.Evenly.{same_pending}
use Rattle.xt_simulation.proofs.Judges.{record_access, same_laid}
use Rattle.xt_simulation.proofs.Plans.{plan_asks}
use Rattle.xt_uses.specs.UseBreaches.{laid_use, swaps_unknown, use_breach}
use Rattle.xt_uses.specs.UseState.{UseState}
use Rattle.xt_uses.specs.UseStep.{fetched_movsp, full_step}
use Rattle.xt_uses.specs.UseLaws.{RowsAgree}
use Rattle.xt_simulation.specs.Knowing.{Knows, NowFit, with_pointer}
use Rattle.xt_simulation.proofs.FetchedUses.{fails_shown, laid_pends, moves_denied, row_denied, spells_shown}
use Rattle.xt_simulation.proofs.Following.{now_plain}
use Rattle.xt_simulation.proofs.MovspJudged.{movsp_judged}
use Rattle.xt_simulation.proofs.Operands.{AreMasks}
use Rattle.xt_simulation.proofs.PlainRest.{fails_judged, taken_judged, waits_judged}
use Rattle.xt_simulation.proofs.PlainRow.{row_judged}
use Rattle.xt_simulation.proofs.PlainStep.{JudgedUse}

pub no_move_fails : (a : ℕ) (f : FrameState) → fetched_movsp (Fails a) f ≡ None
unfolding fetched_movsp
no_move_fails a f = refl

pub no_move_spells : (f : FrameState) → fetched_movsp SpellsNothing f ≡ None
unfolding fetched_movsp
no_move_spells f = refl

module _ (rows : RowsAgree) (code : ℕ → ℕ) (bytes : AreBytes code) (b : Bounds) (fresh : Bool) (s : State) (m : MemoryContents) (shaped : IsShaped s) (real : IsMemory m) (nowindow : is_window (planned_turn code s).kind ≡ false)
    (us : UseState) (sn : us.frame.nested ≡ None) (masks : AreMasks us) (live : ℕ → Bool) (own : (a : ℕ) → is_live b.range us.frame a ≡ true → live a ≡ true) (kb : ℕ → ℕ)
    {f : FrameState} {ring spilled : List Frame} (l : Related (byte_at m) b (lost_at fresh f) s f ring spilled) (kn : Knows f us) (fn : f.nested ≡ None) where
  abbrev rec : StepRecord
  rec = record_now code m s

  abbrev h : FrameState
  h = with_inputs (inputs_of rec) us.frame

  now : NowFit us (with_inputs (inputs_of rec) f) h
  now = now_plain kn fn sn (inputs_of rec)

  same_f : with_inputs (inputs_of rec) f ≡ with_inputs (inputs 0 s) f
  same_f = same_laid code s (reply_now code m s) f shaped.control.ps.owb_fits

  same_pend : pending_of s.control ≡ pending_of h.control
  same_pend =
      same_pending s.control (with_inputs (inputs 0 s) f).control l.plain.even
      ∙ (ap (λ (z : FrameState). pending_of z.control) (sym same_f) ∙ same_pending (with_inputs (inputs_of rec) f).control (with_pointer (with_inputs (inputs_of rec) f).control.threadptr h.control) now.control.even)

  same_waits : s.control.waits ≡ h.control.waits
  same_waits = l.plain.even.waits ∙ now.control.even.waits

  same_pc : s.control.pc ≡ h.control.pc
  same_pc = l.plain.even.pc ∙ now.control.even.pc

  asks_none : demand code s ≡ None → touches_save_area live rec.access ≡ false
  asks_none e = ap (touches_save_area live) (record_access code s (reply_now code m s) ∙ e)

  swaps_none : demand code s ≡ None → swaps_unknown kb rec.access ≡ false
  swaps_none e = ap (swaps_unknown kb) (record_access code s (reply_now code m s) ∙ e)

  abbrev target : Type 0
  target = JudgedUse code b fresh m s live kb (full_step code false rec kb us)

  vector_free : laid_use b fresh code live kb rec us h ≡ None → (ltb 0 (pending_of h.control) || h.control.waits) ≡ true → (vector_test b h).shown ≡ false
  vector_free none e = (none_shown (vector_test b h ∷ []) (sym (laid_pends b fresh code live kb rec us h e) ∙ none)).0

  taken : laid_use b fresh code live kb rec us h ≡ None → ltb 0 (pending_of s.control) ≡ true → target
  taken none pends =
      let pends_h : ltb 0 (pending_of h.control) ≡ true = ap (λ n. ltb 0 n) (sym same_pend) ∙ pends in
      taken_judged code bytes b fresh s m shaped real nowindow us sn live own kb l kn fn pends_h (vector_free none (or_left _ _ pends_h)) (asks_none (plan_asks code s _ (turn_taken code s pends))) (swaps_none (plan_asks code s _ (turn_taken code s pends)))

  waiting : laid_use b fresh code live kb rec us h ≡ None → ltb 0 (pending_of s.control) ≡ false → s.control.waits ≡ true → target
  waiting none still w =
      let still_h : ltb 0 (pending_of h.control) ≡ false = ap (λ n. ltb 0 n) (sym same_pend) ∙ still in
      let w_h : h.control.waits ≡ true = sym same_waits ∙ w in
      waits_judged code bytes b fresh s m shaped real nowindow us sn live own kb l kn fn still_h w_h (vector_free none (or_right _ _ w_h)) (asks_none (plan_asks code s _ (turn_waits code s still w))) (swaps_none (plan_asks code s _ (turn_waits code s still w)))

  module _ (still : ltb 0 (pending_of s.control) ≡ false) (awake : s.control.waits ≡ false) where
    still_h : ltb 0 (pending_of h.control) ≡ false
    still_h = ap (λ n. ltb 0 n) (sym same_pend) ∙ still

    awake_h : h.control.waits ≡ false
    awake_h = sym same_waits ∙ awake

    at_h : (at : Fetched) → fetch_at code s.control.pc ≡ at → fetch_at code h.control.pc ≡ at
    at_h at e = ap (fetch_at code) (sym same_pc) ∙ e

    by_fetch : (at : Fetched) → fetch_at code s.control.pc ≡ at → laid_use b fresh code live kb rec us h ≡ None → target
    by_fetch (Fails a) e none =
        fails_judged code bytes b fresh s m shaped real nowindow us sn live own kb l kn fn still_h awake_h (Fails a) (at_h (Fails a) e) (no_move_fails a) fetch_error (Some a) (λ x. refl) (λ x w live. refl) (fails_shown b fresh code live kb rec us h still_h awake_h none a (at_h (Fails a) e))
    by_fetch SpellsNothing e none =
        fails_judged code bytes b fresh s m shaped real nowindow us sn live own kb l kn fn still_h awake_h SpellsNothing (at_h SpellsNothing e) no_move_spells illegal_instruction None (λ x. refl) (λ x w live. refl) (spells_shown b fresh code live kb rec us h still_h awake_h none (at_h SpellsNothing e))
    by_fetch (Fetches i len) e none =
        let d = row_denied b fresh code live kb rec us h still_h awake_h none i len (at_h (Fetches i len) e) in
        ⊎_elim
        (λ is. let q = moves_denied i is d in movsp_judged code bytes b fresh s m shaped nowindow us sn live kb still awake q.0 len (e ∙ ap (λ j. Fetches j len) q.1.0) q.1.1 l kn fn)
        (λ isnt. row_judged rows code bytes b fresh s m shaped real nowindow us sn masks live own kb still awake i len e isnt d l kn fn)
        (cases_Bool (is_movsp i))

  pub plain_judged : use_breach b fresh code live kb false rec us ≡ None → target
  plain_judged none =
      let none_h : laid_use b fresh code live kb rec us h ≡ None = ap (λ (o : Option Nested). laid_use b fresh code live kb rec us (with_inputs (inputs_of rec) (current_in o us.frame))) (sym sn) ∙ none in
      ⊎_elim
      (λ pends. taken none_h pends)
      (λ still. ⊎_elim (λ w. waiting none_h still w) (λ w. by_fetch still w (fetch_at code s.control.pc) refl none_h) (cases_Bool s.control.waits))
      (cases_Bool (ltb 0 (pending_of s.control)))
