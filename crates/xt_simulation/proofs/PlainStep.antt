-- A judged step outside nested interrupts, but MOVSP: where it shows no breach of uses, the frame state is filled, makes the step of the
-- processor, and the machine of uses follows it.
use Rattle.std.proofs.Common.{◌≡◌, ℕ, Bool, true, false, List, Option, None, sym, ap, ◌∙◌, refl}
use Rattle.std.proofs.lemmas.Bool.{false≢true}
use Rattle.xt_isa.specs.declared.Insn.{Insn}
use Rattle.xt_isa.specs.declared.Insn.TheVariants as insn
use Rattle.xt_isa.specs.declared.shift.Shift.TheVariants as shift
use Rattle.xt_map.specs.declared.contents.MemoryContents.{MemoryContents}
use Rattle.xt_map.specs.Memory.{byte_at}
use Rattle.xt_map.specs.Touching.{IsMemory}
use Rattle.xt_map.specs.Fetching.{Fetches, fetch_at}
use Rattle.xt_map.specs.Code.{AreBytes}
use Rattle.xt_rows.specs.Kinds.{is_movsp}
use Rattle.xt_exec.specs.State.{State}
use Rattle.xt_exec.specs.TurnLaws.{IsShaped}
use Rattle.xt_exec.specs.Turn.{demand, planned_turn, turn}
use Rattle.xt_trace.specs.declared.record.StepRecord.{StepRecord}
use Rattle.xt_frames.specs.declared.holes.Nested.{Nested}
use Rattle.xt_frames.specs.Frames.{Frame, FrameState}
use Rattle.xt_frames.specs.FrameStep.{FrameTurn, with_inputs, step_with_inputs}
use Rattle.xt_frames.specs.HandlerSteps.{is_window}
use Rattle.xt_frames.specs.Nesting.{current_in, turn_in, unset_after}
use Rattle.xt_frames.specs.SaveAreas.{is_live}
use Rattle.xt_frames.specs.Breaches.{Bounds, inputs_of, laid_breach, touches_save_area}
use Rattle.xt_frames.specs.Judging.{value_in}
use Rattle.xt_simulation.specs.Cores.{Related}
use Rattle.xt_simulation.specs.JudgedSteps.{fresh_turn, plain_after}
use Rattle.xt_simulation.specs.Relation.{inputs, lost_at}
use Rattle.xt_simulation.specs.Steps.{memory_now, record_now, reply_now, state_now}
use Rattle.xt_simulation.proofs.Judges.{JudgedStep, judged_step}
use Rattle.xt_uses.specs.UseBreaches.{nowhere, swaps_unknown}
use Rattle.xt_uses.specs.UseState.{UseState}
use Rattle.xt_uses.specs.UseStep.{UseTurn, step_insn, fetched_movsp, full_step, movsp_of, reply_mask, turn_or, use_turn, value_step}
use Rattle.xt_simulation.specs.Knowing.{Follows, Knows}
use Rattle.xt_simulation.proofs.Following.{RecordFits, record_fits, with_unset}
use Rattle.xt_simulation.proofs.Spared.{live_known, spared}

-- what is left of a judged step
pub record JudgedUse (code : ℕ → ℕ) (b : Bounds) (fresh : Bool) (m : MemoryContents) (s : State) (live : ℕ → Bool) (kb : ℕ → ℕ) (t : UseTurn) : Type 0 where
  pub fits : RecordFits live kb (record_now code m s) t
  pub frame : FrameState
  pub ring : List Frame
  pub spilled : List Frame
  pub related : Related (byte_at (memory_now code m s)) b (lost_at (fresh_turn fresh code (reply_now code m s) s) frame) (state_now code m s) frame ring spilled
  pub nested : frame.nested ≡ None
  pub knows : Knows frame t.after

-- ---- the step of the machine of uses
pub row_moves_none : (i : Insn) (len : ℕ) (f : FrameState) → is_movsp i ≡ false → fetched_movsp (Fetches i len) f ≡ None
unfolding fetched_movsp is_movsp
row_moves_none (insn.Shift (shift.Movsp t s)) len f h = absurd (false≢true (sym h))
row_moves_none _ len f h = refl

pub use_plain : (code : ℕ → ℕ) (rec : StepRecord) (bytes : ℕ → ℕ) (s : UseState) → s.frame.nested ≡ None → movsp_of code (with_inputs (inputs_of rec) s.frame) ≡ None
    → let h = with_inputs (inputs_of rec) s.frame in let v = step_with_inputs code rec.reply h in
    full_step code false rec bytes s ≡ use_turn (step_insn v.kind (fetch_at code h.control.pc)) (reply_mask bytes rec.access) s h (with_unset (unset_after v.kind (fetch_at code h.control.pc) s.frame.unset) v)
unfolding value_step
use_plain code rec bytes s sn none =
    let inp = inputs_of rec in
    let value = value_in rec.write in
    let r = reply_mask bytes rec.access in
    let U : Option FrameTurn → Option Nested → UseTurn = λ z o. (
    let w = turn_or z (turn_in o code value inp s.frame) in
    let k = with_inputs inp (current_in o s.frame) in
    use_turn (step_insn w.kind (fetch_at code k.control.pc)) r s k w
    ) in
    ap (U (movsp_of code (with_inputs inp s.frame))) sn ∙ ap (λ z. U z None) none

module _ (code : ℕ → ℕ) (bytes : AreBytes code) (b : Bounds) (fresh : Bool) (s : State) (m : MemoryContents) (shaped : IsShaped s) (real : IsMemory m) (nowindow : is_window (planned_turn code s).kind ≡ false) where
  abbrev rec : StepRecord
  rec = record_now code m s

  abbrev reply : ℕ
  reply = reply_now code m s

  -- ---- what follows from the step of the frame state
  module _ {f : FrameState} {ring spilled : List Frame} (l : Related (byte_at m) b (lost_at fresh f) s f ring spilled) (none : f.nested ≡ None) (quiet : laid_breach b fresh code nowhere nowhere rec (with_inputs (inputs_of rec) f) ≡ None) where
    abbrev u : FrameTurn
    u = plain_after code reply (with_inputs (inputs 0 s) f)

    abbrev same : JudgedStep code b fresh s f m spilled u
    same = judged_step code bytes b fresh s f ring spilled m l none shaped real nowindow nowhere nowhere quiet

    pub asked : rec.access ≡ u.access
    asked = same.access

    pub finish : {us : UseState} {t : UseTurn} (live : ℕ → Bool) (kb : ℕ → ℕ) → Knows f us → ((a : ℕ) → is_live b.range us.frame a ≡ true → live a ≡ true) → touches_save_area live rec.access ≡ false → swaps_unknown kb rec.access ≡ false → Follows t u → u.after.nested ≡ None → JudgedUse code b fresh m s live kb t
    unfolding turn demand
    finish live kb k own saves swaps follows after_none = record {
      fits = record_fits saves swaps same.kind same.write same.access follows;
      frame = u.after;
      ring = same.ring;
      spilled = spilled;
      related = same.related (λ a is. spared live m (demand code s) saves a (own a (sym (live_known k b.range a) ∙ is)));
      nested = after_none;
      knows = follows.knows;
    }
