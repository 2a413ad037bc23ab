-- The judged record that begins a nested interrupt in the middle of a window handler.
use Rattle.std.proofs.Common.{◌≡◌, ℕ, Bool, true, false, None, sym, ap, ◌∙◌, refl, subst}
use Rattle.std.proofs.lemmas.Bool.{false≢true}
use Rattle.xt_map.specs.declared.contents.MemoryContents.{MemoryContents}
use Rattle.xt_trace.specs.declared.record.StepKind.{StepKind}
use Rattle.xt_trace.specs.declared.record.StepKind.TheVariants as kind_
use Rattle.xt_trace.specs.declared.record.StepRecord.{StepRecord}
use Rattle.xt_frames.specs.declared.kinds.HandlerPhase.TheVariants.{InHandler}
use Rattle.xt_frames.specs.HandlerSteps.{returns}
use Rattle.xt_map.specs.Code.{AreBytes}
use Rattle.xt_exec.specs.State.{State}
use Rattle.xt_exec.specs.TurnLaws.{IsShaped}
use Rattle.xt_exec.specs.Turn.{planned_turn}
use Rattle.xt_frames.specs.Frames.{FrameState}
use Rattle.xt_frames.specs.FrameStep.{FrameTurn, with_inputs}
use Rattle.xt_frames.specs.Nesting.{nested_entry, is_nesting}
use Rattle.xt_frames.specs.Breaches.{Bounds, inputs_of, touches_save_area}
use Rattle.xt_simulation.proofs.Judges.{record_access}
use Rattle.xt_uses.specs.UseBreaches.{swaps_unknown}
use Rattle.xt_frames.specs.Judging.{step_on}
use Rattle.xt_frames.proofs.Inside.{step_begins}
use Rattle.xt_simulation.specs.Handling.{IsGood}
use Rattle.xt_simulation.specs.InHandlers.{as_left}
use Rattle.xt_simulation.specs.Nested.{StaysIn}
use Rattle.xt_simulation.specs.Walking.{Entered}
use Rattle.xt_simulation.specs.Steps.{record_now, reply_now, state_now}
use Rattle.xt_simulation.proofs.NestedSteps.{begin_matches, no_access}
use Rattle.xt_simulation.proofs.OneCore.{InCore, begin_core}
use Rattle.xt_simulation.proofs.Taken.{nesting_now}
use Rattle.xt_uses.specs.UseState.{UseState}
use Rattle.xt_uses.specs.UseStep.{full_step}
use Rattle.xt_simulation.specs.Knowing.{Follows, Knows}
use Rattle.xt_simulation.proofs.Beginning.{begin_follows, use_begins}
use Rattle.xt_simulation.proofs.Following.{record_fits}
use Rattle.xt_simulation.proofs.NestedJudged.{InnerUse}

pub begin_last : (code : ℕ → ℕ) (k : StepKind) (pc : ℕ) → is_nesting k ≡ true → returns code k pc ≡ false
begin_last code (kind_.Interrupt level) pc e = refl
begin_last code kind_.Insn pc e = absurd (false≢true e)
begin_last code _ pc e = refl

pub begin_judged : (code : ℕ → ℕ) → AreBytes code → (b : Bounds) → IsGood code b → (m : MemoryContents) (s : State) (us : UseState) (live : ℕ → Bool) (kb : ℕ → ℕ) (fresh : Bool) {f : FrameState} (e : Entered)
    → InCore code InHandler m b fresh s f e → Knows f us → us.frame.nested ≡ None → IsShaped s → is_nesting (planned_turn code s).kind ≡ true
    → InnerUse code b m s e.opened s live kb (full_step code true (record_now code m s) kb us)
begin_judged code bytes b good m s us live kb fresh {f = f} e h kn sn shaped nesting =
    let rec : StepRecord = record_now code m s in
    let kind : is_nesting rec.kind ≡ true = nesting_now code m s nesting in
    let u : FrameTurn = step_on code true rec f in
    let framed : u ≡ nested_entry (with_inputs (inputs_of rec) f) = step_begins code rec f kind h.1 in
    let follows : Follows (full_step code true rec kb us) u = subst (λ z. Follows z u) (sym (use_begins code rec kb us kind sn)) (subst (Follows _) (sym framed) (begin_follows kn (inputs_of rec))) in
    let same = begin_matches code m s f nesting h.1 m in
    let asked : rec.access ≡ None = record_access code s (reply_now code m s) ∙ no_access code m s f nesting h.1 in
    record {
      fits = record_fits (ap (touches_save_area live) asked) (ap (swaps_unknown kb) asked) same.kind same.write same.access follows;
      frame = u.after;
      left = as_left e.before s (state_now code m s);
      next = StaysIn (begin_last code (planned_turn code s).kind s.control.pc nesting) (begin_core code bytes b good m s shaped f e fresh h kn.unset.size nesting);
      knows = follows.knows;
    }
