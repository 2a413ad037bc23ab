-- The machine of frames along the records of a run, beside the machine of uses.
use Rattle.std.proofs.Common.{◌≡◌, ℕ, suc, ◌+◌, ◌*◌, ◌^◌, ◌<◌, Bool, true, false, cond, eqb, ltb, ◌&&◌, ◌||◌, List, [], ◌∷◌, Option, Some, None, length, refl, sym, ap, subst}
use Rattle.std.proofs.lemmas.Option.{none-some}
use Rattle.xt_isa.specs.declared.Insn.{Insn}
use Rattle.xt_special.specs.Interrupts.{pending_of}
use Rattle.xt_trace.specs.declared.record.RegWrite.{RegWrite}
use Rattle.xt_trace.specs.declared.record.StepRecord.{StepRecord}
use Rattle.xt_map.specs.Fetching.{fetch_at}
use Rattle.xt_frames.specs.declared.holes.Nested.{Nested}
use Rattle.xt_frames.specs.Frames.{Frame, FrameState, windows_moved}
use Rattle.xt_frames.specs.FrameStep.{FrameTurn, with_inputs}
use Rattle.xt_frames.specs.Nesting.{current}
use Rattle.xt_frames.specs.Breaches.{Bounds, inputs_of}
use Rattle.xt_frames.specs.Judging.{value_in}
use Rattle.xt_frames.specs.FirstBreach.{Course}
use Rattle.xt_simulation.proofs.Evenly.{same_pending}
use Rattle.xt_uses.specs.declared.discipline.Discipline.{Discipline}
use Rattle.xt_uses.specs.UseState.{UseState, opening_use}
use Rattle.xt_uses.specs.UseStep.{UseTurn, full_step, reply_mask, step_insn, use_step, use_turn, value_step}
use Rattle.xt_uses.specs.UseBreaches.{use_breach}
use Rattle.xt_uses.specs.FirstUse.{History, IsHistory}
use Rattle.xt_uses.specs.UseLaws.{IsOrdinary, WriteFits}
use Rattle.xt_uses.proofs.CutRuns.{cut_opens}
use Rattle.xt_uses.proofs.CutWords.{AreInputs, IsShapedFrame, frame_shaped}
use Rattle.xt_uses.proofs.RowsAll.{all_agree}
use Rattle.xt_uses.proofs.WholeIdle.{opening_at}
use Rattle.xt_simulation.specs.Knowing.{FramesFit, Knows, NestedFit, NowFit, with_pointer}
use Rattle.xt_simulation.specs.WrittenFirst.{IsWritten, frame_turn, is_register, written_past}
use Rattle.xt_simulation.proofs.FilledRuns.{opens_beside, opens_pointer, replies_hold}
use Rattle.xt_simulation.proofs.Following.{now_plain}
use Rattle.xt_simulation.proofs.Leaves.{knows_left}
use Rattle.xt_simulation.proofs.MaskStep.{step_small}
use Rattle.xt_simulation.proofs.MaskWords.{MaskWords, opening_small}
use Rattle.xt_simulation.proofs.Numbered.{Held}
use Rattle.xt_simulation.proofs.Outside.{Goes, outside_goes}
use Rattle.xt_simulation.proofs.UseWords.{value_leaves}
use Rattle.xt_simulation.proofs.WrittenMasks.{still}

-- ---- the frames are as many, of the same sizes
pub record SameFrames (f g : FrameState) : Type 0 where
  pub windows : windows_moved f.frames ≡ windows_moved g.frames
  pub count : length f.frames ≡ length g.frames

windows_same : (ms : List (List ℕ)) (fs gs : List Frame) → FramesFit ms fs gs → windows_moved fs ≡ windows_moved gs
windows_same [] [] [] h = refl
windows_same (m ∷ ms) (f ∷ fs) (g ∷ gs) h = λ i. h.0 i + windows_same ms fs gs h.1.1.1 i
windows_same [] [] (g ∷ gs) h = absurd h
windows_same [] (f ∷ fs) gs h = absurd h
windows_same (m ∷ ms) [] gs h = absurd h
windows_same (m ∷ ms) (f ∷ fs) [] h = absurd h

count_same : (ms : List (List ℕ)) (fs gs : List Frame) → FramesFit ms fs gs → length fs ≡ length gs
count_same [] [] [] h = refl
count_same (m ∷ ms) (f ∷ fs) (g ∷ gs) h = ap suc (count_same ms fs gs h.1.1.1)
count_same [] [] (g ∷ gs) h = absurd h
count_same [] (f ∷ fs) gs h = absurd h
count_same (m ∷ ms) [] gs h = absurd h
count_same (m ∷ ms) (f ∷ fs) [] h = absurd h

pub same_frames : {f : FrameState} {s : UseState} → Knows f s → SameFrames f s.frame
same_frames {f} {s} k = record { windows = windows_same s.masks.kept f.frames s.frame.frames k.frames; count = count_same s.masks.kept f.frames s.frame.frames k.frames }

-- ---- so what was written is the same
register_same : (mask : ℕ) (a b : Option RegWrite) → WriteFits mask a b → (u v : FrameState) → windows_moved u.frames ≡ windows_moved v.frames → (c : ℕ) → is_register u a c ≡ is_register v b c
register_same mask None None h u v e c = refl
register_same mask (Some a) (Some b) h u v e c = λ i. eqb c (4 * e i + h.0 i)
register_same mask None (Some b) h u v e c = absurd h
register_same mask (Some a) None h u v e c = absurd h

abbrev kept_by : ℕ → ℕ → ℕ → ℕ → Bool
kept_by before after windows c = cond (ltb before after) (ltb c (4 * windows + 16)) (cond (ltb after before) (still (4 * windows) c) true)

past_same : (f g : FrameState) (u v : FrameTurn) → SameFrames f g → SameFrames u.after v.after → (c : ℕ) → is_register u.after u.write c ≡ is_register v.after v.write c → (written : ℕ → Bool) → written_past f u written c ≡ written_past g v written c
past_same f g u v s t c w written = λ i. w i || (kept_by (s.count i) (t.count i) (s.windows i) c && written c)

pub written_same : (written : ℕ → Bool) (f g : FrameState) → windows_moved f.frames ≡ windows_moved g.frames → (o : Option ℕ) → IsWritten written f o → IsWritten written g o
written_same written f g e None h = tt
written_same written f g e (Some i) h = subst (λ n. written (4 * n + i) ≡ true) e h

-- ---- both states
pub record Alongside (f : FrameState) (s : UseState) : Type 0 where
  pub knows : Knows f s
  pub shaped : IsShapedFrame f
  pub held : Held f
  pub masks : MaskWords s.masks
  pub nested : f.nested ≡ None

none_of : {f : FrameState} {s : UseState} → Knows f s → s.frame.nested ≡ None → f.nested ≡ None
none_of {f} {s} k e = by f.nested s.frame.nested k.nested e
  where
    by : (o p : Option Nested) → NestedFit s.masks.inner o p → p ≡ None → o ≡ None
    by None None h q = refl
    by (Some x) (Some y) h q = absurd (none-some y (sym q))
    by None (Some y) h q = absurd h
    by (Some x) None h q = absurd h

pub opens_along : (d : Discipline) (r : Course) (h : History) → IsOrdinary r → IsHistory d r h → (core : ℕ) → Alongside (r.opening core) (h.state core 0)
opens_along d r h ordinary is core =
    let o = ordinary.opens core in
    let shaped : IsShapedFrame (r.opening core) = subst (λ f. IsShapedFrame f) (opening_at r core) (frame_shaped r ordinary core 0) in
    let knows : Knows (r.opening core) (opening_use d (r.opening core)) = subst (λ f. Knows f (opening_use d f)) (sym o.opens) (opens_beside d o.core o.pc o.vecbase o.stack_end (cut_opens o.core o.pc o.vecbase o.stack_end o.stack_word d) (subst (λ f. IsShapedFrame f) o.opens shaped)) in
    record {
      knows = subst (λ s. Knows (r.opening core) s) (sym (is.opens core)) knows;
      shaped = shaped;
      held = subst (λ (f : FrameState). Held f) (sym o.opens) (record { framed = tt; pointer = opens_pointer o.stack_end; kept = tt });
      masks = subst (λ (s : UseState). MaskWords s.masks) (sym (is.opens core)) (opening_small d);
      nested = subst (λ (f : FrameState). f.nested ≡ None) (sym o.opens) refl;
    }

-- ---- what a step of both finds
module _ {f : FrameState} {us : UseState} (k : Alongside f us) (sn : us.frame.nested ≡ None) (rec : StepRecord) where
  abbrev g : FrameState
  g = with_inputs (inputs_of rec) f

  abbrev h : FrameState
  h = with_inputs (inputs_of rec) us.frame

  now : NowFit us g h
  now = now_plain k.knows k.nested sn (inputs_of rec)

  pub same_place : g.control.pc ≡ h.control.pc
  same_place = now.control.even.pc

  same_wait : pending_of g.control ≡ pending_of h.control
  same_wait = same_pending g.control (with_pointer g.control.threadptr h.control) now.control.even

  pub same_busy : (ltb 0 (pending_of g.control) || g.control.waits) ≡ (ltb 0 (pending_of h.control) || h.control.waits)
  same_busy = λ i. ltb 0 (same_wait i) || now.control.even.waits i

-- ---- a step
turn_after : (o : Option Insn) (reply : ℕ) (s : UseState) (f : FrameState) (u : FrameTurn) → (use_turn o reply s f u).after.frame ≡ (use_turn o reply s f u).turn.after
turn_after None reply s f u = refl
turn_after (Some i) reply s f u = refl

module _ (r : Course) (ordinary : IsOrdinary r) (b : Bounds) (fresh : Bool) (live : ℕ → Bool) (kb : ℕ → ℕ) (rec : StepRecord) (words : AreInputs (inputs_of rec)) (small : reply_mask kb rec.access < 2 ^ 32)
    {f : FrameState} {us : UseState} (k : Alongside f us) (sn : us.frame.nested ≡ None) (none : use_breach b fresh r.code live kb false rec us ≡ None) where
  abbrev t : UseTurn
  t = full_step r.code false rec kb us

  abbrev u : FrameTurn
  u = frame_turn r rec f

  abbrev finds : FrameState
  finds = with_inputs (inputs_of rec) (current us.frame)

  goes : Goes t u
  goes = outside_goes all_agree replies_hold r.code ordinary.code b fresh live kb rec words rec.reply (value_in rec.write) small words.reply refl us sn k.masks k.knows k.nested k.shaped k.held none

  pub next_along : (use_step r.code false rec kb us).after.frame.nested ≡ None → Alongside u.after (use_step r.code false rec kb us).after
  next_along e =
      let knows : Knows u.after (use_step r.code false rec kb us).after = knows_left (step_insn t.turn.kind (fetch_at r.code finds.control.pc)) f us k.knows k.held.framed u.after t.after goes.follows.knows in
      record {
        knows = knows;
        shaped = value_leaves r.code false rec f ordinary.code words k.shaped;
        held = goes.held;
        masks = step_small r.code ordinary.code false rec kb us small k.masks;
        nested = none_of knows e;
      }

  pub next_written : (written : ℕ → Bool) (c : ℕ) → written_past f u written c ≡ written_past us.frame (use_step r.code false rec kb us).turn written c
  next_written written c =
      let v = value_step r.code false (value_in rec.write) (inputs_of rec) us.frame in
      let after : SameFrames u.after t.turn.after = subst (λ q. SameFrames u.after q) (turn_after (step_insn v.kind (fetch_at r.code finds.control.pc)) (reply_mask kb rec.access) us finds v) (same_frames goes.follows.knows) in
      past_same f us.frame u t.turn (same_frames k.knows) after c (register_same t.mask u.write t.turn.write goes.follows.write u.after t.turn.after after.windows c) written
