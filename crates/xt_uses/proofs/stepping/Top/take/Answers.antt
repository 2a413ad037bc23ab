use Rattle.std.specs.Prelude.{IfSome, is_some}
use Rattle.std.proofs.Common.{◌≡◌, ◌||◌, ◌&&◌, ℕ, Bool, false, not, cond, eqb, Option, sym, ◌∙◌, ap, subst}
use Rattle.std.proofs.lemmas.Bool.{cond-false}
use Rattle.xt_isa.specs.declared.Insn.{Insn}
use Rattle.xt_map.specs.Memory.{constant_byte}
use Rattle.xt_special.specs.declared.ps.Ps.{Ps}
use Rattle.xt_special.specs.Shape.{IsPs}
use Rattle.xt_trace.specs.declared.record.RegWrite.{RegWrite}
use Rattle.xt_trace.specs.declared.record.StepKind.{StepKind}
use Rattle.xt_map.specs.Fetching.{Fetched, fetch_at}
use Rattle.xt_frames.specs.declared.holes.UndefinedParts.{UndefinedParts}
use Rattle.xt_frames.specs.declared.view.Call.{Call}
use Rattle.xt_frames.specs.Frames.{FrameState}
use Rattle.xt_frames.specs.FrameStep.{FrameTurn, with_inputs}
use Rattle.xt_frames.specs.Nesting.{begins, current}
use Rattle.xt_frames.specs.Breaches.{fresh_after, inputs_of}
use Rattle.xt_frames.specs.Judging.{value_in}
use Rattle.xt_frames.specs.KeptFrameState.{Upper, frames_after, state_at}
use Rattle.xt_uses.specs.declared.masks.Keep.{Keep}
use Rattle.xt_uses.specs.Words.{all_bits}
use Rattle.xt_uses.specs.UseState.{ValidityBits, UseState}
use Rattle.xt_uses.specs.UseStep.{UseTurn, carries, cut_state, step_insn, full_step, leave_results, left_after, receives_mark, reply_mask, stores_unknown, use_step, use_turn, value_step}
use Rattle.xt_uses.specs.UseParts.{call_in, kept_after, masks_at, register_of, settled_in, use_at}
use Rattle.xt_uses.proofs.UseSteps.{settled_kind, settled_register, turn_frame, turn_kind, turn_write}
use Rattle.xt_uses.proofs.stepping.Top.take.Goals as goal

pub returns-clause-ps : goal.returns-clause-ps
returns-clause-ps c = subst (λ (h : UndefinedParts). IfSome h.nested (λ x. IsPs x.ps)) (sym c.leave.ensures.holes) (c.cut.ensures.ps (c.settle-call.ensures.ps (rw c.mask-masked.ensures.holes c.requires.ps)))

pub returns-clause-call : goal.returns-clause-call
returns-clause-call c = c.done.ensures.call ∙ (c.settle-call.ensures.call ∙ ap (λ (h : UndefinedParts). call_in h.nested c.args.made.now.step.call) c.mask-masked.ensures.holes)

pub returns-clause-taken : goal.returns-clause-taken
returns-clause-taken c = λ nested frames kept bytes caller newest reply off found value.
    let code = constant_byte c.args.code.now in
    let rec = c.args.rec.now in
    let made = c.args.made.now in
    let top = c.args.self.now in
    let h = top.holes in
    let v = top.view in
    let s = use_at frames kept h v top.masks in
    let inp = inputs_of rec in
    let f = with_inputs inp (current s.frame) in
    let number = value_in rec.write in
    let u = value_step code false number inp s.frame in
    let at = fetch_at code made.before.control.pc in
    let g = state_at frames h made.before in
    let i = step_insn made.step.kind at in
    let r = c.args.touched.now.reply in
    let m = c.mask-masked.result in
    let e = c.mask-masked.ensures in
    let plan = c.requires.plan in
    let kind = c.requires.kind in
    let same : register_of u.write ≡ register_of made.step.write = ap (λ (t : FrameTurn). register_of t.write) (sym value) ∙ settled_register h.nested code number made frames h v in
    let kinds : u.kind ≡ made.step.kind = ap (λ (t : FrameTurn). t.kind) (sym value) ∙ settled_kind h.nested code number made frames h v in
    let t = use_turn i r s g u in
    let T : Option Insn → ℕ → FrameState → UseTurn = λ j n x. use_turn j n s x u in
    let pcs : fetch_at code f.control.pc ≡ at = ap (λ (x : FrameState). fetch_at code x.control.pc) (sym found) in
    let insns : step_insn u.kind (fetch_at code f.control.pc) ≡ i = ap (λ (k : StepKind). step_insn k (fetch_at code f.control.pc)) kinds ∙ ap (step_insn made.step.kind) pcs in
    let insn : step_insn t.turn.kind (fetch_at code f.control.pc) ≡ i = ap (λ (k : StepKind). step_insn k (fetch_at code f.control.pc)) (turn_kind i r s g u) ∙ insns in
    let w : UseTurn = record t { after = left_after i s t.after } in
    let full : full_step code nested rec bytes s ≡ t =
    cond-false (begins nested rec.kind s.frame) _ _ off
    ∙ (ap (λ (j : Option Insn). T j (reply_mask bytes rec.access) f) insns
    ∙ (ap (λ (n : ℕ). T i n f) reply ∙ ap (T i r) (sym found))) in
    let step : use_step code nested rec bytes s ≡ w =
    ap (λ (x : UseTurn). record x { after = left_after (step_insn x.turn.kind (fetch_at code f.control.pc)) s x.after }) full
    ∙ ap (λ (o : Option Insn). record t { after = left_after o s t.after }) insn in
    let call = c.settle-call.result in
    let after = frames_after call frames in
    let set = c.settle-call.new.self in
    let mid = c.cut.new.self in
    let end = c.leave.new.self in
    let settled : state_at after set.holes set.view ≡ u.after =
    c.settle-call.ensures.values frames number
    ∙ (ap (λ (x : UndefinedParts). (settled_in x.nested code number made frames x c.mask-masked.new.self.view).after) e.holes
    ∙ (ap (λ (x : Upper). (settled_in h.nested code number made frames h x).after) e.view
    ∙ ap (λ (x : FrameTurn). x.after) value)) in
    let cut_is : state_at after mid.holes mid.view ≡ t.after.frame =
    c.cut.ensures.values after
    ∙ (ap (λ (x : FrameState). cut_state m.mask m.write x.nested x) settled
    ∙ (ap (λ (w : Option RegWrite). cut_state m.mask w u.after.nested u.after) (e.cut code plan kind)
    ∙ turn_frame i r s g u m.mask made.step.write same (e.mask code frames kept v u plan kind))) in
    let masks : masks_at (kept_after m.keep kept) mid.masks ≡ t.after.masks =
    ap (masks_at (kept_after m.keep kept)) (c.cut.ensures.masks ∙ c.settle-call.ensures.masks) ∙ e.masks code frames kept v u plan kind newest same in
    let U : FrameState → ValidityBits → UseState = λ x y. record { frame = x; masks = y } in
    let kept_now = kept_after m.keep kept in
    let full_left : use_at after kept_now mid.holes mid.view mid.masks ≡ t.after = ap (λ (x : FrameState). U x (masks_at kept_now mid.masks)) cut_is ∙ ap (U t.after.frame) masks in
    let left : use_at after kept_now end.holes end.view end.masks ≡ w.after =
    c.leave.ensures.state after frames kept_now caller
    ∙ (ap (λ (x : UseState). cond m.forgets (leave_results frames x) x) full_left
    ∙ ap (λ (b : Bool). cond b (leave_results frames t.after) t.after) (e.forgets code plan kind)) in
    let frame : state_at after end.holes end.view ≡ w.after.frame = ap (λ (x : UseState). x.frame) left in
    let D : Call → Keep → UseState = λ x y. use_at (frames_after x frames) (kept_after y kept) end.holes end.view end.masks in
    let d = c.done.ensures in
    let F : StepKind → Fetched → Ps → Ps → Bool = fresh_after c.args.case.now.fresh in
    let now = (current w.after.frame).control.ps in
    let epc1 : c.done.result.fresh ≡ F t.turn.kind (fetch_at code f.control.pc) f.control.ps now =
    d.fresh after
    ∙ (ap (λ (x : FrameState). F made.step.kind at made.before.control.ps (current x).control.ps) frame
    ∙ (ap (λ (k : StepKind). F k at made.before.control.ps now) (sym (turn_kind i r s g u ∙ kinds))
    ∙ (ap (λ (a : Fetched). F t.turn.kind a made.before.control.ps now) (sym pcs)
    ∙ ap (λ (x : FrameState). F t.turn.kind (fetch_at code f.control.pc) x.control.ps now) found))) in
    let marked : m.marked ≡ receives_mark (step_insn t.turn.kind (fetch_at code f.control.pc)) h.nested =
    e.marked code plan kind ∙ ap (λ (j : Option Insn). receives_mark j h.nested) (sym (ap (λ (k : StepKind). step_insn k (fetch_at code f.control.pc)) (turn_kind i r s g u) ∙ insns)) in
    let B : Bool → Bool → ℕ → ℕ → Bool = λ w x n k. (w && not (x || eqb n all_bits)) || stores_unknown k rec.access in
    let unknown : c.done.result.carries ≡ carries code rec s w =
    d.carries
    ∙ (ap (λ (w : Bool). B w m.marked m.mask m.stored) (turn_write i r s g u made.step.write same)
    ∙ (ap (λ (x : Bool). B (is_some t.turn.write) x m.mask m.stored) marked
    ∙ (ap (λ (n : ℕ). B (is_some t.turn.write) (receives_mark (step_insn t.turn.kind (fetch_at code f.control.pc)) h.nested) n m.stored) (e.mask code frames kept v u plan kind)
    ∙ ap (λ (k : ℕ). B (is_some t.turn.write) (receives_mark (step_insn t.turn.kind (fetch_at code f.control.pc)) h.nested) t.mask k) (e.stored code frames kept v u plan kind)))) in
    record {
      state = ap (λ (x : Call). D x c.done.result.keep) d.call ∙ (ap (D call) d.keep ∙ (left ∙ ap (λ (x : UseTurn). x.after) (sym step)));
      epc1 = epc1 ∙ ap (λ (x : UseTurn). F x.turn.kind (fetch_at code f.control.pc) f.control.ps (current x.after.frame).control.ps) (sym step);
      stores = d.stored ∙ (e.stored code frames kept v u plan kind ∙ ap (λ (x : UseTurn). x.stored) (sym step));
      unknown = unknown ∙ ap (carries code rec s) (sym step);
    }

pub done-requires-clause-ps : goal.done-requires-clause-ps
done-requires-clause-ps c = subst (λ (h : UndefinedParts). IfSome h.nested (λ x. IsPs x.ps)) (sym c.leave.ensures.holes) (c.cut.ensures.ps (c.settle-call.ensures.ps (rw c.mask-masked.ensures.holes c.requires.ps)))
