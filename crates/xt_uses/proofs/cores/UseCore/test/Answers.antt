use Rattle.std.proofs.Common.{List, None, Some, sym, ◌∙◌, ap, subst}
use Rattle.xt_map.specs.Memory.{constant_byte}
use Rattle.xt_frames.specs.declared.kinds.Breach.{Breach}
use Rattle.xt_frames.specs.declared.view.Caller.{Caller}
use Rattle.xt_frames.specs.KeptFrameState.{IsNewest, frames_of, state_at}
use Rattle.xt_uses.specs.UseParts.{UseWalked, kept_of}
use Rattle.xt_uses.proofs.UseCores.{other_window, tested_window}
use Rattle.xt_uses.proofs.cores.UseCore.test.Goals as goal

pub returns-then-not-underflows : goal.returns-then-not-underflows
returns-then-not-underflows c = other_window (constant_byte c.args.code.now) c.args.rec.now c.args.self.now.state (sym c.underflows.ensures ∙ c.if-not-underflows.true)

pub returns-in-None : goal.returns-in-None
returns-in-None c =
    let w = c.args.self.now in
    let i = c.self.inside in
    let frames = frames_of i.callers.items in
    let kept = kept_of i.kept.items in
    let f = state_at frames i.top.holes c.laid_view-view.result in
    let over = c.laid_view-view.ensures i.top.holes (ap (λ (x : UseWalked). x.state.frame.unset) c.self.view_is) (ap (λ (x : UseWalked). x.state.frame.nested) c.self.view_is) in
    let at = ap (λ (x : UseWalked). state_at x.state.frame.frames i.top.holes c.laid_view-view.result) c.self.view_is ∙ over in
    let newest = subst (λ (cs : List Caller). IsNewest c.newest_of.result (frames_of cs)) c.deref.ensures.value c.newest_of.ensures.newest in
    tested_window (constant_byte c.args.code.now) c.args.rec.now _ w f None c.self.view_is at (sym c.underflows.ensures ∙ c.if-not-underflows.false) (sym c.in-None.is ∙ c.return_use.ensures frames kept i.top.view newest)

pub returns-in-Some : goal.returns-in-Some
returns-in-Some c =
    let w = c.args.self.now in
    let i = c.self.inside in
    let frames = frames_of i.callers.items in
    let kept = kept_of i.kept.items in
    let f = state_at frames i.top.holes c.laid_view-view.result in
    let over = c.laid_view-view.ensures i.top.holes (ap (λ (x : UseWalked). x.state.frame.unset) c.self.view_is) (ap (λ (x : UseWalked). x.state.frame.nested) c.self.view_is) in
    let at = ap (λ (x : UseWalked). state_at x.state.frame.frames i.top.holes c.laid_view-view.result) c.self.view_is ∙ over in
    let newest = subst (λ (cs : List Caller). IsNewest c.newest_of.result (frames_of cs)) c.deref.ensures.value c.newest_of.ensures.newest in
    let found = tested_window (constant_byte c.args.code.now) c.args.rec.now _ w f (Some c.in-Some.kind) c.self.view_is at (sym c.underflows.ensures ∙ c.if-not-underflows.false) (sym c.in-Some.is ∙ c.return_use.ensures frames kept i.top.view newest) in
    let b = c.breach.ensures in
    (found ∙ ap (λ (x : Breach). Some x.kind) (sym b), ap (λ (x : Breach). x.core) b, ap (λ (x : Breach). x.step) b)
