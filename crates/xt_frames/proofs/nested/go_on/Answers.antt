use Rattle.std.proofs.Common.{◌≡◌, Bool, false, List, Some, sym, ◌∙◌, ap, subst}
use Rattle.std.proofs.lemmas.Bool.{cond-false}
use Rattle.xt_map.specs.Fetching.{Fetched, Fetches}
use Rattle.xt_codec.specs.Fetches.{IsFetched}
use Rattle.xt_codec.specs.declared.fetch.Fetch.{Fetch}
use Rattle.xt_frames.specs.declared.holes.Nested.{Nested}
use Rattle.xt_frames.specs.Frames.{FrameState}
use Rattle.xt_frames.specs.FrameStep.{FrameTurn}
use Rattle.xt_frames.specs.Marks.{unset_written}
use Rattle.xt_frames.specs.Nesting.{ends_nested, with_kept_frame, nested_fetched}
use Rattle.xt_frames.specs.KeptFrameState.{state_at, turn_as}
use Rattle.xt_frames.proofs.nested.go_on.Goals as goal

pub returns-else-ends_nested-clause-state : goal.returns-else-ends_nested-clause-state
returns-else-ends_nested-clause-state c = λ frames v w at value fetched kept.
    let h = c.args.holes.now in
    let i = c.in-Insn.i in
    let f = state_at frames h v in
    let inner = state_at frames h c.args.inner.now in
    let u = turn_as c.args.step.now frames h c.args.inner.now in
    let next = c.continued-next in
    let P : Fetch → Type 0 = λ x. IsFetched x at in
    let is : at ≡ Fetches i c.in-Insn.field-1 = (subst P c.in-Insn.is fetched).0 in
    let goes : ends_nested i ≡ false = sym c.ends_nested.ensures ∙ c.if-ends_nested.false in
    let B : List Bool → Nested → FrameState → FrameState = λ unset x s. record s { unset = unset; nested = Some x } in
    ap (B next.new.unset next.result) kept
    ∙ (ap (λ (unset : List Bool). B unset next.result (with_kept_frame f inner)) next.ensures.unset
    ∙ (ap (λ (x : Nested). B (unset_written i c.args.nested.now.marks h.unset) x (with_kept_frame f inner)) (next.ensures.nested frames h)
    ∙ sym (ap (λ (x : Fetched). (nested_fetched x value c.args.nested.now f u).after) is
    ∙ ap (λ (t : FrameTurn). t.after) (cond-false (ends_nested i) _ _ goes))))
