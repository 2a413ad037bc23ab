use Rattle.std.proofs.Common.{Bool, List, Option, false, ⊎_elim, sym, ◌∙◌, ap, subst}
use Rattle.xt_map.specs.Fetching.{Fetched}
use Rattle.xt_codec.specs.Fetches.{IsFetched}
use Rattle.xt_codec.specs.declared.fetch.Fetch.{Fetch}
use Rattle.xt_frames.specs.declared.kinds.BreachKind.{BreachKind}
use Rattle.xt_frames.specs.FrameStep.{FrameTurn}
use Rattle.xt_frames.specs.Breaches.{Test, first_shown, insn_tests, other_tests}
use Rattle.xt_frames.specs.KeptFrameState.{shown_tests, state_at}
use Rattle.xt_frames.specs.Walked.{bounds_of}
use Rattle.xt_uses.specs.UseBreaches.{breaks_stack, fetched_uses, nowhere, swaps_unknown, use_tests, uses_unknown}
use Rattle.xt_uses.specs.UseParts.{use_at}
use Rattle.xt_uses.proofs.UseTests.{case_of, insn_spared, other_spared, spared}
use Rattle.xt_uses.proofs.testing.fetched_use.Goals as goal

pub returns-in-Insn : goal.returns-in-Insn
returns-in-Insn c = λ frames kept v live bytes at u case touched is turn.
    let h = c.args.holes.now in
    let rec = c.args.rec.now in
    let f = state_at frames h c.args.view.now in
    let s = use_at frames kept h v c.args.masks.now in
    let b = bounds_of c.args.case.now.limits in
    let fresh = c.args.case.now.fresh in
    let i = c.in-Insn.i in
    let P : Fetch → Type 0 = λ x. IsFetched x at in
    let k = subst P c.in-Insn.is is in
    let U = uses_unknown i s f in
    let S = swaps_unknown bytes rec.access in
    let M = breaks_stack b.range i rec.kind f in
    let tests = c.insn_tests-tests.result in
    let F : Bool → Bool → Bool → List Test → Option BreachKind = λ x y z ts. first_shown (use_tests x y z ts) in
    let here = c.insn_tests-tests.ensures frames (spared rec.access live) nowhere (case_of c.args.case.now c.args.touched.now rec frames live bytes c.requires.stale case touched) in
    c.first_use.ensures
    ∙ (ap (λ (x : Bool). F x c.args.touched.now.swaps c.breaks_stack.result (shown_tests tests)) (c.uses_unknown.ensures frames kept v)
    ∙ (ap (λ (y : Bool). F U y c.breaks_stack.result (shown_tests tests)) (sym touched.swaps)
    ∙ (ap (λ (z : Bool). F U S z (shown_tests tests)) (c.breaks_stack.ensures frames h case.newest case.under)
    ∙ (ap (F U S M) here
    ∙ (ap (λ (t : FrameTurn). F U S M (insn_tests b fresh (spared rec.access live) nowhere i rec f t)) turn
    ∙ (ap first_shown (insn_spared U S M b fresh live i rec f u)
    ∙ sym (ap (λ (x : Fetched). first_shown (fetched_uses b fresh live bytes x rec s f u)) k.0)))))))

pub returns-in-Fails : goal.returns-in-Fails
returns-in-Fails c = λ frames kept v live bytes at u case touched is turn.
    let h = c.args.holes.now in
    let rec = c.args.rec.now in
    let f = state_at frames h c.args.view.now in
    let s = use_at frames kept h v c.args.masks.now in
    let b = bounds_of c.args.case.now.limits in
    let fresh = c.args.case.now.fresh in
    let P : Fetch → Type 0 = λ x. IsFetched x at in
    let S = swaps_unknown bytes rec.access in
    let tests = c.other_tests-tests.result in
    let F : Bool → List Test → Option BreachKind = λ y ts. first_shown (use_tests false y false ts) in
    let here = c.other_tests-tests.ensures frames (spared rec.access live) nowhere (case_of c.args.case.now c.args.touched.now rec frames live bytes c.requires.stale case touched) in
    let A : Fetched → Option BreachKind = λ x. first_shown (fetched_uses b fresh live bytes x rec s f u) in
    let found = c.first_use-in-Fails.ensures
    ∙ (ap (λ (y : Bool). F y (shown_tests tests)) (sym touched.swaps)
    ∙ (ap (F S) here
    ∙ (ap (λ (t : FrameTurn). F S (other_tests b (spared rec.access live) nowhere rec f t)) turn
    ∙ ap first_shown (other_spared false S false b live rec f u)))) in
    ⊎_elim
    (λ e. let k = subst P e.1 is in found ∙ sym (ap A k))
    (λ e. let k = subst P e is in found ∙ sym (ap A k))
    c.in-Fails.is
