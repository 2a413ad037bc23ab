use Rattle.std.proofs.Common.{◌≡◌, ℕ, ◌<◌, List, All, refl, sym, ◌∙◌, ap, arith, subst}
use Rattle.std.specs.Vec.{vec_capacity}
use Rattle.xt_map.specs.Memory.{constant_byte}
use Rattle.xt_frames.specs.Frames.{Frame}
use Rattle.xt_frames.specs.Breaches.{Bounds}
use Rattle.xt_frames.specs.KeptFrameState.{AreKept, Upper, frames_of, state_at}
use Rattle.xt_frames.specs.Stacks.{Stack}
use Rattle.xt_frames.specs.Walked.{bounds_of}
use Rattle.xt_frames.proofs.Kept.{kept_room}
use Rattle.xt_uses.specs.declared.masks.KeptMasks.{KeptMasks}
use Rattle.xt_uses.specs.UseState.{UseState}
use Rattle.xt_uses.specs.UseParts.{IsNewestMasks, UseMoves, UseWalked, kept_of, use_at}
use Rattle.xt_uses.proofs.UseCores.{use_case, use_found, use_left, use_told}
use Rattle.xt_uses.proofs.cores.UseCore.judge.Goals as goal

pub newest_masks-newest-requires : goal.newest_masks-newest-requires
newest_masks-newest-requires c = subst (λ (ks : List KeptMasks). All (λ k. k.by < 4) ks) (sym c.deref.ensures.value) c.self.invariant.2

pub change-requires : goal.change-requires
change-requires c =
    let i = c.self.inside in
    let room = kept_room i.limits.lo i.limits.hi i.top.view i.callers.items (vec_capacity i.callers) c.self.invariant.0 in
    let ok = i.callers.ok in
    omega (arith, room, ok)

pub invariant_of-self-in-Err : goal.invariant_of-self-in-Err
invariant_of-self-in-Err c =
    let i = c.self.inside in
    let e = c.case-case.ensures in
    let frames = frames_of i.callers.items in
    let kept = kept_of i.kept.items in
    let t = c.requires.touched in
    let by = use_case c.case-case.result c.args.touched.now _ _ c.self.view_is e.saves e.newest e.under in
    let newest : IsNewestMasks c.newest_masks-newest.result kept = subst (λ (ks : List KeptMasks). IsNewestMasks c.newest_masks-newest.result (kept_of ks)) c.deref.ensures.value c.newest_masks-newest.ensures.newest in
    let done = c.in-Err.ensures.done frames kept t.0 t.1 by t.2 newest in
    let K : Upper → Type 0 = λ v. AreKept i.limits.lo i.limits.hi v i.callers.items (vec_capacity i.callers) in
    (subst K (sym (ap (λ (s : UseState). record { seen = s.frame.seen; control = s.frame.control }) done.1)) c.self.invariant.0, c.in-Err.ensures.ps, c.self.invariant.2)

pub returns-in_default-clause-judged : goal.returns-in_default-clause-judged
returns-in_default-clause-judged c = λ live bytes touched.
    let i = c.self.inside in
    let w = c.args.self.now in
    let code = constant_byte c.args.code.now in
    let rec = c.args.rec.now in
    let nested = c.args.nested in
    let e = c.case-case.ensures in
    let case = c.case-case.result in
    let frames = frames_of i.callers.items in
    let kept = kept_of i.kept.items in
    let v : UseWalked = record { core = i.core; bounds = bounds_of i.limits; state = use_at frames kept i.top.holes i.top.view i.top.masks; fresh = i.fresh; next = i.next } in
    let by = use_case case c.args.touched.now v w c.self.view_is e.saves e.newest e.under in
    let newest : IsNewestMasks c.newest_masks-newest.result kept = subst (λ (ks : List KeptMasks). IsNewestMasks c.newest_masks-newest.result (kept_of ks)) c.deref.ensures.value c.newest_masks-newest.ensures.newest in
    let done = c.in-Ok.ensures.done frames kept live bytes by touched newest in
    let new = c.judge.new.self in
    let N : List Frame → List (List ℕ) → UseState = λ fs ks. use_at fs ks new.holes new.view new.masks in (
      use_found code nested rec bytes c.args.index v w c.self.view_is case live _ e.bounds e.fresh done.0,
      use_left code nested rec bytes c.args.index v w c.self.view_is case.fresh c.in-Ok.done N _ _ c.from.result e.fresh c.change.ensures.frames c.in_default.ensures.masks c.from.ensures done.1,
      use_told code nested rec bytes c.args.index v w c.self.view_is case.fresh c.in-Ok.done N done.1,
    )

pub returns-in_default-clause-moves : goal.returns-in_default-clause-moves
returns-in_default-clause-moves c =
    let i = c.self.inside in
    let e = c.case-case.ensures in
    let case = c.case-case.result in
    let frames = frames_of i.callers.items in
    let t = c.requires.touched in
    let v : UseWalked = record { core = i.core; bounds = bounds_of i.limits; state = use_at frames (kept_of i.kept.items) i.top.holes i.top.view i.top.masks; fresh = i.fresh; next = i.next } in
    let by = use_case case c.args.touched.now v c.args.self.now c.self.view_is e.saves e.newest e.under in
    let S : Bounds → Type 0 = λ b. Stack b.range.lo b.range.hi i.top.view.seen frames in
    let bounds : bounds_of i.limits ≡ bounds_of case.limits = ap (λ (x : UseWalked). x.bounds) c.self.view_is ∙ sym e.bounds in
    let kept = c.in-Ok.ensures.kept frames t.0 t.1 by t.2 (subst S bounds c.self.invariant.0.stack) in
    let new = c.judge.new.self in
    let F : List Frame → Type 0 = λ fs. UseMoves v.state.frame (state_at fs new.holes new.view) in
    let W : UseWalked → Type 0 = λ x. UseMoves x.state.frame (state_at (frames_of c.change.new.callers.items) new.holes new.view) in
    subst W c.self.view_is (subst F (sym c.change.ensures.frames) kept.1)

pub returns-in-Err-clause-judged : goal.returns-in-Err-clause-judged
returns-in-Err-clause-judged c = λ live bytes touched.
    let i = c.self.inside in
    let w = c.args.self.now in
    let code = constant_byte c.args.code.now in
    let rec = c.args.rec.now in
    let nested = c.args.nested in
    let e = c.case-case.ensures in
    let case = c.case-case.result in
    let frames = frames_of i.callers.items in
    let kept = kept_of i.kept.items in
    let v : UseWalked = record { core = i.core; bounds = bounds_of i.limits; state = use_at frames kept i.top.holes i.top.view i.top.masks; fresh = i.fresh; next = i.next } in
    let by = use_case case c.args.touched.now v w c.self.view_is e.saves e.newest e.under in
    let newest : IsNewestMasks c.newest_masks-newest.result kept = subst (λ (ks : List KeptMasks). IsNewestMasks c.newest_masks-newest.result (kept_of ks)) c.deref.ensures.value c.newest_masks-newest.ensures.newest in
    let done = c.in-Err.ensures.done frames kept live bytes by touched newest in
    let found = use_found code nested rec bytes c.args.index v w c.self.view_is case live _ e.bounds e.fresh done.0 in
    let same = ap (λ (s : UseState). record v { state = s }) done.1 ∙ c.self.view_is in
    ((found, ap (λ (x : UseWalked). x.core) c.self.view_is, refl), same)
