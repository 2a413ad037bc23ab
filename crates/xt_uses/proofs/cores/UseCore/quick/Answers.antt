use Rattle.std.proofs.Common.{◌≡◌, ℕ, ◌+◌, Bool, false, None, List, refl, sym, ◌∙◌, ap, subst}
use Rattle.std.specs.Prelude.{IfSome, Ok}
use Rattle.std.specs.Vec.{vec_capacity}
use Rattle.xt_map.specs.Memory.{constant_byte}
use Rattle.xt_special.specs.Shape.{IsPs}
use Rattle.xt_frames.specs.declared.holes.UndefinedParts.{UndefinedParts}
use Rattle.xt_frames.specs.Frames.{Frame}
use Rattle.xt_frames.specs.KeptFrameState.{frames_of, state_at}
use Rattle.xt_frames.specs.Walked.{bounds_of}
use Rattle.xt_uses.specs.Words.{all_bits}
use Rattle.xt_uses.specs.UseState.{UseState}
use Rattle.xt_uses.specs.UseBreaches.{use_breach}
use Rattle.xt_uses.specs.UseParts.{IsUseJudged, UseWalked, fresh_at, kept_of, use_at}
use Rattle.xt_uses.specs.UseQuick.{StandsStill, done_quick}
use Rattle.xt_uses.proofs.UseCores.{use_left, use_told}
use Rattle.xt_uses.proofs.cores.UseCore.quick.Goals as goal

pub invariant_of-self : goal.invariant_of-self
invariant_of-self c =
    let i = c.self.inside in
    let made = c.if-quick.true in (
      c.quick.ensures.kept made i.limits.lo i.limits.hi i.callers.items (vec_capacity i.callers) c.self.invariant.0,
      subst (λ (h : UndefinedParts). IfSome h.nested (λ x. IsPs x.ps)) (sym c.quick.ensures.holes) c.self.invariant.1,
      c.self.invariant.2,
    )

pub returns-then-quick-clause-judged : goal.returns-then-quick-clause-judged
returns-then-quick-clause-judged c = λ made live bytes touched.
    let i = c.self.inside in
    let w = c.args.self.now in
    let code = constant_byte c.args.code.now in
    let rec = c.args.rec.now in
    let index = c.args.index in
    let fresh = c.is_fresh-fresh.result in
    let is = c.is_fresh-fresh.ensures in
    let frames = frames_of i.callers.items in
    let kept = kept_of i.kept.items in
    let v : UseWalked = record { core = i.core; bounds = bounds_of i.limits; state = use_at frames kept i.top.holes i.top.view i.top.masks; fresh = i.fresh; next = i.next } in
    let new = c.quick.new.self in
    let N : List Frame → List (List ℕ) → UseState = λ fs ks. use_at fs ks new.holes new.view new.masks in
    let q = c.quick.ensures.quick c.if-quick.true frames kept live bytes touched in
    let done = done_quick fresh in
    let found : use_breach w.bounds (fresh_at w index) code live bytes false rec w.state ≡ None =
    ap (λ (x : UseWalked). use_breach x.bounds (fresh_at w index) code live bytes false rec x.state) (sym c.self.view_is)
    ∙ (ap (λ (b : Bool). use_breach v.bounds b code live bytes false rec v.state) (sym is) ∙ q.none) in
    let left = use_left code false rec bytes index v w c.self.view_is fresh done N frames kept c.from.result is refl refl c.from.ensures q.taken in
    let told = use_told code false rec bytes index v w c.self.view_is fresh done N q.taken in
    let X : UseWalked = record { core = i.core; bounds = bounds_of i.limits; state = N frames kept; fresh = fresh; next = c.from.result + 1 } in
    let P : Bool → Type 0 = λ b. IsUseJudged (use_breach w.bounds (fresh_at w index) code live bytes b rec w.state) w code index b rec bytes (Ok (record { stored = all_bits; carries = false })) X in
    subst P (sym c.if-nested.false) (found, left, told)

pub returns-then-quick-clause-still : goal.returns-then-quick-clause-still
returns-then-quick-clause-still c = λ made.
    let i = c.self.inside in
    let new = c.quick.new.self in
    let frames = frames_of i.callers.items in
    let S : UseWalked → Type 0 = λ x. StandsStill x.state.frame (state_at frames new.holes new.view) in
    subst S c.self.view_is (record { frames = refl; sp = c.quick.ensures.sp c.if-quick.true })
