use Rattle.std.proofs.Common.{List, [], ◌∷◌, ◌++◌, sym, subst}
use Rattle.std.proofs.lemmas.List.Elements.{All-push, All-same}
use Rattle.xt_judged.specs.Once.{HaveOwn, NoneHas}
use Rattle.xt_judged.specs.OrderFrames.{IsRealBreach, place_of}
use Rattle.xt_judged.specs.declared.frames.OrderBreach.{OrderBreach}
use Rattle.xt_judged.proofs.Once.{own_push}
use Rattle.xt_judged.proofs.breaches.add_met.Goals as goal

pub returns-clause-real : goal.returns-clause-real
returns-clause-real g c =
    let IsReal : OrderBreach → Type 0 = IsRealBreach c.args.image.now c.args.options.now c.args.timed in
    let old = c.args.list.now.items in
    let s = c.in-Some.shown in
    let breach : OrderBreach = record { kind = s.kind; core = s.core; pc = s.pc; order = c.in_ok-order.order } in
    All-same IsReal c.push.new.self.items (old ++ breach ∷ []) c.in_ok-push.ensures.items (All-push IsReal old breach c.requires.real (c.in_ok-is_real.ensures.0 c.if-not-branch.false))

pub returns-clause-once : goal.returns-clause-once
returns-clause-once g c =
    let old = c.args.list.now.items in
    let s = c.in-Some.shown in
    let breach : OrderBreach = record { kind = s.kind; core = s.core; pc = s.pc; order = c.in_ok-order.order } in
    let missing : NoneHas place_of (place_of breach) old = subst (λ (l : List OrderBreach). NoneHas place_of (place_of breach) l) c.as_slice.ensures.value (c.has.ensures c.if-has.false) in
    subst (HaveOwn place_of) (sym c.in_ok-push.ensures.items) (own_push place_of old breach c.requires.once missing)
