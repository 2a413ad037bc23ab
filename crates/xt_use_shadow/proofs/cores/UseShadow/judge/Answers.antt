use Rattle.std.proofs.Common.{◌≡◌, false, Result, Err, subst, sym, rules}
use Rattle.xt_map.specs.Memory.{constant_byte}
use Rattle.xt_use_shadow.specs.declared.cores.UseShadow.{UseShadow}
use Rattle.xt_use_shadow.specs.declared.seeing.End.{End}
use Rattle.xt_use_shadow.specs.Shadows.{IsSawn, IsSeenBy}
use Rattle.xt_use_shadow.proofs.Saw.{core_handles, core_nested, core_outside, seen_err, seen_ok}
use Rattle.xt_use_shadow.proofs.Turning.{shown_whole}
use Rattle.xt_use_shadow.proofs.cores.UseShadow.judge.Goals as goal

pub find_level-requires-clause-inside : goal.find_level-requires-clause-inside
find_level-requires-clause-inside c =
    let q = c.requires.known in
    let code = constant_byte c.args.code.now in
    let old = c.args.self.now in
    let S : Result Unit End → Type 0 = λ r. IsSawn code old.side c.see.new.side c.see.new.bytes q.0 q.1 c.args.rec c.see.new.first r in
    core_outside old c.see.new.side c.see.new.bytes q.0 q.1 code c.args.rec c.in_ok-see.field-0 c.requires.inside c.requires.level (subst S c.in_ok-see.was (c.see.ensures.seen q.0 q.1 q.2)) c.in-Outside.is

pub returns-in-InHandler-clause-seen : goal.returns-in-InHandler-clause-seen
returns-in-InHandler-clause-seen c = λ others masks known.
    let old = c.args.self.now in
    let new = c.see.new.side in
    let code = constant_byte c.args.code.now in
    let S : Result Unit End → Type 0 = λ r. IsSawn code old.side new c.see.new.bytes others masks c.args.rec c.see.new.first r in
    let saw = subst S c.in_ok-see.was (c.see.ensures.seen others masks known) in
    let core : UseShadow = record old { side = new } in
    seen_ok old new c.see.new.bytes others masks code c.args.rec c.in_ok-see.field-0 c.requires.inside c.requires.level saw core c.see.new.first (shown_whole core c.requires.level)
    (core_handles old new c.see.new.bytes others masks code c.args.rec c.in_ok-see.field-0 c.requires.inside c.requires.level saw c.in-InHandler.is)

pub returns-in_err-see-clause-seen : goal.returns-in_err-see-clause-seen
returns-in_err-see-clause-seen c = λ others masks known.
    let old = c.args.self.now in
    let new = c.see.new.side in
    let code = constant_byte c.args.code.now in
    let end = c.in_err-see.field-0.0 in
    let S : Result Unit End → Type 0 = λ r. IsSawn code old.side new c.see.new.bytes others masks c.args.rec c.see.new.first r in
    let saw : S (Err end) = subst S c.in_err-see.was (c.see.ensures.seen others masks known) in
    let core : UseShadow = record old { side = new } in
    let same : c.from_residual.result ≡ Err end = search rules in
    subst (λ (r : Result Unit End). IsSeenBy code old core c.see.new.bytes others masks c.args.rec c.see.new.first r) (sym same)
    (seen_err old core new c.see.new.bytes others masks code c.args.rec c.see.new.first end c.requires.level (shown_whole core c.requires.level) saw)

pub returns-in-Outside-clause-seen : goal.returns-in-Outside-clause-seen
returns-in-Outside-clause-seen c = λ others masks known.
    let old = c.args.self.now in
    let new = c.see.new.side in
    let code = constant_byte c.args.code.now in
    let S : Result Unit End → Type 0 = λ r. IsSawn code old.side new c.see.new.bytes others masks c.args.rec c.see.new.first r in
    let saw = subst S c.in_ok-see.was (c.see.ensures.seen others masks known) in
    seen_ok old new c.see.new.bytes others masks code c.args.rec c.in_ok-see.field-0 c.requires.inside c.requires.level saw c.find_level.new.self c.see.new.first c.find_level.ensures.shown c.find_level.ensures.inside

pub returns-in-Nested-clause-seen : goal.returns-in-Nested-clause-seen
returns-in-Nested-clause-seen c = λ others masks known.
    let old = c.args.self.now in
    let new = c.see.new.side in
    let code = constant_byte c.args.code.now in
    let S : Result Unit End → Type 0 = λ r. IsSawn code old.side new c.see.new.bytes others masks c.args.rec c.see.new.first r in
    let saw = subst S c.in_ok-see.was (c.see.ensures.seen others masks known) in
    let core : UseShadow = record old { side = new; may_step = false } in
    seen_ok old new c.see.new.bytes others masks code c.args.rec c.in_ok-see.field-0 c.requires.inside c.requires.level saw core c.see.new.first (shown_whole core c.requires.level)
    (core_nested old new c.see.new.bytes others masks code c.args.rec c.in_ok-see.field-0 c.requires.inside c.requires.level saw)
