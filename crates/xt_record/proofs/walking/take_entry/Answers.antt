use Rattle.std.proofs.Common.{◌≡◌, Option, refl, sym, ◌∙◌, subst, arith}
use Rattle.std.proofs.lemmas.Bool.{eq-eqb}
use Rattle.xt_map.specs.declared.access.Access.{Access}
use Rattle.xt_map.specs.Memory.{constant_byte}
use Rattle.xt_record.specs.Walking.{Arrives}
use Rattle.xt_record.proofs.Taking.{took}
use Rattle.xt_record.proofs.walking.take_entry.Goals as goal

pub returns : goal.returns
returns c =
    let s = c.args.setting.now in
    let mid = c.arrive.new.setting in
    let e = c.args.entry.now in
    let same : e.reply ≡ c.serve-right.result = omega (arith, c.if-right-entry.false) in
    took (constant_byte s.code) c.args.number c.args.own.now c.args.other.now c.arrive.new.own c.turn_end.new.self s mid _ c.args.index e c.in-Some.access
    c.serve-right.result c.requires.number c.requires.core
    (subst (λ (next : Option Access). Arrives (constant_byte s.code) c.args.number c.args.own.now c.args.other.now c.arrive.new.own s.memory.contents c.args.index next s.points.items mid.points.items)
    c.in-Some.is c.in_ok-access.ensures.arrives)
    c.arrive.ensures.memory c.arrive.ensures.code (sym c.same_access.ensures ∙ c.if-not-same_access.false) c.serve-right.ensures.reply
    (eq-eqb e.reply c.serve-right.result same) c.turn_end.ensures c.serve-right.ensures.state refl refl
