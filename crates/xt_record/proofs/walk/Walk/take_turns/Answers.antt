use Rattle.std.proofs.Common.{◌≡◌, Result, Err, length, refl, sym, subst, rules}
use Rattle.xt_map.specs.Memory.{constant_byte}
use Rattle.xt_record.specs.declared.fault.RecordFault.{RecordFault}
use Rattle.xt_record.specs.declared.walk.Walk.{Walk}
use Rattle.xt_record.specs.Standing.{WentOn}
use Rattle.xt_record.proofs.Ending.{fails_at_entry, fails_at_one, fails_at_zero, is_walked, stopped}
use Rattle.xt_record.proofs.walk.Walk.take_turns.Goals as goal

pub returns-in_err-take_all : goal.returns-in_err-take_all
returns-in_err-take_all c =
    let w = c.args.self.now in
    let same : c.from_residual.result ≡ Err c.in_err-take_all.field-0.0 = search rules in
    subst (λ (r : Result Unit RecordFault). WentOn r c.args.entries.now w c.take_all.new.self) (sym same)
    (fails_at_entry w.image.now w.options c.args.entries.now w c.take_all.new.self c.in_err-take_all.field-0.0 refl refl c.in_err-take_all.ensures.through)

pub returns-in_err-end : goal.returns-in_err-end
returns-in_err-end c =
    let w = c.args.self.now in
    let v = c.take_all.new.self in
    let u : Walk = record v { core0 = c.end.new.own; setting = c.end.new.setting } in
    let e = c.in_err-end.field-0.0 in
    let same : c.from_residual-in_err-end.result ≡ Err e = search rules in
    subst (λ (r : Result Unit RecordFault). WentOn r c.args.entries.now w u) (sym same)
    (fails_at_zero w.image.now w.options c.args.entries.now w v u c.in_ok-take_all.field-0 e refl refl c.in_ok-take_all.ensures.through
    (c.in_err-end.ensures, refl, record { image_is = refl; options_are = refl }))

pub returns-in_err-end-2 : goal.returns-in_err-end-2
returns-in_err-end-2 c =
    let w = c.args.self.now in
    let v = c.take_all.new.self in
    let u : Walk = record v { core0 = c.end.new.own; setting = c.end.new.setting } in
    let t : Walk = record v { core0 = c.end.new.own; core1 = c.end-2.new.own; setting = c.end-2.new.setting } in
    let e = c.in_err-end-2.field-0.0 in
    let same : c.from_residual-in_err-end-2.result ≡ Err e = search rules in
    subst (λ (r : Result Unit RecordFault). WentOn r c.args.entries.now w t) (sym same)
    (fails_at_one w.image.now w.options c.args.entries.now w v u t c.in_ok-take_all.field-0 c.in_ok-end.field-0 e refl refl c.in_ok-take_all.ensures.through
    (c.in_ok-end.ensures, refl, record { image_is = refl; options_are = refl })
    (c.in_err-end-2.ensures, refl, record { image_is = refl; options_are = refl }))

pub returns : goal.returns
returns c =
    let w = c.args.self.now in
    let v = c.take_all.new.self in
    let u : Walk = record v { core0 = c.end.new.own; setting = c.end.new.setting } in
    let t : Walk = record v { core0 = c.end.new.own; core1 = c.end-2.new.own; setting = c.end-2.new.setting } in (
      stopped (constant_byte v.setting.code) 0 v.core0 v.core1 u.core0 v.setting.memory.contents (length c.args.entries.now) v.setting.points.items u.setting.points.items c.in_ok-end.ensures.0,
      stopped (constant_byte u.setting.code) 1 u.core1 u.core0 t.core1 u.setting.memory.contents (length c.args.entries.now) u.setting.points.items t.setting.points.items c.in_ok-end-2.ensures.0,
      λ made trace0 trace1 points.
          is_walked w.image.now w.options c.args.entries.now w v u t c.in_ok-take_all.field-0 c.in_ok-end.field-0 c.in_ok-end-2.field-0 made refl refl
          c.requires.valid c.in_ok-take_all.ensures.through
          (c.in_ok-end.ensures, refl, record { image_is = refl; options_are = refl })
          (c.in_ok-end-2.ensures, refl, record { image_is = refl; options_are = refl }) trace0 trace1 points,
    )
