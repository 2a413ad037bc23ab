use Rattle.std.proofs.Common.{ap, ◌∙◌}
use Rattle.xt_judged.specs.declared.scene.Standing.{Standing}
use Rattle.xt_map.specs.Memory.{constant_byte}
use Rattle.xt_judged.proofs.Turned.{known_in}
use Rattle.xt_judged.proofs.judging.Judging.seen.Goals as goal

pub returns-clause-known : goal.returns-clause-known
returns-clause-known c = λ m.
    known_in (constant_byte c.args.self.now.timed.code) c.args.core m c.args.scene.now c.args.rec.now c.reload.new.self c.own-own.result.now c.reload-2.new.self c.as_ref.result.now c.see_record.result
    c.in_ok-reload.ensures c.own-own.ensures (c.in_ok-reload-2.ensures ∙ ap (λ (s : Standing). s.frames) c.other.ensures) c.as_ref.ensures c.see_record.ensures.known
