use Rattle.std.proofs.Common.{ℕ, Bool, refl, sym, ◌∙◌}
use Rattle.xt_map.specs.Memory.{constant_byte}
use Rattle.xt_use_walk.proofs.Served.{reply_same}
use Rattle.xt_simulation.specs.WatchedRuns.{has_byte_at}
use Rattle.xt_secret_walk.specs.declared.leak.FirstLeak.{FirstLeak}
use Rattle.xt_use_walk.specs.MaskedBytes.{mask_at}
use Rattle.xt_secret_walk.proofs.Turning.{goes_on, leaks, none_left}
use Rattle.xt_secret_walk.proofs.side.Side.turn.Goals as goal

pub returns-then-self-eq0 : goal.returns-then-self-eq0
returns-then-self-eq0 c = λ masks k. (none_left (constant_byte c.args.code.now) c.args.self.now c.if-self-eq0.true, refl, refl)

pub returns-then-not-turn_uses : goal.returns-then-not-turn_uses
returns-then-not-turn_uses c = λ masks k.
    let code = constant_byte c.args.code.now in
    let old = c.args.self.now in
    let mid = c.make-rec.new.self in
    let rec = c.make-rec.result in
    let made = c.make-rec.ensures.made in
    let first : FirstLeak = record { core = mid.core; step = mid.steps; rec = rec; lacks = c.seen_lacks.result } in
    let is = c.reply_mask-reply.ensures ∙ reply_same (mask_at c.args.bytes.now) masks k.masks_are rec.access c.make-rec.ensures.served in (
      first,
      refl,
      leaks code old mid masks rec c.make-rec.new.found c.reply_mask-reply.result made is c.make-rec.ensures.seen c.make-rec.ensures.good first refl made.core_is made.steps c.seen_lacks.ensures
          (sym c.turn_uses.ensures ∙ c.if-not-turn_uses.true),
    )

pub returns : goal.returns
returns c = λ masks k.
    let code = constant_byte c.args.code.now in
    let old = c.args.self.now in
    let mid = c.make-rec.new.self in
    let rec = c.make-rec.result in
    let made = c.make-rec.ensures.made in
    let public : ℕ → Bool = has_byte_at c.args.public.now in
    let is = c.reply_mask-reply.ensures ∙ reply_same (mask_at c.args.bytes.now) masks k.masks_are rec.access c.make-rec.ensures.served in (
      rec,
      goes_on code old mid masks rec c.make-rec.new.found c.reply_mask-reply.result made is c.make-rec.ensures.seen c.make-rec.ensures.good public c.pass.new.self c.args.bytes.now c.pass.new.bytes c.requires.side c.pass.ensures
          (sym c.turn_uses.ensures ∙ c.if-not-turn_uses.false) k,
    )
