use Rattle.std.proofs.Common.{◌∙◌, ap, ◌++◌, ◌∷◌, [], refl}
use Rattle.xt_layout.specs.Around.{each}
use Rattle.xt_layout.proofs.Each.{builds_all, builds_more, builds_none}
use Rattle.xt_asm.specs.Operands.{target_of}
use Rattle.xt_asm.specs.Uses.{target_at}
use Rattle.xt_asm.proofs.Opening.{open_next}
use Rattle.xt_asm.proofs.targets.targets_of.Goals as goal

pub loop-k-init : goal.loop-k-init
loop-k-init c = record {
  built = builds_none (target_at c.args.words.now c.args.addresses.now) c.new-targets.result.items c.args.lines.now c.new-targets.ensures.items;
  open_is = refl;
}

pub loop-k-preserved : goal.loop-k-preserved
loop-k-preserved c =
    let f = target_at c.args.words.now c.args.addresses.now in
    record {
      built = builds_more f c.loop-k.targets.items c.push.new.self.items c.loop-k.k c.args.lines.now c.index-lines-k.result (each f c.args.lines.now) c.loop-k-test.true c.index-lines-k.is c.loop-k.invariant.built
          (c.in_ok-push.ensures.items ∙ ap (λ t. c.loop-k.targets.items ++ t ∷ []) (c.target.ensures c.args.words.now (c.in_ok-index.ensures c.args.addresses.now c.requires.same)
          ∙ ap (λ p. target_of c.args.words.now c.args.addresses.now p c.index-lines-k.result.statement) c.loop-k.invariant.open_is));
      open_is = c.open_behind-position.ensures ∙ open_next c.args.lines.now c.loop-k.k c.index-lines-k.result c.loop-k.position c.loop-k-test.true c.index-lines-k.is c.loop-k.invariant.open_is;
    }

pub returns : goal.returns
returns c = builds_all (target_at c.args.words.now c.args.addresses.now) c.loop-k.targets.items c.loop-k.k c.args.lines.now (each (target_at c.args.words.now c.args.addresses.now) c.args.lines.now) c.loop-k-test.false c.loop-k.invariant.built
