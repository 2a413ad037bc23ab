use Rattle.std.proofs.Common.{◌∙◌, ap, get_or}
use Rattle.xt_map.specs.Memory.{with_bytes}
use Rattle.xt_bus.specs.States.{memory_state}
use Rattle.xt_bus.proofs.Loaded.{words_more}
use Rattle.xt_bus.proofs.memory.Memory.put_words.Goals as goal

pub loop-link-preserved : goal.loop-link-preserved
loop-link-preserved c =
    c.put_bytes.ensures
    ∙ ap (λ bs. memory_state (with_bytes c.loop-link.self.contents (get_or c.args.words.now c.loop-link.link-index (0, 0)).0 bs) c.loop-link.self.room) c.bytes_of.ensures
    ∙ words_more c.args.self.now c.loop-link.self c.args.words.now c.loop-link.link-index (0, 0) c.loop-link.invariant c.loop-link-test.true
