use Rattle.std.proofs.Common.{refl, ap, subst, sym, ◌∙◌}
use Rattle.xt_map.specs.Serving.{memory_past}
use Rattle.xt_map.specs.Touching.{IsMemory}
use Rattle.xt_map.proofs.Small.{past_memory}
use Rattle.xt_search.specs.Changed.{contents_of}
use Rattle.xt_search.proofs.Leaning.{contents_sizes}
use Rattle.xt_moment_search.proofs.HiddenBytes.{nothing_at_uart, store_hidden}
use Rattle.xt_moment_search.proofs.bytes.hide.Goals as goal

pub returns-in_ok-serve-clause-bytes : goal.returns-in_ok-serve-clause-bytes
returns-in_ok-serve-clause-bytes c =
    let cleared = c.args.cleared.now.contents in
    let old = c.args.hidden.now in
    store_hidden cleared old c.serve.new.self c.requires.sizes c.args.stored c.ranges.stored.fits
    c.args.access c.requires.served c.in-Store.field-0 c.in-Store.is
    (sym c.is_in_memory.ensures ∙ c.if-is_in_memory.true)
    (c.in_ok-serve.ensures.state ∙ ap (memory_past (contents_of cleared old)) c.storing.ensures.access)
    (contents_sizes cleared old c.requires.sizes)

pub returns-in_ok-serve-clause-memory : goal.returns-in_ok-serve-clause-memory
returns-in_ok-serve-clause-memory c = λ r.
    subst IsMemory (sym c.in_ok-serve.ensures.state)
    (past_memory (contents_of c.args.cleared.now.contents c.args.hidden.now) c.storing.result r)

pub returns-else-is_in_memory-clause-bytes : goal.returns-else-is_in_memory-clause-bytes
returns-else-is_in_memory-clause-bytes c =
    nothing_at_uart c.args.cleared.now.contents c.args.hidden.now c.args.hidden.now c.requires.sizes
    c.args.stored c.ranges.stored.fits c.args.access c.requires.served refl
    (sym c.is_in_memory.ensures ∙ c.if-is_in_memory.false)
