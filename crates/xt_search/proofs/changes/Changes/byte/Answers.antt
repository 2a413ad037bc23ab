use Rattle.std.proofs.Common.{◌∙◌, ap, sym, List}
use Rattle.xt_map.specs.Memory.{byte_at}
use Rattle.xt_map.proofs.Alike.{outside_memory}
use Rattle.xt_search.specs.declared.changes.Change.{Change}
use Rattle.xt_search.specs.Changed.{ChangesState, byte_in, contents_of}
use Rattle.xt_search.proofs.Sending.{byte_of_contents}
use Rattle.xt_search.proofs.changes.Changes.byte.Goals as goal

pub returns-then-not-is_in_memory : goal.returns-then-not-is_in_memory
returns-then-not-is_in_memory c =
    sym (outside_memory (contents_of c.args.opening.now.contents c.args.self.now) c.args.addr (sym c.is_in_memory.ensures ∙ c.if-not-is_in_memory.true))

pub returns : goal.returns
returns c =
    let m = c.args.opening.now.contents in
    let s : ChangesState = record { bytes = c.self.inside.bytes.items; sent = c.self.inside.sent.items } in
    c.byte_of.ensures
    ∙ ap (λ (l : List Change). byte_in l c.args.addr c.byte.result) c.as_slice.ensures.value
    ∙ ap (byte_in c.self.inside.bytes.items c.args.addr) c.byte.ensures
    ∙ byte_of_contents m s c.args.addr c.requires (sym c.is_in_memory.ensures ∙ c.if-not-is_in_memory.false) c.self.invariant
    ∙ ap (λ (t : ChangesState). byte_at (contents_of m t) c.args.addr) c.self.view_is
