use Rattle.std.proofs.Common.{◌∙◌, ap, sym, List, ℕ, ◌%◌}
use Rattle.xt_map.specs.declared.access.Kind.TheVariants.{Store}
use Rattle.xt_map.specs.declared.contents.MemoryContents.{MemoryContents}
use Rattle.xt_map.specs.Serving.{with_sent}
use Rattle.xt_search.specs.Changed.{ChangesState, contents_of}
use Rattle.xt_search.proofs.Sending.{sent_more}
use Rattle.xt_search.proofs.changes.Changes.transmit.Goals as goal

pub returns-in_ok-push-clause-state : goal.returns-in_ok-push-clause-state
returns-in_ok-push-clause-state c = λ m.
    let s : ChangesState = record { bytes = c.self.inside.bytes.items; sent = c.self.inside.sent.items } in
    let sending : List ℕ → MemoryContents = λ l. let t : ChangesState = record { bytes = c.self.inside.bytes.items; sent = l } in contents_of m t in
    ap sending c.in_ok-push.ensures.items
    ∙ sent_more m s (c.in-Store.value % 256)
    ∙ ap (λ (t : ChangesState). with_sent (contents_of m t) (Store c.in-Store.value)) c.self.view_is
    ∙ ap (with_sent (contents_of m c.args.self.now)) (sym c.in-Store.is)
