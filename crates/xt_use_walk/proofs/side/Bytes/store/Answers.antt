use Rattle.std.proofs.Common.{refl, sym, ◌∙◌, ap}
use Rattle.xt_map.specs.Touching.{is_store}
use Rattle.xt_use_walk.specs.MaskedBytes.{mask_at}
use Rattle.xt_use_walk.proofs.Served.{served_bytes, served_some}
use Rattle.xt_use_walk.proofs.Stores.{sends, stored_at}
use Rattle.xt_use_walk.proofs.side.Bytes.store.Goals as goal

pub store_some-requires-clause-bytes : goal.store_some-requires-clause-bytes
store_some-requires-clause-bytes c =
    served_bytes c.in-Some.a (served_some c.args.access c.in-Some.a c.in-Some.is c.requires.served) (sym c.is_in_memory.ensures ∙ c.if-is_in_memory.true)

pub returns-else-is_in_memory-clause-masks : goal.returns-else-is_in_memory-clause-masks
returns-else-is_in_memory-clause-masks c =
    let a = c.in-Some.a in
    let f = mask_at c.args.self.now.masks in
    let m = c.args.self.now.masks in
    let marks = c.args.self.now.marks.items in
    stored_at f m marks c.args.stored c.args.access a c.in-Some.is
    (sends f m marks c.args.stored a (served_some c.args.access a c.in-Some.is c.requires.served) (sym c.is_in_memory.ensures ∙ c.if-is_in_memory.false) (ap is_store c.in-Store.is) (λ x h. refl))
