use Rattle.std.proofs.Common.{ℕ, Bool, sym, ap, ◌∙◌, subst}
use Rattle.xt_map.specs.Touching.{is_store}
use Rattle.xt_use_walk.proofs.Served.{served_bytes, served_some}
use Rattle.xt_use_walk.specs.MaskedBytes.{AreBytes, AreMasks, mask_at}
use Rattle.xt_simulation.specs.WatchedRuns.{has_byte_at}
use Rattle.xt_secret_walk.specs.KnownBytes.{stored_in_bytes}
use Rattle.xt_secret_walk.proofs.Storing.{sent_past, stored_past}
use Rattle.xt_secret_walk.proofs.bytes.store.Goals as goal

pub store_bytes-requires-clause-bytes : goal.store_bytes-requires-clause-bytes
store_bytes-requires-clause-bytes c =
    subst (λ (n : ℕ). AreBytes c.in-Some.a.addr n) (sym c.from.ensures)
    (served_bytes c.in-Some.a (served_some c.args.access c.in-Some.a c.in-Some.is c.requires.served) (sym c.is_in_memory.ensures ∙ c.if-is_in_memory.true))

pub returns-then-is_in_memory-clause-bytes : goal.returns-then-is_in_memory-clause-bytes
returns-then-is_in_memory-clause-bytes c = λ masks k.
    let public : ℕ → Bool = has_byte_at c.args.public.now in
    stored_past public masks c.args.stored c.args.masks.now c.store_bytes.new.masks c.args.access c.in-Some.a c.in-Some.is (ap is_store c.in-Store.is) k c.store_bytes.ensures.full
    (subst (λ (n : ℕ). AreMasks c.store_bytes.new.masks (stored_in_bytes public c.args.stored c.in-Some.a.addr n (mask_at c.args.masks.now))) c.from.ensures c.store_bytes.ensures.masks)

pub returns-else-is_in_memory-clause-bytes : goal.returns-else-is_in_memory-clause-bytes
returns-else-is_in_memory-clause-bytes c = λ masks k.
    let public : ℕ → Bool = has_byte_at c.args.public.now in
    sent_past public masks c.args.stored c.args.masks.now c.args.access c.in-Some.a c.in-Some.is (served_some c.args.access c.in-Some.a c.in-Some.is c.requires.served) (sym c.is_in_memory.ensures ∙ c.if-is_in_memory.false) k
