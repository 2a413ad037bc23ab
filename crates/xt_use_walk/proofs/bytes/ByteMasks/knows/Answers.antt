use Rattle.std.proofs.Common.{Option, sym, ◌∙◌, subst}
use Rattle.xt_map.specs.declared.access.Access.{Access}
use Rattle.xt_use_walk.specs.MaskedBytes.{KnowsAccess, mask_at}
use Rattle.xt_use_walk.proofs.Served.{served_bytes, served_some}
use Rattle.xt_use_walk.proofs.Sparing.{known_none}
use Rattle.xt_use_walk.proofs.bytes.ByteMasks.knows.Goals as goal

pub are_known-requires-clause-bytes : goal.are_known-requires-clause-bytes
are_known-requires-clause-bytes c =
    served_bytes c.in-Some.a (served_some c.args.access c.in-Some.a c.in-Some.is c.requires.served) (sym c.is_in_memory.ensures ∙ c.if-not-is_in_memory.false)

pub returns : goal.returns
returns c all =
    let a = c.in-Some.a in
    let f = mask_at c.args.self.now in
    subst (λ (o : Option Access). KnowsAccess f o) (sym c.in-Some.is) (λ memory. known_none f a.addr a.size (sym c.are_known.ensures ∙ all))
