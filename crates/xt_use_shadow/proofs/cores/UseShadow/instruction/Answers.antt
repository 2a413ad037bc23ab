use Rattle.std.proofs.Common.{◌≡◌, ap, sym, ◌∙◌, subst}
use Rattle.xt_map.specs.Memory.{constant_byte}
use Rattle.xt_map.specs.Fetching.{Fetches, fetch_at}
use Rattle.xt_codec.specs.declared.fetch.Fetch.{Fetch}
use Rattle.xt_codec.specs.declared.fetch.Fetch.TheVariants as fetch
use Rattle.xt_codec.specs.Fetches.{IsFetched}
use Rattle.xt_shadow.specs.Lookups.{AreTested, IsTested}
use Rattle.xt_use_shadow.specs.Shadows.{core_state}
use Rattle.xt_use_shadow.proofs.cores.UseShadow.instruction.Goals as goal

pub returns-in-Insn-clause-started : goal.returns-in-Insn-clause-started
returns-in-Insn-clause-started c =
    let code = constant_byte c.args.lookups.now in
    let old = c.args.self.now in
    let l = c.at-found.result in
    let k = c.at-found.ensures.lookup in
    let i = c.in-Insn.insn in
    let len = c.in-Insn.len in
    let fetched : IsFetched (fetch.Insn i len) (fetch_at code l.pc) = subst (λ (f : Fetch). IsFetched f (fetch_at code l.pc)) c.in-Insn.is k.fetched in
    let tested : IsTested l i = subst (λ (f : Fetch). AreTested l f) c.in-Insn.is k.tested in
    let at : fetch_at code (core_state old).control.pc ≡ Fetches i len = ap (fetch_at code) (sym c.at-found.ensures.pc) ∙ fetched.0 in
    c.prepare.ensures.started code i len c.plan.new.r tested fetched.1 at c.requires.quiet c.requires.goes
