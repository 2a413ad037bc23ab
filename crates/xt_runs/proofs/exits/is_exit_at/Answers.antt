use Rattle.std.proofs.Common.{⊎_elim, sym, ap, subst, ◌∙◌}
use Rattle.xt_map.specs.Memory.{constant_byte}
use Rattle.xt_map.specs.Fetching.{fetch_at}
use Rattle.xt_codec.specs.Fetches.{IsFetched}
use Rattle.xt_codec.specs.declared.fetch.Fetch.{Fetch}
use Rattle.xt_runs.specs.Exits.{is_exit_at}
use Rattle.xt_runs.proofs.exits.is_exit_at.Goals as goal

pub returns-in-Insn : goal.returns-in-Insn
returns-in-Insn c = c.is_exit.ensures ∙ sym (ap is_exit_at c.in-Insn.ensures.fetched.0)

pub returns-in-Fails : goal.returns-in-Fails
returns-in-Fails c =
    let at = fetch_at (constant_byte c.args.code.now) c.args.pc in
    let P : Fetch → Type 0 = λ x. IsFetched x at in
    let is = c.instruction_at.ensures.fetched in
    ⊎_elim
    (λ e. sym (ap is_exit_at (subst P e.1 is)))
    (λ e. sym (ap is_exit_at (subst P e is)))
    c.in-Fails.is
