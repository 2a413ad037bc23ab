use Rattle.std.proofs.Common.{IfOk, subst}
use Rattle.xt_command_line.specs.declared.options.RunOptions.{RunOptions}
use Rattle.xt_runs.specs.Runs.{IsRunOfImage}
use Rattle.xt_runs.proofs.generating.run_with_them.Goals as goal

pub returns : goal.returns
returns g c =
    let P : RunOptions → Type 0 = λ o. IfOk c.run_image.result (λ run. IsRunOfImage o c.args.image.now run) in
    subst P c.gen_options-options.ensures.is c.run_image.ensures
