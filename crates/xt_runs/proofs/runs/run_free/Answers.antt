use Rattle.std.proofs.Common.{◌≡◌, ℕ, List, Option, None, sym, ◌∙◌, subst}
use Rattle.xt_image.specs.declared.image.Image.{Image}
use Rattle.xt_trace.specs.declared.options.Options.{Options}
use Rattle.xt_trace.specs.declared.run.Run.{Run}
use Rattle.xt_command_line.specs.Options.{with_entry}
use Rattle.xt_command_line.specs.declared.options.RunOptions.{RunOptions}
use Rattle.xt_core.specs.Runs.{IsRunOf}
use Rattle.xt_report.specs.Framed.{IsFramed}
use Rattle.xt_machine.specs.Lists.{run_of_list, schedule_in}
use Rattle.xt_runs.specs.Runs.{IsOrdered, IsRunOfImage, cores_of_options, run_of_its_schedule}
use Rattle.xt_runs.proofs.runs.run_free.Goals as goal

is_run : (o : RunOptions) (image : Image) (at : Options) (run : Run) → at ≡ with_entry o image.entry → run.options ≡ at → IsRunOf image run → run_of_list image at (schedule_in run) ≡ run → IsFramed image run → cores_of_options o ≡ None → IsRunOfImage o image run
unfolding run_of_its_schedule
is_run o image at run same options of_image own framed free = record {
  options = options ∙ same;
  of_image = of_image;
  own = subst (λ (x : Options). run_of_list image x (schedule_in run) ≡ run) same own;
  framed = framed;
  ordered = subst (λ (s : Option (List ℕ)). IsOrdered s o image run) (sym free) tt;
}

pub returns : goal.returns
returns g c =
    is_run c.args.options.now c.args.image.now c.with_entry-options.result c.in_ok-made.made c.with_entry-options.ensures
    c.in_ok-made.ensures.options c.in_ok-made.ensures.run c.in_ok-made.ensures.own c.run_is_framed.ensures c.requires.free
