use Rattle.std.proofs.Common.{◌≡◌, ℕ, List, Option, Some, sym, ap, ◌∙◌, subst}
use Rattle.xt_image.specs.declared.image.Image.{Image}
use Rattle.xt_trace.specs.declared.options.Options.{Options}
use Rattle.xt_trace.specs.declared.run.Run.{Run}
use Rattle.xt_command_line.specs.Options.{with_entry}
use Rattle.xt_command_line.specs.declared.options.RunOptions.{RunOptions}
use Rattle.xt_core.specs.Runs.{IsRunOf}
use Rattle.xt_report.specs.Framed.{IsFramed}
use Rattle.xt_machine.specs.Lists.{run_of_list, schedule_in}
use Rattle.xt_runs.specs.Runs.{IsOrdered, IsRunOfImage, cores_of_options, run_of_its_schedule}
use Rattle.xt_runs.proofs.runs.run_over.Goals as goal

is_run : (o : RunOptions) (image : Image) (at : Options) (cores : List ℕ) (run : Run) → at ≡ with_entry o image.entry → cores_of_options o ≡ Some cores
    → ((r : Run) → IsRunOf image r → run_of_list image r.options (schedule_in r) ≡ r)
    → run ≡ run_of_list image at cores → IsRunOf image run → IsFramed image run → IsRunOfImage o image run
unfolding run_of_its_schedule
is_run o image at cores run same asked own list of_image framed =
    let options : run.options ≡ with_entry o image.entry = ap (λ (r : Run). r.options) list ∙ same in
    let is : run ≡ run_of_list image (with_entry o image.entry) cores = list ∙ ap (λ (x : Options). run_of_list image x cores) same in
    record {
      options = options;
      of_image = of_image;
      own = subst (λ (x : Options). run_of_list image x (schedule_in run) ≡ run) options (own run of_image);
      framed = framed;
      ordered = subst (λ (s : Option (List ℕ)). IsOrdered s o image run) (sym asked) is;
    }

pub returns : goal.returns
returns c =
    is_run c.args.options.now c.args.image.now c.with_entry-at.result c.args.cores.now c.in_ok-made.made c.with_entry-at.ensures c.requires.asked
    (c.run_is_that_of_its_schedule.ensures c.args.image.now)
    c.in_ok-made.ensures.list c.in_ok-made.ensures.run c.run_is_framed.ensures
