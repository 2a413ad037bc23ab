use Rattle.std.proofs.Common.{refl}
use Rattle.xt_core.specs.Runs.{stack_words}
use Rattle.xt_record.proofs.Finals.{opens}
use Rattle.xt_bus.proofs.Opening.{opening_sends_none}
use Rattle.xt_record.proofs.walk.Walk.open.Goals as goal

pub returns : goal.returns
returns c =
    let image = c.args.image.now in
    let o = c.args.options.now in
    let start = c.in_ok-opening_setting.ensures in
    record {
      stands = λ es. opens image o es c.in_ok-make.field-0 c.in_ok-make-2.field-0 c.in_ok-opening_setting.field-0 c.requires.valid start.code_is
          c.in_ok-make.ensures c.in_ok-make-2.ensures start.memory_is start.points_are (opening_sends_none image.segments (stack_words o));
      image = refl;
      options = refl;
    }
