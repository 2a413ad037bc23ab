use Rattle.std.proofs.Common.{◌≡◌, IfSome, rules, sym, subst, ◌∙◌}
use Rattle.std.specs.Io.KnownBytes.{Appends}
use Rattle.xt_io.specs.Whole.{AppendsPrefix}
use Rattle.xt_trace.specs.declared.run.Run.{Run}
use Rattle.xt_core.specs.Runs.{IsRunOf}
use Rattle.xt_report.specs.Calls.{ends}
use Rattle.xt_runs.specs.Told.{verdict_in}
use Rattle.xt_runs.specs.Verdicts.{whole_of}
use Rattle.xt_runs.proofs.Endings.{done, failed, is_known, memory, of_input, same_run}
use Rattle.xt_report.proofs.Writing.{prefix_of, was_appended}
use Rattle.xt_runs.proofs.running.run_source.Goals as goal
use Rattle.xt_runs.proofs.running.run_source.Goals.{in-Ok-write_told, in-Err-Failed}

pub verdict_is_so-requires : goal.verdict_is_so-requires
verdict_is_so-requires g c = let r = c.in-Ok-run_image.ensures in r.framed

pub told_of-requires-clause-run : goal.told_of-requires-clause-run
told_of-requires-clause-run g c = let r = c.in-Ok-run_image.ensures in r.of_image

pub told_of-requires-clause-framed : goal.told_of-requires-clause-framed
told_of-requires-clause-framed g c = let r = c.in-Ok-run_image.ensures in r.framed

pub unmet_of-requires-clause-run : goal.unmet_of-requires-clause-run
unmet_of-requires-clause-run g c =
    let image = c.in-Ok-image_in.image in
    let r = c.in-Ok-run_image.ensures in
    let same = c.run.ensures ∙ same_run c.args.wanted c.args.options.now image c.in-Ok-run_image.run' c.in-Ok-told_of.told c.in-Ok-told_of.ensures in
    subst (λ (x : Run). IsRunOf image x) (sym same) r.of_image

pub unmet_of-requires-clause-known : goal.unmet_of-requires-clause-known
unmet_of-requires-clause-known g c =
    let image = c.in-Ok-image_in.image in
    let x = c.in-Ok-told_of.told in
    let same = c.run.ensures ∙ same_run c.args.wanted c.args.options.now image c.in-Ok-run_image.run' x c.in-Ok-told_of.ensures in
    subst (λ v. IfSome v (λ j. j ≡ (whole_of image c.run.result.now).judged)) (sym c.verdict.ensures)
    (subst (λ (r : Run). IfSome (verdict_in x) (λ j. j ≡ (whole_of image r).judged)) (sym same)
    (is_known c.args.wanted c.args.options.now image c.in-Ok-run_image.run' x c.in-Ok-told_of.ensures))

pub write_told-requires-clause-run : goal.write_told-requires-clause-run
write_told-requires-clause-run g c =
    let image = c.in-Ok-image_in.image in
    let r = c.in-Ok-run_image.ensures in
    let same = same_run c.args.wanted c.args.options.now image c.in-Ok-run_image.run' c.in-Ok-told_of.told c.in-Ok-told_of.ensures in
    subst (λ (x : Run). IsRunOf image x) (sym same) r.of_image

pub returns-in-Err-Memory-write_told-clause-answers : goal.returns-in-Err-Memory-write_told-clause-answers
returns-in-Err-Memory-write_told-clause-answers g c =
    let e = ends g.S.Source.left g.S.Source.faults c.args.source.now c.read_to_limit.new.source g.K.Sink.told g.K.Sink.faults c.args.sink.now c.write_told.new.sink in
    let run = c.in-Ok-run_image.run' in
    let line = c.in-Ok-unmet_of.unmet in
    let front = AppendsPrefix (g.K.Sink.told c.args.sink.now) (g.K.Sink.told c.write_told.new.sink) in
    memory c.args.wanted c.args.options.now e run line _ _ _ c.without_run-in-Err-Memory-write_told.ensures.status
    c.without_run-in-Err-Memory-write_told.ensures.run c.without_run-in-Err-Memory-write_told.ensures.unmet (
    record {
      input = c.in-Ok.input.items;
      taken = c.in-Ok.ensures.whole;
      end = c.in-Ok.ensures.end;
      within = c.in-Ok.ensures.within;
      is = of_input c.args.wanted c.args.options.now c.in-Ok.input.items c.deref.result.now c.in-Ok-image_in.image run c.run.result.now c.in-Ok-told_of.told line front
          c.deref.ensures.value c.in-Ok-image_in.ensures.ok c.in-Ok-run_image.ensures c.verdict_is_so.ensures c.in-Ok-told_of.ensures c.run.ensures c.in-Ok-unmet_of.ensures
          (prefix_of _ _ _ _ _ _ _ c.in-Err-Memory-write_told.is c.write_told.ensures);
    }
    )

pub returns-clause-answers : goal.returns-clause-answers
returns-clause-answers g c =
    let e = ends g.S.Source.left g.S.Source.faults c.args.source.now c.read_to_limit.new.source g.K.Sink.told g.K.Sink.faults c.args.sink.now c.write_told.new.sink in
    let image = c.in-Ok-image_in.image in
    let run = c.in-Ok-run_image.run' in
    let line = c.in-Ok-unmet_of.unmet in
    let same = c.into_run.ensures ∙ same_run c.args.wanted c.args.options.now image run c.in-Ok-told_of.told c.in-Ok-told_of.ensures in
    let front = AppendsPrefix (g.K.Sink.told c.args.sink.now) (g.K.Sink.told c.write_told.new.sink) in
    let whole = Appends (g.K.Sink.told c.args.sink.now) (g.K.Sink.told c.write_told.new.sink) in
    elim c.match-write_told.branch [
      | in-Ok-write_told w ↦ done c.args.wanted c.args.options.now e run c.into_run.result line _ w.status-is same (
          record {
            input = c.in-Ok.input.items;
            taken = c.in-Ok.ensures.whole;
            end = c.in-Ok.ensures.end;
            within = c.in-Ok.ensures.within;
            is = of_input c.args.wanted c.args.options.now c.in-Ok.input.items c.deref.result.now image run c.run.result.now c.in-Ok-told_of.told line whole
                c.deref.ensures.value c.in-Ok-image_in.ensures.ok c.in-Ok-run_image.ensures c.verdict_is_so.ensures c.in-Ok-told_of.ensures c.run.ensures c.in-Ok-unmet_of.ensures
                (was_appended _ _ _ _ _ _ _ w.in-Ok-write_told.is c.write_told.ensures);
          }
          )
      | in-Err-Failed w ↦ failed c.args.wanted c.args.options.now e run c.into_run.result line _ w.status-is same (
          record {
            input = c.in-Ok.input.items;
            taken = c.in-Ok.ensures.whole;
            end = c.in-Ok.ensures.end;
            within = c.in-Ok.ensures.within;
            is = of_input c.args.wanted c.args.options.now c.in-Ok.input.items c.deref.result.now image run c.run.result.now c.in-Ok-told_of.told line front
                c.deref.ensures.value c.in-Ok-image_in.ensures.ok c.in-Ok-run_image.ensures c.verdict_is_so.ensures c.in-Ok-told_of.ensures c.run.ensures c.in-Ok-unmet_of.ensures
                (prefix_of _ _ _ _ _ _ _ w.in-Err-Failed.is c.write_told.ensures);
          }
          ) (search rules)
    ]
