use Rattle.std.proofs.Common.{ℕ, ◌≤◌, List, length, refl, sym, subst}
use Rattle.xt_cli.specs.declared.tool.Job.{Job}
use Rattle.xt_report.specs.Calls.{ends}
use Rattle.xt_cli.specs.Puts.{Puts, Replays}
use Rattle.xt_cli.proofs.Working.{NeverBeyond, never_beyond, puts_finish, puts_makes, replays_finish, replays_makes, whole_unless}
use Rattle.xt_cli.proofs.tool.work.Goals as goal

pub put-requires-clause-at_once : goal.put-requires-clause-at_once
put-requires-clause-at_once g c = whole_unless c.args.job.now c.in_default.not-Trace c.in_default.not-Replay

pub returns-in-Trace-clause-answers : goal.returns-in-Trace-clause-answers
returns-in-Trace-clause-answers g c =
    let never = subst NeverBeyond (sym c.in-Trace.is) (λ input. refl) in
    let e = ends g.S.Source.left g.S.Source.faults c.args.source.now c.read_to_limit.new.source g.K.Sink.told g.K.Sink.faults c.args.sink.now c.trace.new.sink in
    let within = let Q : ℕ → Type 0 = λ n. length c.in-Ok.input.items ≤ n in subst Q c.limit_of-limit.ensures c.in-Ok.ensures.within in
    let J : Job → Type 0 = λ j. Puts j c.deref.result.now e.told e.told_after e.sink_faults e.sink_faults_after c.trace.result in
    let P : List ℕ → Type 0 = λ i. Puts c.args.job.now i e.told e.told_after e.sink_faults e.sink_faults_after c.trace.result in
    puts_makes c.args.job.now e c.in-Ok.input.items c.trace.result never c.in-Ok.ensures.whole c.in-Ok.ensures.end within
    (subst P c.deref.ensures.value (subst J (sym c.in-Trace.is) c.trace.ensures))

pub returns-in-Trace-clause-complete : goal.returns-in-Trace-clause-complete
returns-in-Trace-clause-complete g c =
    let never = subst NeverBeyond (sym c.in-Trace.is) (λ input. refl) in
    let e = ends g.S.Source.left g.S.Source.faults c.args.source.now c.read_to_limit.new.source g.K.Sink.told g.K.Sink.faults c.args.sink.now c.trace.new.sink in
    let J : Job → Type 0 = λ j. Puts j c.deref.result.now e.told e.told_after e.sink_faults e.sink_faults_after c.trace.result in
    let P : List ℕ → Type 0 = λ i. Puts c.args.job.now i e.told e.told_after e.sink_faults e.sink_faults_after c.trace.result in
    puts_finish c.args.job.now e c.in-Ok.input.items c.trace.result never c.in-Ok.ensures.whole c.in-Ok.ensures.end
    (subst P c.deref.ensures.value (subst J (sym c.in-Trace.is) c.trace.ensures))

pub returns-clause-answers : goal.returns-clause-answers
returns-clause-answers g c =
    let never = never_beyond c.args.job.now (whole_unless c.args.job.now c.in_default.not-Trace c.in_default.not-Replay) in
    let e = ends g.S.Source.left g.S.Source.faults c.args.source.now c.read_to_limit.new.source g.K.Sink.told g.K.Sink.faults c.args.sink.now c.put.new.sink in
    let within = let Q : ℕ → Type 0 = λ n. length c.in-Ok.input.items ≤ n in subst Q c.limit_of-limit.ensures c.in-Ok.ensures.within in
    let P : List ℕ → Type 0 = λ i. Puts c.args.job.now i e.told e.told_after e.sink_faults e.sink_faults_after c.put.result in
    puts_makes c.args.job.now e c.in-Ok.input.items c.put.result never c.in-Ok.ensures.whole c.in-Ok.ensures.end within (subst P c.deref-in_default.ensures.value c.put.ensures)

pub returns-clause-complete : goal.returns-clause-complete
returns-clause-complete g c =
    let never = never_beyond c.args.job.now (whole_unless c.args.job.now c.in_default.not-Trace c.in_default.not-Replay) in
    let e = ends g.S.Source.left g.S.Source.faults c.args.source.now c.read_to_limit.new.source g.K.Sink.told g.K.Sink.faults c.args.sink.now c.put.new.sink in
    let P : List ℕ → Type 0 = λ i. Puts c.args.job.now i e.told e.told_after e.sink_faults e.sink_faults_after c.put.result in
    puts_finish c.args.job.now e c.in-Ok.input.items c.put.result never c.in-Ok.ensures.whole c.in-Ok.ensures.end (subst P c.deref-in_default.ensures.value c.put.ensures)

pub returns-in-Replay-clause-answers : goal.returns-in-Replay-clause-answers
returns-in-Replay-clause-answers g c =
    let e = ends g.S.Source.left g.S.Source.faults c.args.source.now c.read_to_limit.new.source g.K.Sink.told g.K.Sink.faults c.args.sink.now c.put_replay.new.sink in
    let within = let Q : ℕ → Type 0 = λ n. length c.in-Ok.input.items ≤ n in subst Q c.limit_of-limit.ensures c.in-Ok.ensures.within in
    let J : Job → Type 0 = λ j. Replays j c.deref-in-Replay.result.now e.told e.told_after e.sink_faults e.sink_faults_after c.put_replay.result in
    let P : List ℕ → Type 0 = λ i. Replays c.args.job.now i e.told e.told_after e.sink_faults e.sink_faults_after c.put_replay.result in
    replays_makes c.args.job.now e c.in-Ok.input.items c.put_replay.result c.in-Ok.ensures.whole c.in-Ok.ensures.end within
    (subst P c.deref-in-Replay.ensures.value (subst J (sym c.in-Replay.is) c.put_replay.ensures))

pub returns-in-Replay-clause-complete : goal.returns-in-Replay-clause-complete
returns-in-Replay-clause-complete g c =
    let e = ends g.S.Source.left g.S.Source.faults c.args.source.now c.read_to_limit.new.source g.K.Sink.told g.K.Sink.faults c.args.sink.now c.put_replay.new.sink in
    let J : Job → Type 0 = λ j. Replays j c.deref-in-Replay.result.now e.told e.told_after e.sink_faults e.sink_faults_after c.put_replay.result in
    let P : List ℕ → Type 0 = λ i. Replays c.args.job.now i e.told e.told_after e.sink_faults e.sink_faults_after c.put_replay.result in
    replays_finish c.args.job.now e c.in-Ok.input.items c.put_replay.result c.in-Ok.ensures.whole c.in-Ok.ensures.end
    (subst P c.deref-in-Replay.ensures.value (subst J (sym c.in-Replay.is) c.put_replay.ensures))
