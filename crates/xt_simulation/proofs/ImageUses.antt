-- Runs of images are runs of the machine of uses, where the window handlers pass their check and the stacks are apart.
use Rattle.std.proofs.Common.{refl}
use Rattle.xt_map.specs.Memory.{constant_byte}
use Rattle.xt_trace.specs.Runs.{world_at_start}
use Rattle.xt_trace.specs.Short.{short_schedule}
use Rattle.xt_frames.specs.FirstBreach.{Course}
use Rattle.xt_simulation.specs.Opening.{Openings, memory_of, openings_of}
use Rattle.xt_simulation.specs.Headline.{opening_of, records0, records1}
use Rattle.xt_simulation.proofs.Headline.{good_of}
use Rattle.xt_uses.specs.declared.discipline.Discipline.{Discipline}
use Rattle.xt_uses.specs.FirstUse.{History, IsHistory}
use Rattle.xt_simulation.specs.UseRunLaws.{UsesAreSo, course_of}
use Rattle.xt_simulation.proofs.Before.{Grounds}
use Rattle.xt_simulation.proofs.BeforeTurn.{before_opens}
use Rattle.xt_simulation.proofs.ImageRuns.{code_bytes, image_walk, opening_is}
use Rattle.xt_simulation.proofs.UseRuns.{use_run}

pub uses_are_so : UsesAreSo
uses_are_so segments entry o r given handlers apart run =
    let at : Openings = openings_of segments entry o in
    let course : Course = course_of segments entry o r in
    let is = opening_is segments entry o given in
    let good = good_of at (constant_byte segments) is handlers in
    let grounds : (d : Discipline) (h : History) → IsHistory d course h → Grounds course h = λ d h history. record { discipline = d; bytes = code_bytes segments given.bytes; good0 = good.0; good1 = good.1; apart = apart; history = history } in
    use_run course (short_schedule r) (world_at_start (opening_of at o.turns0 o.turns1)) (records0 at (constant_byte segments) o.turns0 r) (records1 at (constant_byte segments) o.turns1 r) (image_walk segments entry o given r run) refl (memory_of at)
    grounds
    (λ d h history. before_opens d course h at history is apart refl refl refl refl)
