use Rattle.xt_simulation.proofs.Windowed.{enters_window}
use Rattle.xt_simulation.proofs.Stretched.{overflows_find_frames, underflows_find_frames}
use Rattle.xt_simulation.proofs.laws.window_exceptions_find_frames.Goals as goal

pub returns-clause-enters : goal.returns-clause-enters
returns-clause-enters c = enters_window

pub returns-clause-overflows : goal.returns-clause-overflows
returns-clause-overflows c = overflows_find_frames

pub returns-clause-underflows : goal.returns-clause-underflows
returns-clause-underflows c = underflows_find_frames
