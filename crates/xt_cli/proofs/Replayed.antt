-- What a script prints from where a replay stands.
use Rattle.std.proofs.Common.{◌≡◌, Bool, Result, Ok, Err, List, ℕ, ap, ◌∙◌}
use Rattle.std.specs.Prelude.{IfOk}
use Rattle.xt_command_line.specs.declared.beyond.Beyond.{Beyond}
use Rattle.xt_replay.specs.Shown.{ReplayState}
use Rattle.xt_debug.specs.declared.running.Printed.{Printed}
use Rattle.xt_debug.specs.declared.script.Command.{Command}
use Rattle.xt_debug.specs.Runs.{RanScript}
use Rattle.xt_debug.specs.Scripts.{script_outcome}

pub text_from : {E : Type 0} (b : Beyond) (cs : List Command) (s t new : ReplayState) (r : Result Printed E) → s ≡ t → RanScript b cs s r new
    → IfOk r (λ p. p.text ≡ (script_outcome b t.image t.run cs t.position).text)
text_from b cs s t new (Ok printed) same ran =
    let text : ReplayState → List ℕ = λ q. (script_outcome b q.image q.run cs q.position).text in
    ran.0 ∙ ap text same
text_from b cs s t new (Err e) same ran = tt

pub beyond_from : {E : Type 0} (b : Beyond) (cs : List Command) (s t new : ReplayState) (r : Result Printed E) → s ≡ t → RanScript b cs s r new
    → IfOk r (λ p. p.beyond ≡ (script_outcome b t.image t.run cs t.position).beyond)
beyond_from b cs s t new (Ok printed) same ran =
    let beyond : ReplayState → Bool = λ q. (script_outcome b q.image q.run cs q.position).beyond in
    ran.2 ∙ ap beyond same
beyond_from b cs s t new (Err e) same ran = tt
