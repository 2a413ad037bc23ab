use Rattle.std.proofs.Common.{◌≡◌, ℕ, List, Option, IfOk, ap₂, ◌∙◌, subst}
use Rattle.std.specs.Option.{option_or}
use Rattle.xt_map.specs.declared.segment.Segment.{Segment}
use Rattle.xt_map.specs.Memory.{constant_byte}
use Rattle.xt_image.specs.declared.image.Image.{Image}
use Rattle.xt_trace.specs.declared.run.Run.{Run}
use Rattle.xt_trace.specs.declared.trace.Stop.{Stop}
use Rattle.xt_core.specs.Runs.{code_of}
use Rattle.xt_replay.specs.Shown.{Shown, state_in}
use Rattle.xt_runs.specs.Exits.{last_state, unmet_in_state, unmet_of_core}
use Rattle.xt_runs.specs.Memory.{shown_last}
use Rattle.xt_runs.proofs.exits.unmet_exit.Goals as goal

-- of a core, over the constants and the last state that were made
core_says : (core turns : ℕ) (stop : Stop) (image : Image) (r : Run) (code : List Segment) (s : Shown) → code ≡ image.segments → s ≡ shown_last image r
    → unmet_of_core core turns stop (unmet_in_state core (constant_byte code) (state_in core s)) ≡ unmet_of_core core turns stop (unmet_in_state core (code_of image) (last_state core image r))
core_says core turns stop image r code s e d = ap₂ (λ (c : List Segment) (x : Shown). unmet_of_core core turns stop (unmet_in_state core (constant_byte c) (state_in core x))) e d

pub returns : goal.returns
returns c =
    let image = c.args.image.now in
    let r = c.args.run.now in
    let code_is = c.in_ok-code.ensures ∙ c.as_slice.ensures in
    let state_is = c.state-state.ensures ∙ c.in_ok-replay.ensures in
    let zero = core_says 0 r.options.turns0 r.trace0.stop image r c.in_ok-code.code c.state-state.result code_is state_is in
    let one = core_says 1 r.options.turns1 r.trace1.stop image r c.in_ok-code.code c.state-state.result code_is state_is in
    let P : Option (List ℕ) → Type 0 = λ line. IfOk c.unmet_of_cores.result (λ made. made ≡ line) in
    subst P (ap₂ (λ (a b : Option (List ℕ)). option_or a b) zero one) c.unmet_of_cores.ensures
