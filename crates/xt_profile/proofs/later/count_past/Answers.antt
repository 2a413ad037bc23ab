use Rattle.std.proofs.Common.{◌≡◌, ◌+◌, ◌-◌, ◌<◌, ◌≤◌, ◌^◌, ℕ, List, drop, length, take, refl, sym, ap, subst, ◌∙◌, arith}
use Rattle.std.proofs.lemmas.List.{length-drop, take_rest}
use Rattle.std.proofs.lemmas.Result.{on_ok_weaker}
use Rattle.xt_map.specs.Memory.{constant_byte}
use Rattle.xt_frames.specs.declared.kinds.HandlerPhase.{HandlerPhase}
use Rattle.xt_discipline.specs.Phases.{phases_of}
use Rattle.xt_trace.specs.declared.record.StepRecord.{StepRecord}
use Rattle.xt_core.specs.Runs.{code_of}
use Rattle.xt_profile.specs.Profiled.{records}
use Rattle.xt_profile.proofs.PastCut.{few_records, later_tally, phases_are}
use Rattle.xt_profile.proofs.later.count_past.Goals as goal

pub slice_bounds-count_left-count : goal.slice_bounds-count_left-count
slice_bounds-count_left-count c =
    let all = records c.args.core c.args.image.now c.args.run.now in
    let now = c.as_slice-2.result.now in
    let len : length now ≡ length all =
    phases_are (constant_byte c.in_ok-code.code) now c.in_ok-phases.phases all all c.as_slice-2.ensures
    c.in_ok-phases.ensures refl in
    subst (λ (n : ℕ). c.args.cut ≤ n) (sym len) c.requires.within

pub slice_bounds-count_left-start : goal.slice_bounds-count_left-start
slice_bounds-count_left-start c =
    let all = records c.args.core c.args.image.now c.args.run.now in
    let now = c.as_slice-2.result.now in
    let len : length now ≡ length all =
    phases_are (constant_byte c.in_ok-code.code) now c.in_ok-phases.phases all all c.as_slice-2.ensures
    c.in_ok-phases.ensures refl in
    subst (λ (n : ℕ). c.args.cut ≤ n) (sym len) c.requires.within

few_enough : (s p l n m : ℕ) → s ≡ 0 → p ≡ l - n → l ≡ m → m ≤ 4000000 → s + p < 4294967296
few_enough s p l n m e f g h = omega (arith, e, f, g, h)

pub count_left-requires-clause-room : goal.count_left-requires-clause-room
count_left-requires-clause-room c =
    let now = c.as_slice-2.result.now in
    let cut = c.args.cut in
    let all = records c.args.core c.args.image.now c.args.run.now in
    let len : length now ≡ length all =
    phases_are (constant_byte c.in_ok-code.code) now c.in_ok-phases.phases all all c.as_slice-2.ensures
    c.in_ok-phases.ensures refl in
    let rest = take (length now - cut) (drop cut now) in
    let part : length rest ≡ length now - cut =
    ap (λ (l : List HandlerPhase). length l) (take_rest now cut) ∙ length-drop cut now in
    few_enough c.args.tally.now.steps (length rest) (length now) cut (length all) c.requires.none part
    len (few_records c.args.core c.args.image.now c.args.run.now c.requires.run.valid)

pub returns : goal.returns
returns c =
    let now = c.as_slice-2.result.now in
    let cut = c.args.cut in
    let image = c.args.image.now in
    let code = constant_byte c.in_ok-code.code in
    let all = records c.args.core image c.args.run.now in
    let code_is : code ≡ code_of image = ap constant_byte (c.in_ok-code.ensures ∙ c.as_slice.ensures) in
    let phases_is : now ≡ phases_of (code_of image) all =
    c.as_slice-2.ensures
    ∙ (c.in_ok-phases.ensures ∙ ap (λ (f : ℕ → ℕ). phases_of f all) code_is) in
    on_ok_weaker c.count_left.result
    (λ counts o past h. later_tally o past code (code_of image) (take (length now - cut) (drop cut now))
    (drop cut (phases_of (code_of image) all)) c.pass.new.records (drop cut all)
    c.count_left.new.tally code_is
    (take_rest now cut ∙ ap (λ (l : List HandlerPhase). drop cut l) phases_is)
    (c.pass.ensures ∙ ap (λ (l : List StepRecord). drop cut l) c.in_ok-left.ensures)
    (counts o past h)) c.count_left.ensures
