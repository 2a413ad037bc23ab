use Rattle.std.proofs.Common.{◌≡◌, List, ℕ, ap, ◌∙◌}
use Rattle.xt_map.specs.declared.segment.Segment.{Segment}
use Rattle.xt_map.specs.Memory.{constant_byte}
use Rattle.xt_judged.specs.OutcomesText.{IsAnswersText, answers_text}
use Rattle.xt_judged.proofs.Words.{each_ok}
use Rattle.xt_judged.proofs.texts.outcomes_text.Goals as goal

pub returns : goal.returns
returns c =
    let a = c.in_ok-answers.answers in
    let f = c.in_ok-frames.frames in
    let image = c.args.image.now in
    let words = c.args.addresses.now in
    let segments : ◌≡◌ {A = List Segment} c.in_ok-code.code image.segments = c.in_ok-code.ensures ∙ c.as_slice.ensures in
    each_ok (λ (t : List ℕ). t ≡ answers_text (constant_byte c.in_ok-code.code) words a f) (IsAnswersText image c.args.options.now c.args.timed words c.args.most)
    c.answers_text.result (λ t is. record {
      answers = a;
      are = c.in_ok-answers.ensures;
      frames = f;
      are_frames = c.in_ok-frames.ensures;
      text_is = is ∙ ap (λ (s : List Segment). answers_text (constant_byte s) words a f) segments;
    }) c.answers_text.ensures
