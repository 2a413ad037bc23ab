use Rattle.std.proofs.Common.{◌≡◌, ℕ, List, ◌++◌, ap, ◌∙◌}
use Rattle.std.specs.Prelude.{flat_map}
use Rattle.std.specs.List.{zip}
use Rattle.xt_report.specs.Reports.{uart_lines}
use Rattle.xt_judged.specs.OutcomesText.{core_line, order_line, outcome_text, word_line}
use Rattle.xt_trace.specs.declared.trace.Stop.{Stop}
use Rattle.xt_judged.proofs.Words.{six_parts}
use Rattle.xt_judged.proofs.outcome_lines.push_outcome.Goals as goal

pub returns : goal.returns
unfolding outcome_text
returns c =
    let line : (core : ℕ) (s t : Stop) (p q : ℕ) → s ≡ t → p ≡ q → core_line core s p ≡ core_line core t q = λ core s t p q e f i. core_line core (e i) (f i) in
    six_parts c.args.out.now.items _ _ _ _ _ _ _ _ _ _ _ _
    c.in_ok-extend_from_slice.ensures.items
    (c.in_ok-push_sent.ensures ∙ ap (λ (l : List ℕ). c.extend_from_slice.new.self.items ++ uart_lines l) c.sent.ensures)
    (c.in_ok-append.ensures ∙ ap (λ (l : List ℕ). c.push_sent.new.out.items ++ l) (c.in_ok-core0.ensures ∙ line 0 _ _ _ _ c.stop0.ensures c.pc0.ensures))
    (c.in_ok-append-2.ensures ∙ ap (λ (l : List ℕ). c.append.new.out.items ++ l) (c.in_ok-core1.ensures ∙ line 1 _ _ _ _ c.stop1.ensures c.pc1.ensures))
    (c.in_ok-push_words.ensures ∙ ap (λ (l : List ℕ). c.append-2.new.out.items ++ flat_map word_line (zip c.args.addresses.now l)) c.words.ensures)
    (c.in_ok-append-3.ensures ∙ ap (λ (l : List ℕ). c.push_words.new.out.items ++ l) (c.in_ok-order.ensures ∙ ap order_line c.as_slice.ensures.value))
