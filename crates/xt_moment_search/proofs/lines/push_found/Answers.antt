use Rattle.std.proofs.Common.{ℕ, List, ◌++◌, ap, ◌∙◌}
use Rattle.std.specs.Prelude.{flat_map}
use Rattle.std.specs.List.{zip}
use Rattle.xt_report.specs.Reports.{uart_lines}
use Rattle.xt_moment_search.specs.MomentLines.{found_text, stopped_line, value_line}
use Rattle.xt_moment_search.proofs.Words.{six_parts}
use Rattle.xt_moment_search.proofs.lines.push_found.Goals as goal

pub returns : goal.returns
unfolding found_text
returns c =
    six_parts c.args.out.now.items _ _ _ _ _ _ _ _ _ _ _ _
    c.in_ok-extend_from_slice.ensures.items
    (c.in_ok-push_sent.ensures ∙ ap (λ (l : List ℕ). c.extend_from_slice.new.self.items ++ uart_lines l) c.sent.ensures)
    (c.in_ok-extend_from_slice-2.ensures.items ∙ ap (λ (l : List ℕ). c.push_sent.new.out.items ++ l) (c.as_bytes.ensures.value ∙ c.in_ok-core0.ensures ∙ ap (stopped_line 0) c.pc0.ensures))
    (c.in_ok-extend_from_slice-3.ensures.items ∙ ap (λ (l : List ℕ). c.extend_from_slice-2.new.self.items ++ l) (c.as_bytes-2.ensures.value ∙ c.in_ok-core1.ensures ∙ ap (stopped_line 1) c.pc1.ensures))
    (c.in_ok-push_words.ensures ∙ ap (λ (l : List ℕ). c.extend_from_slice-3.new.self.items ++ flat_map value_line (zip c.args.addresses.now l)) c.words.ensures)
    (c.in_ok-extend_from_slice-4.ensures.items ∙ ap (λ (l : List ℕ). c.push_words.new.out.items ++ l) (c.as_bytes-3.ensures.value ∙ c.in_ok-order.ensures))
