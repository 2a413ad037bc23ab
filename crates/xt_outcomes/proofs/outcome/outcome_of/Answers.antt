use Rattle.std.proofs.Common.{◌≡◌, ℕ, List, ◌++◌, map, sym, ap, ◌∙◌}
use Rattle.xt_map.specs.Serving.{number_at}
use Rattle.xt_trace.specs.Traces.{stop_where}
use Rattle.xt_exec.specs.State.{State}
use Rattle.xt_search.proofs.Putting.{changes_send_none}
use Rattle.xt_search.specs.Changed.{ChangesState, contents_of}
use Rattle.xt_outcomes.specs.Spots.{Side}
use Rattle.xt_outcomes.proofs.outcome.outcome_of.Goals as goal

pub returns : goal.returns
returns c =
    let m = c.args.opening.now.contents in
    let changes = c.args.world.now.changes.value in
    let sent : c.extend_from_slice.new.self.items ≡ (contents_of m changes).sent =
    c.in_ok-extend_from_slice.ensures.items
    ∙ ap (λ (l : List ℕ). l ++ c.sent.result.now) c.new-sent.ensures.items
    ∙ c.sent.ensures
    ∙ ap (λ (x : ChangesState). x.sent) c.deref.ensures
    ∙ sym (changes_send_none (record m { sent = changes.sent }) changes.bytes) in
    let stop0 = c.stop.ensures ∙ ap (λ (s : Side State). stop_where s.stopped) (c.side.ensures m) in
    let pc0 = c.pc.ensures ∙ ap (λ (s : Side State). s.state.control.pc) (c.side-2.ensures m) in
    let stop1 = c.stop-2.ensures ∙ ap (λ (s : Side State). stop_where s.stopped) (c.side-3.ensures m) in
    let pc1 = c.pc-2.ensures ∙ ap (λ (s : Side State). s.state.control.pc) (c.side-4.ensures m) in
    let words = c.in_ok-values.ensures ∙ ap (λ (x : ChangesState). map (λ a. number_at (contents_of m x) a 4) c.args.words.now) c.as_ref.ensures in
    λ i. record { sent = sent i; stop0 = stop0 i; pc0 = pc0 i; stop1 = stop1 i; pc1 = pc1 i; words = words i }
