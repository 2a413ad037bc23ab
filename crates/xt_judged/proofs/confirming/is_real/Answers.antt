use Rattle.std.proofs.Common.{◌≡◌, ℕ, ◌<◌, List, length, sym, ap, ◌∙◌, subst}
use Rattle.std.specs.Prelude.{slice_index_or}
use Rattle.xt_machine.specs.Lists.{run_of_list}
use Rattle.xt_trace.specs.declared.options.Options.{Options}
use Rattle.xt_judged.specs.OrderFrames.{HasTurnsOf, run_of_order, turns_in}
use Rattle.xt_judged.proofs.Confirmed.{all_cores}
use Rattle.xt_judged.proofs.Verdicts.{judged_core, never, other_place, real_both, too_long}
use Rattle.xt_judged.proofs.confirming.is_real.Goals as goal

pub run_schedule-requires-clause-cores : goal.run_schedule-requires-clause-cores
run_schedule-requires-clause-cores c =
    let all = all_cores c.args.breach.now.order.items c.requires.order in
    subst (λ (l : List ℕ). (k d : ℕ) → k < length l → slice_index_or l k d < 2) (sym c.as_slice-order.ensures.value) all

pub returns-then-order-gt-MOST : goal.returns-then-order-gt-MOST
returns-then-order-gt-MOST c =
    let b = c.args.breach.now in
    let more : 8000000 < length b.order.items = subst (λ (l : List ℕ). 8000000 < length l) c.as_slice-order.ensures.value c.if-order-gt-MOST.true in
    never (too_long c.args.image.now c.args.options.now c.args.timed b c.requires.valid more)

pub stands_at-requires-clause-core : goal.stands_at-requires-clause-core
stands_at-requires-clause-core c = judged_core c.args.image.now c.in_ok-run.run' c.in-Broken.found (sym c.in-Broken.is ∙ c.in_ok-judged.ensures)

pub returns : goal.returns
returns c =
    let b = c.args.breach.now in
    let o : Options = c.args.options.now in
    let image = c.args.image.now in
    let v = c.as_slice-order.ensures.value in
    let given = subst (HasTurnsOf c.args.timed o) v (c.has_turns_of.ensures.has c.if-not-has_turns_of.false) in
    let t0 : c.turns_in-turns0.result ≡ turns_in 0 b.order.items = c.turns_in-turns0.ensures ∙ ap (turns_in 0) v in
    let t1 : c.turns_in-turns1.result ≡ turns_in 1 b.order.items = c.turns_in-turns1.ensures ∙ ap (turns_in 1) v in
    let is : c.in_ok-run.run' ≡ run_of_order image o b.order.items =
    c.in_ok-run.ensures.list ∙ (λ i. let own : Options = record o { turns0 = t0 i; turns1 = t1 i } in run_of_list image own (v i)) in
    real_both image o c.args.timed b c.in_ok-run.run' c.in-Broken.found c.in_ok-stands.stands c.requires.order given c.in_ok-run.ensures.run is
    (sym c.in_ok-judged.ensures ∙ c.in-Broken.is) (c.is_same.ensures.core c.if-not-is_same.false) (c.is_same.ensures.kind c.if-not-is_same.false) c.in_ok-stands.ensures

pub returns-then-not-is_same : goal.returns-then-not-is_same
returns-then-not-is_same c =
    let b = c.args.breach.now in
    let o : Options = c.args.options.now in
    let image = c.args.image.now in
    let v = c.as_slice-order.ensures.value in
    let t0 : c.turns_in-turns0.result ≡ turns_in 0 b.order.items = c.turns_in-turns0.ensures ∙ ap (turns_in 0) v in
    let t1 : c.turns_in-turns1.result ≡ turns_in 1 b.order.items = c.turns_in-turns1.ensures ∙ ap (turns_in 1) v in
    let is : c.in_ok-run.run' ≡ run_of_order image o b.order.items =
    c.in_ok-run.ensures.list ∙ (λ i. let own : Options = record o { turns0 = t0 i; turns1 = t1 i } in run_of_list image own (v i)) in
    never (other_place image o c.args.timed b c.in_ok-run.run' c.in-Broken.found c.is_same.result is (sym c.in_ok-judged.ensures ∙ c.in-Broken.is) c.if-not-is_same.true c.is_same.ensures.same)
