use Rattle.std.proofs.Common.{◌≡◌, Bool, List, sym, ◌∙◌, subst, rules}
use Rattle.std.proofs.lemmas.List.{with_items_is, places}
use Rattle.std.specs.Vec.{with_items}
use Rattle.xt_search.specs.Ends.{AreSound, IsSettled}
use Rattle.xt_search.proofs.Marking.{falls_from, none_sound, settled_marks}
use Rattle.xt_search.proofs.marks.marks_of.Goals as goal

pub loop-changed-init : goal.loop-changed-init
loop-changed-init g c = record {
  sound = none_sound (g.M.Machine.Leads c.args.machine.now) (g.M.Machine.ends c.args.machine.now) c.args.graph.now c.in_ok-marks.marks.items c.len.result
      (c.in_ok-marks.ensures.items_if_clones_equal (λ y e. e)) (c.len.ensures ∙ c.args.graph.now.kept.ok.0);
  settled = λ f. absurd cc;
}

pub mark_more-changed-requires-clause-sound : goal.mark_more-changed-requires-clause-sound
mark_more-changed-requires-clause-sound g c =
    subst (λ (l : List Bool). AreSound (g.M.Machine.Leads c.args.machine.now) (g.M.Machine.ends c.args.machine.now) c.args.graph.now l) (sym c.as_mut_slice.ensures.value) c.loop-changed.invariant.sound

pub loop-changed-preserved : goal.loop-changed-preserved
loop-changed-preserved g c =
    let v = c.loop-changed.marks in
    let new = c.mark_more-changed.new.marks in
    let same : new ≡ (with_items v new).items = sym (with_items_is v new (search (rules, places))) in
    record {
      sound = subst (λ (l : List Bool). AreSound (g.M.Machine.Leads c.args.machine.now) (g.M.Machine.ends c.args.machine.now) c.args.graph.now l) same c.mark_more-changed.ensures.sound;
      settled = λ f k lt. subst (λ (l : List Bool). IsSettled (g.M.Machine.ends c.args.machine.now) c.args.graph.now l k) same (c.mark_more-changed.ensures.settled f k lt);
    }

pub loop-changed-smaller : goal.loop-changed-smaller
loop-changed-smaller g c =
    let v = c.loop-changed.marks in
    let new = c.mark_more-changed.new.marks in
    falls_from c.mark_more-changed.result c.loop-changed.changed (with_items v new).items new c.as_mut_slice.result.now v.items
    (with_items_is v new (search (rules, places))) c.as_mut_slice.ensures.value c.loop-changed-test.true c.mark_more-changed.ensures.more c.mark_more-changed.ensures.fewer

pub returns : goal.returns
returns g c =
    settled_marks (g.M.Machine.Leads c.args.machine.now) (g.M.Machine.ends c.args.machine.now) c.args.graph.now c.loop-changed.marks.items c.requires.graph c.requires.whole c.loop-changed.invariant.sound (c.loop-changed.invariant.settled c.loop-changed-test.false)
