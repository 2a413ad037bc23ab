use Rattle.std.proofs.Common.{◌≡◌, ◌<◌, length, true, false, refl, sym, ◌∙◌, arith}
use Rattle.std.proofs.lemmas.Option.{slice_get_read}
use Rattle.xt_search.proofs.Marking.{marked_settled, read_as, settled_by, sound_by_end, sound_by_next, within_marks}
use Rattle.xt_search.proofs.marks.is_open.Goals as goal

pub bounds-marks-nexts : goal.bounds-marks-nexts
bounds-marks-nexts g c =
    let gr = c.args.graph.now in
    let kept = slice_get_read gr.kept.items (length gr.kept.items) c.args.at c.index.result.now refl c.requires.at c.index.ensures in
    let next = slice_get_read gr.nexts.items (length gr.kept.items) c.args.at c.index-nexts.result.now (sym c.requires.whole) c.requires.at c.index-nexts.ensures in
    (within_marks (g.M.Machine.Leads c.args.machine.now) (g.M.Machine.ends c.args.machine.now) gr c.args.marks.now c.args.at c.index.result.now c.index-nexts.result.now c.requires.graph c.requires.sound kept next).0

pub bounds-marks-nexts-else-marks-nexts : goal.bounds-marks-nexts-else-marks-nexts
bounds-marks-nexts-else-marks-nexts g c =
    let gr = c.args.graph.now in
    let kept = slice_get_read gr.kept.items (length gr.kept.items) c.args.at c.index.result.now refl c.requires.at c.index.ensures in
    let next = slice_get_read gr.nexts.items (length gr.kept.items) c.args.at c.index-nexts.result.now (sym c.requires.whole) c.requires.at c.index-nexts.ensures in
    (within_marks (g.M.Machine.Leads c.args.machine.now) (g.M.Machine.ends c.args.machine.now) gr c.args.marks.now c.args.at c.index.result.now c.index-nexts.result.now c.requires.graph c.requires.sound kept next).1

pub returns-then-marks-nexts-clause-open : goal.returns-then-marks-nexts-clause-open
returns-then-marks-nexts-clause-open g c = λ t.
    let long : length c.args.marks.now ≡ length c.args.graph.now.kept.items = c.requires.sound.as_long in
    read_as c.args.marks.now c.args.at false (omega arith) c.if-marks-at.false

pub returns-then-marks-nexts-clause-sound : goal.returns-then-marks-nexts-clause-sound
returns-then-marks-nexts-clause-sound g c = λ t.
    let gr = c.args.graph.now in
    let n = c.index-nexts.result.now in
    let kept = slice_get_read gr.kept.items (length gr.kept.items) c.args.at c.index.result.now refl c.requires.at c.index.ensures in
    let next = slice_get_read gr.nexts.items (length gr.kept.items) c.args.at n (sym c.requires.whole) c.requires.at c.index-nexts.ensures in
    let w = within_marks (g.M.Machine.Leads c.args.machine.now) (g.M.Machine.ends c.args.machine.now) gr c.args.marks.now c.args.at c.index.result.now n c.requires.graph c.requires.sound kept next in
    sound_by_next (g.M.Machine.Leads c.args.machine.now) (g.M.Machine.ends c.args.machine.now) gr c.args.marks.now c.args.at n 0 n.by0 c.requires.graph (omega arith) c.requires.sound next (λ v a. a.0) (read_as c.args.marks.now n.by0 true w.0 t)

pub returns-else-marks-nexts-clause-open : goal.returns-else-marks-nexts-clause-open
returns-else-marks-nexts-clause-open g c = λ t.
    let long : length c.args.marks.now ≡ length c.args.graph.now.kept.items = c.requires.sound.as_long in
    read_as c.args.marks.now c.args.at false (omega arith) c.if-marks-at.false

pub returns-else-marks-nexts-clause-settled : goal.returns-else-marks-nexts-clause-settled
returns-else-marks-nexts-clause-settled g c = λ f.
    let gr = c.args.graph.now in
    let n = c.index-nexts.result.now in
    let kept = slice_get_read gr.kept.items (length gr.kept.items) c.args.at c.index.result.now refl c.requires.at c.index.ensures in
    let next = slice_get_read gr.nexts.items (length gr.kept.items) c.args.at n (sym c.requires.whole) c.requires.at c.index-nexts.ensures in
    let w = within_marks (g.M.Machine.Leads c.args.machine.now) (g.M.Machine.ends c.args.machine.now) gr c.args.marks.now c.args.at c.index.result.now n c.requires.graph c.requires.sound kept next in
    settled_by (g.M.Machine.Leads c.args.machine.now) (g.M.Machine.ends c.args.machine.now) gr c.args.marks.now c.args.at c.index.result.now n kept next (sym c.is_end.ensures ∙ c.if-is_end.false) (read_as c.args.marks.now n.by0 false w.0 c.if-marks-nexts.false) (read_as c.args.marks.now n.by1 false w.1 f)

pub returns-else-marks-nexts-clause-sound : goal.returns-else-marks-nexts-clause-sound
returns-else-marks-nexts-clause-sound g c = λ t.
    let gr = c.args.graph.now in
    let n = c.index-nexts.result.now in
    let kept = slice_get_read gr.kept.items (length gr.kept.items) c.args.at c.index.result.now refl c.requires.at c.index.ensures in
    let next = slice_get_read gr.nexts.items (length gr.kept.items) c.args.at n (sym c.requires.whole) c.requires.at c.index-nexts.ensures in
    let w = within_marks (g.M.Machine.Leads c.args.machine.now) (g.M.Machine.ends c.args.machine.now) gr c.args.marks.now c.args.at c.index.result.now n c.requires.graph c.requires.sound kept next in
    sound_by_next (g.M.Machine.Leads c.args.machine.now) (g.M.Machine.ends c.args.machine.now) gr c.args.marks.now c.args.at n 1 n.by1 c.requires.graph (omega arith) c.requires.sound next (λ v a. a.1) (read_as c.args.marks.now n.by1 true w.1 t)

pub returns-then-marks-at : goal.returns-then-marks-at
returns-then-marks-at g c =
    let marks = c.args.marks.now in
    let long : length marks ≡ length c.args.graph.now.kept.items = c.requires.sound.as_long in
    let marked = read_as marks c.args.at true (let h : c.args.at < length c.args.graph.now.kept.items = c.requires.at in omega arith) c.if-marks-at.true in
    record {
      «open» = λ t. absurd cc;
      settled = λ f. marked_settled (g.M.Machine.ends c.args.machine.now) c.args.graph.now marks c.args.at marked;
      sound = λ t. absurd cc;
    }

pub returns-then-is_end : goal.returns-then-is_end
returns-then-is_end g c =
    let gr = c.args.graph.now in
    let marks = c.args.marks.now in
    let long : length marks ≡ length gr.kept.items = c.requires.sound.as_long in
    let kept = slice_get_read gr.kept.items (length gr.kept.items) c.args.at c.index.result.now refl c.requires.at c.index.ensures in
    record {
      «open» = λ t. read_as marks c.args.at false (let h : c.args.at < length gr.kept.items = c.requires.at in omega arith) c.if-marks-at.false;
      settled = λ f. absurd cc;
      sound = λ t. sound_by_end (g.M.Machine.Leads c.args.machine.now) (g.M.Machine.ends c.args.machine.now) gr marks c.args.at c.index.result.now c.requires.sound kept (sym c.is_end.ensures ∙ c.if-is_end.true);
    }

pub returns-then-marks-nexts-clause-settled : goal.returns-then-marks-nexts-clause-settled
returns-then-marks-nexts-clause-settled g c = λ f. absurd cc
