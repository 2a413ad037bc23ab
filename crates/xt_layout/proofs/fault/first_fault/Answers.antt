use Rattle.std.proofs.Common.{◌<◌, ◌+◌, ◌^◌, ℕ, ap, sym, subst, ◌∙◌, drop, arith}
use Rattle.std.specs.Prelude.{◌&&◌, not}
use Rattle.std.proofs.lemmas.List.{take_rest}
use Rattle.xt_layout.specs.Faults.{is_empty, is_last, layout_fault}
use Rattle.xt_layout.specs.Known.{has_name}
use Rattle.xt_layout.proofs.Each.{finds_here, finds_more}
use Rattle.xt_layout.proofs.Faulting.{faults_ahead, few_segments, knows_more, line_faults, none_yet}
use Rattle.xt_layout.proofs.Labelling.{spot_here, spots_long}
use Rattle.xt_layout.proofs.Reaching.{lines_in_weight}
use Rattle.xt_layout.proofs.Walking.{pool_fits}
use Rattle.xt_layout.proofs.fault.first_fault.Goals as goal

pub loop-k-init : goal.loop-k-init
loop-k-init c = record {
  known = record { names_are = c.requires.no_names; entry_is = c.requires.no_entry; segments_are = c.requires.no_segments };
  none = none_yet c.args.lines.now c.args.words.now c.requires.text.words_are;
}

pub bounds-spots-k : goal.bounds-spots-k
bounds-spots-k c = omega (arith, spots_long c.args.words.now c.args.lines.now c.as_slice-spots.result.now (c.as_slice-spots.ensures.value ∙ c.requires.walk.spots_are))

pub line_fault-requires-clause-pool : goal.line_fault-requires-clause-pool
line_fault-requires-clause-pool c =
    let P : ℕ → Type 0 = λ n. n < 2 ^ 32 in
    subst P (sym (c.requires.pools.sizes c.loop-k.k c.loop-k-test.true)) (pool_fits c.args.lines.now c.args.words.now c.loop-k.k c.requires.text)

pub returns-in-Some : goal.returns-in-Some
returns-in-Some c = finds_here (line_faults c.args.lines.now c.args.words.now) c.loop-k.k c.args.lines.now c.index-lines-k.result (layout_fault c.args.lines.now) c.in-Some.place c.loop-k-test.true c.index-lines-k.is c.loop-k.invariant.none
    (c.in-Some.ensures ∙ faults_ahead c.args.lines.now c.args.words.now c.args.pools.now c.as_slice-spans.result.now (has_name c.loop-k.before.names) c.loop-k.before.has_entry c.loop-k.before.segments c.loop-k.k c.index-lines-k.result _
    c.ends_segment-last.result (drop (c.loop-k.k + 1) c.args.lines.now) c.loop-k-test.true c.requires.pools (c.as_slice-spans.ensures.value ∙ c.requires.walk.spans_are)
    (spot_here c.args.words.now c.args.lines.now c.as_slice-spots.result.now c.loop-k.k c.index-lines-k.result _ (c.as_slice-spots.ensures.value ∙ c.requires.walk.spots_are) c.loop-k-test.true c.index-lines-k.is)
    (c.ends_segment-last.ensures ∙ ap (λ rest. not (is_empty c.index-lines-k.result.statement) && is_last rest) (take_rest c.args.lines.now (c.loop-k.k + 1))) c.loop-k.invariant.known)

pub note-requires : goal.note-requires
note-requires c = few_segments (has_name c.loop-k.before.names) c.loop-k.before.has_entry c.loop-k.before.segments c.loop-k.k c.args.lines.now c.loop-k.invariant.known (omega arith)
    (omega (arith, lines_in_weight c.args.lines.now, c.requires.text.small))

pub loop-k-preserved : goal.loop-k-preserved
loop-k-preserved c = record {
  known = knows_more (has_name c.loop-k.before.names) (has_name c.note.new.before.names) c.loop-k.before.has_entry c.note.new.before.has_entry c.loop-k.before.segments c.note.new.before.segments
      c.loop-k.k c.args.lines.now c.index-lines-k.result c.loop-k-test.true c.index-lines-k.is c.loop-k.invariant.known c.in_ok-note.ensures.names c.in_ok-note.ensures.entry c.in_ok-note.ensures.segments;
  none = finds_more (line_faults c.args.lines.now c.args.words.now) c.loop-k.k c.args.lines.now c.index-lines-k.result (layout_fault c.args.lines.now) c.loop-k-test.true c.index-lines-k.is c.loop-k.invariant.none
      (c.in_default.ensures ∙ faults_ahead c.args.lines.now c.args.words.now c.args.pools.now c.as_slice-spans.result.now (has_name c.loop-k.before.names) c.loop-k.before.has_entry c.loop-k.before.segments c.loop-k.k c.index-lines-k.result _
      c.ends_segment-last.result (drop (c.loop-k.k + 1) c.args.lines.now) c.loop-k-test.true c.requires.pools (c.as_slice-spans.ensures.value ∙ c.requires.walk.spans_are)
      (spot_here c.args.words.now c.args.lines.now c.as_slice-spots.result.now c.loop-k.k c.index-lines-k.result _ (c.as_slice-spots.ensures.value ∙ c.requires.walk.spots_are) c.loop-k-test.true c.index-lines-k.is)
      (c.ends_segment-last.ensures ∙ ap (λ rest. not (is_empty c.index-lines-k.result.statement) && is_last rest) (take_rest c.args.lines.now (c.loop-k.k + 1))) c.loop-k.invariant.known);
}
