use Rattle.std.proofs.Common.{◌≡◌, ◌≤◌, true, List, length, refl, ap, ◌∙◌, subst, arith}
use Rattle.std.proofs.lemmas.Option.{slice_get_read}
use Rattle.xt_map.specs.declared.segment.Segment.{Segment}
use Rattle.xt_map.specs.Memory.{constant_byte}
use Rattle.xt_core.specs.Runs.{memory_of}
use Rattle.xt_exec.specs.State.{State}
use Rattle.xt_search.proofs.Numbers.{at_kept, at_within}
use Rattle.xt_outcomes.specs.Dead.{fits}
use Rattle.xt_outcomes.specs.Spots.{Side, side_bars}
use Rattle.xt_outcomes.proofs.Many.{many_found}
use Rattle.xt_outcomes.proofs.Using.{time_used}
use Rattle.xt_outcomes.proofs.meeting.ended_by.Goals as goal

pub returns-else-not-branch : goal.returns-else-not-branch
returns-else-not-branch c =
    let s = c.args.search.now in
    let ks = s.graph.kept.items in
    let b = c.in-Some.barred in
    let m = memory_of c.args.image.now c.args.options.now in
    let barred = rw c.in-Some.is at c.requires.search.barred in
    let x = c.index.result.now in
    let here = at_kept ks b.from x (slice_get_read ks (length ks) b.from x refl (at_within ks b.from barred.0 barred.1) c.index.ensures) in
    let same = c.side-side.ensures m in
    let time = subst (λ (l : List Segment). side_bars (constant_byte l) s.machine.timed c.side-side.result.now ≡ true) c.requires.search.code (c.in_ok-is_timely-in-Some.ensures.time c.if-not-branch.false) in
    let fit = subst (λ (l : List Segment). fits (constant_byte l) s.machine.dead.masks.items c.side-side.result.now.state ≡ true) c.requires.search.code (c.in_ok-is_timely-in-Some.ensures.fits c.if-not-branch.false) in
    let code = constant_byte c.args.image.now.segments in
    record {
      ending = time_used c.args.image.now c.args.options.now s c.requires.search b c.pc.result x.world here barred.2
          (subst (λ (k : Side State). side_bars code s.machine.timed k ≡ true) same time)
          (subst (λ (k : Side State). fits code s.machine.dead.masks.items k.state ≡ true) same fit)
          (c.pc.ensures ∙ ap (λ (k : Side State). k.state.control.pc) same);
      complete = λ e. absurd cc;
    }

pub returns-then-is_whole : goal.returns-then-is_whole
returns-then-is_whole c = record { ending = tt; complete = λ e. c.is_whole.ensures.complete.0 c.if-is_whole.true }

pub returns-else-len-most : goal.returns-else-len-most
returns-else-len-most c =
    let s = c.args.search.now in
    let many : c.len.result ≡ length s.graph.kept.items = c.len.ensures ∙ s.graph.kept.ok.0 in
    let past : c.args.most ≤ c.len.result = c.if-len-most.false in
    record {
      ending = many_found c.args.image.now c.args.options.now s c.requires.search c.args.most (omega arith);
      complete = λ e. absurd cc;
    }
