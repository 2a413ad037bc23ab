use Rattle.std.proofs.Common.{◌≡◌, ◌≤◌, true, List, [], ℕ, Option, Some, None, length, refl, sym, ap, ◌∙◌, ⊎_elim}
use Rattle.std.specs.Prelude.{◌⊎◌, IfNone}
use Rattle.std.proofs.lemmas.Bool.{true≢false}
use Rattle.std.proofs.lemmas.Option.{slice_get_read}
use Rattle.xt_core.specs.Runs.{code_of, memory_of}
use Rattle.xt_exec.specs.State.{State}
use Rattle.xt_search.specs.declared.graph.Barred.{Barred}
use Rattle.xt_search.specs.Graphs.{IsWhole}
use Rattle.xt_search.proofs.Numbers.{at_kept, at_once, at_within}
use Rattle.xt_outcomes.specs.Dead.{fits}
use Rattle.xt_outcomes.specs.KeptWorlds.{spot_of}
use Rattle.xt_outcomes.specs.Nexts.{next_bars}
use Rattle.xt_outcomes.specs.Spots.{Side, side_bars, side_of}
use Rattle.xt_outcomes.specs.declared.world.World.{World}
use Rattle.xt_outcomes.proofs.Finding.{graph_of_machine, met_is_complete}
use Rattle.xt_outcomes.proofs.Many.{many_found}
use Rattle.xt_outcomes.proofs.NoneDead.{all_fit, bars_are_same}
use Rattle.xt_outcomes.proofs.Using.{time_used}
use Rattle.xt_outcomes.proofs.meeting.ended_at_last.Goals as goal

of_none : (b : Option Barred) (P : Type 0) → b ≡ None → IfNone b P → P
of_none None P e h = h
of_none (Some x) P e h = absurd cc

pub has_all-requires : goal.has_all-requires
has_all-requires c = graph_of_machine c.args.image.now c.args.options.now c.args.search.now c.requires.search

pub returns-in-Some : goal.returns-in-Some
returns-in-Some c =
    let s = c.args.search.now in
    let ks = s.graph.kept.items in
    let b = c.in-Some.barred in
    let m = memory_of c.args.image.now c.args.options.now in
    let code = code_of c.args.image.now in
    let barred = rw c.in-Some.is at c.requires.search.barred in
    let x = c.index.result.now in
    let here = at_kept ks b.from x (slice_get_read ks (length ks) b.from x refl (at_within ks b.from barred.0 barred.1) c.index.ensures) in
    let k = side_of b.core (spot_of m x.world) in
    let same = at_once ks b.from barred.0 x.world barred.1 here in
    let none : s.machine.dead.masks.items ≡ [] = c.requires.dead in
    let bars : side_bars code s.machine.timed k ≡ true =
    sym (bars_are_same code s.machine.timed k) ∙ ap (λ (ms : List ℕ). next_bars code s.machine.timed ms k) (sym none)
    ∙ ap (λ (w : World). next_bars code s.machine.timed s.machine.dead.masks.items (side_of b.core (spot_of m w))) (sym same) ∙ barred.3
    in
    record {
      ending = time_used c.args.image.now c.args.options.now s c.requires.search b c.pc.result x.world here barred.2 bars
          (ap (λ (ms : List ℕ). fits code ms k.state) none ∙ all_fit code k.state)
          (c.pc.ensures ∙ ap (λ (l : Side State). l.state.control.pc) (c.side-side.ensures m));
      complete = λ e. absurd cc;
    }

pub returns-then-has_all : goal.returns-then-has_all
returns-then-has_all c = record {
  ending = tt;
  complete = λ e. met_is_complete c.args.search.now c.requires.places (c.has_all.ensures.whole.0 c.if-has_all.true);
}

pub returns-else-has_all : goal.returns-else-has_all
returns-else-has_all c =
    let s = c.args.search.now in
    let ended = of_none s.graph.barred (IsWhole s.graph ⊎ (c.args.most ≤ length s.graph.kept.items)) c.in-None.is c.requires.ended in
    record {
      ending = many_found c.args.image.now c.args.options.now s c.requires.search c.args.most
          (⊎_elim (λ (w : IsWhole s.graph). absurd (true≢false (sym (c.has_all.ensures.whole.1 w) ∙ c.if-has_all.false)))
          (λ (f : c.args.most ≤ length s.graph.kept.items). f) ended);
      complete = λ e. absurd cc;
    }
