-- Where each core has a judge of its own and all that is kept is settled, the verdict of every run is whole.
use Rattle.std.proofs.Common.{◌≡◌, ℕ, ◌≤◌, ⊎_elim, Bool, true, List, refl, sym, arith}
use Rattle.std.proofs.lemmas.Bool.{true≢false}
use Rattle.xt_map.specs.Memory.{HasSizes}
use Rattle.xt_image.specs.declared.image.Image.{Image}
use Rattle.xt_trace.specs.declared.options.Options.{Options}
use Rattle.xt_trace.specs.Validity.{IsValid}
use Rattle.xt_map.specs.Code.{AreBytes}
use Rattle.xt_core.specs.Runs.{code_of, memory_of}
use Rattle.xt_frames.specs.Stacks.{IsRange}
use Rattle.xt_frames.specs.Walked.{opening_walked, stack_of}
use Rattle.xt_frames.proofs.Stacked.{opening_stack}
use Rattle.xt_discipline.specs.Verdicts.{are_checked, opened0, opened1}
use Rattle.xt_discipline.proofs.Opens.{range_of_core}
use Rattle.xt_search.specs.declared.graph.Graph.{Graph}
use Rattle.xt_search.specs.Graphs.{IsAt, IsGraph, IsWhole, OpensWith}
use Rattle.xt_outcomes.specs.declared.places.Place.{Place}
use Rattle.xt_judged.specs.Laws.{AllAreWholeWhereNoSceneBreaks}
use Rattle.xt_judged.specs.Orders.{first_scene}
use Rattle.xt_judged.specs.Forgotten.{Leads, Stands}
use Rattle.xt_judged.specs.OwnJudges.{is_within, range_of}
use Rattle.xt_judged.specs.Runs.{AllAreWhole}
use Rattle.xt_judged.specs.WatchedKept.{AreSettled, watched_of}
use Rattle.xt_judged.specs.WatchedSearch.{AreStacksApart, first_watched}
use Rattle.xt_judged.specs.declared.watched.Watched as kept
use Rattle.xt_judged.proofs.FewerOrders.{all_free, all_go}
use Rattle.xt_judged.proofs.WatchedScenes.{IsOf, none_bars, none_breaks}
use Rattle.xt_judged.proofs.Within.{In, stack_within}

apart_ranges : (o : Options) → AreStacksApart o → (a : ℕ) → In (range_of o.stack0) a → In (range_of o.stack1) a → ⊥
apart_ranges o h a x y =
    let l0 = x.0 in
    let u0 = x.1 in
    let l1 = y.0 in
    let u1 = y.1 in
    ⊎_elim (λ (e : o.stack0.hi ≤ o.stack1.lo). omega (arith, e, l0, u0, l1, u1)) (λ (e : o.stack1.hi ≤ o.stack0.lo). omega (arith, e, l0, u0, l1, u1)) h

opening_within : (core pc : ℕ) (o : Options) → IsRange (stack_of core o).lo (stack_of core o).hi → is_within (opening_walked core pc o).bounds.range (opening_walked core pc o).state ≡ true
opening_within core pc o k = stack_within (opening_walked core pc o).bounds.range (opening_walked core pc o).state (opening_stack (stack_of core o).lo (stack_of core o).hi k)

module _ (image : Image) (o : Options) (timed : Bool) (valid : IsValid o) (apart : AreStacksApart o) (ps : List Place) where
  begins : IsOf (code_of image) timed ps (opened0 image o).bounds (opened1 o).bounds (apart_ranges o apart) (first_scene image o timed) (first_watched image o timed)
  begins = record {
    spot = refl;
    unbroken = refl;
    standing0 = refl;
    standing1 = refl;
    bounds0 = refl;
    bounds1 = refl;
    stale = λ a. refl;
    sound0 = record {
      within = opening_within 0 image.entry o (range_of_core 0 o valid);
      inside = λ a t. absurd (true≢false (sym t));
      dead = λ a t. absurd (true≢false (sym t));
      apart = apart_ranges o apart;
    };
    sound1 = record {
      within = opening_within 1 o.entry1 o (range_of_core 1 o valid);
      inside = λ a t. absurd (true≢false (sym t));
      dead = λ a t. absurd (true≢false (sym t));
      apart = λ a x y. apart_ranges o apart a y x;
    };
  }

  module _ (ms : List ℕ) (g : Graph kept.Watched) (first : kept.Watched) (opens : OpensWith g first)
      (is : IsGraph (λ c v w. Leads (code_of image) ms (range_of o.stack0) (range_of o.stack1) timed ps (memory_of image o) c v w) g) (whole : IsWhole g)
      (settled : (k : ℕ) (w : kept.Watched) → IsAt g.kept.items k w → AreSettled (code_of image) ps w) (sizes : HasSizes (first_watched image o timed).spot.memory)
      (stands : Stands ms (watched_of (memory_of image o) first) (first_watched image o timed)) where
    pub all_whole_apart : AllAreWholeWhereNoSceneBreaks → AreBytes (code_of image) → are_checked image o ≡ true → AllAreWhole image o timed
    all_whole_apart law bytes checked =
        let opening = first_watched image o timed in
        let go = all_go (code_of image) ms (range_of o.stack0) (range_of o.stack1) timed ps (memory_of image o) g is whole settled opening (0, first, opens, stands) sizes in
        let free = all_free (code_of image) ms (range_of o.stack0) (range_of o.stack1) timed ps (memory_of image o) g is whole settled opening (0, first, opens, stands) sizes in
        law image o timed bytes checked
        (λ order order_is. none_breaks (code_of image) timed ps (opened0 image o).bounds (opened1 o).bounds (apart_ranges o apart) (first_scene image o timed) opening begins go free order order_is)
        (λ order c order_is small. none_bars (code_of image) timed ps (opened0 image o).bounds (opened1 o).bounds (apart_ranges o apart) (first_scene image o timed) opening begins go free order c order_is small)
