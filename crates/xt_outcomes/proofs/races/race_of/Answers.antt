use Rattle.std.proofs.Common.{◌≡◌, ◌≢◌, ℕ, List, ◌+◌, ◌<◌, ◌≤◌, length, refl, sym, ◌∙◌, subst, ⊎_elim, arith}
use Rattle.std.proofs.lemmas.Bool.{cases_eq}
use Rattle.std.proofs.lemmas.Option.{slice_get_read}
use Rattle.xt_exec.specs.Chips.{processor}
use Rattle.xt_exec.specs.State.{State}
use Rattle.xt_core.specs.Runs.{code_of, memory_of, opening_of}
use Rattle.xt_search.specs.Graphs.{IsAt}
use Rattle.xt_search.proofs.Numbers.{at_kept, at_once, at_within}
use Rattle.xt_outcomes.specs.KeptWorlds.{spot_of}
use Rattle.xt_outcomes.specs.NextRaces.{IsNextRace}
use Rattle.xt_outcomes.specs.NextTurns.{AreNextTurns}
use Rattle.xt_outcomes.specs.Orders.{world_after}
use Rattle.xt_outcomes.specs.SpotRaces.{IsSpotRace}
use Rattle.xt_outcomes.specs.Spots.{Spot}
use Rattle.xt_outcomes.specs.declared.world.World.{World}
use Rattle.xt_outcomes.proofs.Raced.{free_after, kept_of_race, race_found, race_is_kept_after}
use Rattle.xt_outcomes.proofs.Finding.{carried, meets_orders}
use Rattle.xt_outcomes.proofs.races.race_of.Goals as goal

pub next_turns-requires-clause-race : goal.next_turns-requires-clause-race
next_turns-requires-clause-race c =
    let image = c.args.image.now in
    let o = c.args.options.now in
    let s = c.args.search.now in
    let ks = s.graph.kept.items in
    let n = c.loop-number.number in
    let code = code_of image in
    let m = memory_of image o in
    let x = c.index.result.now in
    let a = c.in-Some.access0 in
    let b = c.in-Some.access1 in
    let many : c.len-number-end.result ≡ length s.graph.nexts.items = c.len-number-end.ensures ∙ s.graph.nexts.ok.0 in
    let less : n < c.len-number-end.result = c.loop-number-test.true in
    let within : length s.graph.nexts.items ≤ length ks = c.requires.search.graph.within in
    let at = at_kept ks n x (slice_get_read ks (length ks) n x refl (omega arith) c.index.ensures) in
    let race : IsSpotRace code (spot_of m x.world) a b =
    carried (λ k l. IsSpotRace k (spot_of l x.world) a b) s.machine.code image.segments s.machine.opening.contents m c.requires.search.code c.requires.search.opening c.in-Some.ensures in
    subst (λ (l : List ℕ). IsNextRace code s.machine.timed (world_after (processor code) s.machine.timed (opening_of image o) l) a b) (sym c.as_slice.ensures.value)
    (race_found image o s c.requires.search n x.world c.in_ok-order.order.items a b (omega arith) at c.in_ok-order.ensures.found race)

pub returns-in-Some-clause-race : goal.returns-in-Some-clause-race
returns-in-Some-clause-race c =
    let image = c.args.image.now in
    let o = c.args.options.now in
    let s = c.args.search.now in
    let ks = s.graph.kept.items in
    let n = c.loop-number.number in
    let code = code_of image in
    let m = memory_of image o in
    let x = c.index.result.now in
    let a = c.in-Some.access0 in
    let b = c.in-Some.access1 in
    let many : c.len-number-end.result ≡ length s.graph.nexts.items = c.len-number-end.ensures ∙ s.graph.nexts.ok.0 in
    let less : n < c.len-number-end.result = c.loop-number-test.true in
    let within : length s.graph.nexts.items ≤ length ks = c.requires.search.graph.within in
    let at = at_kept ks n x (slice_get_read ks (length ks) n x refl (omega arith) c.index.ensures) in
    let race : IsSpotRace code (spot_of m x.world) a b =
    carried (λ k l. IsSpotRace k (spot_of l x.world) a b) s.machine.code image.segments s.machine.opening.contents m c.requires.search.code c.requires.search.opening c.in-Some.ensures in
    record {
      order = c.in_ok-order.ensures.order;
      race = race_found image o s c.requires.search n x.world c.in_ok-order.order.items a b (omega arith) at c.in_ok-order.ensures.found race;
      turns = subst (λ (l : List ℕ). AreNextTurns code (world_after (processor code) s.machine.timed (opening_of image o) l) c.in_ok-turns.turns.0 c.in_ok-turns.turns.1) c.as_slice.ensures.value c.in_ok-turns.ensures;
    }

pub loop-number-preserved : goal.loop-number-preserved
loop-number-preserved c = λ k w a b lo at race.
    let ks = c.args.search.now.graph.kept.items in
    let n = c.loop-number.number in
    let m = memory_of c.args.image.now c.args.options.now in
    let s = c.args.search.now in
    let x = c.index.result.now in
    let many : c.len-number-end.result ≡ length s.graph.nexts.items = c.len-number-end.ensures ∙ s.graph.nexts.ok.0 in
    let less : n < c.len-number-end.result = c.loop-number-test.true in
    let within : length s.graph.nexts.items ≤ length ks = c.requires.search.graph.within in
    let here = at_kept ks n x (slice_get_read ks (length ks) n x refl (omega arith) c.index.ensures) in
    ⊎_elim
    (λ (is : k ≡ n).
    let e = at_once ks n w x.world (subst (λ (j : ℕ). IsAt ks j w) is at) here in
    let moved = subst (λ (v : World). IsSpotRace (code_of c.args.image.now) (spot_of m v) a b) e race in
    c.in_default.ensures a b (carried (λ j l. IsSpotRace j (spot_of l x.world) a b) c.args.image.now.segments s.machine.code m s.machine.opening.contents (sym c.requires.search.code) (sym c.requires.search.opening) moved))
    (λ (isnt : k ≢ n).
    let other : ¬ (k ≡ n) = isnt in
    let below : k < n + 1 = lo in
    c.loop-number.invariant k w a b (omega arith) at race)
    (cases_eq k n)

pub returns-clause-none : goal.returns-clause-none
returns-clause-none c = λ whole order a b is race.
    let s = c.args.search.now in
    let ks = s.graph.kept.items in
    let code = code_of c.args.image.now in
    let bytes = c.requires.search.bytes in
    let met = meets_orders c.args.image.now c.args.options.now s c.requires.search whole order is in
    let after = world_after (processor code) s.machine.timed (opening_of c.args.image.now c.args.options.now) order in
    let raced = kept_of_race code bytes s.machine.dead.masks.items s.machine.timed after a b (free_after c.args.image.now c.args.options.now s order met bytes) race in
    let r = race_is_kept_after c.args.image.now c.args.options.now s order met a b raced in
    let many : c.len-number-end.result ≡ length s.graph.nexts.items = c.len-number-end.ensures ∙ s.graph.nexts.ok.0 in
    let past : c.len-number-end.result ≤ c.loop-number.number = c.loop-number-test.false in
    let all : length s.graph.nexts.items ≡ length ks = whole.whole in
    let within : r.0 < length ks = at_within ks r.0 r.1 r.2 in
    c.loop-number.invariant r.0 r.1 a b (omega arith) r.2 (subst (λ (p : Spot State). IsSpotRace code p a b) (sym r.3) raced)
