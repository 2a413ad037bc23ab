use Rattle.std.proofs.Common.{◌≡◌, ◌≢◌, ℕ, ◌+◌, ◌<◌, ◌≤◌, length, ap, ◌∙◌, subst, ⊎_elim, arith}
use Rattle.std.proofs.lemmas.Bool.{cases_eq}
use Rattle.xt_core.specs.Runs.{code_of, memory_of, opening_of}
use Rattle.xt_exec.specs.Chips.{processor}
use Rattle.xt_outcomes.specs.Orders.{world_after}
use Rattle.xt_outcomes.proofs.Finding.{ended_is_kept_after, ended_same, meets_orders, outcome_same}
use Rattle.xt_search.specs.Graphs.{IsAt}
use Rattle.xt_search.proofs.Numbers.{at_within}
use Rattle.xt_outcomes.specs.Endings.{has_ended, outcome_at}
use Rattle.xt_outcomes.specs.KeptWorlds.{spot_of}
use Rattle.xt_outcomes.specs.Listing.{Lists}
use Rattle.xt_outcomes.proofs.Continuing.{there}
use Rattle.xt_outcomes.proofs.listing.outcomes_of.Goals as goal

pub loop-number-preserved : goal.loop-number-preserved
loop-number-preserved c =
    let ks = c.args.search.now.graph.kept.items in
    let m = memory_of c.args.image.now c.args.options.now in
    let words = c.args.words.now in
    let n = c.loop-number.number in
    let many : c.len-number-end.result ≡ length ks = c.len-number-end.ensures ∙ c.args.search.now.graph.kept.ok.0 in
    let less : n < c.len-number-end.result = c.loop-number-test.true in
    let w = there ks n (omega arith) in
    let a = c.in_ok-add.ensures w.0 w.1 in
    record {
      real = a.real c.loop-number.invariant.real;
      rising = a.rising c.loop-number.invariant.rising;
      listed = λ k v lo at ended. ⊎_elim
          (λ (is : k ≡ n). (c.in_ok-add.ensures v (subst (λ (j : ℕ). IsAt ks j v) is at)).listed ended)
          (λ (isnt : k ≢ n).
          let other : ¬ (k ≡ n) = isnt in
          let below : k < n + 1 = lo in
          a.kept (outcome_at words (spot_of m v)) (c.loop-number.invariant.listed k v (omega arith) at ended))
          (cases_eq k n);
    }

pub returns-clause-all : goal.returns-clause-all
returns-clause-all c = λ whole order is ended.
    let ks = c.args.search.now.graph.kept.items in
    let timed = c.args.search.now.machine.timed in
    let after = world_after (processor (code_of c.args.image.now)) timed (opening_of c.args.image.now c.args.options.now) order in
    let met = meets_orders c.args.image.now c.args.options.now c.args.search.now c.requires.search whole order is in
    let r = ended_is_kept_after c.args.image.now c.args.options.now c.args.search.now c.requires.search order met (ended_same timed after ∙ ended) in
    let many : c.len-number-end.result ≡ length ks = c.len-number-end.ensures ∙ c.args.search.now.graph.kept.ok.0 in
    let past : c.len-number-end.result ≤ c.loop-number.number = c.loop-number-test.false in
    let within : r.0 < length ks = at_within ks r.0 r.1 r.2 in
    let l = c.loop-number.invariant.listed r.0 r.1 (omega arith) r.2 (ap has_ended r.3 ∙ ended_same timed after ∙ ended) in
    subst (Lists c.loop-number.list.items) (ap (outcome_at c.args.words.now) r.3 ∙ outcome_same timed c.args.words.now after) l
