use Rattle.std.proofs.Common.{◌≡◌, ℕ, Option, Some, true, false, eq-eqb, sym, ap, ◌∙◌}
use Rattle.std.proofs.lemmas.Bool.{eqb-true}
use Rattle.std.specs.Prelude.{slice_get, nat_eq}
use Rattle.xt_core.specs.Positions.{schedule_in}
use Rattle.xt_replay.specs.Places.{trace_in}
use Rattle.xt_replay.specs.Shown.{shown_at, step_in}
use Rattle.xt_replay.proofs.Inside.{run_seen, within_seen}
use Rattle.xt_replay.proofs.Placing.{fewer_steps, other_next, some_is, stands_before}
use Rattle.xt_replay.proofs.replay.Replay.is_at.Goals as goal

pub returns-then-made-step-clause-before : goal.returns-then-made-step-clause-before
returns-then-made-step-clause-before c = λ e.
    let s = c.args.self.now in
    let ne : step_in c.args.core (shown_at s.image s.run s.position) ≡ c.args.step → ⊥ = λ q. c.if-made-step.true (c.made.ensures ∙ q) in
    (fewer_steps s.image s.run (run_seen c.self.inside s c.self.view_is c.self.invariant) s.position c.args.core c.args.step c.requires.core
    (within_seen c.self.inside s c.self.view_is c.self.invariant) c.requires.step c.requires.comes ne).more

pub returns-then-made-step-clause-on : goal.returns-then-made-step-clause-on
returns-then-made-step-clause-on c = λ e.
    let s = c.args.self.now in
    let ne : step_in c.args.core (shown_at s.image s.run s.position) ≡ c.args.step → ⊥ = λ q. c.if-made-step.true (c.made.ensures ∙ q) in
    (fewer_steps s.image s.run (run_seen c.self.inside s c.self.view_is c.self.invariant) s.position c.args.core c.args.step c.requires.core
    (within_seen c.self.inside s c.self.view_is c.self.invariant) c.requires.step c.requires.comes ne).on

pub returns-in-Some-clause-here : goal.returns-in-Some-clause-here
returns-in-Some-clause-here c = λ e.
    let s = c.args.self.now in
    let made : step_in c.args.core (shown_at s.image s.run s.position) ≡ c.args.step = sym c.made.ensures ∙ c.if-made-step.false in
    let ne : (trace_in c.args.core s.run).count ≡ c.args.step → ⊥ = λ q. c.if-count-step.false (c.count.ensures ∙ q) in
    stands_before s.image s.run (run_seen c.self.inside s c.self.view_is c.self.invariant) s.position c.args.core c.args.step c.requires.core
    (within_seen c.self.inside s c.self.view_is c.self.invariant) c.requires.step ne made
    (sym c.in-Some.ensures ∙ ap (λ (k : ℕ). let x : Option ℕ = Some k in x) (eqb-true c.in-Some.next c.args.core e))

pub returns-in-Some-clause-before : goal.returns-in-Some-clause-before
returns-in-Some-clause-before c = λ e.
    let s = c.args.self.now in
    let ne : (trace_in c.args.core s.run).count ≡ c.args.step → ⊥ = λ q. c.if-count-step.false (c.count.ensures ∙ q) in
    let other : slice_get (schedule_in s.run) s.position ≡ Some c.args.core → ⊥ =
    λ q. (let yes : nat_eq c.in-Some.next c.args.core ≡ true = eq-eqb c.in-Some.next c.args.core (some_is c.in-Some.next c.args.core (c.in-Some.ensures ∙ q)) in let no : true ≡ false = sym yes ∙ e in absurd cc) in
    (other_next s.image s.run (run_seen c.self.inside s c.self.view_is c.self.invariant) s.position c.args.core c.args.step c.requires.core
    (within_seen c.self.inside s c.self.view_is c.self.invariant) c.requires.step c.requires.comes ne other).more

pub returns-in-Some-clause-on : goal.returns-in-Some-clause-on
returns-in-Some-clause-on c = λ e.
    let s = c.args.self.now in
    let ne : (trace_in c.args.core s.run).count ≡ c.args.step → ⊥ = λ q. c.if-count-step.false (c.count.ensures ∙ q) in
    let other : slice_get (schedule_in s.run) s.position ≡ Some c.args.core → ⊥ =
    λ q. (let yes : nat_eq c.in-Some.next c.args.core ≡ true = eq-eqb c.in-Some.next c.args.core (some_is c.in-Some.next c.args.core (c.in-Some.ensures ∙ q)) in let no : true ≡ false = sym yes ∙ e in absurd cc) in
    (other_next s.image s.run (run_seen c.self.inside s c.self.view_is c.self.invariant) s.position c.args.core c.args.step c.requires.core
    (within_seen c.self.inside s c.self.view_is c.self.invariant) c.requires.step c.requires.comes ne other).on

pub returns-in-None-clause-before : goal.returns-in-None-clause-before
returns-in-None-clause-before c = λ e.
    let s = c.args.self.now in
    let ne : (trace_in c.args.core s.run).count ≡ c.args.step → ⊥ = λ q. c.if-count-step.false (c.count.ensures ∙ q) in
    let other : slice_get (schedule_in s.run) s.position ≡ Some c.args.core → ⊥ = λ q. (let no = c.in-None.ensures ∙ q in absurd cc) in
    (other_next s.image s.run (run_seen c.self.inside s c.self.view_is c.self.invariant) s.position c.args.core c.args.step c.requires.core
    (within_seen c.self.inside s c.self.view_is c.self.invariant) c.requires.step c.requires.comes ne other).more

pub returns-in-None-clause-on : goal.returns-in-None-clause-on
returns-in-None-clause-on c = λ e.
    let s = c.args.self.now in
    let ne : (trace_in c.args.core s.run).count ≡ c.args.step → ⊥ = λ q. c.if-count-step.false (c.count.ensures ∙ q) in
    let other : slice_get (schedule_in s.run) s.position ≡ Some c.args.core → ⊥ = λ q. (let no = c.in-None.ensures ∙ q in absurd cc) in
    (other_next s.image s.run (run_seen c.self.inside s c.self.view_is c.self.invariant) s.position c.args.core c.args.step c.requires.core
    (within_seen c.self.inside s c.self.view_is c.self.invariant) c.requires.step c.requires.comes ne other).on
