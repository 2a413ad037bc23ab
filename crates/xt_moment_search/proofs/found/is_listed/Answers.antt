use Rattle.std.proofs.Common.{◌≡◌, ◌∙◌, List, ℕ, sym, ap, subst}
use Rattle.xt_search.specs.Changed.{ChangesState, contents_of}
use Rattle.xt_search.proofs.Putting.{changes_send_none}
use Rattle.std.specs.List.{Contains}
use Rattle.xt_moments.specs.Outcomes.{MomentOutcome}
use Rattle.xt_moment_search.specs.Sides.{KnownCore}
use Rattle.xt_moment_search.specs.Told.{outcomes_in}
use Rattle.xt_moment_search.proofs.found.is_listed.Goals as goal

pub returns : goal.returns
returns c = λ yes.
    let m = c.args.machine.now.ground.opening.contents in
    let v = c.args.world.now in
    let held = v.held.value in
    let sent : c.sent.result.now ≡ (contents_of m held).sent =
    c.sent.ensures ∙ ap (λ (x : ChangesState). x.sent) c.deref.ensures
    ∙ sym (changes_send_none (record m { sent = held.sent }) held.bytes) in
    let pc0 = c.pc.ensures ∙ ap (λ (x : KnownCore). x.state.control.pc) c.deref-2.ensures in
    let pc1 = c.pc-2.ensures ∙ ap (λ (x : KnownCore). x.state.control.pc) c.deref-3.ensures in
    let words = c.as_slice.ensures.value ∙ c.in_ok-values.ensures in
    let make : List ℕ → ℕ → ℕ → List ℕ → MomentOutcome = λ s a b w. record { sent = s; pc0 = a; pc1 = b; words = w } in
    subst (Contains (outcomes_in c.args.list.now)) (λ i. make (sent i) (pc0 i) (pc1 i) (words i)) (c.is_in.ensures yes)
