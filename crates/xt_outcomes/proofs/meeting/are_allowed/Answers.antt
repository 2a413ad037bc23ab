use Rattle.std.proofs.Common.{◌≡◌, ◌≢◌, ℕ, ◌+◌, ◌<◌, ◌≤◌, length, refl, sym, ap, ◌∙◌, subst, ⊎_elim, arith}
use Rattle.std.proofs.lemmas.Bool.{cases_eq, true≢false}
use Rattle.std.proofs.lemmas.Option.{slice_get_read}
use Rattle.xt_map.specs.Memory.{constant_byte}
use Rattle.xt_search.specs.Graphs.{IsAt}
use Rattle.xt_search.proofs.Numbers.{at_kept, at_once, at_within}
use Rattle.xt_outcomes.specs.Places.{is_told}
use Rattle.xt_outcomes.specs.declared.world.World.{World}
use Rattle.xt_outcomes.proofs.meeting.are_allowed.Goals as goal

pub loop-number-preserved : goal.loop-number-preserved
loop-number-preserved c = λ k w lo at.
    let s = c.args.search.now in
    let ks = s.graph.kept.items in
    let n = c.loop-number.number in
    let x = c.index.result.now in
    let many : c.len-number-end.result ≡ length ks = c.len-number-end.ensures ∙ s.graph.kept.ok.0 in
    let less : n < c.len-number-end.result = c.loop-number-test.true in
    let here = at_kept ks n x (slice_get_read ks (length ks) n x refl (omega arith) c.index.ensures) in
    ⊎_elim
    (λ (is : k ≡ n).
    let e : w ≡ x.world = at_once ks n w x.world (subst (λ (j : ℕ). IsAt ks j w) is at) here in (
      ap (λ (v : World). is_told (constant_byte s.machine.code) s.machine.places.list.items 0 v.side0.value) e ∙ sym (ap (is_told (constant_byte s.machine.code) s.machine.places.list.items 0) (c.side.ensures s.machine.opening.contents)) ∙ (sym c.is_told.ensures ∙ c.if-not-is_told.false),
      ap (λ (v : World). is_told (constant_byte s.machine.code) s.machine.places.list.items 1 v.side1.value) e ∙ sym (ap (is_told (constant_byte s.machine.code) s.machine.places.list.items 1) (c.side-in-loop-number.ensures s.machine.opening.contents)) ∙ (sym c.is_told-in-loop-number.ensures ∙ c.if-not-is_told-2.false),
    ))
    (λ (isnt : k ≢ n).
    let other : ¬ (k ≡ n) = isnt in
    let below : k < n + 1 = lo in
    c.loop-number.invariant k w (omega arith) at)
    (cases_eq k n)

pub returns-then-not-is_told : goal.returns-then-not-is_told
returns-then-not-is_told c =
    let s = c.args.search.now in
    let ks = c.args.search.now.graph.kept.items in
    let n = c.loop-number.number in
    let x = c.index.result.now in
    let many : c.len-number-end.result ≡ length ks = c.len-number-end.ensures ∙ c.args.search.now.graph.kept.ok.0 in
    let less : n < c.len-number-end.result = c.loop-number-test.true in
    let here = at_kept ks n x (slice_get_read ks (length ks) n x refl (omega arith) c.index.ensures) in (
      λ t. absurd (true≢false (sym t)),
      λ a. absurd (true≢false (sym (a n x.world here).0 ∙ sym (ap (is_told (constant_byte s.machine.code) s.machine.places.list.items 0) (c.side.ensures s.machine.opening.contents)) ∙ sym c.is_told.ensures ∙ c.if-not-is_told.true)),
    )

pub returns-then-not-is_told-2 : goal.returns-then-not-is_told-2
returns-then-not-is_told-2 c =
    let s = c.args.search.now in
    let ks = c.args.search.now.graph.kept.items in
    let n = c.loop-number.number in
    let x = c.index.result.now in
    let many : c.len-number-end.result ≡ length ks = c.len-number-end.ensures ∙ c.args.search.now.graph.kept.ok.0 in
    let less : n < c.len-number-end.result = c.loop-number-test.true in
    let here = at_kept ks n x (slice_get_read ks (length ks) n x refl (omega arith) c.index.ensures) in (
      λ t. absurd (true≢false (sym t)),
      λ a. absurd (true≢false (sym (a n x.world here).1 ∙ sym (ap (is_told (constant_byte s.machine.code) s.machine.places.list.items 1) (c.side-in-loop-number.ensures s.machine.opening.contents)) ∙ sym c.is_told-in-loop-number.ensures ∙ c.if-not-is_told-2.true)),
    )

pub returns : goal.returns
returns c = (
  λ t k w at.
      let ks = c.args.search.now.graph.kept.items in
      let many : c.len-number-end.result ≡ length ks = c.len-number-end.ensures ∙ c.args.search.now.graph.kept.ok.0 in
      let past : c.len-number-end.result ≤ c.loop-number.number = c.loop-number-test.false in
      let within : k < length ks = at_within ks k w at in
      c.loop-number.invariant k w (omega arith) at,
  λ a. refl,
)
