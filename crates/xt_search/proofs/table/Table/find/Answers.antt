use Rattle.std.proofs.Common.{◌≡◌, ◌≢◌, ℕ, suc, ◌+◌, ◌-◌, ◌<◌, ◌≤◌, Some, List, length, get_or, sym, ap, ◌∙◌, subst, ⊎_elim, arith}
use Rattle.std.proofs.lemmas.Bool.{cases_eq, cases_lt}
use Rattle.xt_search.specs.declared.graph.Kept.{Kept}
use Rattle.xt_search.specs.Chains.{chain_of}
use Rattle.xt_search.specs.Graphs.{IsAt}
use Rattle.xt_search.proofs.Chaining.{newest_within, one_before}
use Rattle.xt_search.proofs.table.Table.find.Goals as goal

pub loop-init : goal.loop-init
loop-init g c =
    let t = c.requires.table in
    let last = c.args.self.now.last.items in
    let start = c.number_at-number.result in
    let chain = chain_of c.args.digest in
    let is : start ≡ get_or last chain 0 = c.number_at-number.ensures ∙ ap (λ (x : ℕ). get_or last x 0) c.chain_of.ensures.chain in
    let most : start ≤ length t.cs = newest_within last c.args.self.now.before.items t.cs t.chained start chain (sym is) in
    let long : length t.cs ≡ length c.args.kept.now.items = t.as_long in
    record {
      within = omega arith;
      chain = λ cs n h e. h.leads chain n (sym is ∙ e);
      passed = λ cs k w h at le here same.
          let less : k < get_or last chain 0 = h.newest k chain at in
          let low : start ≤ k = le in
          absurd (omega arith);
    }

pub loop-preserved : goal.loop-preserved
loop-preserved g c =
    let t = c.requires.table in
    let before = c.args.self.now.before.items in
    let kept = c.args.kept.now.items in
    let chain = chain_of c.args.digest in
    let inv = c.loop.invariant in
    let at = c.loop.number - 1 in
    let next = c.number_at-number-in-loop.result in
    let is : c.loop.number ≡ suc at = one_before c.loop.number c.if-number-eq0.false in
    let nis : next ≡ get_or before at 0 = c.number_at-number-in-loop.ensures in
    let long : length t.cs ≡ length kept = t.as_long in
    let old : c.loop.number + c.loop.counter ≤ length kept = inv.within in
    let inside : at < length t.cs = omega arith in
    let less : get_or before at 0 ≤ at = t.chained.older at inside in
    record {
      within = omega arith;
      chain = λ cs n h e. h.stays at n chain (inv.chain cs at h is) (sym nis ∙ e);
      passed = λ cs k w h here le there same.
          let low : next ≤ k = le in
          ⊎_elim
          (λ (below : k < at).
          let next_in : k < get_or before at 0 = h.next k at chain below here (inv.chain cs at h is) in
          absurd (omega arith))
          (λ (above : at ≤ k). ⊎_elim
          (λ (one : k ≡ at).
          let on : IsAt c.deref.result.now at w =
          subst (λ (l : List (Kept g.row.M-World.Denot)). IsAt l at w) (sym c.deref.ensures.value) (subst (λ (j : ℕ). IsAt kept j w) one there) in
          c.is_kept.ensures.differ c.if-is_kept.false w on same)
          (λ (no : k ≢ at).
          let other : ¬ (k ≡ at) = no in
          inv.passed cs k w h here (omega arith) there same)
          (cases_eq k at))
          (cases_lt k at);
    }

pub returns-then-number-eq0-clause-new : goal.returns-then-number-eq0-clause-new
returns-then-number-eq0-clause-new g c = λ k v at same.
    let t = c.requires.table in
    let r = t.marks k v at in
    let e : r.0 ≡ c.args.digest = g.met.M.Machine.marks_agree c.args.machine.now v c.args.world.now r.0 c.args.digest same r.1 c.requires.digest in
    let none : c.loop.number ≡ 0 = c.if-number-eq0.true in
    c.loop.invariant.passed t.cs k v t.chained (r.2 ∙ ap (λ (d : ℕ). Some (chain_of d)) e) (omega arith) at same

pub returns-clause-new : goal.returns-clause-new
returns-clause-new g c = λ k v at same.
    let t = c.requires.table in
    let r = t.marks k v at in
    let e : r.0 ≡ c.args.digest = g.met.M.Machine.marks_agree c.args.machine.now v c.args.world.now r.0 c.args.digest same r.1 c.requires.digest in
    let within : c.loop.number + c.loop.counter ≤ length c.args.kept.now.items = c.loop.invariant.within in
    let past : c.len-end.result ≤ c.loop.counter = c.loop-test.false in
    let many : c.len-end.result ≡ length c.args.kept.now.items = c.len-end.ensures ∙ c.args.kept.now.ok.0 in
    let none : c.loop.number ≤ 0 = omega arith in
    c.loop.invariant.passed t.cs k v t.chained (r.2 ∙ ap (λ (d : ℕ). Some (chain_of d)) e) (omega arith) at same
