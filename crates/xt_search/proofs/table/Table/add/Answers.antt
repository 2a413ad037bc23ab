use Rattle.std.proofs.Common.{◌≡◌, ℕ, suc, ◌+◌, ◌<◌, List, [], ◌∷◌, ◌++◌, length, get_or, slice_set, sym, ap, ◌∙◌, subst, arith}
use Rattle.std.proofs.lemmas.List.{length_push}
use Rattle.xt_search.specs.Chains.{IsChained, chain_of}
use Rattle.xt_search.proofs.Chaining.{one_more}
use Rattle.xt_search.proofs.table.Table.add.Goals as goal

pub returns-clause-chained : goal.returns-clause-chained
returns-clause-chained c = λ cs h.
    let last = c.args.self.now.last.items in
    let before = c.args.self.now.before.items in
    let chain = c.chain_of-chain.result in
    let new = c.push.new.self.items in
    let inside : chain < length last =
    let e : length last ≡ 1048576 = c.requires.many in
    let l : chain < 1048576 = c.chain_of-chain.ensures.within in
    omega arith in
    let pushed : new ≡ before ++ get_or last chain 0 ∷ [] = c.in_ok-push.ensures.items ∙ ap (λ (x : ℕ). before ++ x ∷ []) c.number_at-last.ensures in
    let long : length new ≡ length before + 1 = ap length pushed ∙ length_push before (get_or last chain 0) in
    let len : c.len.result ≡ length new = c.len.ensures ∙ c.push.new.self.ok.0 in
    let same : length before ≡ length cs = h.as_long in
    let count : suc (length cs) ≡ c.len.result = omega arith in
    subst (λ (n : ℕ). IsChained (slice_set last chain n) new (cs ++ chain_of c.args.digest ∷ [])) count
    (subst (λ (b : List ℕ). IsChained (slice_set last chain (suc (length cs))) b (cs ++ chain_of c.args.digest ∷ [])) (sym pushed)
    (subst (λ (d : ℕ). IsChained (slice_set last chain (suc (length cs))) (before ++ get_or last chain 0 ∷ []) (cs ++ d ∷ [])) c.chain_of-chain.ensures.chain
    (one_more last before cs chain h inside)))
