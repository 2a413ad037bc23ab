-- One word more in front of those whose addresses are known.
use Rattle.std.proofs.Common.{◌≡◌, ℕ, ℤ, Bool, true, false, ◌&&◌, cond, eqb, List, ◌∷◌, Option, Some, is_none, refl, sym, ◌∙◌, ap}
use Rattle.std.specs.Prelude.{zip, find, option_and_then, slice_get}
use Rattle.std.specs.Option.{option_map}
use Rattle.std.specs.Ordering.{is_eq, nat_cmp}
use Rattle.std.specs.Cmp.Lexicographic.{slice_cmp}
use Rattle.xt_lex.specs.contracts.expr.TermOrd.TheImpl.{ghosts}
use Rattle.xt_layout.specs.declared.word.PoolWord.{PoolWord}
use Rattle.xt_layout.specs.Pools.{same_terms}
use Rattle.xt_layout.proofs.Alike.{and_alike, number_alike, terms_alike}
use Rattle.xt_asm.specs.Operands.{serves, word_for}
use Rattle.xt_asm.specs.Uses.{Key, key_cmp}

-- two keys are alike exactly where the places and the terms are the same
pub keys_alike : (k q : Key) → is_eq (key_cmp k q) ≡ (eqb k.0 q.0 && same_terms k.1.now q.1.now)
keys_alike k q = and_alike (nat_cmp k.0 q.0) (slice_cmp ghosts.cmp k.1.now q.1.now)
    ∙ ap (λ b. b && is_eq (slice_cmp ghosts.cmp k.1.now q.1.now)) (number_alike k.0 q.0)
    ∙ ap (λ b. eqb k.0 q.0 && b) (terms_alike k.1.now q.1.now)

chosen : (b : Bool) (i : ℕ) (a : ℤ) (w : PoolWord) (addresses : List ℤ) (before : Option ℕ) (rest : Option (PoolWord × ℤ)) → slice_get addresses i ≡ Some a →
    option_and_then (λ i. slice_get addresses i) before ≡ option_map (λ x. x.1) rest →
    option_and_then (λ i. slice_get addresses i) (cond b (Some i) before) ≡ option_map (λ x. x.1) (cond b (Some (w, a)) rest)
chosen true i a w addresses before rest here known = here
chosen false i a w addresses before rest here known = known

-- a word without a name, where its number was put under its key
pub put_in_front : (w : PoolWord) (a : ℤ) (i : ℕ) (all : List ℤ) (k q : Key) (words : List PoolWord) (addresses : List ℤ) (before after : Option ℕ) → is_none w.name ≡ true → k.0 ≡ w.position → k.1.now ≡ w.value →
    slice_get all i ≡ Some a → option_and_then (λ i. slice_get all i) before ≡ word_for q.0 q.1.now words addresses → after ≡ cond (is_eq (key_cmp k q)) (Some i) before →
    option_and_then (λ i. slice_get all i) after ≡ word_for q.0 q.1.now (w ∷ words) (a ∷ addresses)
put_in_front w a i all k q words addresses before after nameless place terms here known put =
    ap (λ o. option_and_then (λ i. slice_get all i) o) (put
    ∙ ap (λ b. cond b (Some i) before) (keys_alike k q)
    ∙ ap (λ n. cond (eqb n q.0 && same_terms k.1.now q.1.now) (Some i) before) place
    ∙ ap (λ e. cond (eqb w.position q.0 && same_terms e q.1.now) (Some i) before) terms
    ∙ ap (λ b. cond (eqb w.position q.0 && (b && same_terms w.value q.1.now)) (Some i) before) (sym nameless))
    ∙ chosen (serves q.0 q.1.now w) i a w all before (find (λ x. serves q.0 q.1.now x.0) (zip words addresses)) here known

named_serves : (a n : Bool) (s : Bool) → n ≡ false → (a && (n && s)) ≡ false
named_serves true n s e = ap (λ b. b && s) e
named_serves false n s e = refl

-- a word with a name serves no use
pub pass_by : (w : PoolWord) (a : ℤ) (q : Key) (words : List PoolWord) (addresses : List ℤ) (found : Option ℤ) → is_none w.name ≡ false →
    found ≡ word_for q.0 q.1.now words addresses → found ≡ word_for q.0 q.1.now (w ∷ words) (a ∷ addresses)
pass_by w a q words addresses found named known =
    known ∙ sym (ap (λ b. option_map (λ x. x.1) (cond b (Some (w, a)) (find (λ x. serves q.0 q.1.now x.0) (zip words addresses)))) (named_serves (eqb w.position q.0) (is_none w.name) (same_terms w.value q.1.now) named))
