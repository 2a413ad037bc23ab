use Rattle.std.proofs.Common.{◌≡◌, ◌+◌, ◌-◌, ◌<◌, ◌∷◌, ℕ, ℤ, List, length, drop, get_or, pos, refl, sym, ◌∙◌, ap, arith, not}
use Rattle.std.specs.BTreeMap.{get}
use Rattle.std.proofs.lemmas.List.{drop_more, get_or_default}
use Rattle.std.proofs.lemmas.Option.{slice_get_read}
use Rattle.std.specs.Prelude.{Some, option_and_then, slice_get}
use Rattle.xt_layout.specs.declared.word.PoolWord.{PoolWord}
use Rattle.xt_asm.specs.Operands.{word_for}
use Rattle.xt_asm.specs.Uses.{key_cmp}
use Rattle.xt_asm.proofs.Indexing.{pass_by, put_in_front}
use Rattle.xt_asm.proofs.targets.index_of.Goals as goal

-- the words from a place on are the word there and those after it
words_cut : (i : ℕ) (words : List PoolWord) (w : PoolWord) → 0 < i → i - 1 < length words → w ≡ get_or words (i - 1) w → drop (i - 1) words ≡ w ∷ drop i words
words_cut i words w some lt is =
    let next : i - 1 + 1 ≡ i = omega arith in
    drop_more words (i - 1) w lt ∙ ap (λ x. x ∷ drop (i - 1 + 1) words) (sym is) ∙ ap (λ n. w ∷ drop n words) next

addresses_cut : (i : ℕ) (addresses : List ℤ) → 0 < i → i - 1 < length addresses → drop (i - 1) addresses ≡ get_or addresses (i - 1) (pos 0) ∷ drop i addresses
addresses_cut i addresses some lt =
    let next : i - 1 + 1 ≡ i = omega arith in
    drop_more addresses (i - 1) (pos 0) lt ∙ ap (λ n. get_or addresses (i - 1) (pos 0) ∷ drop n addresses) next

slice_get_is : (addresses : List ℤ) (i : ℕ) → i < length addresses → slice_get addresses i ≡ Some (get_or addresses i (pos 0))
slice_get_is addresses i lt = slice_get_read addresses (length addresses) i (get_or addresses i (pos 0)) refl lt (get_or_default addresses i (pos 0) (get_or addresses i (pos 0)) lt)

pub loop-i-preserved-in_ok-insert : goal.loop-i-preserved-in_ok-insert
loop-i-preserved-in_ok-insert c = λ addresses same q.
    let words : List PoolWord = c.args.words.now in
    let i : ℕ = c.loop-i.i in
    let a : ℤ = get_or addresses (i - 1) (pos 0) in
    let w : PoolWord = c.index-words-i.result in
    let within : i - 1 < length addresses = omega arith in
    put_in_front w a (i - 1) addresses (w.position, c.as_slice.result) q (drop i words) (drop i addresses) (get key_cmp c.loop-i.index q) (get key_cmp c.insert.new.self q)
    (ap not (c.is_none.ensures ∙ ap not c.if-is_none.true)) refl c.as_slice.ensures (slice_get_is addresses (i - 1) within) (c.loop-i.invariant addresses same q) (c.in_ok-insert.ensures.updates.0 q)
    ∙ ap (λ ws. word_for q.0 q.1.now ws (a ∷ drop i addresses)) (sym (words_cut i words w (omega arith) (omega arith) c.index-words-i.is))
    ∙ ap (λ xs. word_for q.0 q.1.now (drop (i - 1) words) xs) (sym (addresses_cut i addresses (omega arith) within))

pub loop-i-preserved : goal.loop-i-preserved
loop-i-preserved c = λ addresses same q.
    let words : List PoolWord = c.args.words.now in
    let i : ℕ = c.loop-i.i in
    let a : ℤ = get_or addresses (i - 1) (pos 0) in
    let w : PoolWord = c.index-words-i.result in
    pass_by w a q (drop i words) (drop i addresses) (option_and_then (λ i. slice_get addresses i) (get key_cmp c.loop-i.index q)) (ap not (c.is_none.ensures ∙ ap not c.if-is_none.false)) (c.loop-i.invariant addresses same q)
    ∙ ap (λ ws. word_for q.0 q.1.now ws (a ∷ drop i addresses)) (sym (words_cut i words w (omega arith) (omega arith) c.index-words-i.is))
    ∙ ap (λ xs. word_for q.0 q.1.now (drop (i - 1) words) xs) (sym (addresses_cut i addresses (omega arith) (omega arith)))
