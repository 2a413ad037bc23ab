use Rattle.std.proofs.Common.{◌≡◌, List, ℕ, ap, sym, ◌∙◌, subst, length, arith, ◌<◌, ◌^◌}
use Rattle.std.specs.Prelude.{All}
use Rattle.xt_layout.specs.Pools.{IsAmong}
use Rattle.xt_layout.specs.Addresses.{line_addresses, word_addresses}
use Rattle.xt_layout.proofs.Laying.{length-line_addresses, lines_are, words_are}
use Rattle.xt_layout.proofs.Reaching.{lines_in_weight}
use Rattle.xt_layout.proofs.Wording.{length-words}
use Rattle.xt_layout.proofs.laid.laid_on.Goals as goal

pub word_addresses-requires-clause-few : goal.word_addresses-requires-clause-few
word_addresses-requires-clause-few c = omega (arith, c.requires.text.few, lines_in_weight c.args.lines.now, c.requires.text.small)

pub word_addresses-requires-clause-places : goal.word_addresses-requires-clause-places
word_addresses-requires-clause-places c =
    let lines_eq : c.in_ok-addresses.addresses.items ≡ line_addresses c.args.lines.now =
    lines_are c.args.lines.now c.args.words.now c.as_slice.result.now c.in_ok-addresses.addresses.items c.requires.text.words_are (c.as_slice.ensures.value ∙ c.requires.walk.spots_are) c.in_ok-addresses.ensures.addresses in
    let P : ℕ → Type 0 = λ n. All (IsAmong n) c.args.words.now in
    subst P (sym (ap length (c.as_slice-2.ensures.value ∙ lines_eq) ∙ length-line_addresses c.args.lines.now)) c.requires.text.places

pub laid_at-requires-clause-addresses : goal.laid_at-requires-clause-addresses
laid_at-requires-clause-addresses c =
    c.as_slice-3.ensures.value
    ∙ lines_are c.args.lines.now c.args.words.now c.as_slice.result.now c.in_ok-addresses.addresses.items c.requires.text.words_are (c.as_slice.ensures.value ∙ c.requires.walk.spots_are) c.in_ok-addresses.ensures.addresses

pub laid_at-requires-clause-fit : goal.laid_at-requires-clause-fit
laid_at-requires-clause-fit c =
    let P : List ℕ → Type 0 = All (λ a. a < 2 ^ 40) in
    subst P (sym c.as_slice-3.ensures.value) c.in_ok-addresses.ensures.fit

pub laid_at-requires-clause-same : goal.laid_at-requires-clause-same
laid_at-requires-clause-same c = ap length (c.as_slice-4.ensures.value ∙ c.in_ok-of_words.ensures.words) ∙ length-words c.as_slice-2.result.now c.args.words.now

pub laid_at-requires-clause-of_words : goal.laid_at-requires-clause-of_words
laid_at-requires-clause-of_words c =
    let lines_eq : c.in_ok-addresses.addresses.items ≡ line_addresses c.args.lines.now =
    lines_are c.args.lines.now c.args.words.now c.as_slice.result.now c.in_ok-addresses.addresses.items c.requires.text.words_are (c.as_slice.ensures.value ∙ c.requires.walk.spots_are) c.in_ok-addresses.ensures.addresses in
    c.as_slice-4.ensures.value
    ∙ words_are c.args.lines.now c.args.words.now c.as_slice-2.result.now c.in_ok-of_words.of_words.items c.requires.text.words_are (c.as_slice-2.ensures.value ∙ lines_eq) c.in_ok-of_words.ensures.words

pub laid_at-requires-clause-small : goal.laid_at-requires-clause-small
laid_at-requires-clause-small c =
    let P : List ℕ → Type 0 = All (λ a. a < 2 ^ 40) in
    subst P (sym c.as_slice-4.ensures.value) c.in_ok-of_words.ensures.small
