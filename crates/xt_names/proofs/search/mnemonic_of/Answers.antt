use Rattle.std.proofs.Common.{◌≡◌, ℕ, ◌+◌, ◌-◌, ◌/◌, ◌<◌, ◌≤◌, length, sym, ap, ◌∙◌, subst, arith, cond, Some, None}
use Rattle.std.specs.Str.{bytes_eq}
use Rattle.xt_names.specs.Names.{mnemonics, name_of}
use Rattle.xt_names.specs.Search.{key}
use Rattle.xt_names.proofs.Searched.{at, at_in, at_key, at_no_key, key_of, keys_rise_to}
use Rattle.xt_names.proofs.search.mnemonic_of.Goals as goal

pub loop-low-init : goal.loop-low-init
loop-low-init c =
    let same : length c.mnemonics-all.result.now ≡ length mnemonics = ap length c.mnemonics-all.ensures.all in
    (omega (arith, same), λ j below. absurd (omega (arith, below)), λ j behind within. absurd (omega (arith, same, behind, within)))

pub bounds-all-middle : goal.bounds-all-middle
bounds-all-middle c =
    let same : length c.mnemonics-all.result.now ≡ length mnemonics = ap length c.mnemonics-all.ensures.all in
    let top = c.loop-low.invariant.0 in
    let open_ = c.loop-low-test.true in
    omega (arith, same, top, open_)

pub offset_bounds-all-middle : goal.offset_bounds-all-middle
offset_bounds-all-middle c =
    let same : length c.mnemonics-all.result.now ≡ length mnemonics = ap length c.mnemonics-all.ensures.all in
    let top = c.loop-low.invariant.0 in
    let count = c.mnemonics-all.ensures.count in
    let open_ = c.loop-low-test.true in
    omega (arith, same, top, count, open_)

pub loop-low-preserved-then-here-wanted : goal.loop-low-preserved-then-here-wanted
loop-low-preserved-then-here-wanted c =
    let middle : ℕ = c.loop-low.low + (c.loop-low.high - c.loop-low.low) / 2 in
    let top = c.loop-low.invariant.0 in
    let open_ = c.loop-low-test.true in
    let here : c.key-here.result ≡ key_of (at middle) = c.key-here.ensures ∙ (ap key (c.as_bytes.ensures.value ∙ c.name_of.ensures) ∙ ap (λ ms. key (name_of (at_in ms middle))) c.mnemonics-all.ensures.all) in
    let less = c.if-here-wanted.true in
    (top, λ j below. let up = keys_rise_to j middle (omega arith) (omega (arith, top, open_)) in omega (arith, up, here, less), c.loop-low.invariant.2)

pub loop-low-preserved : goal.loop-low-preserved
loop-low-preserved c =
    let middle : ℕ = c.loop-low.low + (c.loop-low.high - c.loop-low.low) / 2 in
    let top = c.loop-low.invariant.0 in
    let open_ = c.loop-low-test.true in
    let here : c.key-here.result ≡ key_of (at middle) = c.key-here.ensures ∙ (ap key (c.as_bytes.ensures.value ∙ c.name_of.ensures) ∙ ap (λ ms. key (name_of (at_in ms middle))) c.mnemonics-all.ensures.all) in
    let more = c.if-wanted-here.true in
    (omega (arith, top, open_), c.loop-low.invariant.1, λ j behind within. let up = keys_rise_to middle j behind within in omega (arith, up, here, more))

pub returns-else-wanted-here : goal.returns-else-wanted-here
returns-else-wanted-here c =
    let middle : ℕ = c.loop-low.low + (c.loop-low.high - c.loop-low.low) / 2 in
    let top = c.loop-low.invariant.0 in
    let open_ = c.loop-low-test.true in
    let here : c.key-here.result ≡ key_of (at middle) = c.key-here.ensures ∙ (ap key (c.as_bytes.ensures.value ∙ c.name_of.ensures) ∙ ap (λ ms. key (name_of (at_in ms middle))) c.mnemonics-all.ensures.all) in
    let least = c.if-here-wanted.false in
    let most = c.if-wanted-here.false in
    let same : key_of (at middle) ≡ key c.args.name.now = sym here ∙ (omega (arith, least, most) ∙ c.key-wanted.ensures) in
    c.named.ensures ∙ (ap (λ ms. cond (bytes_eq (name_of (at_in ms middle)) c.args.name.now) (Some (at_in ms middle)) None) c.mnemonics-all.ensures.all ∙ sym (at_key c.args.name.now middle (omega (arith, top, open_)) same))

pub returns : goal.returns
returns c =
    let met : c.loop-low.high ≤ c.loop-low.low = c.loop-low-test.false in
    let below : (j : ℕ) → j < c.loop-low.low → key_of (at j) < key c.args.name.now = λ j less. subst (λ k. key_of (at j) < k) c.key-wanted.ensures (c.loop-low.invariant.1 j less) in
    let beyond : (j : ℕ) → c.loop-low.high ≤ j → j < length mnemonics → key c.args.name.now < key_of (at j) = λ j behind within. subst (λ k. k < key_of (at j)) c.key-wanted.ensures (c.loop-low.invariant.2 j behind within) in
    sym (at_no_key c.args.name.now c.loop-low.low c.loop-low.high met below beyond)
