use Rattle.std.proofs.Common.{◌≡◌, ◌+◌, ◌*◌, ◌≤◌, ◌^◌, ℕ, Option, drop, fold, sym, ◌∙◌, ap, arith, cond, Some, None, nat_lt, false}
use Rattle.std.proofs.lemmas.List.{at_drop_more}
use Rattle.std.proofs.lemmas.Bool.{le-ltb}
use Rattle.xt_lex.specs.TextBytes.{number_of}
use Rattle.xt_lex.proofs.NumberLemmas.{next_number, number_grows}
use Rattle.xt_lex.proofs.bytes.number_in.Goals as goal

pub returns-then-number : goal.returns-then-number
returns-then-number c =
    let base = c.args.base in
    let digits = c.args.digits.now in
    let place = c.loop-byte.byte-index in
    let whole : fold (next_number base) (c.loop-byte.number * base + c.digit.result) (drop (place + 1) digits) ≡ number_of base digits
    = ap (λ d. fold (next_number base) (c.loop-byte.number * base + d) (drop (place + 1) digits)) c.digit.ensures.value
    ∙ sym (at_drop_more (fold (next_number base) c.loop-byte.number) digits place 0 c.loop-byte-test.true) ∙ c.loop-byte.invariant.value in
    let large : 2 ^ 32 ≤ number_of base digits = omega (arith, number_grows base (c.loop-byte.number * base + c.digit.result) (drop (place + 1) digits) c.requires.least, whole) in
    let over : nat_lt (number_of base digits) (2 ^ 32) ≡ false = le-ltb _ _ large in
    sym (ap (λ b. cond {A = Option ℕ} b (Some (number_of base digits)) None) over)
