use Rattle.std.proofs.Common.{pos, ◌^◌, ◌≤ℤ◌, ◌<ℤ◌, arith}
use Rattle.std.proofs.lemmas.Int.{ints}
use Rattle.xt_asm.proofs.Codes.{code_is_word}
use Rattle.xt_asm.proofs.image.entry_address.Goals as goal

pub word_of-requires : goal.word_of-requires
word_of-requires c =
    let word = code_is_word c.in-Some.value (c.requires c.in-Some.value c.in-Some.is) in
    let least : pos 0 ≤ℤ c.in-Some.value = word.0 in
    let most : c.in-Some.value <ℤ pos (2 ^ 32) = word.1 in
    record { least = omega (arith, ints); most = omega (arith, ints) }
