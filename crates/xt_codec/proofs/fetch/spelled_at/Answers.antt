use Rattle.std.proofs.Common.{◌≡◌, ℕ, ◌+◌, Option, Some, None, refl}
use Rattle.xt_isa.specs.declared.Insn.{Insn}
use Rattle.xt_isa.specs.Spelling.{length_of, spelled_insn, fields_at}
use Rattle.xt_map.specs.Memory.{constant_byte}
use Rattle.xt_codec.specs.declared.Decoded.TheVariants as decoded
use Rattle.xt_codec.specs.DecoderAnswers.{answer}
use Rattle.xt_map.specs.Fetching.{Fetches, SpellsNothing, read_as}
use Rattle.xt_codec.proofs.fetch.spelled_at.Goals as goal

good : (b0 n : ℕ) (x : Option Insn) (i : Insn) → decoded.Good i n ≡ answer b0 x → read_as x (length_of b0) ≡ Fetches i n
good b0 n None i h = cc
good b0 n (Some j) i h = cc

illegal : (b0 : ℕ) (x : Option Insn) → decoded.Illegal ≡ answer b0 x → read_as x (length_of b0) ≡ SpellsNothing
illegal b0 None h = refl
illegal b0 (Some j) h = cc

pub returns-in-Good-clause-fetched : goal.returns-in-Good-clause-fetched
returns-in-Good-clause-fetched g c =
    let code = constant_byte c.args.code.now in
    let pc = c.args.pc in
    let spelling : decoded.Good c.in-Good.insn c.in-Good.len ≡ answer (code pc) (spelled_insn (fields_at (code pc) (code (pc + 1)) (code (pc + 2)))) =
    rw c.code_three-b0.ensures at c.in-Good.ensures.spelled in
    (good (code pc) c.in-Good.len (spelled_insn (fields_at (code pc) (code (pc + 1)) (code (pc + 2)))) c.in-Good.insn spelling, c.in-Good.ensures.fits)

pub returns-in-Illegal-clause-fetched : goal.returns-in-Illegal-clause-fetched
returns-in-Illegal-clause-fetched g c =
    let code = constant_byte c.args.code.now in
    let pc = c.args.pc in
    let spelling : decoded.Illegal ≡ answer (code pc) (spelled_insn (fields_at (code pc) (code (pc + 1)) (code (pc + 2)))) =
    rw c.code_three-b0.ensures at c.in-Illegal.ensures.spelled in
    illegal (code pc) (spelled_insn (fields_at (code pc) (code (pc + 1)) (code (pc + 2)))) spelling
