use Rattle.std.proofs.Common.{arith, ◌∙◌, sym}
use Rattle.xt_handlers.specs.Symbols.{opening, effect_after_step}
use Rattle.xt_handlers.specs.declared.stretch.HandlerInsn.TheVariants.{L32e, S32e}
use Rattle.xt_map.specs.Memory.{constant_byte}
use Rattle.xt_handlers.specs.Vectors.{vector_bytes}
use Rattle.xt_handlers.proofs.Bytes.{code_bytes-length, here_at, cut_at, rfwo_stops, rfwu_stops, foreign_at}
use Rattle.xt_handlers.proofs.Lines.{handling_is, rfwo_ends, rfwu_ends}
use Rattle.xt_handlers.proofs.vector.check_bytes.Goals as goal
use Rattle.xt_handlers.proofs.vector.check_bytes.Goals.{in-L32e, in-S32e, in-Nop}

pub loop-offset-init : goal.loop-offset-init
loop-offset-init c = (opening, c.start-evaluation.ensures, handling_is c.args.side c.args.n (vector_bytes (constant_byte c.args.code.now) c.args.at), omega arith)

pub returns-in-Overflow : goal.returns-in-Overflow
returns-in-Overflow c =
    let i = c.loop-offset.invariant in
    let h = here_at c.args.side c.args.n i.0 (vector_bytes (constant_byte c.args.code.now) c.args.at) c.loop-offset.offset c.length_of-len.result c.byte_at-first.result c.byte_at-second.result c.byte_at-third.result _ _
    (code_bytes-length (constant_byte c.args.code.now) c.args.at 64) c.length_of-len.ensures.low c.length_of-len.ensures.value (omega arith) c.byte_at-first.ensures c.byte_at-second.ensures c.byte_at-third.ensures c.in-Rfwo.ensures.spelled i.2 in
    c.ending.ensures i.0 i.1 ∙ (sym (rfwo_ends c.args.side c.args.n c.loop-offset.offset i.0 _ c.in-Overflow.is) ∙ h)

pub returns-in-Underflow-side : goal.returns-in-Underflow-side
returns-in-Underflow-side c =
    let i = c.loop-offset.invariant in
    let h = here_at c.args.side c.args.n i.0 (vector_bytes (constant_byte c.args.code.now) c.args.at) c.loop-offset.offset c.length_of-len.result c.byte_at-first.result c.byte_at-second.result c.byte_at-third.result _ _
    (code_bytes-length (constant_byte c.args.code.now) c.args.at 64) c.length_of-len.ensures.low c.length_of-len.ensures.value (omega arith) c.byte_at-first.ensures c.byte_at-second.ensures c.byte_at-third.ensures c.in-Rfwu.ensures.spelled i.2 in
    c.ending-in-Underflow-side.ensures i.0 i.1 ∙ (sym (rfwu_ends c.args.side c.args.n c.loop-offset.offset i.0 _ c.in-Underflow-side.is) ∙ h)

pub loop-offset-preserved : goal.loop-offset-preserved
loop-offset-preserved c =
    let i = c.loop-offset.invariant in
    elim c.match-step_of.branch [
      | in-L32e w ↦ (
        effect_after_step i.0 (L32e w.in-L32e.target w.in-L32e.base w.in-L32e.back),
        rw w.evaluation-is (w.load.ensures i.0 i.1),
        here_at c.args.side c.args.n i.0 (vector_bytes (constant_byte c.args.code.now) c.args.at) c.loop-offset.offset c.length_of-len.result c.byte_at-first.result c.byte_at-second.result c.byte_at-third.result _ _
            (code_bytes-length (constant_byte c.args.code.now) c.args.at 64) c.length_of-len.ensures.low c.length_of-len.ensures.value (omega arith) c.byte_at-first.ensures c.byte_at-second.ensures c.byte_at-third.ensures w.in-L32e.ensures.spelled i.2,
        omega arith,
      )
      | in-S32e w ↦ (
        effect_after_step i.0 (S32e w.in-S32e.source w.in-S32e.base w.in-S32e.back),
        rw w.evaluation-is (w.store.ensures i.0 i.1),
        here_at c.args.side c.args.n i.0 (vector_bytes (constant_byte c.args.code.now) c.args.at) c.loop-offset.offset c.length_of-len.result c.byte_at-first.result c.byte_at-second.result c.byte_at-third.result _ _
            (code_bytes-length (constant_byte c.args.code.now) c.args.at 64) c.length_of-len.ensures.low c.length_of-len.ensures.value (omega arith) c.byte_at-first.ensures c.byte_at-second.ensures c.byte_at-third.ensures w.in-S32e.ensures.spelled i.2,
        omega arith,
      )
      | in-Nop w ↦ (
        i.0,
        rw w.evaluation-is i.1,
        here_at c.args.side c.args.n i.0 (vector_bytes (constant_byte c.args.code.now) c.args.at) c.loop-offset.offset c.length_of-len.result c.byte_at-first.result c.byte_at-second.result c.byte_at-third.result _ _
            (code_bytes-length (constant_byte c.args.code.now) c.args.at 64) c.length_of-len.ensures.low c.length_of-len.ensures.value (omega arith) c.byte_at-first.ensures c.byte_at-second.ensures c.byte_at-third.ensures w.in-Nop.ensures.spelled i.2,
        omega arith,
      )
    ]

pub returns-then-offset-len-gt64 : goal.returns-then-offset-len-gt64
returns-then-offset-len-gt64 c =
    let i = c.loop-offset.invariant in
    cut_at c.args.side c.args.n i.0 (vector_bytes (constant_byte c.args.code.now) c.args.at) c.loop-offset.offset c.length_of-len.result c.byte_at-first.result _
    (code_bytes-length (constant_byte c.args.code.now) c.args.at 64) c.length_of-len.ensures.value (omega arith) (omega arith) c.byte_at-first.ensures i.2

pub returns-in-Underflow : goal.returns-in-Underflow
returns-in-Underflow c =
    let i = c.loop-offset.invariant in
    let h = here_at c.args.side c.args.n i.0 (vector_bytes (constant_byte c.args.code.now) c.args.at) c.loop-offset.offset c.length_of-len.result c.byte_at-first.result c.byte_at-second.result c.byte_at-third.result _ _
    (code_bytes-length (constant_byte c.args.code.now) c.args.at 64) c.length_of-len.ensures.low c.length_of-len.ensures.value (omega arith) c.byte_at-first.ensures c.byte_at-second.ensures c.byte_at-third.ensures c.in-Rfwo.ensures.spelled i.2 in
    sym (rfwo_stops c.args.side c.args.n c.loop-offset.offset i.0 _ c.in-Underflow.is) ∙ h

pub returns-in-Overflow-side : goal.returns-in-Overflow-side
returns-in-Overflow-side c =
    let i = c.loop-offset.invariant in
    let h = here_at c.args.side c.args.n i.0 (vector_bytes (constant_byte c.args.code.now) c.args.at) c.loop-offset.offset c.length_of-len.result c.byte_at-first.result c.byte_at-second.result c.byte_at-third.result _ _
    (code_bytes-length (constant_byte c.args.code.now) c.args.at 64) c.length_of-len.ensures.low c.length_of-len.ensures.value (omega arith) c.byte_at-first.ensures c.byte_at-second.ensures c.byte_at-third.ensures c.in-Rfwu.ensures.spelled i.2 in
    sym (rfwu_stops c.args.side c.args.n c.loop-offset.offset i.0 _ c.in-Overflow-side.is) ∙ h

pub returns-in-Foreign : goal.returns-in-Foreign
returns-in-Foreign c =
    let i = c.loop-offset.invariant in
    foreign_at c.args.side c.args.n i.0 (vector_bytes (constant_byte c.args.code.now) c.args.at) c.loop-offset.offset c.length_of-len.result c.byte_at-first.result c.byte_at-second.result c.byte_at-third.result _
    (code_bytes-length (constant_byte c.args.code.now) c.args.at 64) c.length_of-len.ensures.low c.length_of-len.ensures.value (omega arith) c.byte_at-first.ensures c.byte_at-second.ensures c.byte_at-third.ensures c.in-Foreign.ensures.spelled i.2
