-- The line of a record in a printed trace ('profile').
--
-- Note: a record shows PC, CCOUNT, PS.OWB and INTERRUPT as the turn began, but the written register
-- by its number in the window in which the turn ends. The reply is 0 where there is no access.
use Rattle.std.specs.Prelude.{ℕ, Option, Some, None, List, [], ◌++◌, codes}
use Rattle.std.specs.Fmt.{decimal}
use Rattle.xt_word.specs.Hexadecimal.{hex8}
use Rattle.xt_map.specs.declared.access.Kind.{Kind}
use Rattle.xt_map.specs.declared.access.Kind.TheVariants.{Load, Store, Cas}
use Rattle.xt_map.specs.declared.access.Access.{Access}
use Rattle.xt_trace.specs.declared.record.RegWrite.{RegWrite}
use Rattle.xt_trace.specs.declared.record.StepKind.{StepKind}
use Rattle.xt_trace.specs.declared.record.StepKind.TheVariants.{Insn, Window, Exc, Interrupt, Wait}
use Rattle.xt_trace.specs.declared.record.StepKind.TheVariants.{Stop}
use Rattle.xt_trace.specs.declared.record.StepRecord.{StepRecord}

-- what the turn was
abbrev pub kind_text : StepKind → List ℕ
kind_text Insn = codes "insn"
kind_text (Window vector) = codes "window " ++ decimal vector
kind_text (Exc cause) = codes "exc " ++ decimal cause
kind_text (Interrupt level) = codes "int " ++ decimal level
kind_text Wait = codes "wait"
kind_text Stop = codes "stop"

-- ` aR=VALUE`, where a register was written
abbrev pub write_text : Option RegWrite → List ℕ
write_text None = []
write_text (Some w) = codes " a" ++ decimal w.reg ++ codes "=" ++ hex8 w.value

-- ` ldS ADDR -> REPLY`, ` stS ADDR VALUE` or ` cas ADDR EXPECT NEW -> REPLY`, with S the size
abbrev pub call_text : Kind → ℕ → ℕ → ℕ → List ℕ
call_text Load addr size reply =
    codes " ld" ++ decimal size ++ codes " " ++ hex8 addr ++ codes " -> " ++ hex8 reply
call_text (Store value) addr size reply =
    codes " st" ++ decimal size ++ codes " " ++ hex8 addr ++ codes " " ++ hex8 value
call_text (Cas expected new) addr size reply =
    codes " cas " ++ hex8 addr ++ codes " " ++ hex8 expected ++ codes " " ++ hex8 new
    ++ codes " -> " ++ hex8 reply

-- the access, where there was one
abbrev pub access_text : Option Access → ℕ → List ℕ
access_text None reply = []
access_text (Some a) reply = call_text a.kind a.addr a.size reply

-- `C STEP PC KIND`, the register that was written, and the access
unfoldable pub line_text : ℕ → ℕ → StepRecord → List ℕ
line_text core step r =
    decimal core ++ codes " " ++ decimal step ++ codes " " ++ hex8 r.pc ++ codes " "
    ++ kind_text r.kind ++ write_text r.write
    ++ access_text r.access r.reply ++ codes "\n"
