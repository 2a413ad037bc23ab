-- The two disciplines of uses ('profile'). The strict one forgets what the calling convention of
-- windows gives a function no right to.
--
-- Profile: there are two disciplines (`Disciplines`), one machine with a parameter. `uses` and `run
-- --uses` judge by the strict one, `uses --lenient` by the lenient one. The lenient one counts all
-- else as known: memory that nobody stored, an earlier call's locals, what a callee leaves in its
-- registers, and PS.OWB. The strict one also forgets what the calling convention of windows gives a
-- function no right to: as a core opens, the bytes of its stack below its stack pointer
-- (`opens_unknown`); where a step raises the stack pointer, as RETW and MOVSP do, the bytes from 16
-- below the old one, where the save area of the frame began, up to the new one (`forgets`); and
-- after a RETW the callee's registers, except its results a2 to a5 (`leave_results`). PS.OWB, which
-- shows the window exceptions that came, is neither known nor used there, in PS and in EPS2 to EPS7
-- (`counted_bits`). ENTRY forgets no byte: a new frame is unknown by what came before it, and what
-- a caller stores below its own stack pointer for its callee stays known. Memory outside of stacks
-- opens known.
use Rattle.std.specs.Prelude.{Bool, true, false}
pub use Rattle.xt_uses.specs.declared.discipline.Discipline.{Discipline}
pub use Rattle.xt_uses.specs.declared.discipline.Discipline.TheVariants.{Strict, Lenient}

abbrev pub is_strict : Discipline → Bool
is_strict Strict = true
is_strict Lenient = false
