-- Profile: beside the stack discipline: what is not known may be carried and computed with, and
-- only its use is a breach. In both disciplines the new registers of an ENTRY and the registers of
-- a nested interrupt are not known, nor are bytes that are or were in a save area until a judged
-- store writes them. In both, static memory that nobody stored is 0 and known, and so are CCOUNT
-- and INTERRUPT. A register has a value and a mask of the bits that are known of it, and each byte
-- of memory that the bus serves has a mask. A use decides where the program goes on, an address, a
-- count, a special register, whether a register is written, or a byte that is sent. `Lacks` says
-- which registers of an instruction are shown. `UseWalk`, `UseParts`, `UseLevels` and `Snapshots`
-- carry the proof of the walk. `Verdicts` of `xt_use_walk` joins `FirstUse` to an image, a run and two lists
-- of records. `Held` of `xt_report` says what is proved of a run's uses, in the words of an
-- image and its run, and `UsesText`, `Breaches` and `UseFindings` what is printed. `xt_simulation` defines
-- nothing that a command's contract rests on: `UseRunLaws` states its laws for the course of a run, and
-- `Knowing` says what the machine of uses knows of a frame state that has the processor's numbers.
pub mod Disciplines
pub mod Words
pub mod Used
pub mod Known
pub mod UseState
pub mod UseStep
pub mod UseBreaches
pub mod FirstUse
pub mod UseLaws
pub mod UseParts
pub mod UseQuick
pub mod UseLevels
pub mod Lacks
pub mod UseWalk
pub mod Snapshots
