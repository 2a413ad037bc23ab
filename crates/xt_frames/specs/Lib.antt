-- STACK.md explains the machine with unbounded frames, its breaches and the theorem, with an
-- example.
pub mod Frames
pub mod FrameStep
pub mod Marks
pub mod Nesting
pub mod SaveAreas
pub mod HandlerSteps
pub mod Breaches
pub mod Judging
pub mod Verdict
pub mod FirstBreach
pub mod Stacks
pub mod KeptFrameState
pub mod Walked
pub mod Backtrace
pub mod Stepped
pub mod Quick
pub mod Levels
