-- Profile: scripts and what they print; DEBUGGING.md shows each command.
pub mod Grammar
pub mod ScriptAnswers
pub mod Printed
pub mod Searches
pub mod Depths
pub mod Calls
pub mod FrameNotes
pub mod FrameWalks
pub mod Scripts
pub mod Runs
