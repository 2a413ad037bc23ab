-- Profile: the format is this project's own; RECORDING.md describes it.
pub mod Fields
pub mod RecordingParts
pub mod Fitting
pub mod Rules
pub mod Heads
pub mod SoFar
pub mod Checkpoints
pub mod TurnRules
pub mod Format
pub mod Written
pub mod Joined
pub mod Walking
pub mod Standing
