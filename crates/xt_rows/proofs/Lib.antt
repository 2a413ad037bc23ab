pub mod Bounds
pub mod Forms
pub mod Proper
pub mod Registers
pub mod Fitting
pub mod Modes
pub mod Pointer
pub mod Stored
