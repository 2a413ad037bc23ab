mod Bystander
pub mod Executed
pub mod Counts
pub mod InStep
pub mod Stepping
mod Whole
pub mod Turning
mod Walking
pub mod Opened
pub mod Making
pub mod Saw
mod Silent
