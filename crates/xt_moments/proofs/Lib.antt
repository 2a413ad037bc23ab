mod Turned
mod Opens
mod CodeBytes
mod Orders
pub mod Masks
mod Clocks
mod Entered
pub mod Moments
pub mod MovedWorlds
pub mod OneOutcome
pub mod Waiting
pub mod Awaited
pub mod Ready
pub mod Less
pub mod Forced
