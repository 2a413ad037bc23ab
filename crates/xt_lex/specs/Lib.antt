pub mod TextBytes
pub mod Runs
pub mod Fronts
pub mod Forms
pub mod Tokens
pub mod Labels
pub mod Values
