pub mod MaskedBytes
pub mod Sides
pub mod Verdicts
pub mod Walks
