pub mod Fronts
pub mod Listing
pub mod Operands
pub mod Reading
