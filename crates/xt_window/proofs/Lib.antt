pub mod Alone
pub mod Bits
pub mod Fronts
pub mod Nearest
pub mod Undone
