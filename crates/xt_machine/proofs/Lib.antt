pub mod Driven
pub mod Images
pub mod Opened
pub mod Rests
pub mod Bits
