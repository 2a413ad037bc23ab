pub mod Bits
pub mod Digits
pub mod Products
pub mod BooleanBits
pub mod Groups
