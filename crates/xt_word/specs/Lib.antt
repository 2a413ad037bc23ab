pub mod Words
pub mod Hexadecimal
pub mod Signed
pub mod Arithmetic
pub mod Shifts
pub mod Conditions
pub mod Registers
