pub mod Numbers
pub mod Operands
pub mod Effects
pub mod Outcomes
pub mod Settling
pub mod RowLaws
pub mod Kinds
