pub mod ApartRows
pub mod Ranged
pub mod Reached
pub mod RowByRow
pub mod ThirdByte
pub mod WholeWord
