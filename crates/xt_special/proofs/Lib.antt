pub mod Shapes
pub mod PsWords
pub mod Kept
