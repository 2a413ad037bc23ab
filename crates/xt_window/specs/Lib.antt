pub mod Ring
pub mod Values
pub mod Moves
pub mod WindowAnswers
pub mod WindowLaws
pub mod FrontAndRing
