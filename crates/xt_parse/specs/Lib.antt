pub mod Gives
pub mod Lines
pub mod Reading
pub mod Small
pub mod Statements
pub mod Words
