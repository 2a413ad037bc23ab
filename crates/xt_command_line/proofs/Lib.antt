pub mod Digits
pub mod Hexadecimal
pub mod Parses
pub mod Ranges
pub mod TurnTexts
pub mod Rules
mod RequirementTexts
mod SpanTexts
