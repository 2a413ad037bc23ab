pub mod Headers
pub mod Rules
pub mod Format
pub mod Spans
