pub mod Layout
pub mod Findings
pub mod Rules
pub mod Format
pub mod ImageParts
pub mod Made
