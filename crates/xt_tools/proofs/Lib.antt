pub mod Reading
pub mod Scripted
pub mod Lining
pub mod Heading
pub mod Replying
pub mod Putting
mod Lined
