mod Sending
pub mod Judging
pub mod Framing
mod Courses
mod Fetching
mod Kept
pub mod Writing
pub mod Gathering
pub mod Quiet
mod Words
