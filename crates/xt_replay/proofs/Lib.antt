pub mod Listing
pub mod Walking
pub mod Standing
pub mod Placing
pub mod Keeping
pub mod Inside
pub mod Moving
pub mod Recorded
mod Bytes
