pub mod Halves
pub mod Apart
pub mod Following
pub mod Turned
pub mod Folded
pub mod Bounds
