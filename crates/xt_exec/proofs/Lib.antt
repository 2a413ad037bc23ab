pub mod Replies
pub mod Specials
pub mod Shapes
pub mod Finished
pub mod Served
pub mod Tied
pub mod Clear
pub mod Returns
