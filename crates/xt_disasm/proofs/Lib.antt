pub mod Decoding
pub mod Joined
pub mod ReadBack
pub mod Segmented
pub mod Walks
