pub mod Apart
pub mod ByRanges
pub mod Numbers
pub mod Ranges
pub mod Shown
pub mod Spelling
