pub mod Turning
pub mod Scheduled
pub mod Cursors
