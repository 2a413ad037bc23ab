pub mod Runs
pub mod Cores
pub mod Cursors
pub mod Turns
pub mod Positions
