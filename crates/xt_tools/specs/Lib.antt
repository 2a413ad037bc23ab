-- Profile: scripts and what they print are those of `xt_debug`, recordings those of `xt_record`.
pub mod Commands
pub mod Puts
pub mod Session
pub mod Calls
pub mod Reads
