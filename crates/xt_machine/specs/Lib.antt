pub mod Lists
pub mod Driving
pub mod Machines
pub mod Going
pub mod Shorts
pub mod InterruptBits
