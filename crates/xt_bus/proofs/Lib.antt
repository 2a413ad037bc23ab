pub mod Loaded
pub mod Located
pub mod Opening
pub mod Regional
