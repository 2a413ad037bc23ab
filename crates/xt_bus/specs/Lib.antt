-- Profile: views of a memory and a bus for contracts. What an access does is `Serving` of `xt_map`.
pub mod ListBytes
pub mod Places
pub mod States
pub mod Keeps
pub mod BusKeeps
pub mod State
