pub mod Worlds
pub mod Graphs
pub mod Chains
pub mod Ends
pub mod Searched
pub mod Meetings
pub mod Changed
pub mod Apart
