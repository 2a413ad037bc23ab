pub mod Following
pub mod FlowTables
pub mod FlowLaws
pub mod Printing
pub mod Sources
pub mod Starts
