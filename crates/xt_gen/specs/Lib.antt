pub mod Generated
pub mod Orders
