pub mod Arrivals
pub mod Elements
pub mod Fields
pub mod Last
pub mod Nodes
pub mod Connections
pub mod Replaced
pub mod Sent
