pub mod Tags
pub mod Entries
pub mod Paths
pub mod Opening
pub mod Plans
