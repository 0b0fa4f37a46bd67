pub mod Notes
pub mod Plans
pub mod Resources
pub mod Targets
