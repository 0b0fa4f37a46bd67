pub mod Age
pub mod Directives
pub mod Fields
pub mod Freshness
pub mod Targets
