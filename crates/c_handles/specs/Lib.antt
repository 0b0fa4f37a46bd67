pub mod Handles
pub mod Ownership
pub mod Passes
pub mod Policies
pub mod Resources
pub mod Sections
pub mod Views
