pub mod Answers
pub mod Applies
pub mod Fields
pub mod Guards
pub mod Reasons
pub mod Representations
pub mod Requests
pub mod Vary
