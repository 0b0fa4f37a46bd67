pub mod Answered
pub mod Literal
pub mod Requests
pub mod Sendable
pub mod Served
pub mod Stores
