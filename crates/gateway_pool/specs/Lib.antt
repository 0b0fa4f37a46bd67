pub mod Choices
pub mod Histories
pub mod Pools
