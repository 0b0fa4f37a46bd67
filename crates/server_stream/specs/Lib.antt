pub mod Exchanges
pub mod Heads
pub mod History
pub mod Steps
