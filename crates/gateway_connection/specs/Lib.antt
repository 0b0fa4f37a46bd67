pub mod Content
pub mod Exchanges
pub mod History
pub mod Readers
pub mod ReadersInUse
pub mod Responses
pub mod Steps
