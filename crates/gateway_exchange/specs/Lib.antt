-- Definitions that the contracts cite.
pub mod Authorities
pub mod Decisions
pub mod History
pub mod Messages
pub mod Own
pub mod Passing
pub mod Steps
pub mod Targets
pub mod Tunnels
