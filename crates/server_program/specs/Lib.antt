pub mod Entries
pub mod Log
