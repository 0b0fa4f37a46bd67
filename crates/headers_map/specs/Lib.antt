pub mod Canonical
pub mod InsertErrors
pub mod LastRead
pub mod LineMap
pub mod Typed
