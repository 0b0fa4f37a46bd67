pub mod Calendar
pub mod Date
pub mod Reader
pub mod Text
pub mod Bytes
pub mod Dictionaries
pub mod Items
pub mod Values
