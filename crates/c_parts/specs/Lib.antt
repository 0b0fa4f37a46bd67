pub mod Endings
pub mod FieldText
pub mod SectionMap
pub mod Ownership
pub mod Formats
pub mod Written
