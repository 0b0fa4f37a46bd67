pub mod Answer
pub mod CanonicalText
pub mod KnownHeaders
pub mod MapErrors
pub mod Printed
pub mod Section
