pub mod MediaType
pub mod MediaTypeReading
pub mod MimeText
