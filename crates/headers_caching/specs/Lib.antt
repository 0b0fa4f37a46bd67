pub mod CacheControl
pub mod CacheControlGrammar
pub mod CacheControlLaws
