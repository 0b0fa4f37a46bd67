pub mod LogLemmas
pub mod PlaceLemmas
