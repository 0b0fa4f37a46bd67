pub mod BasicLemmas
pub mod SchemeLemmas
