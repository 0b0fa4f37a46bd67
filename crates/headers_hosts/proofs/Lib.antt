pub mod FormatterLemmas
pub mod OneLineLemmas
pub mod OriginLemmas
