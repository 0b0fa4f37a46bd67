pub mod AppendLemmas
pub mod CacheLemmas
pub mod EqualityLemmas
pub mod LineLemmas
