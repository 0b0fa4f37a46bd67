pub mod CanonicalLemmas
pub mod KnownLemmas
pub mod MimeLemmas
pub mod ReadingLemmas
pub mod TokenLemmas
pub mod WritingLemmas
