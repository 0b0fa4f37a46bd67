pub mod ContentLemmas
pub mod PieceLemmas
pub mod RangeLemmas
