pub use Rattle.headers_items.proofs.WalkRuns
pub use Rattle.headers_names.proofs.ReadingLemmas
pub use Rattle.headers_names.proofs.RoundTripLemmas
pub use Rattle.headers_ranges.proofs.RangeLemmas
pub use Rattle.headers_syntax.proofs.EntityTagLemmas
pub use Rattle.headers_syntax.proofs.TextLemmas
pub mod ContentTypeLemmas
