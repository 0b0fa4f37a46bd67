pub mod ReadingLemmas
pub mod RoundTripLemmas
