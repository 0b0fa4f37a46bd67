pub mod DecodeLemmas
pub mod LineLemmas
pub mod SectionLemmas
pub mod Crossing
pub mod HandleValues
pub mod FlagLemmas
pub mod WrittenLemmas
