pub mod DigestLemmas
pub mod ListingLemmas
pub mod PathLemmas
pub mod RedirectLemmas
