pub mod ApiKeyLemmas
pub mod MaxForwardsLemmas
