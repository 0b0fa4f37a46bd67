pub mod ChoiceLemmas
mod ElementLemmas
mod LanguageLemmas
pub mod LawLemmas
mod LookupLemmas
mod ParameterLemmas
mod PreferenceLemmas
mod RangeLemmas
