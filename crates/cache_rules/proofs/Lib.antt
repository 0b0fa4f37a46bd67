pub mod ConditionLemmas
pub mod FieldLemmas
pub mod FresheningLemmas
pub mod FullLemmas
pub mod IdentifyingLemmas
pub mod SelectionLemmas
pub mod StoringLemmas
