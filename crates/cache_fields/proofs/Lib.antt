pub mod DirectiveLemmas
pub mod FieldLemmas
pub mod FreshnessLemmas
pub mod TargetLemmas
