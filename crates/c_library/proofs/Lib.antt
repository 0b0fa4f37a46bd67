pub mod CanonicalLemmas
pub mod DirectiveLemmas
pub mod TagLemmas
pub mod ValidatorLemmas
