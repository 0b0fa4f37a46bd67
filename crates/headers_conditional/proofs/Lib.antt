pub mod ConditionLemmas
pub mod CutLemmas
