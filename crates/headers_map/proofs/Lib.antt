pub mod InsertLemmas
pub mod LastReadLemmas
pub mod SetLemmas
pub mod StepLemmas
pub mod TypedLemmas
