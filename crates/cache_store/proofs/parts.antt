pub mod ByteLemmas
pub mod CallLemmas
pub mod CombineLemmas
pub mod FieldLemmas
pub mod HistoryLemmas
pub mod MemoryLemmas
pub mod PartLemmas
