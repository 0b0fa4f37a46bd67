pub mod FieldLemmas
pub mod FindLemmas
pub mod HistoryLemmas
pub mod WriteLemmas
