pub mod ContentLemmas
pub mod FieldLemmas
pub mod FindLemmas
pub mod HistoryLemmas
pub mod ReaderLemmas
pub mod SpanLemmas
pub mod WrittenLemmas
