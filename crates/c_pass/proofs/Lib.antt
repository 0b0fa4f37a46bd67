pub mod NameLemmas
pub mod StatusLemmas
