pub mod ListLemmas
pub mod SettledLemmas
