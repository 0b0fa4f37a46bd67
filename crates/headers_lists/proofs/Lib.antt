pub mod SecurityLemmas
