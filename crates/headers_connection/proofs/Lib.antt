pub mod ChunkedLemmas
