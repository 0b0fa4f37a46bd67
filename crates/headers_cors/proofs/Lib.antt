pub mod AllowOriginLemmas
