pub mod CallLemmas
pub mod DateLemmas
pub mod KeepLemmas
pub mod ReplyLemmas
pub mod RightLemmas
pub mod UnstoredLemmas
