pub mod HostLemmas
pub mod MemberLemmas
pub mod RetryLemmas
