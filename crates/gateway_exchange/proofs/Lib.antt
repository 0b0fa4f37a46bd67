pub mod EventLemmas
pub mod HistoryLemmas
pub mod TunnelLemmas
