mod ForwardLemmas
mod HostLemmas
mod LoopLemmas
mod NextLemmas
pub mod NumberLemmas
mod OneLemmas
mod OptionLemmas
mod OutcomeLemmas
mod PairLemmas
mod ReceivedLemmas
pub mod RecipientLemmas
mod ResponseLemmas
pub mod SpellingLemmas
mod StatedLemmas
mod SureLemmas
mod TrailerLemmas
mod ViaLemmas
