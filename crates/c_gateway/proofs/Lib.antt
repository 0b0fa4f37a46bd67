mod NameLemmas
mod NodeLemmas
mod RequestLemmas
