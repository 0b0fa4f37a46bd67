mod ElementLemmas
mod LastLemmas
mod NodeLemmas
mod ReplacedLemmas
