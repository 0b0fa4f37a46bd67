mod DistinctLemmas
mod MatchLemmas
mod NowhereLemmas
