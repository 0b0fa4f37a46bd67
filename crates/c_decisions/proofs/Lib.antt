pub mod BoundaryLemmas
pub mod RuleLemmas
