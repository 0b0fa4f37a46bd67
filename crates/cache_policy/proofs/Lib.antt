pub mod DecidableLemmas
pub mod DecisionLemmas
pub mod ExistenceLemmas
pub mod FresheningLemmas
pub mod PolicyLemmas
pub mod StrictLemmas
pub mod ValidatingLemmas
pub mod VaryLemmas
