pub mod EntityTagRangeLemmas
pub mod FormLemmas
pub mod TagItemLemmas
