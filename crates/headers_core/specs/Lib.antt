pub mod EntityTagRange
pub mod EntityTagRangeLaws
pub mod FormLaws
