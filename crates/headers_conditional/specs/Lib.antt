pub mod ETag
pub mod IfMatch
pub mod IfNoneMatch
pub mod IfRange
pub mod IfRangeLaws
pub mod Validator
pub mod ValidatorView
