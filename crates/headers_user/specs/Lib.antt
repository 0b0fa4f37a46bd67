pub mod ApiKey
pub mod ApiKeyLaws
pub mod Forward
pub mod ForwardErrors
pub mod MaxForwards
pub mod MaxForwardsLaws
