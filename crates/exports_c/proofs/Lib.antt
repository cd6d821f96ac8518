-- Each call has one result.
pub mod OneResult
