-- A tick is a run of one, and each call has one result.
pub mod Single
pub mod OneResult
