-- Laws of times, refusals, calls, sound regions and histories, for the proofs here and for every crate above.
pub mod Times
pub mod Accepted
pub mod Calls
pub mod Sounds
pub mod Histories
pub mod Gaps
pub mod Opening
pub mod Steps
pub mod OneResult
