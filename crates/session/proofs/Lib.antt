-- Laws of soak: a line, a chunk, the end, and the whole of a run.
pub mod Counted
pub mod Exact
pub mod Example
pub mod Feeding
pub mod Finishing
pub mod Going
pub mod Holding
pub mod OneResult
pub mod Putting
pub mod Short
pub mod Sizes
pub mod Starting
pub mod Whole
pub mod Written
