-- Laws of what crosses between words and blocks.
pub mod Answers
pub mod Zeros
pub mod Naming
pub mod Tabling
pub mod Crossing
pub mod Wiping
pub mod OneResult
