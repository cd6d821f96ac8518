-- Laws of the reals, for the proofs here and for every crate above.
pub mod Words
pub mod Values
pub mod Fields
pub mod Order
pub mod Sums
pub mod Magnitude
pub mod Whole
pub mod Beside
pub mod Counts
pub mod Meaning
pub mod Once
pub mod OneResult
