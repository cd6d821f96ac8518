-- The block.
pub mod TrueFalseHold
