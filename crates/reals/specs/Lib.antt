-- What a word means, rounding to whole numbers, and the four rounded operations.
pub mod Words
pub mod Rounding
pub mod Arithmetic
