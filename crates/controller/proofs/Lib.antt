-- What the numbers of the code are, laws of the limits, and that each contract admits one result.
pub mod Literals
pub mod Limits
pub mod OneResult
