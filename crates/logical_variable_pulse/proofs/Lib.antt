-- Laws of the pulse.
pub mod Cases
pub mod Decoding
pub mod Limits
pub mod Holding
pub mod Corners
