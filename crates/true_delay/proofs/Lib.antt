-- Laws of the delay.
pub mod Cases
pub mod Decoding
pub mod Wiping
pub mod TwoRegions
