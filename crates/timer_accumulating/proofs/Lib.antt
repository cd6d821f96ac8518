-- Laws of the soak clock.
pub mod Cases
pub mod Decoding
pub mod Wiping
pub mod TwoRegions
