-- Laws of the hold with reset.
pub mod Cases
pub mod Decoding
pub mod Durations
pub mod Wiping
pub mod TwoRegions
