-- Laws of the controllers over a region.
pub mod Decoding
pub mod Wiping
pub mod TwoRegions
pub mod Outputs
