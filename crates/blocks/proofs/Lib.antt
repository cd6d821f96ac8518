-- Laws of the choice over the eight blocks.
pub mod Decoding
pub mod OneResult
pub mod Sounds
pub mod Lengths
pub mod Lacking
pub mod Names
pub mod Wiping
