-- One choice over the eight blocks, what names a block, a region taken apart, what is sound, what wipes.
pub mod Block
pub mod Named
pub mod Decoded
pub mod Sound
pub mod Wiping
