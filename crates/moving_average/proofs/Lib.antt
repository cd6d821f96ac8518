-- Laws of the ring, its walks and its stores, and of the block; that it stays sound.
pub mod Places
pub mod Stretches
pub mod Turns
pub mod Walks
pub mod Stores
pub mod Decoding
pub mod Steps
pub mod Rules
pub mod Sounds
pub mod Disorder
pub mod OneResult
