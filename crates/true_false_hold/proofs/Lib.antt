-- Laws of the hold both ways.
pub mod Cases
pub mod Decoding
