-- Laws of stored calls that are made again.
pub mod Lines
pub mod Listing
pub mod Putting
