-- The one statement about the bench table.
pub mod Bench
