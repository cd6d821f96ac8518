-- The block, then its account.
pub mod TrueDelay
pub mod Account
