-- The block, then its account.
pub mod TrueHoldWithReset
pub mod Account
