-- The block, then its account.
pub mod TimerAccumulating
pub mod Account
