-- The controllers over a region, then their account.
pub mod Pid
pub mod Account
