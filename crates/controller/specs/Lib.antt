-- The controller's settings, its limiter, and its recurrence.
pub mod Settings
pub mod Limit
pub mod Recurrence
