-- A run of many ticks.
pub mod Run
pub mod NoRun
