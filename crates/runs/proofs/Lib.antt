-- Laws of runs, over any machine and of the blocks.
pub mod Lists
pub mod Running
pub mod Ending
pub mod Parts
pub mod Own
pub mod OneResult
pub mod Calls
