-- What the numbers of the code are, laws of a window's size and of times in order, and that each contract admits one result.
pub mod Literals
pub mod Sizes
pub mod Slots
pub mod Orders
pub mod Climbs
pub mod OneResult
