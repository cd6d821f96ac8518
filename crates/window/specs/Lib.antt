-- The ring that a window asks for, the mean over it, the order of its times, and how they are looked at.
pub mod Geometry
pub mod Mean
pub mod Order
pub mod Walk
