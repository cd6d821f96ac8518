-- The ring, the average over it, and the block, in reading order.
pub mod Ring
pub mod Average
pub mod MovingAverage
