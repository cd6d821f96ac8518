-- From a previous time up to a block as a machine and a history as its account, in reading order.
pub mod Previous
pub mod Leaves
pub mod Answer
pub mod Region
pub mod Machine
pub mod Sound
pub mod History
pub mod Stepped
