-- What a stored call is, and what it means to be met.
pub mod Answer
pub mod Call
pub mod Compare
pub mod Form
pub mod Line
pub mod List
pub mod Region
pub mod Replay
