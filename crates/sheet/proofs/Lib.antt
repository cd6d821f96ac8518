-- Laws of sheets: what the walks over the rows give, what follows for a sheet and its rows, and the rows of a table.
pub mod Stretches
pub mod Feeding
pub mod Ends
pub mod Rows
pub mod Walks
pub mod Admission
pub mod Emits
pub mod Works
pub mod Results
pub mod Single
pub mod Unfed
pub mod Runs
pub mod Sounds
pub mod Wiping
pub mod TwoRows
pub mod Seventeen
pub mod OneResult
