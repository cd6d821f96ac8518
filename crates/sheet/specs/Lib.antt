-- Rows on a region, the bench sheet, how the code walks it, a table by value, what running singly means, what follows a wiping tick, and the sheet of document 01.
pub mod Rows
pub mod Sheet
pub mod Walk
pub mod Table
pub mod Single
pub mod Wiping
pub mod Unfed
