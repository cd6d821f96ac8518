-- What a row of the bench table is, then the table.
pub mod Trials
pub mod Table
