-- What crosses to C, then the calls of a block and of a sheet over words.
pub mod Boundary
pub mod Calls
pub mod Sheets
