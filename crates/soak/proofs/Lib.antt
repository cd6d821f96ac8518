-- Laws of the program's turns.
pub mod Turns
