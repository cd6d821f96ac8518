-- A run of the program, with its input and its text in sight.
pub mod Run
