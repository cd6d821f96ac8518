-- What soak is (Soak), the text of its answers, how the code goes (Stream), and what a run has written.
pub mod Answers
pub mod Put
pub mod Soak
pub mod Stream
pub mod Written
