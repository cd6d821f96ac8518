-- Laws of the two forms of lines.
pub mod Forms
pub mod Items
pub mod Kept
pub mod Naming
pub mod OneResult
pub mod Ticking
pub mod Words
