-- The table of forms, a line's values, and the two lines.
pub mod Forms
pub mod Lines
pub mod Values
