-- Bytes, words, flags and types, decimals, and stretches between spaces.
pub mod Bytes
pub mod Decimal
pub mod Items
pub mod Stretches
pub mod Word
