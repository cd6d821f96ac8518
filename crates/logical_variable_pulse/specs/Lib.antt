-- The block, and what the published file makes of its settings.
pub mod LogicalVariablePulse
pub mod Published
