pub mod Dependencies
pub mod Distinct
pub mod EncoderParts
pub mod Exported
pub mod Fault
pub mod WellFormed
