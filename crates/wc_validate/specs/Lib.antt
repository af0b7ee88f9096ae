-- What contracts of this crate cite.
pub mod Place
pub mod Refused
pub mod Texts
pub mod Classifications
pub mod Fault
pub mod NameScope
pub mod Imports
pub mod Validate
pub mod Laws
pub mod Restriction
pub mod MemoryTypes
pub mod Exports
pub mod FirstPositions
pub mod FirstByKey
pub mod Requirements
pub mod Explain
pub mod Private
