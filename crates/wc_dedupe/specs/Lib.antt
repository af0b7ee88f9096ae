pub mod Renaming
pub mod Renames
pub mod Laws
pub mod ParsedSections
pub mod Dedupe
pub mod Fault
pub mod Private
