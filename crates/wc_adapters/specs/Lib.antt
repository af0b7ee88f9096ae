pub mod Adapters
pub mod Entries
