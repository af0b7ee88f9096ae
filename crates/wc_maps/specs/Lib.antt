pub mod OrderedMap
pub mod Seed
pub mod Texts
