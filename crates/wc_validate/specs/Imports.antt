-- What the imports of a core module mean, and what is recorded of them.
pub mod Entries
pub mod Instances
pub mod Classify
pub mod AdapterTypes
pub mod Record
pub mod Map
pub mod Iter
pub mod FirstFunctions
