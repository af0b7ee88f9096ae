-- What the examples' contracts cite.
pub mod World
pub mod Gc
