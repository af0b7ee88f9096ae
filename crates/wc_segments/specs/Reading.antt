pub mod Modes
pub mod Elements
pub mod Data
pub mod Checks
pub mod Segments
