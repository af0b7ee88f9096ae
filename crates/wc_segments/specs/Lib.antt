pub mod Modes
pub mod Elements
pub mod Data
pub mod Validity
pub mod Segments
pub mod Reading
