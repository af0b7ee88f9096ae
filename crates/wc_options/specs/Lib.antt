pub mod Table
pub mod Wrong
pub mod Reading
pub mod Usage
pub mod Adapters
pub mod Listing
