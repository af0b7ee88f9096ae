pub mod Usage
pub mod Lines
pub mod JsonFaults
pub mod Warnings
pub mod Program
pub mod Private
