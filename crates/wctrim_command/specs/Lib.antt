pub mod Command
pub mod Lines
pub mod Scan
pub mod Fault
pub mod Execution
pub mod Program
pub mod Private
