-- Words of contracts of private functions. No contract of a public function cites these, directly or through others.
pub mod Puts
pub mod Execution
pub mod Inputs
pub mod ModuleWays
pub mod Arguments
pub mod Trees
pub mod Warnings
pub mod Component
pub mod CoreFile
pub mod Allowed
