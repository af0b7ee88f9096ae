-- Words of contracts of private functions. No contract of a public function cites these, directly or through others.
pub mod ExportedFunctions
pub mod Explain
pub mod Exports
pub mod Externs
pub mod Imports
pub mod Requirements
pub mod ValidationInputs
pub mod WorldInterfaces
