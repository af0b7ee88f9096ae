-- Words of contracts of private functions. No contract of a public function cites these, directly or through others.
pub mod Others
pub mod Servers
pub mod Places
pub mod Parts
pub mod Imports
pub mod CoreParts
pub mod CoreImports
