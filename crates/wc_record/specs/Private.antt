-- Words of contracts of private functions. No contract of a public function cites these, directly or through others.
pub mod ExportOptions
pub mod Used
pub mod Contexts
pub mod ListedInterfaces
pub mod Scans
