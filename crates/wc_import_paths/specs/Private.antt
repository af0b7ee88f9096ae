-- Words of contracts of private functions. No contract of a public function cites these, directly or through others.
pub mod Asked
pub mod Roots
pub mod Functions
pub mod Reached
pub mod Followed
