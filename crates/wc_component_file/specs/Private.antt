-- Words of contracts of private functions. No contract of a public function cites these, directly or through others.
pub mod Frames
pub mod Inside
pub mod Names
pub mod Untold
pub mod Served
pub mod Adapters
