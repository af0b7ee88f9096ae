-- Words of contracts of private functions. No contract of a public function cites these, directly or through others.
pub mod Tokens
