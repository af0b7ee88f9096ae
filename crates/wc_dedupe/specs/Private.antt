-- Words of contracts of private functions. No contract of a public function cites these, directly or through others.
pub mod Numbers
pub mod RenameOrder
pub mod NamePositions
pub mod NameKeys
pub mod RenameLists
