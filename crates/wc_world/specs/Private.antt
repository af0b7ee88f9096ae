-- Words of contracts of private functions. No contract of a public function cites these, directly or through others.
pub mod Adapters
pub mod Refused
pub mod LoweringContext
pub mod ImportedItems
pub mod LiveAdditions
pub mod Marks
pub mod Settled
