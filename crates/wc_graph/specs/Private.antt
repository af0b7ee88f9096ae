-- Words of contracts of private functions. No contract of a public function cites these, directly or through others.
pub mod Search
pub mod Places
pub mod ChainMarks
pub mod ChainTree
pub mod Ways
pub mod Fronts
pub mod Dominators
pub mod Labels
pub mod Marks
pub mod Alone
pub mod Leads
