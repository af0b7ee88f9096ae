-- Words of contracts of private functions. No contract of a public function cites these, directly or through others.
pub mod BodyCuts
pub mod KeptBodies
pub mod Edit
pub mod TrimPlace
pub mod FuncGroups
pub mod ImportPositions
pub mod ItemCounts
pub mod MachineOperators
pub mod Merging
pub mod KeptOrder
pub mod PlainTypes
pub mod RangeSet
pub mod Rewrite
pub mod Roots
pub mod Search
