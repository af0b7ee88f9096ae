-- Words of contracts of private functions. No contract of a public function cites these, directly or through others.
pub mod Imported
pub mod AskedKeys
pub mod Modules
pub mod Parts
pub mod TypedFound
pub mod Wanted
pub mod Found
pub mod Shown
pub mod Notes
pub mod Needs
pub mod SummaryAdapters
pub mod SummaryMain
pub mod SummaryShared
