-- Words of contracts of private functions. No contract of a public function cites these, directly or through others.
pub mod Entries
pub mod Leads
pub mod SummaryMain
pub mod Tags
pub mod Uses
pub mod SummaryAdapters
pub mod CoreModules
