pub mod NameListLemmas
pub mod MatchedLemmas
pub mod PlaceLemmas
pub mod LinkLemmas
pub mod AdapterPartLemmas
pub mod EndLemmas
pub mod TreeLemmas
pub mod RequiredLemmas
pub mod ModuleLemmas
pub mod CoreModuleLemmas
pub mod CorePartLemmas
mod ImportLemmas
mod CoreImportLemmas
