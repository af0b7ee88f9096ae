mod ArgumentLemmas
mod ReadLemmas
mod FileNameLemmas
mod NamesLemmas
mod WorldsLemmas
mod ExporterLemmas
mod SharedKeyLemmas
mod AdapterFileLemmas
mod InputLemmas
mod ProgramLemmas
mod NearestLemmas
mod AskedLemmas
pub mod DetailsLemmas
