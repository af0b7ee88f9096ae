pub mod ListLemmas
mod SummaryLemmas
mod SummaryTextLemmas
pub mod EntryLemmas
mod OrderLemmas
pub mod TagLemmas
mod NoSegmentLemmas
mod NamerLemmas
pub mod MainNamerLemmas
mod MainNoteLemmas
mod NumberedLemmas
pub mod LeadLemmas
mod OwnerLemmas
pub mod UseLemmas
mod AdapterLemmas
pub mod AdapterPartLemmas
pub mod NotedLemmas
pub mod ListedLemmas
mod CoreModuleLemmas
mod CorePartLemmas
