mod ListLemmas
pub mod LoopLemmas
mod RecordLemmas
pub mod AskedKeyLemmas
pub mod FirstLemmas
pub mod ModuleLemmas
pub mod PartLemmas
pub mod FoundLemmas
mod TypesLemmas
mod NeedLemmas
mod RootLemmas
mod TypedLemmas
mod OriginalLemmas
pub mod EachLemmas
mod NoteLemmas
mod AllEntriesLemmas
mod MainNoteLemmas
pub mod AdapterNoteLemmas
pub mod WantedLemmas
pub mod LeaderLemmas
pub mod SharedLemmas
pub mod SharedEntryLemmas
pub mod WaysLemmas
