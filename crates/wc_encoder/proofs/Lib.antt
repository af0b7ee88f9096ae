pub mod DependencyWalkLemmas
pub mod EntriesAfterLemmas
pub mod GivenLemmas
pub mod LookupLemmas
pub mod WorldLemmas
