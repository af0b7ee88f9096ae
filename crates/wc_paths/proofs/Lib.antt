pub mod NumbersLemmas
pub mod NamesLemmas
pub mod BodyNamesLemmas
pub mod PathLemmas
pub mod ImportLemmas
pub mod CallListLemmas
pub mod EqualTypeLemmas
pub mod CallerLemmas
