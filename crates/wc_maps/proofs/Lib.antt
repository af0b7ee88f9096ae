pub mod OptionLemmas
pub mod PairLemmas
pub mod ListLemmas
pub mod LookupLemmas
pub mod SeenLemmas
pub mod FirstLemmas
pub mod SetLemmas
pub mod OrderedMapLemmas
