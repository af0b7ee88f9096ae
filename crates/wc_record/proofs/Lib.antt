pub mod ShapeLemmas
pub mod UsedLemmas
pub mod LibraryRoundTripLemmas
pub mod ListedInterfaceLemmas
pub mod ChainLemmas
pub mod ExportOptionLemmas
