pub mod FaultLemmas
pub mod PathLemmas
pub mod MemoryLemmas
pub mod ListLemmas
pub mod IdLemmas
pub mod MemberLemmas
pub mod MapLemmas
pub mod KindLemmas
pub mod KeyLemmas
pub mod PairLemmas
pub mod TypeRoundTripLemmas
pub mod MapRoundTripLemmas
pub mod WorldRoundTripLemmas
pub mod PackageRoundTripLemmas
pub mod DocumentRoundTripLemmas
pub mod WritableLemmas
pub mod TextRoundTripLemmas
mod JsonPlaceLemmas
mod RepeatedMemberLemmas
mod RepeatsLawLemmas
mod LikenessLemmas
