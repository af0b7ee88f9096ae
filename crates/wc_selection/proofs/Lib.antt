mod FaultLemmas
pub mod TestLemmas
pub mod WorldLemmas
pub mod WorldPartLemmas
pub mod KeyListLemmas
pub mod KeyNameLemmas
pub mod KeyTextLemmas
pub mod RequiredLemmas
pub mod TextListLemmas
pub mod PositionLemmas
pub mod KeyIndexLemmas
pub mod TaskHookLemmas
