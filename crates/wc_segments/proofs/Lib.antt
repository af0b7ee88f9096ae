pub mod FormsLemmas
pub mod ModesLemmas
pub mod ElementsLemmas
pub mod DataLemmas
pub mod ValidityLemmas
pub mod SegmentsLemmas
