pub mod WorldRanges
