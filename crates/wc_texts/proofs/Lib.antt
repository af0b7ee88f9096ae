mod PieceLemmas
pub mod PrefixLemmas
