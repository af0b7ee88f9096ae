mod AnswerLemmas
mod CauseLemmas
mod KeyLemmas
mod WorldAnswerLemmas
