mod RunLemmas
mod WarningLemmas
