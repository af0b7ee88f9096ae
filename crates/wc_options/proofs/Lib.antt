pub mod AdapterLemmas
