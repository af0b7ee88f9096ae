-- Adapters with the keys that a request says.
use Rattle.std.specs.Prelude.{◌≡◌, ℕ, List, Some, None, String, string_eq}
use Rattle.std.specs.declared.alloc.Global.{Global}
use Rattle.indexmap.specs.IndexMap.{insert_entry}
use Rattle.wc_adapters.specs.Adapters.{AdapterView, adapter_entry}
use Rattle.wc_adapters.specs.declared.adapters.Adapter.{Adapter}
use Rattle.wc_selection.specs.Keys.{NamedKey}
use Rattle.wc_selection.specs.ModuleKeys.{required_keys}
use Rattle.wc_selection.specs.Requests.{RequestValue}

-- an adapter has the name and the bytes of a file, and the keys that a request says; it is no library
pub record IsAdapterOf (q : RequestValue) (keys : List NamedKey) (file : List ℕ × List ℕ) (y : List ℕ × AdapterView) : Type 0 where
  pub name : y.0 ≡ file.0
  pub wasm : y.1.wasm ≡ file.1
  pub required : y.1.required_exports ≡ required_keys q (Some file.0) keys
  pub library : y.1.library_info ≡ None

-- the adapter of a file is put under its name
abbrev pub IsAdded : RequestValue → List NamedKey → List ℕ × List ℕ → List (String Global × Adapter) → List (String Global × Adapter) → Type 0
IsAdded q keys file before after =
    (name : String Global) × (adapter : Adapter) × IsAdapterOf q keys file (adapter_entry (name, adapter))
    × (after ≡ insert_entry string_eq before name adapter)
