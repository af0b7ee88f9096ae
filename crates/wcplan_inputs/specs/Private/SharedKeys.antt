-- What contracts of private functions see of modules that share keys.
use Rattle.std.specs.Prelude.{ℕ, List, [], map, String, string_bytes}
use Rattle.std.specs.declared.alloc.Global.{Global}
use Rattle.std.specs.Option.{option_map}
use Rattle.wc_resolve.specs.Views.{world_entry}
use Rattle.wc_selection.specs.Requests.{RequestValue}
use Rattle.wc_maps.specs.Texts.{text_of}
use Rattle.wcplan_inputs.specs.SharedKeys.{AskedKey, ExportScope, ModuleNames, NamedAdapter}
use Rattle.wcplan_inputs.specs.Private.Exporters.{key_functions_view}
use Rattle.wcplan_inputs.specs.declared.adapter_files.AdapterFile.{AdapterFile}
use Rattle.wcplan_inputs.specs.declared.shared_keys.AdapterNames.{AdapterNames}
use Rattle.wcplan_inputs.specs.declared.shared_keys.AskedKey.{AskedKey as Asked}
use Rattle.wcplan_inputs.specs.declared.shared_keys.ExportedWorld.{ExportedWorld}
use Rattle.wcplan_inputs.specs.declared.shared_keys.ModuleNames.{ModuleNames as Names}

abbrev pub exported_scope : ExportedWorld → ExportScope
exported_scope w = record { resolve = w.resolve.now; exports = map world_entry w.exports.now.entries; rejects = w.rejects_legacy }

abbrev pub asked_view : Asked → AskedKey
asked_view q = record { text = q.text.now; functions = key_functions_view q.functions; rejects = q.rejects_legacy }

-- an adapter with the bytes of its file
abbrev pub file_bytes : AdapterFile → List ℕ × List ℕ
file_bytes f = (f.name.now, f.wasm.items)

-- two texts
abbrev pub own_pair : String Global × String Global → List ℕ × List ℕ
own_pair p = (string_bytes p.0, string_bytes p.1)

-- the request of keys of adapters alone
abbrev pub adapters_request : List (List ℕ × List ℕ) → RequestValue
adapters_request given = record { exports = []; adapter_exports = given }

abbrev pub adapter_view : AdapterNames → NamedAdapter
adapter_view a = (a.name.now, option_map (λ s. map text_of s.keys) a.exports)

abbrev pub names_view : Names → ModuleNames
names_view x = record { main = map text_of x.main.keys; adapters = map adapter_view x.adapters.items }
