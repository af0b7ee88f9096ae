-- What a component imports of each interface, as JSON.
use Rattle.std.specs.Prelude.{ℕ, nat_lt, List, [], ◌∷◌, ◌++◌, map, cond, codes, None}
use Rattle.json.specs.Json.{Json, string}
use Rattle.wc_texts.specs.Shapes.{array_of, number_json, object_of}
use Rattle.wc_read.specs.Names.{GlobalNameValue}
use Rattle.wc_why_text.specs.JsonParts.{text_or_null}
use Rattle.wc_summary.specs.Names.{function_name}
use Rattle.wc_summary.specs.Summary.{AdapterPartView, EntryView, MainPartView, PartsView, kind_name, kind_of}

-- a function: its index, and its name, if it has one
abbrev pub function_json : List GlobalNameValue → ℕ → Json
function_json names index = object_of ((codes "index", number_json index) ∷ (codes "name", text_or_null (function_name names index)) ∷ [])

-- what the main module imports; it has no name
abbrev pub main_json : List GlobalNameValue → MainPartView → Json
main_json names p =
    object_of ((codes "adapter", text_or_null None) ∷ (codes "imports", number_json p.imports) ∷ (codes "by", array_of (map (function_json names) p.by)) ∷ [])

-- what an adapter or another core module imports
abbrev pub adapter_json : AdapterPartView → Json
adapter_json p =
    object_of (
    (codes "adapter", string p.adapter) ∷ (codes "imports", number_json p.imports) ∷ (codes "exports", array_of (map string p.exports))
    ∷ (codes "stays", array_of (map string p.stays ++ map string p.roots)) ∷ (codes "functions", number_json p.functions) ∷ (codes "bytes", number_json p.bytes) ∷ []
    )

-- the modules that import something of it
abbrev pub main_values : List GlobalNameValue → MainPartView → List Json
main_values names p = cond (nat_lt 0 p.imports) (main_json names p ∷ []) []

abbrev pub modules_json : List GlobalNameValue → PartsView → List Json
modules_json names e = main_values names e.main ++ map adapter_json e.adapters

abbrev pub entry_json : List GlobalNameValue → EntryView → Json
entry_json names e =
    object_of (
    (codes "interface", string e.0) ∷ (codes "kind", string (kind_name (kind_of e.1))) ∷ (codes "modules", array_of (modules_json names e.1)) ∷ []
    )

-- the interfaces, in a list
abbrev pub entries_json : List GlobalNameValue → List EntryView → Json
entries_json names entries = object_of ((codes "imports", array_of (map (entry_json names) entries)) ∷ [])
