-- What faults are about, as JSON: objects whose member `kind` says what it is; null, where it is nothing.
use Rattle.std.specs.Prelude.{ℕ, List, [], ◌∷◌, codes, Option, Some, None, string_bytes}
use Rattle.json.specs.Json.{Json, null, string}
use Rattle.wc_gc.specs.declared.fault.GcFault.{GcFault}
use Rattle.wc_gc.specs.declared.fault.GcFault.TheVariants.{MissingExport}
use Rattle.wc_gc.specs.declared.trim_place.TrimPlace.{TrimPlace}
use Rattle.wc_gc.specs.declared.trim_place.TrimPlace.TheVariants.{Bytes, Section, Body}
use Rattle.wc_import_paths.specs.Patterns.{PatternView, pattern_view}
use Rattle.wc_texts.specs.Shapes.{Field, nullable_json, number_json, object_of}
use Rattle.wc_why_text.specs.JsonParts.{text_or_null}
use Rattle.wcwhy.specs.declared.fault.WhyFault.{WhyFault}
use Rattle.wcwhy.specs.declared.fault.WhyFault.TheVariants.{Source, Adapter, NoImport, NoFunction, NoNames, File, Core}

-- an object of a kind
abbrev pub object_of_kind : List ℕ → List Field → Json
object_of_kind kind fields = object_of ((codes "kind", string kind) ∷ fields)

-- in the adapter of a name, or in the module itself
module _ (adapter : Option (List ℕ)) where
  abbrev pub object_in : List ℕ → List Field → Json
  object_in kind fields = object_of_kind kind ((codes "adapter", text_or_null adapter) ∷ fields)

  -- where bytes stop to be a module; a section, by its id; the body of a function, and an operator in it
  abbrev pub trim_place_json : TrimPlace → Json
  trim_place_json (Bytes p) =
      object_in (codes "bytes") ((codes "offset", number_json p.offset) ∷ (codes "section", nullable_json number_json p.section) ∷ [])
  trim_place_json (Section id) = object_in (codes "section") ((codes "id", number_json id) ∷ [])
  trim_place_json (Body n operator) =
      object_in (codes "body") ((codes "function", number_json n) ∷ (codes "operator", nullable_json number_json operator) ∷ [])

  -- an export that is missing: no types are compared
  abbrev pub missing_json : List ℕ → Json
  missing_json name = object_in (codes "missing-export") ((codes "name", string name) ∷ (codes "types", null) ∷ [])

  abbrev pub unplaced_json : GcFault → Json
  unplaced_json (MissingExport name) = missing_json (string_bytes name)
  unplaced_json f = null

  abbrev pub module_place_json : GcFault → Option TrimPlace → Json
  module_place_json f (Some p) = trim_place_json p
  module_place_json f None = unplaced_json f

-- what an option asks for
abbrev pub asked_json : List ℕ → List ℕ → Json
asked_json kind text = object_of_kind kind ((kind, string text) ∷ [])

-- the imports that it asks for: the key, and the name, if it has one

abbrev pub pattern_json_by : List ℕ → Option (List ℕ) → Json
pattern_json_by key None = asked_json (codes "key") key
pattern_json_by key (Some name) = object_of_kind (codes "key") ((codes "key", string key) ∷ (codes "name", string name) ∷ [])

abbrev pub pattern_json : PatternView → Json
pattern_json p = pattern_json_by p.0 p.1

-- the byte of a component's file where a section begins, which is in no section of a module
abbrev pub file_place_json : Option ℕ → Json
file_place_json None = null
file_place_json (Some offset) = trim_place_json None (Bytes (record { offset = offset; section = None }))

-- what a fault is about
abbrev pub place_json : WhyFault → Json
place_json (Source f place near) = module_place_json None f place
place_json (Adapter name f place near) = module_place_json (Some (string_bytes name)) f place
place_json (NoImport p near) = pattern_json (pattern_view p)
place_json (NoFunction name near) = asked_json (codes "func") name.now
place_json (NoNames name path) = asked_json (codes "func") name.now
place_json (File f byte) = file_place_json byte
place_json (Core index f place) = module_place_json None f place
place_json f = null
