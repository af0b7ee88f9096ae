-- What a fault of a module is about, as JSON: objects whose member `kind` says what it is.
use Rattle.std.specs.Prelude.{ℕ, List, [], ◌∷◌, Option, codes, string_bytes}
use Rattle.std.specs.Option.{option_map}
use Rattle.json.specs.Json.{Json, string}
use Rattle.wc_gc.specs.declared.trim_place.TrimPlace.{TrimPlace}
use Rattle.wc_gc.specs.declared.trim_place.TrimPlace.TheVariants.{Section, Body, Bytes}
use Rattle.wc_read.specs.declared.place.ReadPlace.{ReadPlace}
use Rattle.wc_validate.specs.Place.{DifferenceView, SubjectView, an_export, an_import, missing_export, missing_function, place_view, some_bytes}
use Rattle.wc_world.specs.declared.places.ModulePlace.{ModulePlace}
use Rattle.wc_world.specs.declared.places.ModulePlace.TheVariants as place
use Rattle.wc_world.specs.declared.places.WorldPlace.{WorldPlace}
use Rattle.wc_record.specs.CoreTypes.{func_type_json}
use Rattle.wc_record.specs.Imports.{name_field}
use Rattle.wc_texts.specs.Shapes.{Field, nullable_json, number_json, object_of}
use Rattle.wc_record.specs.Objects.{object_of_kind}

-- members: the name of the adapter or the library that a place is in, null for the main module; the name of a module; the
-- core types that differ, null where none are compared

abbrev pub adapter_field : Option (List ℕ) → Field
adapter_field name = (codes "adapter", nullable_json string name)

abbrev pub module_field : List ℕ → Field
module_field name = (codes "module", string name)

abbrev pub difference_json : DifferenceView → Json
difference_json d = object_of ((codes "wanted", func_type_json d.wanted) ∷ (codes "found", func_type_json d.found) ∷ [])

abbrev pub types_field : Option DifferenceView → Field
types_field types = (codes "types", nullable_json difference_json types)

-- what is found by its name alone
abbrev pub named_json : List ℕ → Option (List ℕ) → List ℕ → Option DifferenceView → Json
named_json kind adapter name types = object_of_kind kind (adapter_field adapter ∷ name_field name ∷ types_field types ∷ [])

-- where the bytes of a module stop to be right
abbrev pub bytes_json : Option (List ℕ) → ReadPlace → Json
bytes_json adapter p =
    object_of_kind (codes "bytes")
    (adapter_field adapter ∷ (codes "offset", number_json p.offset) ∷ (codes "section", nullable_json number_json p.section) ∷ [])

-- how long a page is, in bytes, of an adapter's memory and of the main module's
abbrev pub page_sizes_json : Option (List ℕ) → ℕ → ℕ → Json
page_sizes_json adapter own main =
    object_of_kind (codes "page-sizes") (adapter_field adapter ∷ (codes "own", number_json own) ∷ (codes "main", number_json main) ∷ [])

-- an import, an export, what is missing, or a byte, in a module of a name
abbrev pub subject_json : Option (List ℕ) → SubjectView → Option DifferenceView → Json
subject_json adapter (an_import module_name name index) types =
    object_of_kind (codes "import")
    (adapter_field adapter ∷ module_field module_name ∷ name_field name ∷ (codes "index", number_json index) ∷ types_field types ∷ [])
subject_json adapter (an_export name) types = named_json (codes "export") adapter name types
subject_json adapter (missing_function module_name name) types =
    object_of_kind (codes "missing-function") (adapter_field adapter ∷ module_field module_name ∷ name_field name ∷ types_field types ∷ [])
subject_json adapter (missing_export name) types = named_json (codes "missing-export") adapter name types
subject_json adapter (some_bytes p) types = bytes_json adapter p

-- a section, the body of a function, or a byte
abbrev pub trim_place_json : Option (List ℕ) → TrimPlace → Json
trim_place_json adapter (Section id) = object_of_kind (codes "section") (adapter_field adapter ∷ (codes "id", number_json id) ∷ [])
trim_place_json adapter (Body n operator) =
    object_of_kind (codes "body")
    (adapter_field adapter ∷ (codes "function", number_json n) ∷ (codes "operator", nullable_json number_json operator) ∷ [])
trim_place_json adapter (Bytes p) = bytes_json adapter p

-- a place in the main module, in an adapter or in a library
abbrev pub module_place_json : Option (List ℕ) → ModulePlace → Json
module_place_json adapter (place.Validation p) = subject_json adapter (place_view p).subject (place_view p).types
module_place_json adapter (place.Trim p) = trim_place_json adapter p
module_place_json adapter (place.PageSizes own main) = page_sizes_json adapter own main

abbrev pub world_place_json : WorldPlace → Json
world_place_json p = module_place_json (option_map string_bytes p.adapter) p.place
