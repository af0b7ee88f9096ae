-- What a fault of a message is about beside places in modules, as JSON: objects whose member `kind` says what it is.
use Rattle.std.specs.Prelude.{ℕ, List, [], ◌∷◌, map, Some, None, codes, string_bytes}
use Rattle.std.specs.Option.{option_map}
use Rattle.json.specs.Json.{Json, string}
use Rattle.wc_gc.specs.declared.fault.GcFault.{GcFault}
use Rattle.wc_gc.specs.declared.fault.GcFault.TheVariants.{MissingExport}
use Rattle.wc_plan.specs.declared.fault.PlanPlace.{PlanPlace}
use Rattle.wc_resolve.specs.declared.explain.Part.{Part}
use Rattle.wc_resolve.specs.declared.explain.Part.TheVariants as part
use Rattle.wc_texts.specs.Shapes.{array_of, nullable_json, number_json}
use Rattle.wc_json.specs.declared.places.JsonPlace.{JsonPlace}
use Rattle.wc_json.specs.declared.places.JsonPlace.TheVariants.{Byte, Path}
use Rattle.wc_record.specs.Imports.{name_field}
use Rattle.wc_record.specs.Objects.{object_of_kind}
use Rattle.wc_record.specs.Places.{adapter_field, named_json}
use Rattle.wc_record.specs.Wit.{abi_json}

-- a world, an interface, a type or a package, by its index
abbrev pub part_of_kind : List ℕ → ℕ → Json
part_of_kind kind index = object_of_kind kind ((codes "index", number_json index) ∷ [])

abbrev pub part_json : Part → Json
part_json (part.World i) = part_of_kind (codes "world") i
part_json (part.Interface i) = part_of_kind (codes "interface") i
part_json (part.TypeDef i) = part_of_kind (codes "type") i
part_json (part.Package i) = part_of_kind (codes "package") i

-- a function that a module imports
abbrev pub plan_place_json : PlanPlace → Json
plan_place_json p =
    object_of_kind (codes "function")
    (adapter_field (option_map string_bytes p.adapter) ∷ (codes "interface", nullable_json string (option_map string_bytes p.interface))
    ∷ name_field (string_bytes p.name) ∷ (codes "abi", abi_json p.abi) ∷ [])

-- an adapter or a library; an export that it doesn't have; what a fault of trimming it is about that has no place

abbrev pub adapter_json : List ℕ → Json
adapter_json adapter = object_of_kind (codes "module") ((codes "adapter", string adapter) ∷ [])

abbrev pub missing_export_json : List ℕ → List ℕ → Json
missing_export_json adapter name = named_json (codes "missing-export") (Some adapter) name None

abbrev pub trim_fault_json : List ℕ → GcFault → Json
trim_fault_json adapter (MissingExport name) = missing_export_json adapter (string_bytes name)
trim_fault_json adapter f = adapter_json adapter

-- a key of an export; a name of a world, and the worlds that there are

abbrev pub key_json : List ℕ → Json
key_json key = object_of_kind (codes "key") ((codes "key", string key) ∷ [])

abbrev pub worlds_json : List ℕ → List (List ℕ) → Json
worlds_json name worlds = object_of_kind (codes "worlds") (name_field name ∷ (codes "worlds", array_of (map string worlds)) ∷ [])

-- a byte of a text that is not JSON; a path in one that is
abbrev pub json_place_json : JsonPlace → Json
json_place_json (Byte at) = object_of_kind (codes "json-byte") ((codes "byte", number_json at) ∷ [])
json_place_json (Path path) = object_of_kind (codes "json-path") ((codes "path", string (string_bytes path)) ∷ [])
