-- A component's world as JSON.
use Rattle.std.specs.Prelude.{ℕ, List, [], ◌∷◌, ◌++◌, map, length, filter, Option, Bool, codes}
use Rattle.std.specs.List.{filter_map}
use Rattle.std.specs.Option.{option_map}
use Rattle.json.specs.Json.{Json, string}
use Rattle.wc_dedupe.specs.Dedupe.{renames_in}
use Rattle.wc_dedupe.specs.Renaming.{RenameView}
use Rattle.wc_encoder.specs.Distinct.{exported_interfaces}
use Rattle.wc_encoder.specs.EncoderParts.{world_exports}
use Rattle.wc_plan.specs.Views.{UseView}
use Rattle.wc_world.specs.Used.{UsedView}
use Rattle.wc_world.specs.Views.{ComponentWorldView, ImportedView, LoweringKey, LoweringView, NamedWorldAdapter, direct, indirect, resource_drop}
use Rattle.wc_record.specs.ExportOptions.{lifted_exports, lifted_json}
use Rattle.wc_record.specs.Libraries.{library_json}
use Rattle.wc_record.specs.Modules.{module_json}
use Rattle.wc_record.specs.Plans.{plan_json}
use Rattle.wc_texts.specs.Shapes.{Field, array_of, nullable_json, number_json, object_of}
use Rattle.wc_record.specs.Objects.{object_of_kind}
use Rattle.wc_record.specs.Wit.{abi_json, signature_json}

-- a renamed import
abbrev pub rename_json : RenameView → Json
rename_json r = object_of ((codes "module", string r.module_name) ∷ (codes "original", string r.original) ∷ (codes "name", string r.name) ∷ [])

-- an adapter or a library; its bytes by their number
abbrev pub adapter_entry_json : NamedWorldAdapter → Json
adapter_entry_json a =
    object_of (
    (codes "name", string a.0) ∷ (codes "length", number_json (length a.1.wasm)) ∷ (codes "info", module_json a.1.info)
    ∷ (codes "library_info", nullable_json library_json a.1.library_info) ∷ []
    )

-- how an import is met; options as bits
abbrev pub lowering_json : LoweringView → Json
lowering_json (direct options) = object_of_kind (codes "direct") ((codes "options", number_json options) ∷ [])
lowering_json (indirect signature options) =
    object_of_kind (codes "indirect") ((codes "sig", signature_json signature) ∷ (codes "options", number_json options) ∷ [])
lowering_json (resource_drop id) = object_of_kind (codes "resource-drop") ((codes "type", number_json id) ∷ [])

abbrev pub lowering_entry_json : LoweringKey × LoweringView → Json
lowering_entry_json e = object_of ((codes "name", string e.0.0) ∷ (codes "abi", abi_json e.0.1) ∷ (codes "lowering", lowering_json e.1) ∷ [])

-- what is imported of an interface, under its name; of the world itself, under null
abbrev pub imported_entry_json : Option (List ℕ) × ImportedView → Json
imported_entry_json e =
    object_of (
    (codes "name", nullable_json string e.0) ∷ (codes "interface", nullable_json number_json e.1.interface)
    ∷ (codes "implements", nullable_json number_json e.1.implements) ∷ (codes "external_id", nullable_json string e.1.external_id)
    ∷ (codes "lowerings", array_of (map lowering_entry_json e.1.lowerings)) ∷ []
    )

-- the live types of an interface
abbrev pub live_entry_json : ℕ × List ℕ → Json
live_entry_json e = object_of ((codes "interface", number_json e.0) ∷ (codes "types", array_of (map number_json e.1)) ∷ [])

-- of an exported interface the exported interfaces that it uses, in the order in which the world exports them

abbrev pub UsedInterface : Type 0
UsedInterface = ℕ × List ℕ

abbrev pub used_interface : List ℕ → UsedView → ℕ → Option UsedInterface
used_interface exported used i = option_map (λ (test : ℕ → Bool). (i, filter test exported)) (used i)

abbrev pub used_interfaces : List ℕ → UsedView → List UsedInterface
used_interfaces exported used = filter_map (used_interface exported used) exported

abbrev pub used_interface_json : UsedInterface → Json
used_interface_json e = object_of ((codes "interface", number_json e.0) ∷ (codes "uses", array_of (map number_json e.1)) ∷ [])

abbrev pub world_members : ComponentWorldView → List Field
world_members w =
    (codes "info", module_json w.info) ∷ (codes "renames", array_of (map rename_json (renames_in w.encoder.module_import_map)))
    ∷ (codes "adapters", array_of (map adapter_entry_json w.adapters)) ∷ (codes "import_map", array_of (map imported_entry_json w.import_map))
    ∷ (codes "live_type_imports", array_of (map live_entry_json w.live_type_imports))
    ∷ (codes "exports_used", array_of (map used_interface_json (used_interfaces (exported_interfaces (world_exports w.encoder)) w.exports_used)))
    ∷ (codes "export_options", array_of (map lifted_json (lifted_exports w.encoder.resolve (world_exports w.encoder)))) ∷ []

abbrev pub world_json : ComponentWorldView → Json
world_json w = object_of (world_members w)

-- the same, and its plan as one member more
abbrev pub planned_world_json : ComponentWorldView → List UseView → Json
planned_world_json w uses = object_of (world_members w ++ (codes "plan", plan_json uses) ∷ [])
