-- What has to be exported, as the code has it.
use Rattle.std.specs.Prelude.{ℕ, All, List, map, String, ◌∷◌, [], IfErr, IsTrue, OnOk, Option, Result}
use Rattle.std.specs.Option.{IsSome, option_to_list}
use Rattle.semver.specs.Identifiers.{parts_text}
use Rattle.std.specs.declared.alloc.Global.{Global}
use Rattle.wc_read.specs.declared.core_module.Module.{Module}
use Rattle.wc_read.specs.declared.types.FuncType.{FuncType}
use Rattle.wc_read.specs.Types.{func_type_value}
use Rattle.wc_resolve.specs.declared.worlds.WorldItem.{WorldItem}
use Rattle.wc_resolve.specs.declared.worlds.WorldKey.{WorldKey}
use Rattle.wc_resolve.specs.Resolve.{key_text}
use Rattle.wc_resolve.specs.Ranges.{IsItemIn, IsKeyIn}
use Rattle.wc_resolve.specs.Views.{ItemView, KeyView, key_view, world_entry}
use Rattle.wc_names.specs.declared.exports.Export.{Export}
use Rattle.wc_names.specs.Imports.{NameScope}
use Rattle.wc_validate.specs.declared.fault.ValidateFault.{ValidateFault}
use Rattle.wc_validate.specs.declared.requirements.RequiredExports.{RequiredExports as CodeExports}
use Rattle.wc_validate.specs.declared.names.Names.{Names}
use Rattle.wc_validate.specs.Exports.Map.{export_entry, ExportRecord}
use Rattle.wc_validate.specs.Imports.Map.{required_entry}
use Rattle.wc_validate.specs.Exports.Record.{exports_in}
use Rattle.wc_validate.specs.Requirements.{AreMet, IsUnmetFault, Requirement, key_requirement, key_requirements, requirements, type_requirement, typed_function, IsMet, is_called_back}
use Rattle.wc_validate.specs.Private.ExportedFunctions.{AreNamesOf, IsExportIndexOf}
use Rattle.std.specs.Borrow.{Bor}
use Rattle.wc_names.specs.Exports.{CoreExport}
use Rattle.wc_names.specs.ExportViews.{ExportView}
use Rattle.wc_resolve.specs.declared.ids.InterfaceId.{InterfaceId}
use Rattle.wc_resolve.specs.Kinds.{ResolveView}
use Rattle.wc_read.specs.declared.exports.Export.{Export as ModuleExport}

-- what a key of an export set requires, if it requires anything, and what all its keys do
abbrev pub requirement_of_key : List (WorldKey × WorldItem) → WorldKey → List Requirement
requirement_of_key exports key = option_to_list (key_requirement (map world_entry exports) (key_view key))

abbrev pub requirements_of_keys : List (WorldKey × WorldItem) → List WorldKey → List Requirement
requirements_of_keys exports keys = key_requirements (map world_entry exports) (map key_view keys)

-- a function with its type, and all that other modules import
abbrev pub requirement_of_function : List ℕ → FuncType → Requirement
requirement_of_function name ty = typed_function name (func_type_value ty)

abbrev pub requirements_of_functions : List (String Global × FuncType) → List Requirement
requirements_of_functions required = map type_requirement (map required_entry required)

-- all requirements in their order, of what the world of names exports
abbrev pub required_of : Names → CodeExports → List Requirement
required_of n q = requirements (map world_entry n.world.now.exports.entries) (map key_view q.keys.now.keys) (map required_entry q.functions.now.entries)

-- all requirements are met by the exports of a module and by those that are recorded, or why they are not
abbrev pub AreMetBy : Names → CodeExports → Module → List (String Global × Export) → Type 0
AreMetBy n q m recorded = AreMet n.resolve.now (exports_in m m.exports.items) (map export_entry recorded) (required_of n q)

abbrev pub IsUnmetBy : Names → CodeExports → Module → List (String Global × Export) → ValidateFault → Type 0
IsUnmetBy n q m recorded f = IsUnmetFault n.resolve.now (exports_in m m.exports.items) (map export_entry recorded) (required_of n q) f

-- what the world exports is in range
abbrev pub HasItemsInRange : NameScope → Type 0
HasItemsInRange e = All (λ (x : KeyView × ItemView). IsItemIn e.resolve x.1) e.world.exports

-- a key is in range, and has a text; and the keys of what the world exports
abbrev pub IsKeyNamed : ResolveView → KeyView → Type 0
IsKeyNamed r key = IsKeyIn r key × IsSome (key_text parts_text r key)

abbrev pub AreKeysNamed : ResolveView → List (WorldKey × WorldItem) → Type 0
AreKeysNamed r exports = All (λ (x : KeyView × ItemView). IsKeyNamed r x.0) (map world_entry exports)

abbrev pub HasKeysNamed : NameScope → Type 0
HasKeysNamed e = All (λ (x : KeyView × ItemView). IsKeyNamed e.resolve x.0) e.world.exports

-- some requirements are met by what is recorded, whose functions are those of names, or why they are not
abbrev pub MeetsByNames : {T F : Type 0} → ResolveView → List (Option InterfaceId × String Global) → List Requirement → Result T F → Type 0
MeetsByNames r functions needs result =
    (xs : List CoreExport) (recorded : ExportRecord) → AreNamesOf functions recorded → OnOk result (AreMet r xs recorded needs)

abbrev pub FailsByNames : {T : Type 0} → ResolveView → List (Option InterfaceId × String Global) → List Requirement → Result T ValidateFault → Type 0
FailsByNames r functions needs result =
    (xs : List CoreExport) (recorded : ExportRecord) → AreNamesOf functions recorded → IfErr result (IsUnmetFault r xs recorded needs)

-- a requirement of a function is met by exports whose functions are those of an index
abbrev pub MeetsByIndex : {T F : Type 0} → List (Bor (List ℕ) × Bor FuncType) → Requirement → Result T F → Type 0
MeetsByIndex index need result =
    (r : ResolveView) (xs : List CoreExport) (recorded : ExportRecord) → IsExportIndexOf index xs → OnOk result (IsMet r xs recorded need)

abbrev pub FailsByIndex : {T : Type 0} → List (Bor (List ℕ) × Bor FuncType) → Requirement → Result T ValidateFault → Type 0
FailsByIndex index need result =
    (r : ResolveView) (xs : List CoreExport) (recorded : ExportRecord) → IsExportIndexOf index xs → IfErr result (IsUnmetFault r xs recorded (need ∷ []))

-- requirements of functions are met by exports of a module, whatever is recorded
abbrev pub MeetsFunctions : {T F : Type 0} → Module → List ModuleExport → List (String Global × FuncType) → Result T F → Type 0
MeetsFunctions m es required result =
    (r : ResolveView) (recorded : ExportRecord) → OnOk result (AreMet r (exports_in m es) recorded (requirements_of_functions required))

-- all that are recorded have the callbacks that they need
abbrev pub AreCalledBack : List (String Global × Export) → Type 0
AreCalledBack recorded = All (λ (e : List ℕ × ExportView). IsTrue (is_called_back (map export_entry recorded) e)) (map export_entry recorded)
