-- What the exports of a core module are recorded as, and which has the wrong type.
use Rattle.std.specs.Prelude.{◌≡◌, ◌≢◌, ◌⊎◌, ℕ, List, [], ◌∷◌, ◌++◌, map, Option, Some, None, slice_get, ◌<◌, All, String}
use Rattle.std.specs.List.{filter_map}
use Rattle.std.specs.Option.{option_and_then, option_map, option_to_list}
use Rattle.wc_read.specs.declared.core_module.Module.{Module}
use Rattle.wc_read.specs.declared.exports.Export.{Export}
use Rattle.wc_read.specs.declared.exports.ExportKind.{ExportKind}
use Rattle.wc_read.specs.declared.exports.ExportKind.TheVariants.{Func, Table, Memory, Global}
use Rattle.wc_read.specs.Exports.{ExportValue, export_value}
use Rattle.wc_read.specs.Items.{FuncValue, TableValue, MemoryValue, GlobalValue}
use Rattle.wc_read.specs.Modules.{ModuleValue, module_value, count_of}
use Rattle.wc_read.specs.Types.{FuncTypeValue}
use Rattle.wc_resolve.specs.Views.{KeyView}
use Rattle.wc_names.specs.Exports.{ClassifiedExport, CoreExport, ExportMeaning, is_export}
use Rattle.wc_names.specs.ExportViews.{ExportView}
use Rattle.wc_names.specs.Imports.{ExternType, NameScope, func_type, global_type, memory_type, table_type}
use Rattle.wc_validate.specs.declared.exports.classify.ExportContext.{ExportContext}
use Rattle.wc_validate.specs.declared.fault.ValidateFault.{ValidateFault}
use Rattle.wc_validate.specs.declared.fault.ValidateFault.TheVariants as fault
use Rattle.wc_validate.specs.Exports.Contexts.{core_export, extern_export}
use Rattle.std.specs.declared.alloc.Global.{Global as Allocator}
use Rattle.wc_names.specs.declared.exports.Export.{Export as RecordedExport}
use Rattle.wc_validate.specs.Exports.Map.{ExportRecord, export_entry}
use Rattle.wc_validate.specs.Imports.Classify.{HasSignature}
use Rattle.wc_validate.specs.NameScope.{name_scope_of}
use Rattle.wc_validate.specs.declared.externs.Extern.{Extern}

-- the type of the item of a kind that has an index in a module
abbrev pub item_type : ModuleValue → ExportKind → ℕ → Option ExternType
item_type m Func index = option_and_then (λ (f : FuncValue). option_map func_type (slice_get m.types f.ty)) (slice_get m.funcs index)
item_type m Table index = option_map (λ (t : TableValue). table_type t.ty) (slice_get m.tables index)
item_type m Memory index = option_map (λ (t : MemoryValue). memory_type t.ty) (slice_get m.memories index)
item_type m Global index = option_map (λ (t : GlobalValue). global_type t.ty) (slice_get m.globals index)

-- an export with the type of its item
abbrev pub typed_export : ModuleValue → ExportValue → Option CoreExport
typed_export m e = option_map (core_export e.name) (item_type m e.kind e.index)

-- exports with the types of their items; those of a module all have one
unfoldable pub core_exports : ModuleValue → List ExportValue → List CoreExport
core_exports m es = filter_map (typed_export m) es

-- the exports of a module, as the code has it
abbrev pub exports_in : Module → List Export → List CoreExport
exports_in m es = core_exports (module_value m) (map export_value es)

-- what an export is recorded as: what it means, if it has the signature that is fixed, if one is; None where it means nothing
unfoldable pub IsExportEntry : NameScope → List KeyView → CoreExport → Option ExportView → Type 0
IsExportEntry e keys x None = (m : ExportMeaning) → ¬ ClassifiedExport e keys x m
IsExportEntry e keys x (Some v) =
    (required_type : Option FuncTypeValue) × ClassifiedExport e keys x (is_export v required_type) × HasSignature x.ty required_type

-- an export has another type than the one that its name fixes
unfoldable pub IsMismatched : NameScope → List KeyView → CoreExport → Type 0
IsMismatched e keys x =
    (v : ExportView) × (required_type : FuncTypeValue) × ClassifiedExport e keys x (is_export v (Some required_type)) × (x.ty ≢ func_type required_type)

-- the entry of what is recorded
abbrev pub entry_of : List ℕ → Option ExportView → ExportRecord
entry_of name o = option_to_list (option_map (λ (v : ExportView). (name, v)) o)

-- exports, recorded by their names in order; those that mean nothing are left out
abbrev pub AreExports : NameScope → List KeyView → List CoreExport → ExportRecord → Type 0
AreExports e keys [] recorded = recorded ≡ []
AreExports e keys (x ∷ xs) recorded =
    (o : Option ExportView) × (rest : ExportRecord) × IsExportEntry e keys x o × AreExports e keys xs rest × (recorded ≡ entry_of x.name o ++ rest)

-- the first export that can't be recorded has another type than the one that its name fixes
abbrev pub HasMismatch : NameScope → List KeyView → List CoreExport → Type 0
HasMismatch e keys [] = ⊥
HasMismatch e keys (x ∷ xs) = IsMismatched e keys x ⊎ ((o : Option ExportView) × IsExportEntry e keys x o × HasMismatch e keys xs)

-- the fault of exports
abbrev pub IsExportsFault : NameScope → List KeyView → List CoreExport → ValidateFault → Type 0
IsExportsFault e keys xs fault.Memory = Unit {0}
IsExportsFault e keys xs fault.SignatureMismatch = HasMismatch e keys xs
IsExportsFault e keys xs f = ⊥

-- an export was recorded after others
abbrev pub IsExportRecorded : NameScope → List KeyView → CoreExport → ExportRecord → ExportRecord → Type 0
IsExportRecorded e keys x old new = (o : Option ExportView) × IsExportEntry e keys x o × (new ≡ old ++ entry_of x.name o)

-- an export was recorded by a context
abbrev pub IsRecordedBy : ExportContext → CoreExport → ExportRecord → ExportRecord → Type 0
IsRecordedBy c x old new = IsExportRecorded (name_scope_of c.names) c.standard.keys x old new

-- all exports were recorded by a context
abbrev pub AreRecordedBy : ExportContext → List CoreExport → ExportRecord → Type 0
AreRecordedBy c xs recorded = AreExports (name_scope_of c.names) c.standard.keys xs recorded

-- the items of exports are those of the module
abbrev pub AreExportsIn : Module → List Export → Type 0
AreExportsIn m es = All (λ (e : ExportValue). e.index < count_of (module_value m) e.kind) (map export_value es)

-- an export was recorded by a context after others; and exports of a module were
abbrev pub IsExportAdded : ExportContext → List ℕ → Extern → List (String Allocator × RecordedExport) → List (String Allocator × RecordedExport) → Type 0
IsExportAdded c name ty old new = IsRecordedBy c (extern_export name ty) (map export_entry old) (map export_entry new)

abbrev pub AreExportsAdded : ExportContext → Module → List Export → List (String Allocator × RecordedExport) → Type 0
AreExportsAdded c m es recorded = AreRecordedBy c (exports_in m es) (map export_entry recorded)
